-- The size of a sum, a product and a half; a small number fits an i32.
-- Assumes nothing.
use mathlib.Core.Path.{◌≡◌}
use Prim.Native.Nat.{ℕ, suc, ◌+◌, ◌*◌, ◌/◌, ◌^◌, ◌<◌}
use native.Mathlib.Omega.{arith}
use lib.Dec.{lit<}
use lib.IntN.{ℤ, pos, negsuc, ◌+ℤ◌, ◌*ℤ◌}
use lib.Signed.{mag}
use mir.Syntax.{w32}
use mir.Val.{SFits, to_z, of_z}
use mir.Facts.{to_z-of_z}
use Rattle.corners.specs.Sums.{SmallSum, half}
use Rattle.base.specs.Integers.{add_size}
use Rattle.corners.specs.Sizes.{neg_size}

small_add : {m n : ℕ} {x y : ℤ} → SmallSum m x → SmallSum n y → SmallSum (m + n) (x +ℤ y)
small_add {x = x} {y = y} p q = record { size = omega (arith, add_size x y, p.size, q.size) }

pub small_scaled : (z : ℤ) → SmallSum 500000 z → SmallSum 512000000 (pos 1024 *ℤ z)
small_scaled (pos a) p = record { size = omega (arith, p.size) }
small_scaled (negsuc a) p = record { size = rw (neg_size (1024 * suc a)) (omega (arith, p.size)) }

small_half : (z : ℤ) → SmallSum 1024000000 z → SmallSum 512000000 (half z)
unfolding half
small_half (pos a) p = record { size = omega (arith, p.size) }
small_half (negsuc a) p = record { size = rw (neg_size (suc a / 2)) (omega (arith, p.size)) }

small_fits : {n : ℕ} {z : ℤ} → SmallSum n z → n < 2 ^ 31 → SFits w32 z
small_fits {z = pos a} p h = record { sfits = omega (arith, p.size) }
small_fits {z = negsuc a} p h = record { sfits = omega (arith, p.size) }

pub scaled_fits : (z : ℤ) → SmallSum 500000 z → SFits w32 (pos 1024 *ℤ z)
scaled_fits z p = small_fits (small_scaled z p) (lit< tt)

module _ (a b : ℤ) (p : SmallSum 512000000 a) (q : SmallSum 512000000 b) where
  pub sum_fits : SFits w32 (a +ℤ b)
  sum_fits = small_fits (small_add p q) (lit< tt)

  pub half_sum_small : SmallSum 512000000 (half (a +ℤ b))
  half_sum_small = small_half (a +ℤ b) (small_add p q)

  pub half_fits : SFits w32 (half (a +ℤ b))
  half_fits = small_fits half_sum_small (lit< tt)

-- a number in an i32's range is read back from its bits
pub read : (z : ℤ) → mag z < 2 ^ 31 → to_z w32 (of_z w32 z) ≡ z
read z h = to_z-of_z {w = w32} (record { sfits = h })
