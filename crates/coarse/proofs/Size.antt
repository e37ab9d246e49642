-- Sizes of integers: a result of 64-bit arithmetic is the number that it stands for as long as the sizes stay below half of
-- the width's power.
-- Assumes nothing.
use mathlib.Core.Path.{◌≡◌, refl, ◌∙◌}
use Prim.Native.Nat.{ℕ, zero, suc, ◌+◌, ◌*◌, ◌^◌, ◌<◌}
use native.Mathlib.Nat.{mul-le-mul}
use native.Mathlib.Omega.{arith}
use lib.IntN.{ℤ, pos, negsuc, nat_abs, neg_ℤ, ◌+ℤ◌, ◌-ℤ◌, ◌*ℤ◌}
use mir.Syntax.{Width, w32, w64}
use mir.Val.{SFits, hbits, to_z, of_z}
use mir.Facts.{to_z-of_z}
use Rattle.coarse.specs.Volume.{Small}
use Rattle.base.specs.Integers.{add_size}

neg_size : (z : ℤ) → nat_abs (neg_ℤ z) ≡ nat_abs z
neg_size (pos zero) = refl
neg_size (pos (suc n)) = refl
neg_size (negsuc n) = refl

mul_size : (x y : ℤ) → nat_abs (x *ℤ y) ≡ nat_abs x * nat_abs y
mul_size (pos a) (pos b) = refl
mul_size (pos a) (negsuc b) = neg_size (pos (a * suc b))
mul_size (negsuc a) (pos b) = neg_size (pos (suc a * b))
mul_size (negsuc a) (negsuc b) = refl

small_fits : {w : Width} {n : ℕ} {z : ℤ} → Small n z → n < 2 ^ hbits w → SFits w z
small_fits {z = pos a} p h = record { sfits = omega (arith, p.size) }
small_fits {z = negsuc a} p h = record { sfits = omega (arith, p.size) }

-- the machine has the number z, of size n, as y
pub record Kept (n : ℕ) (z y : ℤ) : Type 0 where
  pub is : y ≡ z
  pub small : Small n z

pub kept_32 : {n : ℕ} {z : ℤ} → Small n z → n < 2 ^ 31 → Kept n z (to_z w32 (of_z w32 z))
kept_32 s h = record { is = to_z-of_z {w = w32} (small_fits s h); small = s }

module _ {n : ℕ} {z y : ℤ} where
  pub kept_fits : Kept n z y → n < 2 ^ 63 → SFits w64 y
  kept_fits k h = rw k.is (small_fits k.small h)

  pub kept_read : Kept n z y → n < 2 ^ 63 → Kept n z (to_z w64 (of_z w64 y))
  kept_read k h = record { is = to_z-of_z (kept_fits k h) ∙ k.is; small = k.small }

  pub kept_told : (y ≡ z) × Small n y → n < 2 ^ 63 → Kept n z (to_z w64 (of_z w64 y))
  kept_told (e, s) h = kept_read (record { is = e; small = rw e at s }) h

  pub kept_tells : Kept n z y → (y ≡ z) × Small n y
  kept_tells k = (k.is, rw k.is k.small)

module _ {m n : ℕ} {x y x' y' : ℤ} (p : Kept m x x') (q : Kept n y y') where
  pub kept_mul : Kept (m * n) (x *ℤ y) (x' *ℤ y')
  kept_mul = record { is = rw (p.is, q.is); small = record { size = rw (mul_size x y) (mul-le-mul p.small.size q.small.size) } }

  pub kept_add : Kept (m + n) (x +ℤ y) (x' +ℤ y')
  kept_add = record { is = rw (p.is, q.is); small = record { size = omega (arith, add_size x y, p.small.size, q.small.size) } }

  pub kept_sub : Kept (m + n) (x -ℤ y) (x' -ℤ y')
  kept_sub = record {
    is = rw (p.is, q.is);
    small = record
        { size = omega (arith, add_size x (neg_ℤ y), neg_size y, p.small.size, q.small.size) };
  }
