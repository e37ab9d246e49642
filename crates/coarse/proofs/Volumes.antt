-- The determinant in 64-bit arithmetic: no step leaves the width, and the result is zero where the determinant is.
-- Assumes nothing.
use mathlib.Core.Path.{◌≡◌, refl}
use Prim.Native.Nat.{ℕ, zero, suc, ◌-◌, ◌^◌, ◌<◌}
use native.Mathlib.Omega.{arith}
use lib.Dec.{eqb, lit<}
use lib.IntN.{ℤ, pos, negsuc, nat_abs, ◌+ℤ◌, ◌-ℤ◌, ◌*ℤ◌}
use borrow.Author.Tests.{ne_eqb}
use mir.Syntax.{w64}
use mir.Val.{SFits, to_z, of_z}
use Rattle.cutting.specs.Rule.{zerob}
use Rattle.coarse.specs.Volume.{Small}
use Rattle.coarse.proofs.Size.{Kept, kept_told, kept_mul, kept_add, kept_sub, kept_read, kept_fits, kept_tells}

-- a number as the machine reads it back
abbrev seen : ℤ → ℤ
seen z = to_z w64 (of_z w64 z)

-- what a call tells of its result y: the number that it is, and a bound on its size
abbrev Told : ℕ → ℤ → ℤ → Type 0
Told n z y = (y ≡ z) × Small n y

product : {x y x' y' : ℤ} → Told 1000000 x x' → Told 1000000 y y' → Kept 1000000000000 (x *ℤ y) (seen x' *ℤ seen y')
product fx fy = kept_mul (kept_told fx (lit< tt)) (kept_told fy (lit< tt))

pub product_fits : {x y x' y' : ℤ} → Told 1000000 x x' → Told 1000000 y y' → SFits w64 (seen x' *ℤ seen y')
product_fits fx fy = kept_fits (product fx fy) (lit< tt)

-- the difference of two products, and a number times it
module _ {x y z w x' y' z' w' : ℤ} (fx : Told 1000000 x x') (fy : Told 1000000 y y') (fz : Told 1000000 z z') (fw : Told 1000000 w w') where
  minor : Kept 2000000000000 (x *ℤ y -ℤ z *ℤ w) (seen (seen x' *ℤ seen y') -ℤ seen (seen z' *ℤ seen w'))
  minor = kept_sub (kept_read (product fx fy) (lit< tt)) (kept_read (product fz fw) (lit< tt))

  pub minor_fits : SFits w64 (seen (seen x' *ℤ seen y') -ℤ seen (seen z' *ℤ seen w'))
  minor_fits = kept_fits minor (lit< tt)

  module _ {v v' : ℤ} (fv : Told 1000000 v v') where
    term : Kept 2000000000000000000 (v *ℤ (x *ℤ y -ℤ z *ℤ w)) (seen v' *ℤ seen (seen (seen x' *ℤ seen y') -ℤ seen (seen z' *ℤ seen w')))
    term = kept_mul (kept_told fv (lit< tt)) (kept_read minor (lit< tt))

    pub term_fits : SFits w64 (seen v' *ℤ seen (seen (seen x' *ℤ seen y') -ℤ seen (seen z' *ℤ seen w')))
    term_fits = kept_fits term (lit< tt)

    pub term_told : Told 2000000000000000000 (v *ℤ (x *ℤ y -ℤ z *ℤ w))
        (seen (seen v' *ℤ seen (seen (seen x' *ℤ seen y') -ℤ seen (seen z' *ℤ seen w'))))
    term_told = kept_tells (kept_read term (lit< tt))

-- the bits of a number are zero where the number is
zero_bits : (z : ℤ) → nat_abs z < 2 ^ 63 → eqb (of_z w64 z) 0 ≡ zerob z
unfolding zerob
zero_bits (pos zero) h = refl
zero_bits (pos (suc n)) h = ne_eqb (suc n) 0 (λ e. omega arith)
zero_bits (negsuc n) h = ne_eqb (2 ^ 64 - suc n) 0 (λ e. omega arith)

-- the three terms of a determinant
module _ {p q p' q' : ℤ} (fp : Told 2000000000000000000 p p') (fq : Told 2000000000000000000 q q') where
  difference : Kept 4000000000000000000 (p -ℤ q) (seen p' -ℤ seen q')
  difference = kept_sub (kept_told fp (lit< tt)) (kept_told fq (lit< tt))

  module _ {r r' : ℤ} (fr : Told 2000000000000000000 r r') where
    sum : Kept 6000000000000000000 (p -ℤ q +ℤ r) (seen (seen p' -ℤ seen q') +ℤ seen r')
    sum = kept_add (kept_read difference (lit< tt)) (kept_told fr (lit< tt))

    pub sum_zero : eqb (of_z w64 (seen (seen p' -ℤ seen q') +ℤ seen r')) 0 ≡ zerob (p -ℤ q +ℤ r)
    sum_zero = rw sum.is (zero_bits (p -ℤ q +ℤ r) (omega (arith, sum.small.size)))
