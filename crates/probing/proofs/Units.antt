-- Numbers that are 0 or 1, and their products.
-- Assumes nothing.
use mathlib.Core.Path.{◌≡◌, refl}
use mathlib.Core.Bool.{Bool, true, false, ◌&&◌}
use Prim.Native.Nat.{ℕ, ◌*◌, ◌≤◌}
use native.Mathlib.Omega.{arith}
use lib.Dec.{ltb}
use borrow.Author.Tests.{ltb-true}
use Rattle.base.specs.Bools.{one_if}

-- both tests
pub one_both : (a b : Bool) → one_if a * one_if b ≡ one_if (a && b)
unfolding one_if
one_both true true = refl
one_both true false = refl
one_both false true = refl
one_both false false = refl

-- 1 only where the number is above another
pub one_below : (a k : ℕ) → one_if (ltb a k) ≤ k
unfolding one_if
one_below a k = go (ltb a k) refl
  where
    go : (b : Bool) → ltb a k ≡ b → one_if b ≤ k
    go true b = omega (arith, ltb-true a k b)
    go false b = omega arith
