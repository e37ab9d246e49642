-- Integers: the size of a sum or a difference, and numbers below half of a width.
use Rattle.std.specs.Prelude.{◌≡◌, refl, Bool, true, false, cond, ℕ, suc, ◌+◌, ◌-◌, ◌≤◌, zero, ◌<◌, ltb, ℤ, pos, negsuc, nat_abs, ◌+ℤ◌, ◌-ℤ◌}
use Rattle.std.proofs.Common.{arith, ltb-true, ltb-false, SFits, to_z}
use Rattle.std.proofs.Math.IntN.{sub_ℕ}
use Rattle.std.specs.Int.{w32}
use Rattle.std.proofs.lemmas.Int.{to_z_pos}

subℕ-size : (a b : ℕ) → nat_abs (sub_ℕ a b) ≤ a + b
subℕ-size a b = go (ltb a b) refl
  where
    go : (t : Bool) → ltb a b ≡ t → nat_abs (cond t (negsuc (b - suc a)) (pos (a - b))) ≤ a + b
    go true q = omega (arith, ltb-true a b q)
    go false q = omega (arith, ltb-false a b q)

pub add_size : (x y : ℤ) → nat_abs (x +ℤ y) ≤ nat_abs x + nat_abs y
add_size (pos a) (pos b) = omega arith
add_size (pos a) (negsuc b) = subℕ-size a (suc b)
add_size (negsuc a) (pos b) = omega (arith, subℕ-size b (suc a))
add_size (negsuc a) (negsuc b) = omega arith

pub minus_fits : (k : ℕ) → k < 2147483648 → SFits w32 (negsuc 0 -ℤ to_z w32 k)
minus_fits k h = rw (to_z_pos w32 k h) (go k h)
  where
    go : (k : ℕ) → k < 2147483648 → SFits w32 (negsuc 0 -ℤ pos k)
    go zero h = record { sfits = omega arith }
    go (suc k) h = record { sfits = omega (arith, h) }
