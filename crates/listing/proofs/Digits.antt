-- The digits of a number by the cases of `put_digits` (no_more, one_digit, more_digits), and the room behind them (digits_room).
-- Assumes nothing.
use mathlib.Core.Path.{◌≡◌, refl}
use mathlib.Core.List.{List, [], ◌∷◌, ◌++◌}
use Prim.Native.Nat.{ℕ, zero, suc, ◌+◌, ◌-◌, ◌/◌, ◌%◌, ◌≤◌, ◌<◌}
use native.Mathlib.Omega.{arith}
use native.Mathlib.Numerals.{sub-one}
use borrow.Author.Tests.{lt-ltb, le-ltb}
use lib.ListN.{length}
use Rattle.listing.specs.Lines.{digits}
use Rattle.listing.specs.Put.{Put, put-length}
use Rattle.listing.specs.Sizes.{length_digits}

pub no_more : (f n : ℕ) → f ≡ 0 → (48 + n % 10) ∷ [] ≡ digits f n
unfolding digits
no_more zero n e = refl
no_more (suc f) n e = absurd (omega arith)

pub one_digit : (f n : ℕ) → n < 10 → (48 + n % 10) ∷ [] ≡ digits f n
unfolding digits
one_digit zero n h = refl
one_digit (suc f) n h =
    let m : n % 10 ≡ n = omega arith in
    rw (lt-ltb n 10 h, digits) (rw m)

pub more_digits : (f n : ℕ) → (f ≡ 0 → ⊥) → 10 ≤ n → digits (f - 1) (n / 10) ++ ((48 + n % 10) ∷ []) ≡ digits f n
unfolding digits
more_digits zero n z h = absurd (z refl)
more_digits (suc f) n z h = rw (le-ltb n 10 h, digits) (rw (sub-one (suc f)))

-- there is room behind the digits
pub digits_room : {l m : List ℕ} {at r : ℕ} (f n : ℕ) → (f ≡ 0 → ⊥) → at + f + 1 ≤ length l → Put l at (digits (f - 1) n) m r → r < length m
digits_room f n z h p = omega (arith, z, put-length p, p.behind, length_digits (f - 1) n)
