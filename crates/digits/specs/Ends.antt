-- The ends of a child's edges, from the digits of a family in a row (rules 2.3, 2.7).
--   low_at, high_at ds j y   the digits of the ends of the edge y of the child j
-- Laws: low_end, high_end (of a family's own digits), ends_below (they are digits), six_same (tests of the six edges).
-- Assumes nothing.
use Rattle.std.specs.Prelude.{◌≡◌, ℕ, zero, suc, ◌+◌, ◌*◌, ◌-◌, ◌<◌, T, eqb, get_or, replicate}
use Rattle.std.proofs.Common.{◌∙◌, arith, eqb→eq, get_or-append-add}
use mathlib.Core.List.{List, [], ◌∷◌, ◌++◌, map, flatten, append_assoc}
use Rattle.std.proofs.Math.ListN.{length, get_or-append}
use Rattle.base.specs.Bools.{and_left, and_right}
use Rattle.base.specs.Lists.{allb}
use Rattle.cutting.specs.Rule.{family, low, high}
use Rattle.cutting.proofs.Rows.{family_fours}
use Rattle.cutting.specs.Answer.{cut_into, cut_of, cut_of_accepted}
use Rattle.families.specs.Children.{middle, digits_of, low_digit, high_digit, middle_ends, digits_rise, digits_below_lem}

abbrev pub low_at : List ℕ → ℕ → ℕ → ℕ
low_at ds j y = get_or ds (4 * j + low (middle y)) 0

abbrev pub high_at : List ℕ → ℕ → ℕ → ℕ
high_at ds j y = get_or ds (4 * j + high (middle y)) 0

-- four digits a child
flat_at : (ls : List (List ℕ)) (r : List ℕ) → T (allb (λ c. eqb (length c) 4) ls) → (j k : ℕ) → j < length ls → k < 4
    → get_or (flatten ls ++ r) (4 * j + k) 0 ≡ get_or (get_or ls j []) k 0
unfolding allb flatten
flat_at [] r t j k h g = absurd (omega arith)
flat_at (l ∷ ls) r t zero k h g =
    let n : length l ≡ 4 = eqb→eq (length l) 4 (and_left (eqb (length l) 4) (allb (λ c. eqb (length c) 4) ls) t) in
    let z : 4 * 0 + k ≡ k = omega arith in
    rw (z, append_assoc l (flatten ls) r) (get_or-append l (flatten ls ++ r) 0 k (omega arith))
flat_at (l ∷ ls) r t (suc j) k h g =
    let n : length l ≡ 4 = eqb→eq (length l) 4 (and_left (eqb (length l) 4) (allb (λ c. eqb (length c) 4) ls) t) in
    let z : 4 * suc j + k ≡ length l + (4 * j + k) = omega arith in
    rw (z, append_assoc l (flatten ls) r) (get_or-append-add l (flatten ls ++ r) (4 * j + k) 0
    ∙ flat_at ls r (and_right (eqb (length l) 4) (allb (λ c. eqb (length c) 4) ls) t) j k (omega arith) g)

module _ (p : ℕ) (h : p < 64) (j : ℕ) (g : j < length (family p)) where
  digits_at : (k : ℕ) → k < 4 → get_or (cut_of p).digits (4 * j + k) 0 ≡ get_or (digits_of p j) k 0
  unfolding cut_into
  digits_at k m = rw (cut_of_accepted p h) (flat_at (family p) (replicate (32 - length (flatten (family p))) 0) (family_fours p h) j k g m)

  module _ (y : ℕ) (m : y < 6) where
    pub low_end : low_at (cut_of p).digits j y ≡ low_digit p j y
    low_end = let e = middle_ends y m in digits_at (low (middle y)) (omega (arith, e.0, e.1))

    pub high_end : high_at (cut_of p).digits j y ≡ high_digit p j y
    high_end = let e = middle_ends y m in digits_at (high (middle y)) e.1

    pub ends_below : (low_at (cut_of p).digits j y < 10) × (high_at (cut_of p).digits j y < 10)
    ends_below = (
      omega (arith, low_end, digits_rise p j h g y m, digits_below_lem p j h g y m),
      omega (arith, high_end, digits_below_lem p j h g y m),
    )

pub six_same : {A : Type 0} (f g : ℕ → A) → ((y : ℕ) → y < 6 → f y ≡ g y)
    → map f (0 ∷ 1 ∷ 2 ∷ 3 ∷ 4 ∷ 5 ∷ []) ≡ map g (0 ∷ 1 ∷ 2 ∷ 3 ∷ 4 ∷ 5 ∷ [])
six_same f g h = rw (h 0 (omega arith), h 1 (omega arith), h 2 (omega arith), h 3 (omega arith), h 4 (omega arith), h 5 (omega arith))
