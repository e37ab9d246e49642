-- The children of a family by the digits of their corners (rules 2.3, 2.7).
--   middle e                    the digit of the midpoint of edge e
--   digits_of p i                the digits of the child i of the family p
--   low_digit, high_digit p i y   the digits of the ends of its edge y
-- Laws: middle_ends, child_four, digits_rise, digits_below_lem (a child's digits), few_splits, some_child (how many children there are).
use Rattle.std.specs.Prelude.{[], ◌∷◌, List, ℕ, ◌-◌, ◌<◌, get_or, length, Bool, ◌&&◌, ◌≡◌, T, eqb, ltb}
use Rattle.std.proofs.Common.{arith, eqb→eq, ltb→lt}
use Rattle.cutting.specs.Rule.{low, high, family, split}
use Rattle.base.specs.Every.{below_at}
use Rattle.base.specs.Lists.{allb, allb_at, belowb, belowb_at, filterb}
use Rattle.base.specs.Bools.{and_left, and_right}
use Rattle.cutting.specs.Rows.{family_rows, row}
use Rattle.cutting.proofs.Rows.{family_row, family_fours}

-- Rules 2.1, 2.3: the midpoint of an edge, as a digit.
abbrev pub middle : ℕ → ℕ
middle e = get_or (1 ∷ 2 ∷ 3 ∷ 5 ∷ 6 ∷ 8 ∷ []) e 0

pub middle_ends : (e : ℕ) → e < 6 → (low (middle e) < high (middle e)) × (high (middle e) < 4) × (middle e < 10)
unfolding low high
middle_ends = below_at (λ e. (low (middle e) < high (middle e)) × (high (middle e) < 4) × (middle e < 10)) 6 (omega arith)

-- Rules 2.7, 3.3: a child by its number.
abbrev pub digits_of : ℕ → ℕ → List ℕ
digits_of p i = get_or (family p) i []

abbrev pub low_digit : ℕ → ℕ → ℕ → ℕ
low_digit p i y = get_or (digits_of p i) (low (middle y)) 0

abbrev pub high_digit : ℕ → ℕ → ℕ → ℕ
high_digit p i y = get_or (digits_of p i) (high (middle y)) 0

abbrev rise_test : List ℕ → Bool
rise_test c = belowb (λ y. ltb (get_or c (low (middle y)) 0) (get_or c (high (middle y)) 0) && ltb (get_or c (high (middle y)) 0) 10) 6

rise_test_lem : T (belowb (λ p. allb rise_test (row p)) 64)
unfolding belowb allb low high row family_rows
rise_test_lem = tt

-- A family has more children than split edges.
split_test_lem : T (belowb (λ p. ltb (length (filterb (split p) (0 ∷ 1 ∷ 2 ∷ 3 ∷ 4 ∷ 5 ∷ []))) (length (row p))) 64)
unfolding belowb filterb split row family_rows
split_test_lem = tt

pub few_splits : (p : ℕ) → p < 64 → length (filterb (split p) (0 ∷ 1 ∷ 2 ∷ 3 ∷ 4 ∷ 5 ∷ [])) < length (family p)
few_splits p h =
    rw (family_row p h) (ltb→lt (length (filterb (split p) (0 ∷ 1 ∷ 2 ∷ 3 ∷ 4 ∷ 5 ∷ []))) (length (row p))
    (belowb_at (λ p. ltb (length (filterb (split p) (0 ∷ 1 ∷ 2 ∷ 3 ∷ 4 ∷ 5 ∷ []))) (length (row p))) 64 split_test_lem p h))

some_test : T (belowb (λ p. ltb 0 (length (row p))) 64)
unfolding belowb row family_rows
some_test = tt

pub some_child : (p : ℕ) → p < 64 → 0 < length (family p)
some_child p h = rw (family_row p h) (ltb→lt 0 (length (row p)) (belowb_at (λ p. ltb 0 (length (row p))) 64 some_test p h))

module _ (p i : ℕ) (hp : p < 64) (hi : i < length (family p)) where
  pub child_four : length (digits_of p i) ≡ 4
  child_four = eqb→eq (length (digits_of p i)) 4 (allb_at (λ c. eqb (length c) 4) [] (family p) (family_fours p hp) i hi)

  module _ (y : ℕ) (hy : y < 6) where
    rise_at : T (ltb (low_digit p i y) (high_digit p i y) && ltb (high_digit p i y) 10)
    rise_at =
        belowb_at (λ y. ltb (low_digit p i y) (high_digit p i y) && ltb (high_digit p i y) 10) 6
        (allb_at rise_test [] (family p) (rw (family_row p hp) (belowb_at (λ p. allb rise_test (row p)) 64 rise_test_lem p hp)) i hi) y hy

    pub digits_rise : low_digit p i y < high_digit p i y
    digits_rise = ltb→lt (low_digit p i y) (high_digit p i y)
        (and_left (ltb (low_digit p i y) (high_digit p i y)) (ltb (high_digit p i y) 10) rise_at)

    pub digits_below_lem : high_digit p i y < 10
    digits_below_lem = ltb→lt (high_digit p i y) 10 (and_right (ltb (low_digit p i y) (high_digit p i y)) (ltb (high_digit p i y) 10) rise_at)
