-- Kuhn simplices: four points of a lattice with whole coordinates that rise from corner to corner, by 1 at most in all. No
-- unit and no division occurs here: the points of a cut have their coordinates on the lattice twice as fine, where each of
-- them, a corner too, is the sum of its two ends.
--   Coordinates   of the corners of a cell: corner, then place
--   Chain         four numbers rise, by 1 at most in all
--   Kuhn x        x are the coordinates of a Kuhn simplex: chains at every place, and no two corners alike
--   doubled x d   the point with digit d, on the lattice twice as fine
--   part_of x f      the child with the digits f, on that lattice
--   Digits f      f are four digits
--   reds          the family of a red cell
--   red x m       the red child number m of the cell x, on the lattice twice as fine
--   order m i     which of its parent's three steps the step i of the red child m is
--   SameStep      the step i of the red child m is its parent's step order m i, at the place j
--   Step x y      x rises to y, by 1 at most
use Rattle.std.specs.Prelude.{◌≡◌, refl, Bool, ◌&&◌, List, [], ◌∷◌, ℕ, suc, ◌+◌, ◌≤◌, ◌<◌, T, eqb, ltb, length, get_or}
use Rattle.std.proofs.Common.{arith, eqb→eq, ltb→lt}
use Rattle.base.specs.Lists.{allb, belowb, belowb_at}
use Rattle.base.specs.Bools.{and_left, and_right}
use Rattle.cutting.specs.Rule.{low, high, digit, family}
use Rattle.cutting.specs.Rows.{family_rows, row}
use Rattle.cutting.proofs.Rows.{family_row}
use Rattle.base.specs.Every.{Below, below_at, All, all_from, all_of}

abbrev pub Coordinates : Type 0
Coordinates = ℕ → ℕ → ℕ

pub record Chain (x y z t : ℕ) : Type 0 where
  pub xy : x ≤ y
  pub yz : y ≤ z
  pub zt : z ≤ t
  pub near : t ≤ suc x

pub record Kuhn (x : Coordinates) : Type 0 where
  pub chain : (j : ℕ) → Chain (x 0 j) (x 1 j) (x 2 j) (x 3 j)
  pub step01 : (j : ℕ) × (x 0 j < x 1 j)
  pub step12 : (j : ℕ) × (x 1 j < x 2 j)
  pub step23 : (j : ℕ) × (x 2 j < x 3 j)

abbrev pub doubled : Coordinates → ℕ → ℕ → ℕ
doubled x d j = x (low d) j + x (high d) j

abbrev pub part_of : Coordinates → List ℕ → Coordinates
part_of x f i = doubled x (get_or f i 0)

-- the digits
pub digit_ends : (d : ℕ) → d < 10 → (low d ≤ high d) × (high d < 4)
unfolding low high
digit_ends = below_at (λ d. (low d ≤ high d) × (high d < 4)) 10 (omega arith)

pub ends_digit : (i : ℕ) → i < 4 → (low (digit i i) ≡ i) × (high (digit i i) ≡ i)
unfolding low high digit
ends_digit = below_at (λ i. (low (digit i i) ≡ i) × (high (digit i i) ≡ i)) 4
    ((((tt, (refl, refl)), (refl, refl)), (refl, refl)), (refl, refl))

pub digit_named : (d : ℕ) → d < 10 → digit (low d) (high d) ≡ d
unfolding low high digit
digit_named = below_at (λ d. digit (low d) (high d) ≡ d) 10 (omega arith)

-- the family of a red cell
abbrev pub reds : List (List ℕ)
reds =
    (0 ∷ 1 ∷ 2 ∷ 3 ∷ []) ∷ (1 ∷ 2 ∷ 3 ∷ 6 ∷ []) ∷ (1 ∷ 2 ∷ 5 ∷ 6 ∷ []) ∷ (1 ∷ 4 ∷ 5 ∷ 6 ∷ [])
    ∷ (2 ∷ 3 ∷ 6 ∷ 8 ∷ []) ∷ (2 ∷ 5 ∷ 6 ∷ 8 ∷ []) ∷ (2 ∷ 5 ∷ 7 ∷ 8 ∷ []) ∷ (3 ∷ 6 ∷ 8 ∷ 9 ∷ []) ∷ []

pub family_red : family 63 ≡ reds
unfolding row family_rows
family_red = family_row 63 (omega arith)

pub record Digits (f : List ℕ) : Type 0 where
  pub four : length f ≡ 4
  pub small : (i : ℕ) → i < 4 → get_or f i 0 < 10

abbrev digitsb : List ℕ → Bool
digitsb f = eqb (length f) 4 && belowb (λ i. ltb (get_or f i 0) 10) 4

digits_of : (f : List ℕ) → T (digitsb f) → Digits f
digits_of f t =
    record {
      four = eqb→eq (length f) 4 (and_left (eqb (length f) 4) (belowb (λ i. ltb (get_or f i 0) 10) 4) t);
      small = λ i l. ltb→lt (get_or f i 0) 10
          (belowb_at (λ i. ltb (get_or f i 0) 10) 4 (and_right (eqb (length f) 4) (belowb (λ i. ltb (get_or f i 0) 10) 4) t) i l);
    }

pub red_digits : All Digits reds
unfolding allb belowb
red_digits = all_of Digits digitsb digits_of reds tt

-- The three steps of a red child are its parent's three steps in some order, whatever the coordinates are.
abbrev order : ℕ → ℕ → ℕ
order m i =
    get_or (get_or ((0 ∷ 1 ∷ 2 ∷ []) ∷ (1 ∷ 2 ∷ 0 ∷ []) ∷ (1 ∷ 0 ∷ 2 ∷ []) ∷ (0 ∷ 1 ∷ 2 ∷ [])
    ∷ (2 ∷ 0 ∷ 1 ∷ []) ∷ (0 ∷ 2 ∷ 1 ∷ []) ∷ (0 ∷ 1 ∷ 2 ∷ []) ∷ (0 ∷ 1 ∷ 2 ∷ []) ∷ []) m []) i 0

order_below : (m i : ℕ) → m < 8 → i < 3 → order m i < 3
order_below m i hm hi = below_at (λ i. order m i < 3) 3 (below_at (λ m. Below (λ i. order m i < 3) 3) 8 (omega arith) m hm) i hi

abbrev red : Coordinates → ℕ → Coordinates
red x m = part_of x (get_or reds m [])

abbrev SameStep : Coordinates → ℕ → ℕ → ℕ → Type 0
SameStep x j m i = red x m (suc i) j + x (order m i) j ≡ red x m i j + x (suc (order m i)) j

red_step : (x : Coordinates) (m i j : ℕ) → m < 8 → i < 3 → SameStep x j m i
unfolding low high
red_step x m i j hm hi = below_at (SameStep x j m) 3 (below_at (λ m. Below (SameStep x j m) 3) 8 (omega arith) m hm) i hi

-- So a red child of a Kuhn simplex is one.
module _ (x : Coordinates) (r : Kuhn x) where
  strict : (a : ℕ) → a < 3 → (j : ℕ) × (x a j < x (suc a) j)
  strict = below_at (λ a. (j : ℕ) × (x a j < x (suc a) j)) 3 (((tt, r.step01), r.step12), r.step23)

  red_chain : (m : ℕ) → m < 8 → (j : ℕ) → Chain (red x m 0 j) (red x m 1 j) (red x m 2 j) (red x m 3 j)
  unfolding low high
  red_chain m h j = below_at (λ m. Chain (red x m 0 j) (red x m 1 j) (red x m 2 j) (red x m 3 j)) 8 (omega (arith, r.chain j)) m h

  red_strict : (m i : ℕ) → m < 8 → i < 3 → (j : ℕ) × (red x m i j < red x m (suc i) j)
  red_strict m i h l = let (j, w) = strict (order m i) (order_below m i h l) in (j, omega (arith, red_step x m i j h l))

  pub red_kuhn : All (λ f. Kuhn (part_of x f)) reds
  red_kuhn =
      all_from (λ f. Kuhn (part_of x f)) [] reds
      (λ m h. record {
        chain = red_chain m h;
        step01 = red_strict m 0 h (omega arith);
        step12 = red_strict m 1 h (omega arith);
        step23 =
            red_strict m 2 h (omega arith);
      })

-- four numbers that rise, by their places
rises : (f : ℕ → ℕ) → f 0 ≤ f 1 → f 1 ≤ f 2 → f 2 ≤ f 3 → (b : ℕ) → b < 4 → (a : ℕ) → a < 4 → a ≤ b → f a ≤ f b
rises f x y z b hb a ha = below_at (λ a. a ≤ b → f a ≤ f b) 4 (below_at (λ b. Below (λ a. a ≤ b → f a ≤ f b) 4) 4 (omega arith) b hb) a ha

-- Two corners in order: they rise, by 1 at most, and do so at some place.
pub record Step (x y : ℕ) : Type 0 where
  pub up : x ≤ y
  pub near : y ≤ suc x

module _ (x : Coordinates) (r : Kuhn x) where
  rise : (a b : ℕ) → a ≤ b → b < 4 → (j : ℕ) → x a j ≤ x b j
  rise a b h l j = let c = r.chain j in rises (λ i. x i j) c.xy c.yz c.zt b l a (omega arith) h

  pub steps_between : (a b : ℕ) → a ≤ b → b < 4 → (j : ℕ) → Step (x a j) (x b j)
  steps_between a b h l j =
      let c = r.chain j in
      omega (arith, rise a b h l j, rise 0 a (omega arith) (omega arith) j, rise b 3 (omega arith) (omega arith) j)

  pub gap : (a b : ℕ) → a < b → b < 4 → (j : ℕ) × (x a j < x b j)
  gap a b h l =
      let (j, w) = strict x r a (omega arith) in
      (j, omega (arith, rise (suc a) b h l j))

-- A midpoint determines its two ends, and is odd where they differ.
sum_ends : (a b c d : ℕ) → Step a b → Step c d → a + b ≡ c + d → (a ≡ c) × (b ≡ d)
sum_ends a b c d s t e = omega arith

pub sum_odd : (a b : ℕ) → Step a b → a < b → (q : ℕ) → a + b ≡ q + q → ⊥
sum_odd a b s l q e = omega arith

pub doubled_ends : (x y : Coordinates) → Kuhn x → Kuhn y → (f g : ℕ) → f < 10 → g < 10 → ((j : ℕ) → doubled x f j ≡ doubled y g j)
    → (j : ℕ) → (x (low f) j ≡ y (low g) j) × (x (high f) j ≡ y (high g) j)
doubled_ends x y r s f g hf hg e j =
    let (a, b) = digit_ends f hf in
    let (c, d) = digit_ends g hg in
    sum_ends (x (low f) j) (x (high f) j) (y (low g) j) (y (high g) j) (steps_between x r (low f) (high f) a b j)
    (steps_between y s (low g) (high g) c d j) (e j)
