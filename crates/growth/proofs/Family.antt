-- The rows of a family, child by child, from the digits that the cutting call hands out.
-- Assumes nothing.
use mathlib.Core.Path.{◌≡◌, refl, sym, ◌∙◌, ap}
use mathlib.Core.Bool.{Bool}
use mathlib.Core.List.{List, [], ◌∷◌, ◌++◌, map, flatten, append_assoc, append-nil}
use Prim.Native.Nat.{ℕ, zero, suc, ◌+◌, ◌*◌, ◌-◌, ◌≤◌, ◌<◌}
use native.Mathlib.Nat.{add-zero, add_assoc}
use native.Mathlib.Omega.{arith}
use lib.Dec.{T, eqb, ltb, eqb→eq, ltb→lt}
use lib.ListN.{length, get_or, take, replicate}
use lib.Seq.{take-suc, take-length, length-take-le, get_or-append-add}
use borrow.Author.Tests.{lt-ltb}
use Rattle.base.specs.Lists.{allb, memberb}
use Rattle.base.specs.Bools.{one_if, and_left, and_right, is_true}
use Rattle.base.specs.Each.{allb-take}
use Rattle.base.specs.Append.{allb_append}
use Rattle.cutting.specs.Rule.{present, family}
use Rattle.cutting.specs.Answer.{Cut, cut_into, cut_of, cut_of_accepted}
use Rattle.cutting.proofs.Rows.{family_fours}
use Rattle.rows.specs.Numbered.{child_rows}
use Rattle.growth.specs.Written.{written, written_none, written_more}
use Rattle.growth.specs.Rows.{length-child_rows}
use Rattle.growth.specs.Places.{present_point, family_has}
use Rattle.growth.specs.Points.{four_at}

pub four_numbers : (f : ℕ → ℕ) (ds : List ℕ) (j p q r s : ℕ)
    → p ≡ f (get_or ds j 0) → q ≡ f (get_or ds (j + 1) 0) → r ≡ f (get_or ds (j + 2) 0) → s ≡ f (get_or ds (j + 3) 0)
    → p ∷ q ∷ r ∷ s ∷ [] ≡ map f (four_at ds j)
unfolding four_at
four_numbers f ds j p q r s ep eq er es = rw (ep, eq, er, es)

-- a digit is below ten
module _ {A : Type 0} (f : A → Bool) where
  all_flat : (l : List (List A)) → T (allb (allb f) l) → T (allb f (flatten l))
  unfolding allb flatten
  all_flat [] t = tt
  all_flat (x ∷ l) t = allb_append f x (flatten l) (and_left (allb f x) (allb (allb f) l) t)
      (all_flat l (and_right (allb f x) (allb (allb f) l) t))

  all_repeat : (x : A) → T (f x) → (n : ℕ) → T (allb f (replicate n x))
  unfolding allb
  all_repeat x t zero = tt
  all_repeat x t (suc n) = rw (is_true (f x) t) (all_repeat x t n)

  all_more : (g : A → Bool) → ((x : A) → T (f x) → T (g x)) → (l : List A) → T (allb f l) → T (allb g l)
  unfolding allb
  all_more g i [] t = tt
  all_more g i (x ∷ l) t = rw (is_true (g x) (i x (and_left (f x) (allb f l) t))) (all_more g i l (and_right (f x) (allb f l) t))

all_below : (l : List ℕ) → T (allb (λ d. ltb d 10) l) → (j : ℕ) → get_or l j 0 < 10
unfolding allb
all_below [] t j = omega arith
all_below (x ∷ l) t zero = ltb→lt x 10 (and_left (ltb x 10) (allb (λ d. ltb d 10) l) t)
all_below (x ∷ l) t (suc j) = all_below l (and_right (ltb x 10) (allb (λ d. ltb d 10) l) t) j

pub digits_below_lem : (p : ℕ) → p < 64 → (j : ℕ) → get_or (cut_of p).digits j 0 < 10
unfolding cut_into
digits_below_lem p h j =
    let q : (d : ℕ) → T (memberb d (present p)) → T (ltb d 10) = λ d t. rw (lt-ltb d 10 (present_point p d t).0) tt in
    let f : T (allb (allb (λ d. ltb d 10)) (family p)) =
    all_more (allb (λ d. memberb d (present p))) (allb (λ d. ltb d 10)) (all_more (λ d. memberb d (present p)) (λ d. ltb d 10) q) (family p)
    (family_has p h) in
    rw (cut_of_accepted p h)
    (all_below (flatten (family p) ++ replicate (32 - length (flatten (family p))) 0)
    (allb_append (λ d. ltb d 10) (flatten (family p)) (replicate (32 - length (flatten (family p))) 0)
    (all_flat (λ d. ltb d 10) (family p) f)
    (all_repeat (λ d. ltb d 10) 0 tt (32 - length (flatten (family p))))) j)

-- child i has the four digits from 4 i on
four_behind : (xs ys : List ℕ) (j : ℕ) → four_at (xs ++ ys) (length xs + j) ≡ four_at ys j
unfolding four_at
four_behind xs ys j =
    rw (
      add_assoc (length xs) j 1,
      add_assoc (length xs) j 2,
      add_assoc (length xs) j 3,
      get_or-append-add xs ys j 0,
      get_or-append-add xs ys
          (j + 1) 0,
      get_or-append-add xs ys (j + 2) 0,
      get_or-append-add xs ys (j + 3) 0,
    )

four_first : (c ys : List ℕ) → length c ≡ 4 → four_at (c ++ ys) 0 ≡ c
unfolding four_at
four_first [] ys e = absurd (omega arith)
four_first (a ∷ []) ys e = absurd (omega arith)
four_first (a ∷ b ∷ []) ys e = absurd (omega arith)
four_first (a ∷ b ∷ c ∷ []) ys e = absurd (omega arith)
four_first (a ∷ b ∷ c ∷ d ∷ []) ys e = refl
four_first (a ∷ b ∷ c ∷ d ∷ x ∷ l) ys e = absurd (omega arith)

child_four : (f : List (List ℕ)) → T (allb (λ c. eqb (length c) 4) f) → (z : List ℕ) (i : ℕ) → i < length f
    → four_at (flatten f ++ z) (4 * i) ≡ get_or f i []
unfolding allb flatten
child_four [] t z i h = absurd (omega arith)
child_four (c ∷ f) t z zero h =
    rw (append_assoc c (flatten f) z)
    (four_first c (flatten f ++ z) (eqb→eq (length c) 4 (and_left (eqb (length c) 4) (allb (λ c. eqb (length c) 4) f) t)))
child_four (c ∷ f) t z (suc i) h =
    let e : length c ≡ 4 = eqb→eq (length c) 4 (and_left (eqb (length c) 4) (allb (λ c. eqb (length c) 4) f) t) in
    let w : 4 * suc i ≡ length c + 4 * i = omega arith in
    rw (append_assoc c (flatten f) z, w, four_behind c (flatten f ++ z) (4 * i))
    (child_four f (and_right (eqb (length c) 4) (allb (λ c. eqb (length c) 4) f) t) z i (omega arith))

child_digits : (p : ℕ) → p < 64 → (i : ℕ) → i < length (family p) → four_at (cut_of p).digits (4 * i) ≡ get_or (family p) i []
unfolding cut_into
child_digits p h i l = rw (cut_of_accepted p h) (child_four (family p) (family_fours p h) (replicate (32 - length (flatten (family p))) 0) i
    l)

pub child_count : (p : ℕ) → p < 64 → (cut_of p).count ≡ length (family p)
unfolding cut_into
child_count p h = ap (λ (f : Cut). f.count) (cut_of_accepted p h)

-- one row more
from_append : (l k : ℕ) (r : Bool) (f : ℕ → ℕ) (i : ℕ) (ds : List (List ℕ)) (d : List ℕ)
    → child_rows l k r f i (ds ++ (d ∷ [])) ≡ child_rows l k r f i ds ++ (l ∷ k ∷ (i + length ds) ∷ one_if r ∷ map f d)
unfolding child_rows
from_append l k r f i [] d = rw (add-zero, append-nil)
from_append l k r f i (c ∷ ds) d =
    let e : i + suc (length ds) ≡ suc i + length ds = omega arith in
    rw (from_append l k r f (suc i) ds d, e)
    (sym (append_assoc (l ∷ k ∷ i ∷ one_if r ∷ map f c) (child_rows l k r f (suc i) ds) (l ∷ k ∷ (suc i + length ds) ∷ one_if r ∷ map f d)))

-- the loop's invariant, and one child more
module _ (cells₀ : List ℕ) (at l k : ℕ) (r : Bool) (f : ℕ → ℕ) (p : ℕ) where
  pub rows_none : cells₀ ≡ written cells₀ (8 * at) (child_rows l k r f 0 (take 0 (family p)))
  unfolding child_rows
  rows_none = sym (written_none cells₀ (8 * at))

  module _ (h : p < 64) (room : 8 * (at + length (family p)) ≤ length cells₀) (cells : List ℕ) (i : ℕ)
      (x : cells ≡ written cells₀ (8 * at) (child_rows l k r f 0 (take i (family p)))) where
    length_some : i < length (family p) → length (child_rows l k r f 0 (take i (family p))) ≡ 8 * i
    length_some g =
        length-child_rows l k r f 0 (take i (family p)) (allb-take (λ c. eqb (length c) 4) i (family p) (family_fours p h))
        ∙ rw (length-take-le i (family p) (omega arith))

    pub rows_more : i < length (family p) → (cells' : List ℕ)
        → cells' ≡ written cells (8 * (at + i)) (l ∷ k ∷ i ∷ one_if r ∷ map f (four_at (cut_of p).digits (4 * i)))
        → cells' ≡ written cells₀ (8 * at) (child_rows l k r f 0 (take (i + 1) (family p)))
    rows_more g cells' w =
        let vs = child_rows l k r f 0 (take i (family p)) in
        let row = l ∷ k ∷ i ∷ one_if r ∷ map f (get_or (family p) i []) in
        let e : 8 * (at + i) ≡ 8 * at + length vs = omega (arith, length_some g) in
        let n : 0 + length (take i (family p)) ≡ i = omega (arith, length-take-le i (family p) (omega arith)) in
        let s : i + 1 ≡ suc i = omega arith in
        let v : child_rows l k r f 0 (take (i + 1) (family p)) ≡ vs ++ row =
        rw s (ap (child_rows l k r f 0) (take-suc (family p) i [] g)
        ∙ rw n at (from_append l k r f 0 (take i (family p)) (get_or (family p) i []))) in
        w ∙ rw (child_digits p h i g, e, x, v) (written_more cells₀ (8 * at) vs (omega (arith, length_some g)) row)

    pub rows_all : i ≡ length (family p) → cells ≡ written cells₀ (8 * at) (child_rows l k r f 0 (family p))
    rows_all e = x ∙ ap (λ (ds : List (List ℕ)). written cells₀ (8 * at) (child_rows l k r f 0 ds)) (rw e (take-length (family p)))
