-- Laws of a scan over a list, of stores of different splits, and of the parts among the stores.
use Rattle.std.specs.Prelude.{◌≡◌, Bool, true, false, ◌&&◌, ◌||◌, List, ℕ, suc, ◌+◌, ◌≤◌, ◌<◌, eqb, length, get_or, drop}
use Rattle.std.proofs.Common.{◌∙◌, drop_of_length-le, drop-cons}
use native.Mathlib.Omega.{arith}
use Rattle.base.specs.Lists.{allb, anyb}
use Rattle.base.specs.Range.{range, length-range, range_at}
use Rattle.store.specs.Fields.{field, PART}
use Rattle.store.specs.Headed.{bool_false}
use Rattle.store.specs.Stores.{stores_by, length-stores}
use Rattle.merge.specs.Merge.{alikeb, everyb}
use Rattle.merge.specs.Stores.{Alike, alike_is}

-- a scan over a list
module _ {A : Type 0} (f : A → Bool) (d : A) (xs : List A) (j : ℕ) (r : Bool) where
  pub all_on : (a : A) → j < length xs → get_or xs j d ≡ a → f a ≡ true → allb f (drop j xs) ≡ r → allb f (drop (suc j) xs) ≡ r
  unfolding allb
  all_on a h q t e = let w : (f (get_or xs j d) && allb f (drop (suc j) xs)) ≡ r = rw (drop-cons xs j d h) at e in rw (q, t) at w

  pub all_stop : (a : A) → j < length xs → get_or xs j d ≡ a → f a ≡ false → allb f (drop j xs) ≡ r → false ≡ r
  unfolding allb
  all_stop a h q t e = let w : (f (get_or xs j d) && allb f (drop (suc j) xs)) ≡ r = rw (drop-cons xs j d h) at e in rw (q, t) at w

  pub all_out : length xs ≤ j → allb f (drop j xs) ≡ r → true ≡ r
  unfolding allb
  all_out h e = rw (drop_of_length-le xs {i = j} h) at e

  pub any_on : (a : A) → j < length xs → get_or xs j d ≡ a → f a ≡ false → anyb f (drop j xs) ≡ r → anyb f (drop (suc j) xs) ≡ r
  unfolding anyb
  any_on a h q t e = let w : (f (get_or xs j d) || anyb f (drop (suc j) xs)) ≡ r = rw (drop-cons xs j d h) at e in rw (q, t) at w

  pub any_stop : (a : A) → j < length xs → get_or xs j d ≡ a → f a ≡ true → anyb f (drop j xs) ≡ r → true ≡ r
  unfolding anyb
  any_stop a h q t e = let w : (f (get_or xs j d) || anyb f (drop (suc j) xs)) ≡ r = rw (drop-cons xs j d h) at e in rw (q, t) at w

  pub any_out : length xs ≤ j → anyb f (drop j xs) ≡ r → false ≡ r
  unfolding anyb
  any_out h e = rw (drop_of_length-le xs {i = j} h) at e

pub alike_no : (x y : List ℕ) → (Alike x y → ⊥) → false ≡ alikeb x y
alike_no x y h = bool_false (alikeb x y) (λ t. h (alike_is x y t))

-- each part is among the stores
module _ (b : List ℕ) (P : ℕ) where
  abbrev partb : ℕ → Bool
  partb p = anyb (λ x. eqb (field x PART) p) (stores_by b P)

  abbrev pub Having : ℕ → Type 0
  Having i = allb (λ p. anyb (λ x. eqb (field x PART) p) (stores_by b P)) (drop i (range 1 P)) ≡ everyb (stores_by b P)

  pub having_start : Having 0
  unfolding everyb
  having_start = rw (length-stores b P)

  module _ (i : ℕ) (w : Having i) where
    part_at : i < P → get_or (range 1 P) i 0 ≡ i + 1
    part_at h = range_at 1 P i 0 h ∙ omega arith

    pub having_on : i < P → partb (i + 1) ≡ true → Having (suc i)
    having_on h t = all_on partb 0 (range 1 P) i (everyb (stores_by b P)) (i + 1) (omega (arith, length-range 1 P)) (part_at h) t w

    pub having_stop : i < P → partb (i + 1) ≡ false → false ≡ everyb (stores_by b P)
    having_stop h t = all_stop partb 0 (range 1 P) i (everyb (stores_by b P)) (i + 1) (omega (arith, length-range 1 P)) (part_at h) t w

    pub having_out : P ≤ i → true ≡ everyb (stores_by b P)
    having_out h = all_out partb 0 (range 1 P) i (everyb (stores_by b P)) (omega (arith, length-range 1 P)) w
