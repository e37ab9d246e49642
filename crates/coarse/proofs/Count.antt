-- How many elements of a list pass a test.
-- Assumes nothing.
use mathlib.Core.Path.{◌≡◌, refl}
use mathlib.Core.Bool.{Bool, true, false, ◌||◌}
use mathlib.Core.List.{List, [], ◌∷◌, ◌++◌}
use Prim.Native.Nat.{ℕ, zero, suc, ◌+◌, ◌≤◌, ◌<◌}
use native.Mathlib.Omega.{arith}
use lib.ListN.{length, get_or, take}
use Rattle.base.specs.Lists.{anyb, filterb}
use Rattle.base.specs.Bools.{one_if}

pub or_right : (a b : Bool) → b ≡ true → a || b ≡ true
or_right true b e = refl
or_right false b e = e

pub one_le : (a b : Bool) → (a ≡ true → b ≡ true) → one_if a ≤ one_if b
unfolding one_if
one_le true b h = rw (h refl) (omega arith)
one_le false b h = omega arith

module _ {A : Type 0} where
  unfoldable pub count : (A → Bool) → List A → ℕ
  unfolding one_if
  count f [] = 0
  count f (x ∷ l) = one_if (f x) + count f l

  pub count_filter : (f : A → Bool) (l : List A) → length (filterb f l) ≡ count f l
  unfolding count filterb
  count_filter f [] = refl
  count_filter f (x ∷ l) = go (f x) (count_filter f l)
    where
      go : (b : Bool) → length (filterb f l) ≡ count f l → length {A = A} (elim b [ true ↦ x ∷ filterb f l | false ↦ filterb f l ]) ≡ one_if
          b + count f l
      go true e = omega arith
      go false e = omega arith

  pub count_append : (f : A → Bool) (l m : List A) → count f (l ++ m) ≡ count f l + count f m
  unfolding count
  count_append f [] m = omega arith
  count_append f (x ∷ l) m = omega (arith, count_append f l m)

  pub count_next : (f : A → Bool) (d : A) (l : List A) (i : ℕ) → i < length l → count f (take (suc i) l) ≡ count f (take i l) + one_if
      (f (get_or l i d))
  unfolding count
  count_next f d [] i h = absurd (omega arith)
  count_next f d (x ∷ l) zero h = omega arith
  count_next f d (x ∷ l) (suc i) h = omega (arith, count_next f d l i (omega arith))

  pub count-take : (f : A → Bool) (l : List A) (i : ℕ) → count f (take i l) ≤ count f l
  unfolding count
  count-take f [] zero = omega arith
  count-take f [] (suc i) = omega arith
  count-take f (x ∷ l) zero = omega arith
  count-take f (x ∷ l) (suc i) = omega (arith, count-take f l i)

  -- a test that implies another is passed as often at most
  pub count_le : (f g : A → Bool) → ((x : A) → f x ≡ true → g x ≡ true) → (l : List A) → count f l ≤ count g l
  unfolding count
  count_le f g h [] = omega arith
  count_le f g h (x ∷ l) = omega (arith, one_le (f x) (g x) (h x), count_le f g h l)

  pub any_at : (f : A → Bool) (d : A) (l : List A) (i : ℕ) → i < length l → f (get_or l i d) ≡ true → anyb f l ≡ true
  unfolding anyb
  any_at f d [] i h e = absurd (omega arith)
  any_at f d (x ∷ l) zero h e = rw e
  any_at f d (x ∷ l) (suc i) h e = or_right (f x) (anyb f l) (any_at f d l i (omega arith) e)

  pub any_never : (f : A → Bool) → ((x : A) → f x ≡ false) → (l : List A) → anyb f l ≡ false
  unfolding anyb
  any_never f h [] = refl
  any_never f h (x ∷ l) = rw (h x) (any_never f h l)

  pub any_le_count : (f : A → Bool) (l : List A) → one_if (anyb f l) ≤ count f l
  unfolding anyb count one_if
  any_le_count f [] = omega arith
  any_le_count f (x ∷ l) = go (f x) (any_le_count f l)
    where
      go : (b : Bool) → one_if (anyb f l) ≤ count f l → one_if (b || anyb f l) ≤ one_if b + count f l
      go true h = omega arith
      go false h = omega arith
