-- Tests on lists of numbers by their members.
-- Laws: all_member and member_all (each member passes), any_members and all_members (lists with the same members),
-- any_mapped_by (a test on mapped numbers), first_in, first_all and first_none (the first of a list).
use Rattle.std.specs.Prelude.{◌≡◌, Bool, ◌||◌, ℕ, T}
use Rattle.std.proofs.Math.Path.{refl, ap}
use Rattle.std.proofs.Common.{⊎_elim}
use mathlib.Core.List.{List, [], ◌∷◌, map}
use Rattle.base.specs.Lists.{allb, anyb, memberb}
use Rattle.base.specs.Bools.{and_left, and_right, and_both, same_test}
use Rattle.base.specs.Member.{Member, member_head, member_tail, member_cases, any_member, member_any}
use Rattle.parts.specs.Owners.{first_or}

pub all_member : (f : ℕ → Bool) (l : List ℕ) → T (allb f l) → (x : ℕ) → Member x l → T (f x)
unfolding allb memberb
all_member f [] t x m = absurd m
all_member f (y ∷ l) t x m =
    ⊎_elim (λ (e : x ≡ y). rw e (and_left (f y) (allb f l) t)) (λ (n : Member x l). all_member f l (and_right (f y) (allb f l) t) x n)
    (member_cases x y l m)

pub member_all : (f : ℕ → Bool) (l : List ℕ) → ((x : ℕ) → Member x l → T (f x)) → T (allb f l)
unfolding allb
member_all f [] h = tt
member_all f (y ∷ l) h = and_both (f y) (allb f l) (h y (member_head y l)) (member_all f l (λ x m. h x (member_tail x y l m)))

module _ (f : ℕ → Bool) (a b : List ℕ) (up : (x : ℕ) → Member x a → Member x b) (down : (x : ℕ) → Member x b → Member x a) where
  pub any_members : anyb f a ≡ anyb f b
  any_members =
      same_test (anyb f a) (anyb f b) (λ t. let (x, m, u) = any_member f a t in member_any f b x (up x m) u)
      (λ t. let (x, m, u) = any_member f b t in member_any f a x (down x m) u)

  pub all_members : allb f a ≡ allb f b
  all_members =
      same_test (allb f a) (allb f b) (λ t. member_all f b (λ x m. all_member f a t x (down x m)))
      (λ t. member_all f a (λ x m. all_member f b t x (up x m)))

module _ {A : Type 0} (g : ℕ → A) (f : A → Bool) where
  pub any_mapped_by : (l : List ℕ) → anyb f (map g l) ≡ anyb (λ x. f (g x)) l
  unfolding anyb
  any_mapped_by [] = refl
  any_mapped_by (x ∷ l) = ap (λ (b : Bool). f (g x) || b) (any_mapped_by l)

-- the first of a list, or what stands for it
module _ {A : Type 0} (f : ℕ → A) (a : A) where
  pub first_in : (Q : A → Type 0) (l : List ℕ) → Q a → ((x : ℕ) → Member x l → Q (f x)) → Q (first_or f a l)
  unfolding first_or
  first_in Q [] u h = u
  first_in Q (x ∷ l) u h = h x (member_head x l)

  pub first_all : (b : A) (l : List ℕ) → ((x : ℕ) → Member x l → f x ≡ b) → (x : ℕ) → Member x l → first_or f a l ≡ b
  unfolding first_or memberb
  first_all b [] h x m = absurd m
  first_all b (y ∷ l) h x m = h y (member_head y l)

  pub first_none : (l : List ℕ) → ((x : ℕ) → Member x l → ⊥) → first_or f a l ≡ a
  unfolding first_or
  first_none [] h = refl
  first_none (x ∷ l) h = absurd (h x (member_head x l))
