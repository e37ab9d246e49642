-- Lists one behind the other.
-- Laws: allb_append, anyb_append, filter_append (tests and filters), flat_snoc (one element more), sets_append (numbers written one behind
-- the other), front_length (a list put in front of another).
use Rattle.std.proofs.Math.Path.{◌≡◌, refl, ap}
use Rattle.std.proofs.Common.{sym, ◌∙◌, add-zero, add-suc, suc-add, arith, length-append, length-drop}
use Rattle.std.specs.Prelude.{Bool, ◌||◌, ℕ, suc, ◌+◌, ◌≤◌, T, length, drop, set}
use Rattle.std.proofs.Math.Bool.{true, false}
use mathlib.Core.List.{List, [], ◌∷◌, ◌++◌, flat_map, append_assoc, append-nil}
use Rattle.std.proofs.lemmas.List.Edits.{sets}
use Rattle.base.specs.Bools.{and_left, and_right, and_both}
use Rattle.base.specs.Lists.{allb, anyb, filterb}

module _ {A : Type 0} (f : A → Bool) where
  pub allb_append : (l m : List A) → T (allb f l) → T (allb f m) → T (allb f (l ++ m))
  unfolding allb
  allb_append [] m s t = t
  allb_append (x ∷ l) m s t =
      and_both (f x) (allb f (l ++ m)) (and_left (f x) (allb f l) s) (allb_append l m (and_right (f x) (allb f l) s) t)

  pub anyb_append : (l m : List A) → anyb f (l ++ m) ≡ (anyb f l || anyb f m)
  unfolding anyb
  anyb_append [] m = refl
  anyb_append (x ∷ l) m = go (f x) (anyb_append l m)
    where
      go : (b : Bool) → anyb f (l ++ m) ≡ (anyb f l || anyb f m) → (b || anyb f (l ++ m)) ≡ ((b || anyb f l) || anyb f m)
      go true i = refl
      go false i = i

  pub filter_append : (l m : List A) → filterb f (l ++ m) ≡ filterb f l ++ filterb f m
  unfolding filterb
  filter_append [] m = refl
  filter_append (x ∷ l) m = go (f x) (filter_append l m)
    where
      go : (b : Bool) → filterb f (l ++ m) ≡ filterb f l ++ filterb f m
          → ◌≡◌ {A = List A} (elim b [ true ↦ x ∷ filterb f (l ++ m) | false ↦ filterb f (l ++ m) ])
          (◌++◌ {A = A} (elim b [ true ↦ x ∷ filterb f l | false ↦ filterb f l ]) (filterb f m))
      go true i = ap (λ (l : List A). x ∷ l) i
      go false i = i

pub flat_snoc : {A B : Type 0} (f : A → List B) (l : List A) (a : A) → flat_map f (l ++ (a ∷ [])) ≡ flat_map f l ++ f a
unfolding flat_map
flat_snoc f [] a = append-nil (f a)
flat_snoc f (x ∷ l) a = rw (flat_snoc f l a) (sym (append_assoc (f x) (flat_map f l) (f a)))

pub sets_append : (xs ys l : List ℕ) (i : ℕ) → sets l i (xs ++ ys) ≡ sets (sets l i xs) (i + length xs) ys
sets_append [] ys l i = rw add-zero
sets_append (x ∷ xs) ys l i = sets_append xs ys (set l i x) (suc i) ∙ rw (suc-add i (length xs), add-suc i (length xs))

pub front_length : {A : Type 0} (b l : List A) (n : ℕ) → length b ≡ n → n ≤ length l → length (b ++ drop n l) ≡ length l
front_length b l n e h = omega (arith, length-append b (drop n l), length-drop n l)
