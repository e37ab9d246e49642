-- Where an element stands in a list, by a test of equality on any type.
--   Same same        the test tells equal elements from others
--   hasb l a         a stands in l
--   place_in l a      the first place of a in l, or the length of l
--   add l a          l with a behind it, where it is not in it
--   Distinct l       no element stands in l twice
use Rattle.std.specs.Prelude.{◌≡◌, ◌⊎◌, Bool, ◌||◌}
use Rattle.std.proofs.Math.Path.{refl, sym, ap}
use Rattle.std.proofs.Common.{◌∙◌, inl, inr, zero-add, suc-add, eq-or-lt_of_le, arith, eq-eqb, length-append}
use Rattle.std.proofs.Math.Logic.{⊎_elim}
use Rattle.std.proofs.Math.Bool.{true, false, or-true, or-false}
use mathlib.Core.List.{List, [], ◌∷◌, ◌++◌}
use Prim.Native.Nat.{ℕ, zero, suc, ◌+◌, ◌≤◌, ◌<◌}
use Rattle.std.proofs.Math.ListN.{length, get_or, get_or-append}
use Rattle.std.proofs.Math.Seq.{get_or-append_seam}
use Rattle.base.specs.Lists.{sameb, sameb_eq}
use Rattle.base.specs.Bools.{either, not_both}

module _ {A : Type 0} (same : A → A → Bool) where
  unfoldable pub hasb : List A → A → Bool
  hasb [] a = false
  hasb (x ∷ l) a = same x a || hasb l a

  unfoldable pub place_in : List A → A → ℕ
  place_in [] a = 0
  place_in (x ∷ l) a = elim (same x a) [ true ↦ 0 | false ↦ suc (place_in l a) ]

  unfoldable pub add : List A → A → List A
  unfolding hasb
  add l a = elim (hasb l a) [ true ↦ l | false ↦ l ++ (a ∷ []) ]

  pub record Same : Type 0 where
    pub sound : (a b : A) → same a b ≡ true → a ≡ b
    pub self : (a : A) → same a a ≡ true

module _ {A : Type 0} (same : A → A → Bool) where
  pub has_append : (l m : List A) (a : A) → hasb same (l ++ m) a ≡ (hasb same l a || hasb same m a)
  unfolding hasb
  has_append [] m a = refl
  has_append (x ∷ l) m a = go (same x a) (has_append l m a)
    where
      go : (b : Bool) → hasb same (l ++ m) a ≡ (hasb same l a || hasb same m a)
          → (b || hasb same (l ++ m) a) ≡ ((b || hasb same l a) || hasb same m a)
      go true i = refl
      go false i = i

  pub place_here : (x : A) (l : List A) (a : A) → same x a ≡ true → place_in same (x ∷ l) a ≡ 0
  unfolding place_in
  place_here x l a t = rw (t, place_in)

  place_past : (x : A) (l : List A) (a : A) → same x a ≡ false → place_in same (x ∷ l) a ≡ suc (place_in same l a)
  unfolding place_in
  place_past x l a t = rw (t, place_in)

  pub has_below : (l : List A) (a : A) → hasb same l a ≡ true → place_in same l a < length l
  unfolding hasb
  has_below [] a t = not_both false t refl
  has_below (x ∷ l) a t = go (same x a) refl t (has_below l a)
    where
      go : (b : Bool) → same x a ≡ b → (b || hasb same l a) ≡ true → (hasb same l a ≡ true → place_in same l a < length l)
          → place_in same (x ∷ l) a < suc (length l)
      go true e u i = rw (place_here x l a e) (omega arith)
      go false e u i = rw (place_past x l a e) (omega (arith, i u))

  pub place_missing : (l : List A) (a : A) → hasb same l a ≡ false → place_in same l a ≡ length l
  unfolding hasb place_in
  place_missing [] a t = refl
  place_missing (x ∷ l) a t = go (same x a) refl t (place_missing l a)
    where
      go : (b : Bool) → same x a ≡ b → (b || hasb same l a) ≡ false → (hasb same l a ≡ false → place_in same l a ≡ length l)
          → place_in same (x ∷ l) a ≡ suc (length l)
      go true e u i = not_both true refl u
      go false e u i = place_past x l a e ∙ ap suc (i u)

  -- a longer list keeps the places
  pub place_append : (l m : List A) (a : A) → hasb same l a ≡ true → place_in same (l ++ m) a ≡ place_in same l a
  unfolding hasb
  place_append [] m a t = not_both false t refl
  place_append (x ∷ l) m a t = go (same x a) refl t (place_append l m a)
    where
      go : (b : Bool) → same x a ≡ b → (b || hasb same l a) ≡ true → (hasb same l a ≡ true → place_in same (l ++ m) a ≡ place_in same l a)
          → place_in same (x ∷ (l ++ m)) a ≡ place_in same (x ∷ l) a
      go true e u i = place_here x (l ++ m) a e ∙ sym (place_here x l a e)
      go false e u i = place_past x (l ++ m) a e ∙ ap suc (i u) ∙ sym (place_past x l a e)

  pub place_behind : (l m : List A) (a : A) → hasb same l a ≡ false → place_in same (l ++ m) a ≡ length l + place_in same m a
  unfolding hasb
  place_behind [] m a t = sym (zero-add (place_in same m a))
  place_behind (x ∷ l) m a t = go (same x a) refl t (place_behind l m a)
    where
      go : (b : Bool) → same x a ≡ b → (b || hasb same l a) ≡ false
          → (hasb same l a ≡ false → place_in same (l ++ m) a ≡ length l + place_in same m a)
          → place_in same (x ∷ (l ++ m)) a ≡ suc (length l) + place_in same m a
      go true e u i = not_both true refl u
      go false e u i = place_past x (l ++ m) a e ∙ ap suc (i u) ∙ sym (suc-add (length l) (place_in same m a))

  module _ (l : List A) (a : A) where
    pub add_old : hasb same l a ≡ true → add same l a ≡ l
    unfolding add
    add_old t = rw (t, add)

    pub add_new : hasb same l a ≡ false → add same l a ≡ l ++ (a ∷ [])
    unfolding add
    add_new t = rw (t, add)

module _ {A : Type 0} (same : A → A → Bool) (o : A) (q : Same same) where
  pub has_at : (l : List A) (i : ℕ) → i < length l → hasb same l (get_or l i o) ≡ true
  unfolding hasb
  has_at [] i h = absurd (omega arith)
  has_at (x ∷ l) zero h = rw (q.self x)
  has_at (x ∷ l) (suc i) h = rw (has_at l i (omega arith), or-true)

  pub place_there : (l : List A) (a : A) → hasb same l a ≡ true → get_or l (place_in same l a) o ≡ a
  unfolding hasb
  place_there [] a t = not_both false t refl
  place_there (x ∷ l) a t = go (same x a) refl t (place_there l a)
    where
      go : (b : Bool) → same x a ≡ b → (b || hasb same l a) ≡ true → (hasb same l a ≡ true → get_or l (place_in same l a) o ≡ a)
          → get_or (x ∷ l) (place_in same (x ∷ l) a) o ≡ a
      go true e u i = rw (place_here same x l a e) (q.sound x a e)
      go false e u i = rw (place_past same x l a e) (i u)

  pub has_added : (l : List A) (a b : A) → hasb same (add same l a) b ≡ (hasb same l b || same a b)
  unfolding hasb
  has_added l a b =
      ⊎_elim (λ t. rw (add_old same l a t) (old t (same a b) refl))
      (λ t. rw (add_new same l a t) (has_append same l (a ∷ []) b ∙ rw (or-false (same a b))))
      (either (hasb same l a))
    where
      old : hasb same l a ≡ true → (s : Bool) → same a b ≡ s → hasb same l b ≡ (hasb same l b || s)
      old t true e = let w : hasb same l b ≡ true = rw (q.sound a b e) at t in rw w
      old t false e = rw (or-false (hasb same l b))

  pub has_new : (l : List A) (a : A) → hasb same (add same l a) a ≡ true
  has_new l a = has_added l a a ∙ rw (q.self a, or-true (hasb same l a))

  pub kept : (l : List A) (a b : A) → hasb same l b ≡ true → hasb same (add same l a) b ≡ true
  kept l a b t = has_added l a b ∙ rw t

  pub place_kept : (l : List A) (a b : A) → hasb same l b ≡ true → place_in same (add same l a) b ≡ place_in same l b
  place_kept l a b t =
      ⊎_elim (λ u. rw (add_old same l a u)) (λ u. rw (add_new same l a u) (place_append same l (a ∷ []) b t)) (either (hasb same l a))

  pub record Distinct (l : List A) : Type 0 where
    pub own : (i : ℕ) → i < length l → place_in same l (get_or l i o) ≡ i

  pub distinct_nil : Distinct []
  distinct_nil = record { own = λ i h. absurd (omega arith) }

  pub distinct_snoc : (l : List A) (a : A) → Distinct l → hasb same l a ≡ false → Distinct (l ++ (a ∷ []))
  distinct_snoc l a d t = record { own = λ i h. go i (eq-or-lt_of_le (le i h)) }
    where
      le : (i : ℕ) → i < length (l ++ (a ∷ [])) → i ≤ length l
      le i h = omega (arith, length-append l (a ∷ []))

      go : (i : ℕ) → (i ≡ length l) ⊎ (i < length l) → place_in same (l ++ (a ∷ [])) (get_or (l ++ (a ∷ [])) i o) ≡ i
      go i (inl e) = rw (e, get_or-append_seam l a [] o, place_behind same l (a ∷ []) a t, place_here same a [] a (q.self a)) (omega arith)
      go i (inr h) = rw (get_or-append l (a ∷ []) o i h, place_append same l (a ∷ []) (get_or l i o) (has_at l i h)) (d.own i h)

  pub distinct_add : (l : List A) (a : A) → Distinct l → Distinct (add same l a)
  distinct_add l a d =
      ⊎_elim (λ t. rw (add_old same l a t) d) (λ t. rw (add_new same l a t) (distinct_snoc l a d t)) (either (hasb same l a))

-- lists of numbers
pub sameb_self : (l : List ℕ) → sameb l l ≡ true
unfolding sameb
sameb_self [] = refl
sameb_self (x ∷ l) = rw (eq-eqb x x refl) (sameb_self l)

pub same_list : Same sameb
same_list = record { sound = λ l m t. sameb_eq l m (rw t tt); self = sameb_self }
