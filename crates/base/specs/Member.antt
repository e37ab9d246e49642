-- Numbers that stand in a list.
--   Member x l     x stands in l
-- Laws: member_head, member_tail, member_cases (one element more), any_member, member_any (an element that passes a test),
-- filtered_member, member_filtered, member-map, map-member, member_append, append_member, member_flat, flat_member (filtered, mapped and
-- joined lists), any_agree, all_agree, filter_agree (tests that agree on a
-- list), map-agree (functions that do).
use Rattle.std.specs.Prelude.{◌≡◌, ◌⊎◌, Bool, ℕ, eqb}
use Rattle.std.proofs.Math.Path.{refl, ap₂, subst, sym}
use Rattle.std.proofs.Common.{ap, inl, inr, eqb→eq, eq-eqb}
use Rattle.std.proofs.Math.Logic.{⊎_elim}
use Rattle.std.proofs.Math.Bool.{true, false, ◌&&◌, ◌||◌}
use mathlib.Core.List.{List, [], ◌∷◌, ◌++◌, map, flat_map, flatten}
use Rattle.std.proofs.Math.Dec.{T}
use Rattle.base.specs.Lists.{allb, anyb, filterb, memberb}
use Rattle.base.specs.Bools.{or_first, or_second, or_either}

abbrev pub Member : ℕ → List ℕ → Type 0
Member x l = T (memberb x l)

pub member_head : (x : ℕ) (l : List ℕ) → Member x (x ∷ l)
unfolding memberb
member_head x l = rw (eq-eqb x x refl) tt

pub member_cases : (x y : ℕ) (l : List ℕ) → Member x (y ∷ l) → (x ≡ y) ⊎ Member x l
unfolding memberb
member_cases x y l t = ⊎_elim (λ (u : T (eqb x y)). inl (eqb→eq x y u)) (λ (u : T (memberb x l)). inr u)
    (or_either (eqb x y) (memberb x l) t)

pub member_tail : (x y : ℕ) (l : List ℕ) → Member x l → Member x (y ∷ l)
unfolding memberb
member_tail x y l t = or_second (eqb x y) (memberb x l) t

module _ (f : ℕ → Bool) where
  pub any_member : (l : List ℕ) → T (anyb f l) → (x : ℕ) × Member x l × T (f x)
  unfolding anyb
  any_member [] t = absurd t
  any_member (x ∷ l) t =
      ⊎_elim (λ (u : T (f x)). (x, member_head x l, u)) (λ (u : T (anyb f l)). let (y, m, v) = any_member l u in
      (y, member_tail y x l m, v))
      (or_either (f x) (anyb f l) t)

  pub member_any : (l : List ℕ) (x : ℕ) → Member x l → T (f x) → T (anyb f l)
  unfolding anyb memberb
  member_any [] x m t = absurd m
  member_any (y ∷ l) x m t =
      ⊎_elim (λ (e : x ≡ y). or_first (f y) (anyb f l) (rw e at t)) (λ (n : Member x l). or_second (f y) (anyb f l) (member_any l x n t))
      (member_cases x y l m)

  pub filtered_member : (l : List ℕ) (x : ℕ) → Member x (filterb f l) → Member x l × T (f x)
  unfolding filterb memberb
  filtered_member [] x m = absurd m
  filtered_member (y ∷ l) x m = go (f y) refl (filtered_member l x)
    where
      go : (b : Bool) → f y ≡ b → (Member x (filterb f l) → Member x l × T (f x)) → Member x (y ∷ l) × T (f x)
      go true e r =
          let n : Member x (y ∷ filterb f l) = rw (e, filterb) at m in
          ⊎_elim (λ (q : x ≡ y). (subst (λ (z : ℕ). Member z (y ∷ l)) (sym q) (member_head y l), rw (q, e) tt)) (λ (q : Member x (filterb f l)). let (a, b) = r q in
          (member_tail x y l a, b)) (member_cases x y (filterb f l) n)
      go false e r = let n : Member x (filterb f l) = rw (e, filterb) at m in let (a, b) = r n in (member_tail x y l a, b)

  pub member_filtered : (l : List ℕ) (x : ℕ) → Member x l → T (f x) → Member x (filterb f l)
  unfolding filterb memberb
  member_filtered [] x m t = absurd m
  member_filtered (y ∷ l) x m t = go (f y) refl (member_filtered l x)
    where
      go : (b : Bool) → f y ≡ b → (Member x l → T (f x) → Member x (filterb f l)) → Member x (filterb f (y ∷ l))
      go true e r = rw (e, filterb) (⊎_elim (λ (q : x ≡ y). subst (λ (z : ℕ). Member z (y ∷ filterb f l)) (sym q) (member_head y (filterb f l)))
          (λ (q : Member x l). member_tail x y (filterb f l) (r q t)) (member_cases x y l m))
      go false e r = rw (e, filterb) (⊎_elim (λ (q : x ≡ y). absurd (rw (q, e) at t)) (λ (q : Member x l). r q t) (member_cases x y l m))

-- two tests that agree on a list
module _ (f g : ℕ → Bool) where
  pub any_agree : (l : List ℕ) → ((x : ℕ) → Member x l → f x ≡ g x) → anyb f l ≡ anyb g l
  unfolding anyb
  any_agree [] h = refl
  any_agree (x ∷ l) h = ap₂ ◌||◌ (h x (member_head x l)) (any_agree l (λ y m. h y (member_tail y x l m)))

  pub all_agree : (l : List ℕ) → ((x : ℕ) → Member x l → f x ≡ g x) → allb f l ≡ allb g l
  unfolding allb
  all_agree [] h = refl
  all_agree (x ∷ l) h = ap₂ ◌&&◌ (h x (member_head x l)) (all_agree l (λ y m. h y (member_tail y x l m)))

  pub filter_agree : (l : List ℕ) → ((x : ℕ) → Member x l → f x ≡ g x) → filterb f l ≡ filterb g l
  unfolding filterb
  filter_agree [] h = refl
  filter_agree (x ∷ l) h = ap₂ (λ (b : Bool) (m : List ℕ). elim b [ true ↦ x ∷ m | false ↦ m ]) (h x (member_head x l))
      (filter_agree l (λ y m. h y (member_tail y x l m)))

-- mapped and joined lists
pub map-agree : {A : Type 0} (f g : ℕ → A) (l : List ℕ) → ((x : ℕ) → Member x l → f x ≡ g x) → map f l ≡ map g l
map-agree f g [] h = refl
map-agree f g (x ∷ l) h = ap₂ ◌∷◌ (h x (member_head x l)) (map-agree f g l (λ y m. h y (member_tail y x l m)))

pub member-map : (f : ℕ → ℕ) (l : List ℕ) (x : ℕ) → Member x l → Member (f x) (map f l)
unfolding memberb
member-map f [] x t = absurd t
member-map f (y ∷ l) x t =
    ⊎_elim (λ (e : x ≡ y). or_first (eqb (f x) (f y)) (memberb (f x) (map f l)) (rw (eq-eqb (f x) (f y) (ap f e)) tt))
    (λ (u : Member x l). member_tail (f x) (f y) (map f l) (member-map f l x u)) (member_cases x y l t)

pub map-member : (f : ℕ → ℕ) (l : List ℕ) (v : ℕ) → Member v (map f l) → (x : ℕ) × Member x l × (v ≡ f x)
unfolding memberb
map-member f [] v t = absurd t
map-member f (y ∷ l) v t =
    ⊎_elim (λ (e : v ≡ f y). (y, member_head y l, e))
    (λ (u : Member v (map f l)). let (x, m, e) = map-member f l v u in (x, member_tail x y l m, e)) (member_cases v (f y) (map f l) t)

pub member_append : (l m : List ℕ) (x : ℕ) → Member x l ⊎ Member x m → Member x (l ++ m)
unfolding memberb
member_append [] m x (inl t) = absurd t
member_append [] m x (inr t) = t
member_append (y ∷ l) m x (inl t) =
    ⊎_elim (λ (e : x ≡ y). or_first (eqb x y) (memberb x (l ++ m)) (rw (eq-eqb x y e) tt))
    (λ (u : Member x l). member_tail x y (l ++ m) (member_append l m x (inl u))) (member_cases x y l t)
member_append (y ∷ l) m x (inr t) = member_tail x y (l ++ m) (member_append l m x (inr t))

pub append_member : (l m : List ℕ) (x : ℕ) → Member x (l ++ m) → Member x l ⊎ Member x m
unfolding memberb
append_member [] m x t = inr t
append_member (y ∷ l) m x t =
    ⊎_elim (λ (e : x ≡ y). inl (or_first (eqb x y) (memberb x l) (rw (eq-eqb x y e) tt)))
    (λ (u : Member x (l ++ m)). ⊎_elim (λ (v : Member x l). inl (member_tail x y l v)) (λ (v : Member x m). inr v) (append_member l m x u))
    (member_cases x y (l ++ m) t)

module _ (f : ℕ → List ℕ) where
  pub member_flat : (l : List ℕ) (x v : ℕ) → Member x l → Member v (f x) → Member v (flat_map f l)
  unfolding memberb flat_map flatten
  member_flat [] x v t u = absurd t
  member_flat (y ∷ l) x v t u =
      ⊎_elim (λ (e : x ≡ y). member_append (f y) (flat_map f l) v (inl (rw e at u)))
      (λ (w : Member x l). member_append (f y) (flat_map f l) v (inr (member_flat l x v w u))) (member_cases x y l t)

  pub flat_member : (l : List ℕ) (v : ℕ) → Member v (flat_map f l) → (x : ℕ) × Member x l × Member v (f x)
  unfolding memberb flat_map flatten
  flat_member [] v t = absurd t
  flat_member (y ∷ l) v t =
      ⊎_elim (λ (u : Member v (f y)). (y, member_head y l, u))
      (λ (u : Member v (flat_map f l)). let (x, m, w) = flat_member l v u in (x, member_tail x y l m, w))
      (append_member (f y) (flat_map f l) v t)
