-- Lists: what holds of each element, and tests over renamed or chosen elements.
-- Laws: all_default (an element, or the one for none there), all_mapped and all_unmapped (elements renamed), all_map and map_more
-- (a test, and a second renaming, of renamed elements), map_same (two renamings alike), all_filter and filter_passes (the
-- elements that pass a test), filter_map and all_through (a filter and a test of renamed elements), allb-take (a test of the first
-- ones), allb_failing (a chosen element that fails), filter_member and member_of (a number that stands in a list), filter_few
-- (no more pass than there are).
use Rattle.std.proofs.Math.Path.{◌≡◌, refl, ap, ap₂}
use Rattle.std.specs.Prelude.{Bool, ◌||◌, T, eqb, get_or, length, take}
use Rattle.std.proofs.Math.Bool.{true, false, ◌&&◌, and-false}
use mathlib.Core.List.{List, [], ◌∷◌, map}
use Prim.Native.Nat.{ℕ, zero, suc, ◌≤◌, ◌<◌}
use Rattle.std.proofs.Common.{eqb-true, arith}
use Rattle.base.specs.Lists.{allb, filterb, memberb}
use Rattle.base.specs.Every.{All}
use Rattle.base.specs.Bools.{and_left, and_right, and_both}

pub all_default : {A : Type 0} (P : A → Type 0) (d : A) (l : List A) → All P l → P d → (k : ℕ) → P (get_or l k d)
all_default P d [] t p k = p
all_default P d (x ∷ l) t p zero = t.0
all_default P d (x ∷ l) t p (suc k) = all_default P d l t.1 p k

module _ {A B : Type 0} where
  pub all_mapped : (P : B → Type 0) (h : A → B) (l : List A) → All (λ x. P (h x)) l → All P (map h l)
  all_mapped P h [] t = tt
  all_mapped P h (x ∷ l) t = (t.0, all_mapped P h l t.1)

  pub all_unmapped : (P : B → Type 0) (h : A → B) (l : List A) → All P (map h l) → All (λ x. P (h x)) l
  all_unmapped P h [] t = tt
  all_unmapped P h (x ∷ l) t = (t.0, all_unmapped P h l t.1)

  pub all_map : (h : A → B) (g : A → Bool) (g' : B → Bool) (l : List A) → All (λ x. g' (h x) ≡ g x) l → allb g' (map h l) ≡ allb g l
  unfolding allb
  all_map h g g' [] e = refl
  all_map h g g' (x ∷ l) e = ap₂ ◌&&◌ e.0 (all_map h g g' l e.1)

  pub all_through : (h : A → B) (g : B → Bool) (l : List A) → allb g (map h l) ≡ allb (λ x. g (h x)) l
  unfolding allb
  all_through h g [] = refl
  all_through h g (x ∷ l) = ap (λ (b : Bool). g (h x) && b) (all_through h g l)

  pub filter_map : (g : B → Bool) (h : A → B) (l : List A) → filterb g (map h l) ≡ map h (filterb (λ x. g (h x)) l)
  unfolding filterb
  filter_map g h [] = refl
  filter_map g h (x ∷ l) = go (g (h x)) (filter_map g h l)
    where
      go : (b : Bool) → filterb g (map h l) ≡ map h (filterb (λ x. g (h x)) l)
          → ◌≡◌ {A = List B} (elim b [ true ↦ h x ∷ filterb g (map h l) | false ↦ filterb g (map h l) ])
          (map {A = A} h (elim b [ true ↦ x ∷ filterb (λ x. g (h x)) l | false ↦ filterb (λ x. g (h x)) l ]))
      go true i = ap (λ (l : List B). h x ∷ l) i
      go false i = i

pub map_same : {A B : Type 0} (f g : A → B) (l : List A) → All (λ x. f x ≡ g x) l → map f l ≡ map g l
map_same f g [] e = refl
map_same f g (x ∷ l) e = ap₂ ◌∷◌ e.0 (map_same f g l e.1)

pub map_more : {A B C : Type 0} (h : A → B) (g : B → C) (f : A → C) (l : List A) → All (λ x. f x ≡ g (h x)) l → map f l ≡ map g (map h l)
map_more h g f [] e = refl
map_more h g f (x ∷ l) e = ap₂ ◌∷◌ e.0 (map_more h g f l e.1)

module _ {A : Type 0} (g : A → Bool) where
  pub all_filter : (P : A → Type 0) (l : List A) → All P l → All P (filterb g l)
  unfolding filterb
  all_filter P [] t = tt
  all_filter P (x ∷ l) t = go (g x) refl (all_filter P l t.1)
    where
      go : (b : Bool) → g x ≡ b → All P (filterb g l) → All P (filterb g (x ∷ l))
      go true e i = rw (e, filterb) (t.0, i)
      go false e i = rw (e, filterb) i

  pub filter_passes : (l : List A) → All (λ x. g x ≡ true) (filterb g l)
  unfolding filterb
  filter_passes [] = tt
  filter_passes (x ∷ l) = go (g x) refl (filter_passes l)
    where
      go : (b : Bool) → g x ≡ b → All (λ x. g x ≡ true) (filterb g l) → All (λ x. g x ≡ true) (filterb g (x ∷ l))
      go true e i = rw (e, filterb) (e, i)
      go false e i = rw (e, filterb) i

  pub allb_failing : (f : A → Bool) (d : A) (l : List A) (k : ℕ) → k < length l → g (get_or l k d) ≡ true → f (get_or l k d) ≡ false
      → allb f (filterb g l) ≡ false
  unfolding allb filterb
  allb_failing f d [] k h p q = absurd (omega arith)
  allb_failing f d (x ∷ l) zero h p q = rw (p, filterb) (rw q)
  allb_failing f d (x ∷ l) (suc k) h p q = go (g x) refl (allb_failing f d l k (omega arith) p q)
    where
      go : (b : Bool) → g x ≡ b → allb f (filterb g l) ≡ false → allb f (filterb g (x ∷ l)) ≡ false
      go true e i = rw (e, filterb) (rw i (and-false (f x)))
      go false e i = rw (e, filterb) i

  pub allb-take : (n : ℕ) (l : List A) → T (allb g l) → T (allb g (take n l))
  unfolding allb
  allb-take zero l t = tt
  allb-take (suc n) [] t = tt
  allb-take (suc n) (x ∷ l) t =
      and_both (g x) (allb g (take n l)) (and_left (g x) (allb g l) t) (allb-take n l (and_right (g x) (allb g l) t))

pub member_of : (P : ℕ → Type 0) (x : ℕ) (l : List ℕ) → All P l → T (memberb x l) → P x
unfolding memberb
member_of P x [] a t = absurd t
member_of P x (y ∷ l) a t = go (eqb x y) refl t (member_of P x l a.1)
  where
    go : (b : Bool) → eqb x y ≡ b → T (b || memberb x l) → (T (memberb x l) → P x) → P x
    go true e t i = rw (eqb-true x y e) a.0
    go false e t i = i t

pub filter_member : (g : ℕ → Bool) (x : ℕ) (l : List ℕ) → T (memberb x l) → g x ≡ true → T (memberb x (filterb g l))
unfolding filterb memberb
filter_member g x [] t p = t
filter_member g x (y ∷ l) t p = go (eqb x y) refl (g y) refl t (filter_member g x l)
  where
    go : (b : Bool) → eqb x y ≡ b → (d : Bool) → g y ≡ d → T (b || memberb x l)
        → (T (memberb x l) → g x ≡ true → T (memberb x (filterb g l)))
        → T (memberb x (filterb g (y ∷ l)))
    go true e d f t i = let w : g y ≡ true = rw (eqb-true x y e) at p in rw (w, filterb) (rw e tt)
    go false e true f t i = rw (f, filterb) (rw e (i t p))
    go false e false f t i = rw (f, filterb) (i t p)

pub default_free : {A : Type 0} (l : List A) (t : ℕ) (a b : A) → t < length l → get_or l t a ≡ get_or l t b
default_free [] t a b h = absurd (omega arith)
default_free (x ∷ l) zero a b h = refl
default_free (x ∷ l) (suc t) a b h = default_free l t a b (omega arith)

-- no more pass than there are
pub filter_few : (f : ℕ → Bool) (l : List ℕ) → length (filterb f l) ≤ length l
unfolding filterb
filter_few f [] = omega arith
filter_few f (x ∷ l) = go (f x) refl (filter_few f l)
  where
    go : (b : Bool) → f x ≡ b → length (filterb f l) ≤ length l → length (filterb f (x ∷ l)) ≤ suc (length l)
    go true e i = rw (e, filterb) (omega arith)
    go false e i = rw (e, filterb) (omega arith)
