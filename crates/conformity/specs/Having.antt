-- How many cells have given points among their corners (rule 13.2 counts so).
--   inb p l              p is one of the points l; withinb u l  every point of u is
--   count u cs           how many of the cells cs have all points of u
--   count_digits u f ds   how many of the children ds have them, where f gives the point of a digit
--   Scaled u t h c       c counts for u as often as h times for t; Carried u t h c s  so do c with status s and its children
-- Laws: in_at, in_from (by places), all_through, count_both, count_scaled (one count by another),
-- count_children (a family's), digits_none (no child has them), four_elements, corner_points, digits_leaf (a cell that is not refined),
-- count_level (the leaves and the children of a level), within-map, digits_holds (points by their numbers).
use Rattle.std.specs.Prelude.{◌≡◌, ◌≢◌, Bool, ℕ, suc, ◌+◌, ◌*◌, ◌<◌, T, length, get_or}
use Rattle.std.proofs.Math.Path.{refl, sym, ap, ap₂}
use Rattle.std.proofs.Common.{◌∙◌}
use Rattle.std.proofs.Math.Bool.{true, false, ◌||◌, ◌&&◌}
use mathlib.Core.List.{List, [], ◌∷◌, ◌++◌, map}
use Rattle.std.proofs.Math.Nat.{mul-add}
use native.Mathlib.Omega.{arith}
use Rattle.std.proofs.Math.Dec.{eqb}
use borrow.Author.Tests.{eqb-true, ne_eqb, eq-eqb}
use Rattle.base.specs.Lists.{allb, anyb, memberb, sameb, sameb_eq}
use Rattle.base.specs.Bools.{one_if, not_both}
use Rattle.base.specs.Places.{sameb_self}
use Rattle.cutting.specs.Rule.{low, high, family}
use Rattle.mesh.specs.Cells.{Cell, corner, redb, pattern_of, children, children_from, no_cell}
use Rattle.mesh.specs.Weights.{Point, point}
use Rattle.mesh.specs.Table.{next}
use Rattle.base.specs.Every.{All, any_place, any_at}
use Rattle.conformity.specs.Leaves.{leaves_in}
use Rattle.families.specs.Digits.{holds}
use Rattle.families.specs.FaceKinds.{family_leaf}
use Rattle.mesh.specs.Laws.{mid_self}

-- tests
abbrev pub inb : Point → List Point → Bool
inb p l = anyb (sameb p) l

abbrev pub withinb : List Point → List Point → Bool
withinb u l = allb (λ p. inb p l) u

pub in_at : (p : Point) (l : List Point) → T (inb p l) → (i : ℕ) × (i < length l) × (p ≡ get_or l i [])
in_at p l t = let (i, h, u) = any_place (sameb p) [] l t in (i, h, sameb_eq p (get_or l i []) u)

pub in_from : (p : Point) (l : List Point) (i : ℕ) → i < length l → p ≡ get_or l i [] → T (inb p l)
in_from p l i h e = any_at (sameb p) [] l i h (rw (e, sameb_self (get_or l i [])) tt)

-- a test on a map
abbrev pub count : List Point → List (Cell Point) → ℕ
count u [] = 0
count u (c ∷ cs) = one_if (withinb u c.points) + count u cs

abbrev pub count_digits : List Point → (ℕ → Point) → List (List ℕ) → ℕ
count_digits u f [] = 0
count_digits u f (d ∷ ds) = one_if (withinb u (map f d)) + count_digits u f ds

pub count_both : (u : List Point) (cs ds : List (Cell Point)) → count u (cs ++ ds) ≡ count u cs + count u ds
count_both u [] ds = omega arith
count_both u (c ∷ cs) ds = omega (arith, count_both u cs ds)

module _ (u t : List Point) (h : ℕ) where
  abbrev pub Scaled : Cell Point → Type 0
  Scaled c = one_if (withinb u c.points) ≡ h * one_if (withinb t c.points)

  pub count_scaled : (cs : List (Cell Point)) → All Scaled cs → count u cs ≡ h * count t cs
  count_scaled [] a = omega arith
  count_scaled (c ∷ cs) a = ap₂ ◌+◌ a.0 (count_scaled cs a.1) ∙ sym (mul-add h (one_if (withinb t c.points)) (count t cs))

module _ (u : List Point) (k : ℕ) (c : Cell Point) where
  count_from : (r : Bool) (f : ℕ → Point) (i : ℕ) (ds : List (List ℕ)) → count u (children_from k c r f i ds) ≡ count_digits u f ds
  unfolding children_from
  count_from r f i [] = refl
  count_from r f i (d ∷ ds) = ap (λ (m : ℕ). one_if (withinb u (map f d)) + m) (count_from r f (suc i) ds)

  count_children : (s : ℕ) → s ≢ 0 → count u (children k c s (point c)) ≡ count_digits u (point c) (family (pattern_of s))
  unfolding children
  count_children s z = rw (ne_eqb s 0 z, children) (count_from (redb s) (point c) 0 (family (pattern_of s)))

pub digits_none : (u : List Point) (f : ℕ → Point) (ds : List (List ℕ)) → All (λ d. T (withinb u (map f d)) → ⊥) ds → count_digits u f ds ≡ 0
unfolding one_if
digits_none u f [] a = refl
digits_none u f (d ∷ ds) a = go (withinb u (map f d)) a.0 (digits_none u f ds a.1)
  where
    go : (b : Bool) → (T b → ⊥) → count_digits u f ds ≡ 0 → one_if b + count_digits u f ds ≡ 0
    go true n e = absurd (n tt)
    go false n e = omega arith

-- a cell that is not refined
pub four_elements : {A : Type 0} (o : A) (l : List A) → length l ≡ 4 → l ≡ get_or l 0 o ∷ get_or l 1 o ∷ get_or l 2 o ∷ get_or l 3 o ∷ []
four_elements o [] e = absurd (omega arith)
four_elements o (a ∷ []) e = absurd (omega arith)
four_elements o (a ∷ b ∷ []) e = absurd (omega arith)
four_elements o (a ∷ b ∷ c ∷ []) e = absurd (omega arith)
four_elements o (a ∷ b ∷ c ∷ d ∷ []) e = refl
four_elements o (a ∷ b ∷ c ∷ d ∷ x ∷ l) e = absurd (omega arith)

pub corner_points : (c : Cell Point) → length c.points ≡ 4 → map (point c) (0 ∷ 4 ∷ 7 ∷ 9 ∷ []) ≡ c.points
unfolding point low high
corner_points c e =
    ap₂ ◌∷◌ (mid_self (corner [] c 0))
    (ap₂ ◌∷◌ (mid_self (corner [] c 1)) (ap₂ ◌∷◌ (mid_self (corner [] c 2)) (ap₂ ◌∷◌ (mid_self (corner [] c 3)) refl)))
    ∙ sym (four_elements [] c.points e)

pub digits_leaf : (u : List Point) (c : Cell Point) → length c.points ≡ 4 → count_digits u (point c) (family (pattern_of 0)) ≡ one_if
    (withinb u c.points)
unfolding pattern_of
digits_leaf u c e = rw (family_leaf, corner_points c e) (omega arith)

-- the leaves and the children of a level
module _ (u t : List Point) (h : ℕ) where
  abbrev pub Carried : Cell Point → ℕ → Type 0
  Carried c s = (s ≡ 0 → one_if (withinb u c.points) ≡ h * one_if (withinb t c.points))
      × (s ≢ 0 → count_digits u (point c) (family (pattern_of s)) ≡ h * one_if (withinb t c.points))

  leaf_here : (k : ℕ) (c : Cell Point) (cs : List (Cell Point)) (s : ℕ) (ss : List ℕ) → s ≡ 0
      → one_if (withinb u c.points) ≡ h * one_if (withinb t c.points)
      → count u (leaves_in cs ss) + count u (next (suc k) cs ss) ≡ h * count t cs
      → count u (leaves_in (c ∷ cs) (s ∷ ss)) + count u (next k (c ∷ cs) (s ∷ ss)) ≡ h * (one_if (withinb t c.points) + count t cs)
  unfolding leaves_in next children
  leaf_here k c cs s ss z v i = rw (z, mul-add h (one_if (withinb t c.points)) (count t cs)) (omega arith)

  pub count_level : (k : ℕ) (cs : List (Cell Point)) (ss : List ℕ) → length ss ≡ length cs
      → ((i : ℕ) → i < length cs → Carried (get_or cs i no_cell) (get_or ss i 0))
      → count u (leaves_in cs ss) + count u (next k cs ss) ≡ h * count t cs
  unfolding leaves_in next
  count_level k [] ss e f = omega arith
  count_level k (c ∷ cs) [] e f = absurd (omega arith)
  count_level k (c ∷ cs) (s ∷ ss) e f = go (eqb s 0) refl (count_level (suc k) cs ss (omega arith) (λ i l. f (suc i) (omega arith)))
    where
      go : (b : Bool) → eqb s 0 ≡ b → count u (leaves_in cs ss) + count u (next (suc k) cs ss) ≡ h * count t cs
          → count u (leaves_in (c ∷ cs) (s ∷ ss)) + count u (next k (c ∷ cs) (s ∷ ss)) ≡ h * (one_if (withinb t c.points) + count t cs)
      go true q i =
          let z : s ≡ 0 = eqb-true s 0 q in
          let v = (f 0 (omega arith)).0 z in
          leaf_here k c cs s ss z v i
      go false q i =
          let z : s ≢ 0 = (λ w. not_both (eqb s 0) (eq-eqb s 0 w) q) in
          let v = (f 0 (omega arith)).1 z in
          rw (
            q,
            leaves_in,
            mul-add h (one_if (withinb t c.points)) (count t cs),
            count_both u (children k c s (point c))
                (next (suc k) cs ss),
            count_children u k c s z,
            v,
          ) (omega arith)

-- points that are named by numbers below b
module _ (b : ℕ) (g : ℕ → Point) (inj : (x y : ℕ) → x < b → y < b → g x ≡ g y → x ≡ y) where
  in_map : (x : ℕ) → x < b → (d : List ℕ) → All (λ y. y < b) d → inb (g x) (map g d) ≡ memberb x d
  unfolding anyb memberb
  in_map x hx [] a = refl
  in_map x hx (y ∷ d) a = ap₂ ◌||◌ (go (sameb (g x) (g y)) refl (eqb x y) refl) (in_map x hx d a.1)
    where
      go : (d : Bool) → sameb (g x) (g y) ≡ d → (e : Bool) → eqb x y ≡ e → sameb (g x) (g y) ≡ eqb x y
      go true p true q = p ∙ sym q
      go false p false q = p ∙ sym q
      go true p false q = not_both (eqb x y) (eq-eqb x y (inj x y hx a.0 (sameb_eq (g x) (g y) (rw p tt)))) q
      go false p true q = not_both (sameb (g x) (g y)) (rw (eqb-true x y q) (sameb_self (g y))) p

  pub within-map : (f d : List ℕ) → All (λ y. y < b) f → All (λ y. y < b) d → withinb (map g f) (map g d) ≡ allb (λ x. memberb x d) f
  unfolding allb
  within-map [] d a c = refl
  within-map (x ∷ f) d a c = ap₂ ◌&&◌ (in_map x a.0 d c) (within-map f d a.1 c)

  pub digits_holds : (f : List ℕ) → All (λ y. y < b) f → (ds : List (List ℕ)) → All (All (λ y. y < b)) ds
      → count_digits (map g f) g ds ≡ holds ds f
  unfolding holds
  digits_holds f a [] c = refl
  digits_holds f a (d ∷ ds) c = ap₂ (λ (x : Bool) (m : ℕ). one_if x + m) (within-map f d a c.0) (digits_holds f a ds c.1)
