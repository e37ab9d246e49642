-- Corners keep their numbers while the list of ends grows.
--   Extends es es'   es' has what es has, at the same places
--   middle_edge e         the digit of the midpoint of the edge e
--   MiddleDigit d         d is the midpoint of the edge edge_of d
-- Laws: extends_ends (what a level of cells adds extends the list), point_kept (a present point keeps its number),
-- rows_kept (the rows of a level stay as they are), splits_few (a family has at least as many children as its cell has split
-- edges), ends_snoc (one cell more).
use Rattle.std.specs.Prelude.{◌≡◌, Bool, true, false, ◌&&◌, ◌||◌, not, ℕ, suc, ◌+◌, ◌≤◌, ◌<◌, T, eqb, ltb, length, get_or}
use Rattle.std.proofs.Math.Path.{refl, sym, ap₂}
use Rattle.std.proofs.Common.{◌∙◌, ap, ⊎_elim, arith, eqb→eq, ltb→lt, eqb-true}
use Rattle.std.proofs.Math.Bool.{or-true}
use mathlib.Core.List.{List, [], ◌∷◌, ◌++◌, map}
use Rattle.std.proofs.Math.Dec.{leb, leb→le}
use Rattle.std.proofs.lemmas.List.{length-map}
use Rattle.base.specs.Lists.{allb, belowb, belowb_at, filterb, memberb}
use Rattle.base.specs.Bools.{impb, and_left, and_right, impb_use, is_true, either, not_both}
use Rattle.base.specs.Places.{hasb, place_in, kept, place_kept}
use Rattle.base.specs.Every.{all_each}
use Rattle.cutting.specs.Rule.{low, high, edge_of, split, points, present, family}
use Rattle.families.specs.Facts.{child_at}
use Rattle.mesh.specs.Cells.{Cell, redb, pattern_of, edge}
use Rattle.mesh.specs.Layout.{edge_numbers, split_edges}
use Rattle.edges.specs.Pairs.{Pair, sorted, isb, add_pair, add_pairs, same_pair, has_pairs}
use Rattle.rows.specs.Numbered.{ends_from, point_at, child_rows, rows_of}
use Rattle.rows.specs.Laws.{point_at_corner}
use Rattle.mesh.specs.Table.{size_of}
use Rattle.growth.specs.Rows.{rows_all}
use Rattle.mesh.specs.Laws.{pattern_below}
use Rattle.families.specs.Children.{few_splits}

pub record Extends (es es' : List Pair) : Type 0 where
  pub has : (p : Pair) → hasb isb es p ≡ true → hasb isb es' p ≡ true
  pub place : (p : Pair) → hasb isb es p ≡ true → place_in isb es' p ≡ place_in isb es p

extends_self : (es : List Pair) → Extends es es
extends_self es = record { has = λ p t. t; place = λ p t. refl }

extends_both : (a b c : List Pair) → Extends a b → Extends b c → Extends a c
extends_both a b c f g = record { has = λ p t. g.has p (f.has p t); place = λ p t. g.place p (f.has p t) ∙ f.place p t }

extends_pair : (es : List Pair) (e : Pair) → Extends es (add_pair es e)
unfolding add_pair
extends_pair es e = record {
  has = λ p t. kept isb (0, 0) same_pair es (sorted e) p t;
  place = λ p t. place_kept isb (0, 0) same_pair es
      (sorted e) p t;
}

pub extends_pairs : (es l : List Pair) → Extends es (add_pairs es l)
unfolding add_pairs
extends_pairs es [] = extends_self es
extends_pairs es (e ∷ l) = extends_both es (add_pair es e) (add_pairs (add_pair es e) l) (extends_pair es e) (extends_pairs (add_pair es e) l)

extends_ends : (es : List Pair) (cs : List (Cell ℕ)) (ss : List ℕ) → Extends es (ends_from es cs ss)
unfolding ends_from
extends_ends es [] ss = extends_self es
extends_ends es (c ∷ cs) [] = extends_self es
extends_ends es (c ∷ cs) (s ∷ ss) =
    let es₁ = add_pairs es (split_edges 0 c s) in
    extends_both es es₁ (ends_from es₁ cs ss) (extends_pairs es (split_edges 0 c s)) (extends_ends es₁ cs ss)

-- lists that a test picks
has_picked : (f : ℕ → Bool) (g : ℕ → Pair) (x : ℕ) → f x ≡ true → (l : List ℕ) → T (memberb x l)
    → hasb isb (map sorted (map g (filterb f l))) (sorted (g x)) ≡ true
unfolding hasb filterb memberb
has_picked f g x q [] t = absurd t
has_picked f g x q (y ∷ l) t = go (eqb x y) refl (f y) refl t (has_picked f g x q l)
  where
    go : (a : Bool) → eqb x y ≡ a → (b : Bool) → f y ≡ b → T (a || memberb x l)
        → (T (memberb x l) → hasb isb (map sorted (map g (filterb f l))) (sorted (g x)) ≡ true)
        → hasb isb (map sorted (map g (filterb f (y ∷ l)))) (sorted (g x)) ≡ true
    go true a true b u less = rw (b, filterb, eqb-true x y a, same_pair.self (sorted (g y)))
    go true a false b u less = not_both (f y) (rw (eqb-true x y a) at q) b
    go false a true b u less = rw (b, filterb, less u, or-true)
    go false a false b u less = rw (b, filterb) (less u)

picked : (f : ℕ → Bool) (x : ℕ) (l : List ℕ) → T (memberb x (filterb f l)) → (f x ≡ true) × T (memberb x l)
unfolding filterb memberb
picked f x [] t = absurd t
picked f x (y ∷ l) t = go (f y) refl t (picked f x l)
  where
    go : (b : Bool) → f y ≡ b → T (memberb x (elim b [ true ↦ y ∷ filterb f l | false ↦ filterb f l ]))
        → (T (memberb x (filterb f l)) → (f x ≡ true) × T (memberb x l)) → (f x ≡ true) × T (eqb x y || memberb x l)
    go true b u less = ⊎_elim (λ e. (rw (eqb-true x y e) b, rw e tt)) (λ e. ((less (rw e at u)).0, rw e (less (rw e at u)).1))
        (either (eqb x y))
    go false b u less = ((less u).0, rw (is_true (memberb x l) (less u).1, or-true (eqb x y)) tt)

member_below : (x : ℕ) (l : List ℕ) (n : ℕ) → T (allb (λ y. ltb y n) l) → T (memberb x l) → T (ltb x n)
unfolding memberb allb
member_below x [] n s t = absurd t
member_below x (y ∷ l) n s t = go (eqb x y) refl t (member_below x l n (and_right (ltb y n) (allb (λ y. ltb y n) l) s))
  where
    go : (b : Bool) → eqb x y ≡ b → T (b || memberb x l) → (T (memberb x l) → T (ltb x n)) → T (ltb x n)
    go true e u less = rw (eqb-true x y e) (and_left (ltb y n) (allb (λ y. ltb y n) l) s)
    go false e u less = less u

-- The points of a pattern.
below_ten : (d : ℕ) → T (memberb d points) → d < 10
unfolding allb
below_ten d t = ltb→lt d 10 (member_below d points 10 tt t)

pub present_point : (p d : ℕ) → T (memberb d (present p)) → (d < 10) × ((eqb (low d) (high d) || split p (edge_of d)) ≡ true)
unfolding present
present_point p d t = let q = picked (λ d. eqb (low d) (high d) || split p (edge_of d)) d points t in (below_ten d q.1, q.0)

-- Rule 2.3: the digit of an edge's midpoint.
unfoldable pub middle_edge : ℕ → ℕ
middle_edge e = get_or (1 ∷ 2 ∷ 3 ∷ 5 ∷ 6 ∷ 8 ∷ []) e 0

-- the midpoint d is that of the edge edge_of d
middle_test : T (belowb (λ d. impb (not (eqb (low d) (high d))) (eqb (middle_edge (edge_of d)) d && ltb (edge_of d) 6)) 10)
unfolding belowb impb low high edge_of middle_edge
middle_test = tt

pub record MiddleDigit (d : ℕ) : Type 0 where
  pub digit : middle_edge (edge_of d) ≡ d
  pub edge : edge_of d < 6

pub middle_digit : (d : ℕ) → d < 10 → eqb (low d) (high d) ≡ false → MiddleDigit d
middle_digit d h e =
    let w : T (impb (not (eqb (low d) (high d))) (eqb (middle_edge (edge_of d)) d && ltb (edge_of d) 6)) =
    belowb_at (λ d. impb (not (eqb (low d) (high d))) (eqb (middle_edge (edge_of d)) d && ltb (edge_of d) 6)) 10 middle_test d h in
    let v : T (eqb (middle_edge (edge_of d)) d && ltb (edge_of d) 6) =
    impb_use (not (eqb (low d) (high d))) (eqb (middle_edge (edge_of d)) d && ltb (edge_of d) 6) w (rw e tt) in
    record {
      digit = eqb→eq (middle_edge (edge_of d)) d (and_left (eqb (middle_edge (edge_of d)) d) (ltb (edge_of d) 6) v);
      edge = ltb→lt (edge_of d) 6 (and_right (eqb (middle_edge (edge_of d)) d) (ltb (edge_of d) 6) v);
    }

module _ (n : ℕ) (es : List Pair) (c : Cell ℕ) (d : ℕ) where
  pub point_middle : eqb (low d) (high d) ≡ false → d < 10 → point_at n es c d ≡ n + place_in isb es (sorted (edge 0 c (edge_of d)))
  unfolding point_at edge middle_edge
  point_middle e h = rw ((middle_digit d h e).digit, e, point_at)

-- An edge that the status splits is in the list behind it.
edge_number : (e : ℕ) → e < 6 → T (memberb e edge_numbers)
unfolding belowb memberb
edge_number = belowb_at (λ e. memberb e edge_numbers) 6 tt

module _ (es : List Pair) (c : Cell ℕ) (s : ℕ) where
  has_split : (e : ℕ) → e < 6 → split (pattern_of s) e ≡ true → hasb isb (add_pairs es (split_edges 0 c s)) (sorted (edge 0 c e)) ≡ true
  unfolding split_edges
  has_split e h t = has_pairs es (split_edges 0 c s) (sorted (edge 0 c e))
      ∙ rw (has_picked (split (pattern_of s)) (edge 0 c) e t edge_numbers (edge_number e h), or-true)

  point_kept : (n : ℕ) (es' : List Pair) → Extends (add_pairs es (split_edges 0 c s)) es' → (d : ℕ)
      → T (memberb d (present (pattern_of s)))
      → point_at n es' c d ≡ point_at n (add_pairs es (split_edges 0 c s)) c d
  point_kept n es' x d t = ⊎_elim same other (either (eqb (low d) (high d)))
    where
      same : eqb (low d) (high d) ≡ true → point_at n es' c d ≡ point_at n (add_pairs es (split_edges 0 c s)) c d
      same e = point_at_corner n es' c d e ∙ sym (point_at_corner n (add_pairs es (split_edges 0 c s)) c d e)

      other : eqb (low d) (high d) ≡ false → point_at n es' c d ≡ point_at n (add_pairs es (split_edges 0 c s)) c d
      other e =
          let q = present_point (pattern_of s) d t in
          let u : split (pattern_of s) (edge_of d) ≡ true = rw e at q.1 in
          let m = middle_digit d q.0 e in
          point_middle n es' c d e q.0
          ∙ ap (λ (k : ℕ). n + k) (x.place (sorted (edge 0 c (edge_of d))) (has_split (edge_of d) m.edge u))
          ∙ sym (point_middle n (add_pairs es (split_edges 0 c s)) c d e q.0)

-- Rows whose points have the same numbers are the same.
module _ (q : ℕ → Bool) (f g : ℕ → ℕ) (same : (d : ℕ) → T (q d) → f d ≡ g d) where
  map_same : (l : List ℕ) → T (allb q l) → map f l ≡ map g l
  unfolding allb
  map_same [] t = refl
  map_same (d ∷ l) t = ap₂ ◌∷◌ (same d (and_left (q d) (allb q l) t)) (map_same l (and_right (q d) (allb q l) t))

  from_same : (l k : ℕ) (r : Bool) (i : ℕ) (ds : List (List ℕ)) → T (allb (allb q) ds) → child_rows l k r f i ds ≡ child_rows l k r g i ds
  unfolding child_rows allb
  from_same l k r i [] t = refl
  from_same l k r i (d ∷ ds) t = rw (
    map_same d (and_left (allb q d) (allb (allb q) ds) t),
    from_same l k r (suc i) ds
        (and_right (allb q d) (allb (allb q) ds) t),
  )

pub family_has : (p : ℕ) → p < 64 → T (allb (allb (λ d. memberb d (present p))) (family p))
family_has p h = all_each (allb (λ d. memberb d (present p))) [] (family p) (λ k l. (child_at p k h l).present)

pub rows_same : (l k s : ℕ) (f g : ℕ → ℕ) → s ≤ 64 → ((d : ℕ) → T (memberb d (present (pattern_of s))) → f d ≡ g d)
    → rows_of l k s f ≡ rows_of l k s g
unfolding rows_of
rows_same l k s f g h same = ⊎_elim (λ (e : eqb s 0 ≡ true). rw (e, rows_of)) (λ (e : eqb s 0 ≡ false). rw (e, rows_of) more)
    (either (eqb s 0))
  where
    more : child_rows l k (redb s) f 0 (family (pattern_of s)) ≡ child_rows l k (redb s) g 0 (family (pattern_of s))
    more = from_same (λ d. memberb d (present (pattern_of s))) f g same l k (redb s) 0 (family (pattern_of s))
        (family_has (pattern_of s) (pattern_below s h))

module _ (l n : ℕ) (es' : List Pair) where
  pub rows_kept : (es : List Pair) (k : ℕ) (cs : List (Cell ℕ)) (ss : List ℕ) → T (allb (λ s. leb s 64) ss)
      → Extends (ends_from es cs ss) es'
      → rows_all l n es' k cs ss ≡ rows_all l n (ends_from es cs ss) k cs ss
  unfolding rows_all ends_from allb
  rows_kept es k [] ss t x = refl
  rows_kept es k (c ∷ cs) [] t x = refl
  rows_kept es k (c ∷ cs) (s ∷ ss) t x =
      let es₁ = add_pairs es (split_edges 0 c s) in
      let small : s ≤ 64 = leb→le s 64 (and_left (leb s 64) (allb (λ s. leb s 64) ss) t) in
      let y = extends_ends es₁ cs ss in
      ap₂ ◌++◌
      (rows_same l k s (point_at n es' c) (point_at n (ends_from es₁ cs ss) c) small
      (λ d u. point_kept es c s n es' (extends_both es₁ (ends_from es₁ cs ss) es' y x) d u
      ∙ sym (point_kept es c s n (ends_from es₁ cs ss) y d u)))
      (rows_kept es₁ (suc k) cs ss (and_right (leb s 64) (allb (λ s. leb s 64) ss) t) x)

pub splits_few : (c : Cell ℕ) (s : ℕ) → s ≤ 64 → length (split_edges 0 c s) ≤ size_of s
unfolding size_of split_edges
splits_few c s h = ⊎_elim none some (either (eqb s 0))
  where
    none : eqb s 0 ≡ true → length (split_edges 0 c s) ≤ size_of s
    none e = let z : s ≡ 0 = eqb-true s 0 e in rw z (omega arith)

    some : eqb s 0 ≡ false → length (split_edges 0 c s) ≤ size_of s
    some e = rw (e, size_of) (simp length-map (omega (arith, few_splits (pattern_of s) (pattern_below s h))))

-- One cell more.
pub ends_snoc : (es : List Pair) (cs : List (Cell ℕ)) (ss : List ℕ) (c : Cell ℕ) (s : ℕ) → length cs ≡ length ss
    → ends_from es (cs ++ (c ∷ [])) (ss ++ (s ∷ [])) ≡ add_pairs (ends_from es cs ss) (split_edges 0 c s)
unfolding ends_from
ends_snoc es [] [] c s e = refl
ends_snoc es [] (t ∷ ss) c s e = absurd (omega arith)
ends_snoc es (d ∷ cs) [] c s e = absurd (omega arith)
ends_snoc es (d ∷ cs) (t ∷ ss) c s e = ends_snoc (add_pairs es (split_edges 0 d t)) cs ss c s (omega arith)
