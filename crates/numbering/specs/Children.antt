-- The cells one level up, over numbers and over weights: each point of a child is a corner of the cell or the midpoint of a
-- split edge, and the program finds its number by its corner or by its pair.
--   Numbered n ks ks' es c d   the point d of c is among the corners ks', and `point_at` gives its number
-- Laws: numbered_present (so for the present points), next_placed, next_numbers (so for the next level).
use Rattle.std.specs.Prelude.{◌≡◌, Bool, ◌&&◌, ◌||◌, ℕ, suc, ◌+◌, ◌<◌, T, ltb}
use Rattle.std.proofs.Math.Path.{refl, sym, ap, ap₂}
use Rattle.std.proofs.Common.{◌∙◌, eqb→eq, ltb→lt}
use Rattle.std.proofs.Math.Bool.{true, false}
use mathlib.Core.List.{List, [], ◌∷◌, ◌++◌, map-append}
use native.Mathlib.Omega.{arith}
use Rattle.std.proofs.Math.Dec.{eqb}
use Rattle.std.proofs.Math.ListN.{length-map}
use borrow.Author.Tests.{eqb-true, eqb-false}
use Rattle.base.specs.Lists.{belowb, memberb, belowb_at}
use Rattle.base.specs.Bools.{and_left, and_right}
use Rattle.base.specs.Places.{place_in}
use Rattle.cutting.specs.Rule.{low, high, points, edge_of, split, present, family}
use Rattle.families.specs.Facts.{ChildFacts, child_at}
use Rattle.mesh.specs.Cells.{Cell, corner, edge, redb, pattern_of, children_from, children}
use Rattle.mesh.specs.Weights.{Point, mid, point}
use Rattle.mesh.specs.Table.{next}
use Rattle.mesh.specs.Layout.{Corner, number_in, map_cell, split_edges, edge_numbers}
use Rattle.edges.specs.Pairs.{Pair, isb, sorted}
use Rattle.rows.specs.Numbered.{point_at, next_of}
use Rattle.rows.specs.Laws.{point_at_corner}
use Rattle.base.specs.Every.{All, all_more, all_append, all_from, all_of, below_at}
use Rattle.families.specs.Kuhn.{digit_ends}
use Rattle.families.specs.Children.{middle}
use Rattle.lattice.specs.Regular.{Regular}
use Rattle.lattice.specs.Levels.{IfRegular}
use Rattle.base.specs.Each.{all_mapped, all_unmapped, map_more, all_filter, filter_passes, filter_member, member_of}
use Rattle.numbering.specs.Ends.{Splittable, edge_splittable}
use Rattle.numbering.specs.Corners.{Has, Kept, NumberedCorners, kept_has, kept_number}
use Rattle.numbering.specs.Midpoints.{number_midpoint}
use Rattle.numbering.specs.Renamed.{corner_in, corner-map, split_numbers}
use Rattle.numbering.specs.Tests.{numbered_cells, Placed}
use Rattle.numbering.specs.Refined.{Both, Follows, Refined}
use Rattle.numbering.specs.Levels.{SplitIn}
use Rattle.mesh.specs.Laws.{mid_self, pattern_below}

-- The digits of present points: corners, and midpoints of split edges.
middle_test : T (belowb (λ d. eqb (low d) (high d) || (ltb (edge_of d) 6 && eqb (middle (edge_of d)) d)) 10)
unfolding belowb low high edge_of
middle_test = tt

middle_named : (d : ℕ) → d < 10 → eqb (low d) (high d) ≡ false → (edge_of d < 6) × (middle (edge_of d) ≡ d)
middle_named d h e =
    let t : T (ltb (edge_of d) 6 && eqb (middle (edge_of d)) d) = rw e at
    (belowb_at (λ d. eqb (low d) (high d) || (ltb (edge_of d) 6 && eqb (middle (edge_of d)) d)) 10 middle_test d h) in (
      ltb→lt (edge_of d) 6 (and_left (ltb (edge_of d) 6) (eqb (middle (edge_of d)) d) t),
      eqb→eq (middle (edge_of d)) d
          (and_right (ltb (edge_of d) 6) (eqb (middle (edge_of d)) d) t),
    )

edge_named : (c : Cell Point) (d : ℕ) → middle (edge_of d) ≡ d → edge [] c (edge_of d) ≡ (corner [] c (low d), corner [] c (high d))
unfolding edge
edge_named c d m = ap (λ (d : ℕ). (corner [] c (low d), corner [] c (high d))) m

abbrev presentb : ℕ → ℕ → Bool
presentb p d = eqb (low d) (high d) || split p (edge_of d)

present_digit : (p d : ℕ) → T (memberb d (present p)) → (d < 10) × (presentb p d ≡ true)
unfolding present
present_digit p d t = (
  member_of (λ d. d < 10) d (present p) (all_filter (presentb p) (λ d. d < 10) points (omega arith)) t,
  member_of (λ d. presentb p d ≡ true) d (present p) (filter_passes (presentb p) points) t,
)

split_has : (ks : List Corner) (c : Cell Point) (s : ℕ) → SplitIn ks c s → (e : ℕ) → e < 6 → split (pattern_of s) e ≡ true
    → Has ks (mid (edge [] c e).0 (edge [] c e).1)
unfolding split_edges memberb
split_has ks c s a e h t =
    member_of (λ e. Has ks (mid (edge [] c e).0 (edge [] c e).1)) e (split_numbers s)
    (all_unmapped (λ (e : Point × Point). Has ks (mid e.0 e.1)) (edge [] c) (split_numbers s) a)
    (filter_member (split (pattern_of s)) e edge_numbers (below_at (λ e. T (memberb e edge_numbers)) 6 ((((((tt, tt), tt), tt), tt), tt), tt) e
    h) t)

-- The point of a digit.
record Numbered (n : ℕ) (ks ks' : List Corner) (es : List Pair) (c : Cell Point) (d : ℕ) : Type 0 where
  has : Has ks' (point c d)
  number : point_at n es (map_cell (number_in ks) c) d ≡ number_in ks' (point c d)

module _ (n : ℕ) (es : List Pair) (c : Cell ℕ) (d : ℕ) where
  point_at_middle : eqb (low d) (high d) ≡ false → point_at n es c d ≡ n + place_in isb es (sorted (corner 0 c (low d), corner 0 c (high d)))
  unfolding point_at
  point_at_middle t = rw (t, point_at)

module _ (n k : ℕ) (h : k < 10) (ks ks' : List Corner) (es : List Pair) (w : NumberedCorners n ks' es) (kept : Kept ks ks')
    (c : Cell Point) (p : Placed ks c) (r : Regular n k c) (s : ℕ) (a : SplitIn ks' c s) where
  corner_has : (i : ℕ) → i < 4 → Has ks (corner [] c i)
  corner_has = corner_in [] 0 (number_in ks) (Has ks) c p

  corner_number : (i : ℕ) → i < 4 → corner 0 (map_cell (number_in ks) c) i ≡ number_in ks' (corner [] c i)
  corner_number i l = corner-map [] 0 (number_in ks) (Has ks) c p i l ∙ sym (kept_number ks ks' kept (corner [] c i) (corner_has i l))

  numbered_corner : (d : ℕ) → d < 10 → eqb (low d) (high d) ≡ true → Numbered n ks ks' es c d
  unfolding point
  numbered_corner d l t =
      let (x, y) = digit_ends d l in
      let e : low d ≡ high d = eqb-true (low d) (high d) t in
      let q : point c d ≡ corner [] c (low d) = rw (← e) (mid_self (corner [] c (low d))) in
      record {
        has = rw q (kept_has ks ks' kept (corner [] c (low d)) (corner_has (low d) (omega arith)));
        number = point_at_corner n es (map_cell (number_in ks) c) d t ∙ corner_number (low d) (omega arith) ∙ ap (number_in ks') (sym q);
      }

  numbered_middle : (d : ℕ) → d < 10 → eqb (low d) (high d) ≡ false → split (pattern_of s) (edge_of d) ≡ true → Numbered n ks ks' es c d
  unfolding point
  numbered_middle d l t u =
      let (x, y) = digit_ends d l in
      let (z, m) = middle_named d l t in
      let x4 : low d < 4 = omega arith in
      let q₀ = corner [] c (low d) in
      let q₁ = corner [] c (high d) in
      let e : edge [] c (edge_of d) ≡ (q₀, q₁) = edge_named c d m in
      let v : Has ks' (mid q₀ q₁) = rw e at (split_has ks' c s a (edge_of d) z u) in
      let b : Splittable n q₀ q₁ = rw e at (edge_splittable n k c h r (edge_of d) z) in
      record {
        has = v;
        number =
            point_at_middle n es (map_cell (number_in ks) c) d t
            ∙ ap₂ (λ (i j : ℕ). n + place_in isb es (sorted (i, j))) (corner_number (low d) x4) (corner_number (high d) y)
            ∙ sym (number_midpoint n ks' es w q₀ q₁ b (kept_has ks ks' kept q₀ (corner_has (low d) x4))
            (kept_has ks ks' kept q₁ (corner_has (high d) y)) v);
      }

  numbered_present : (d : ℕ) → T (memberb d (present (pattern_of s))) → Numbered n ks ks' es c d
  numbered_present d t = let (l, u) = present_digit (pattern_of s) d t in go l (eqb (low d) (high d)) refl u
    where
      go : d < 10 → (b : Bool) → eqb (low d) (high d) ≡ b → (b || split (pattern_of s) (edge_of d)) ≡ true → Numbered n ks ks' es c d
      go l true e u = numbered_corner d l e
      go l false e u = numbered_middle d l e u

family_children : (p : ℕ) → p < 64 → All (ChildFacts p) (family p)
family_children p h = all_from (ChildFacts p) [] (family p) (λ k l. child_at p k h l)

module _ (n k : ℕ) (h : k < 10) (ks ks' : List Corner) (es : List Pair) (w : NumberedCorners n ks' es) (kept : Kept ks ks') where
  -- One family.
  module _ (c : Cell Point) (p : Placed ks c) (s : ℕ) (a : SplitIn ks' c s) where
    module _ (r : Regular n k c) where
      child_numbered : (d : List ℕ) → ChildFacts (pattern_of s) d → All (Numbered n ks ks' es c) d
      child_numbered d f = all_of (Numbered n ks ks' es c) (λ x. memberb x (present (pattern_of s)))
          (numbered_present n k h ks ks' es w kept c p r s a) d f.present

      family_placed : (j i : ℕ) (b : Bool) (ds : List (List ℕ)) → All (ChildFacts (pattern_of s)) ds
          → All (Placed ks') (children_from j c b (point c) i ds)
      unfolding children_from
      family_placed j i b [] f = tt
      family_placed j i b (d ∷ ds) f = (
        record {
          four = length-map d (point c) ∙ f.0.four;
          each = all_mapped (Has ks') (point c) d
              (all_more (Numbered n ks ks' es c) (λ x. Has ks' (point c x)) (λ x m. m.has) d (child_numbered d f.0));
        },
        family_placed j (suc i) b ds f.1,
      )

      family_numbers : (j i : ℕ) (b : Bool) (ds : List (List ℕ)) → All (ChildFacts (pattern_of s)) ds
          → children_from j (map_cell (number_in ks) c) b (point_at n es (map_cell (number_in ks) c)) i ds ≡ numbered_cells ks'
          (children_from j c b (point c) i ds)
      unfolding children_from map_cell
      family_numbers j i b [] f = refl
      family_numbers j i b (d ∷ ds) f =
          ap₂ ◌∷◌
          (ap {A = List ℕ} {B = Cell ℕ} (λ l. record { path = c.path ++ (i ∷ []); parent = j; regular = b; points = l })
          (map_more (point c) (number_in ks') (point_at n es (map_cell (number_in ks) c)) d
          (all_more (Numbered n ks ks' es c) (λ x. point_at n es (map_cell (number_in ks) c) x ≡ number_in ks' (point c x)) (λ x m. m.number) d
          (child_numbered d f.0))))
          (family_numbers j (suc i) b ds f.1)

    module _ (r : IfRegular n k c) (f : Follows c s) where
      children_placed : (j : ℕ) → All (Placed ks') (children j c s (point c))
      unfolding children
      children_placed j = go (eqb s 0) refl
        where
          go : (z : Bool) → eqb s 0 ≡ z → All (Placed ks') (children j c s (point c))
          go true e = rw (e, children) tt
          go false e = rw (e, children) (family_placed (r (f.regular (eqb-false s 0 e))) j 0 (redb s) (family (pattern_of s))
              (family_children (pattern_of s) (pattern_below s f.small)))

      children_numbers : (j : ℕ) → children j (map_cell (number_in ks) c) s (point_at n es (map_cell (number_in ks) c)) ≡ numbered_cells ks'
          (children j c s (point c))
      unfolding children
      children_numbers j = go (eqb s 0) refl
        where
          go : (z : Bool) → eqb s 0 ≡ z → children j (map_cell (number_in ks) c) s (point_at n es (map_cell (number_in ks) c)) ≡ numbered_cells
              ks' (children j c s (point c))
          go true e = rw (e, children) refl
          go false e = rw (e, children) (family_numbers (r (f.regular (eqb-false s 0 e))) j 0 (redb s) (family (pattern_of s))
              (family_children (pattern_of s) (pattern_below s f.small)))

  -- The families of a level.
  pub next_placed : (j : ℕ) (cs : List (Cell Point)) (ss : List ℕ) → All (Placed ks) cs → All (IfRegular n k) cs → Refined cs ss
      → Both (SplitIn ks') cs ss
      → All (Placed ks') (next j cs ss)
  unfolding next
  next_placed j [] ss p r f a = tt
  next_placed j (c ∷ cs) [] p r f a = tt
  next_placed j (c ∷ cs) (s ∷ ss) p r f a =
      all_append (Placed ks') (children j c s (point c)) (next (suc j) cs ss) (children_placed c p.0 s a.0 r.0 f.0 j)
      (next_placed (suc j) cs ss p.1 r.1 f.1 a.1)

  pub next_numbers : (j : ℕ) (cs : List (Cell Point)) (ss : List ℕ) → All (Placed ks) cs → All (IfRegular n k) cs → Refined cs ss
      → Both (SplitIn ks') cs ss
      → next_of n es j (numbered_cells ks cs) ss ≡ numbered_cells ks' (next j cs ss)
  unfolding next next_of
  next_numbers j [] ss p r f a = refl
  next_numbers j (c ∷ cs) [] p r f a = refl
  next_numbers j (c ∷ cs) (s ∷ ss) p r f a =
      ap₂ ◌++◌ (children_numbers c p.0 s a.0 r.0 f.0 j) (next_numbers (suc j) cs ss p.1 r.1 f.1 a.1)
      ∙ sym (map-append (map_cell (number_in ks')) (children j c s (point c)) (next (suc j) cs ss))
