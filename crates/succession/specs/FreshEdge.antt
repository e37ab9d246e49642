-- An edge between two points of an old cell that a new red cell one level up has is an edge of the old family.
--   FreshEdge k t d e    a child of the cell t of level k that has it, at the digits d and e
-- Laws: inside_child (a child's number), fresh_edge (the theorem).
use Rattle.std.specs.Prelude.{◌≡◌, ◌≢◌, List, [], ◌∷◌, ◌++◌, ℕ, suc, ◌+◌, ◌<◌, T, length, get_or}
use Rattle.std.proofs.Common.{sym, ◌∙◌, ap, subst, inl, inr, arith}
use Rattle.base.specs.Lists.{sameb}
use Rattle.base.specs.Every.{All}
use Rattle.cutting.specs.Rule.{family}
use Rattle.mesh.specs.Cells.{Cell, pattern_of, edge, heldb, no_cell}
use Rattle.mesh.specs.Weights.{Point, point}
use Rattle.mesh.specs.Table.{soundb}
use Rattle.mesh.specs.Step.{rows_up, edges_up, new_reds}
use Rattle.lattice.specs.Levels.{IfRegular}
use Rattle.lattice.specs.Regular.{Regular}
use Rattle.lattice.specs.Edges.{point_injective}
use Rattle.lineage.specs.Paths.{snoc_inj}
use Rattle.lineage.specs.Same.{row_in}
use Rattle.lineage.specs.Flags.{new_red_regular}
use Rattle.lineage.specs.Met.{old_above, flagged}
use Rattle.carriers.specs.Joins.{SameEnds, ends_of, held_joined, joins_sym}
use Rattle.carriers.specs.Lists.{held_which}
use Rattle.carriers.specs.Child.{child_edge}
use Rattle.carriers.specs.Refined.{asked_small}
use Rattle.families.specs.Children.{low_digit, high_digit, digits_rise, digits_below_lem}
use Rattle.soundness.specs.Held.{closed_at, regular_at}
use Rattle.soundness.specs.Family.{ChildAt, child_points, child_parent, red_child, born_of}
use Rattle.soundness.specs.Turn.{Sharing, sharing}
use Rattle.soundness.specs.Sound.{Sound, sound_from, lv, level_closed, level_next, level_there}
use Rattle.succession.specs.After.{new_edges, WillHave, will}

-- the digits of two points of a regular cell
digits_same : (n k : ℕ) (g : Cell Point) → k < 10 → Regular n k g → (d e a b : ℕ) → d < e → e < 10 → a < b → b < 10
    → SameEnds (point g d, point g e) (point g a, point g b) → (d ≡ a) × (e ≡ b)
digits_same n k g h r d e a b de he ab hb (inl (x, y)) =
    (point_injective n k g r h d a (omega arith) (omega arith) x, point_injective n k g r h e b he hb y)
digits_same n k g h r d e a b de he ab hb (inr (x, y)) =
    let p = point_injective n k g r h d b (omega arith) hb x in
    let q = point_injective n k g r h e a he (omega arith) y in
    absurd (omega arith)

module _ (n : ℕ) (qs : List (List ℕ)) (ss ms : List ℕ) (s : Sound n qs ss) (regular : (i : ℕ)
    → All (IfRegular n i) (lv n qs ss i).cells) where
  abbrev sound : T (soundb n qs ss)
  sound = sound_from n qs ss s

  -- a child's number is one of the family
  pub inside_child : (k t i : ℕ) → t < length (lv n qs ss k).cells → ChildAt (lv n qs ss k) (lv n qs ss (suc k)) t i
      → i < length (family (pattern_of (get_or (lv n qs ss k).statuses t 0)))
  inside_child k t i h w =
      let l = lv n qs ss k in
      let up = lv n qs ss (suc k) in
      let top = level_there n qs ss (suc k) w.u w.below in
      let b = born_of l up (level_next n qs ss k (omega (arith, s.high))) w.u w.below in
      let p : l.first + b.p ≡ l.first + t = sym (ap (λ (c : Cell Point). c.parent) b.is) ∙ child_parent l up t i w in
      let q : b.p ≡ t = omega arith in
      let e : (get_or l.cells b.p no_cell).path ++ (b.i ∷ []) ≡ (get_or l.cells t no_cell).path ++ (i ∷ []) =
      sym (ap (λ (c : Cell Point). c.path) b.is) ∙ ap (λ (c : Cell Point). c.path) w.is in
      let z : b.i ≡ i = (snoc_inj (get_or l.cells b.p no_cell).path (get_or l.cells t no_cell).path b.i i e).1 in
      subst (λ (x : ℕ). i < length (family (pattern_of (get_or l.statuses x 0)))) q
      (subst (λ (x : ℕ). x < length (family (pattern_of (get_or l.statuses b.p 0)))) z b.child)

  -- an edge with two digits of an old cell that a new red cell one level up has: a child of the cell has it at the same digits
  pub record FreshEdge (k t d e : ℕ) : Type 0 where
    pub refined : get_or (lv n qs ss k).statuses t 0 ≢ 0
    pub i : ℕ
    pub child : ChildAt (lv n qs ss k) (lv n qs ss (suc k)) t i
    pub y : ℕ
    pub below : y < 6
    pub low_is : d ≡ low_digit (pattern_of (get_or (lv n qs ss k).statuses t 0)) i y
    pub high_is : e ≡ high_digit (pattern_of (get_or (lv n qs ss k).statuses t 0)) i y
    pub held : T (heldb sameb (new_edges n qs ss ms (suc k)) (edge [] (get_or (lv n qs ss (suc k)).cells child.u no_cell) y))

  pub fresh_edge : (k t : ℕ) → t < length (lv n qs ss k).cells → T (get_or (lv n qs ss k).cells t no_cell).regular → (d e : ℕ) → d < e
      → e < 10
      → T (heldb sameb (new_edges n qs ss ms (suc k)) (
        point (get_or (lv n qs ss k).cells t no_cell) d,
        point
            (get_or (lv n qs ss k).cells t no_cell) e,
      )) → FreshEdge k t d e
  fresh_edge k t ht rt d e de he held =
      let l = lv n qs ss k in
      let up = lv n qs ss (suc k) in
      let g = get_or l.cells t no_cell in
      let w : WillHave n qs ss ms s (suc k) (point g d, point g e) = will n qs ss ms s (suc k) (point g d, point g e) held in
      let top = level_there n qs ss (suc k) w.t w.below in
      let h : k < 10 = omega (arith, s.high) in
      let r = get_or up.cells w.t no_cell in
      let ru : T r.regular =
      new_red_regular (rows_up (old_above n qs ss (suc k)) ms) (edges_up (new_reds (old_above n qs ss (suc k)) ms)) (row_in up ms w.t)
      ((flagged n qs ss ms sound (suc k)).follows w.t w.below) w.red in
      let nx = level_next n qs ss k (omega arith) in
      let cl = level_closed n qs ss s.closed k in
      let (y, hy, js) = held_which [] r sameb (point g d, point g e) w.has in
      let x : Sharing l up t (point g d, point g e) = sharing n k h l up nx cl (regular k) t ht rt d e (omega arith) he (λ z. omega arith) r
      (red_child l up nx w.t w.below ru) y hy js in
      let st = (closed_at l cl t ht).1 in
      let small : pattern_of (get_or l.statuses t 0) < 64 = asked_small _ g (get_or l.statuses t 0) st in
      let c = get_or up.cells x.child.u no_cell in
      let inside = inside_child k t x.i ht x.child in
      let ce = child_edge (pattern_of (get_or l.statuses t 0)) x.i small inside x.y x.below g c
      (child_points l up t x.i x.child) in
      let rise = digits_rise (pattern_of (get_or l.statuses t 0)) x.i small inside x.y x.below in
      let under = digits_below_lem (pattern_of (get_or l.statuses t 0)) x.i small inside x.y x.below in
      let (a, o) = digits_same n k g h (regular_at n k l (regular k) t ht rt) d e (low_digit (pattern_of (get_or l.statuses t 0)) x.i
      x.y) (high_digit (pattern_of (get_or l.statuses t 0)) x.i x.y) de he rise under
      (ends_of (point g d, point g e) (
        point g (low_digit (pattern_of (get_or l.statuses t 0)) x.i x.y),
        point g
            (high_digit (pattern_of (get_or l.statuses t 0)) x.i x.y),
      ) (rw ce at x.joins)) in
      record {
        refined = x.refined;
        i = x.i;
        child = x.child;
        y = x.y;
        below = x.below;
        low_is = a;
        high_is = o;
        held = held_joined (new_edges n qs ss ms (suc k)) (edge [] c x.y) (point g d, point g e)
            (joins_sym (point g d, point g e) (edge [] c x.y) x.joins) held;
      }
