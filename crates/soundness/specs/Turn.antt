-- An old cell that shares an edge, not its own, of a new red cell one level up is a new red cell.
--   Sharing l up t e   the cell t of the level l is refined, and a child of it on the level up has an edge with the ends of e
-- Laws: held_not (an edge that does not stand in a list, by another with its ends), sharing (so is a cell that shares an edge of a
-- red cell's child), turns.
use Rattle.std.specs.Prelude.{◌≡◌, refl, ◌≢◌, Bool, true, false, ℕ, ◌<◌, length}
use mathlib.Core.List.{List, [], ◌∷◌}
use Rattle.std.proofs.Common.{arith}
use Rattle.std.proofs.Math.Dec.{T}
use Rattle.std.proofs.Math.ListN.{get_or}
use Rattle.base.specs.Lists.{sameb}
use Rattle.base.specs.Bools.{is_true, not_both}
use Rattle.mesh.specs.Cells.{Cell, pattern_of, edge, edges, joinsb, heldb, red_edges, no_cell}
use Rattle.mesh.specs.Weights.{Point, point}
use Rattle.mesh.specs.Table.{Level, next, closedb}
use Rattle.mesh.specs.Step.{rows_up, edges_up, new_reds}
use Rattle.base.specs.Every.{All}
use Rattle.lattice.specs.Levels.{IfRegular}
use Rattle.lineage.specs.Same.{row_in}
use Rattle.lineage.specs.Flags.{new_red_at}
use Rattle.carriers.specs.Lists.{held_at}
use Rattle.carriers.specs.Joins.{Edge, joins_sym, joins_trans, held_joined}
use Rattle.families.specs.Children.{low_digit, high_digit, digits_rise, digits_below_lem}
use Rattle.carriers.specs.Child.{digits_joined, child_edge, EdgeAt, edge_child, edge_joins}
use Rattle.carriers.specs.Refined.{asked_small, joined_here, refined_here}
use Rattle.soundness.specs.Held.{red_at_lem, closed_at, closed-length, red_regular, regular_at}
use Rattle.soundness.specs.Reds.{held_up, new_red_by}
use Rattle.soundness.specs.Family.{RedChild, ChildAt, red_child, family_child, child_points, child_parent}

pub held_not : (es : List Edge) (e f : Edge) → T (joinsb sameb e f) → heldb sameb es e ≡ false → heldb sameb es f ≡ false
held_not es e f t n = go (heldb sameb es f) refl
  where
    go : (b : Bool) → heldb sameb es f ≡ b → heldb sameb es f ≡ false
    go true q = not_both (heldb sameb es e) (is_true (heldb sameb es e) (held_joined es e f t (rw q tt))) n
    go false q = q

pub record Sharing (l up : Level) (t : ℕ) (e : Edge) : Type 0 where
  pub refined : get_or l.statuses t 0 ≢ 0
  pub i : ℕ
  pub child : ChildAt l up t i
  pub y : ℕ
  pub below : y < 6
  pub joins : T (joinsb sameb e (edge [] (get_or up.cells child.u no_cell) y))

module _ (n k : ℕ) (h : k < 10) (l up : Level) (next_up : up.cells ≡ next l.first l.cells l.statuses) (closed : T (closedb l))
    (regular : All (IfRegular n k) l.cells) where
  module _ (t : ℕ) (ht : t < length l.cells) (rt : T (get_or l.cells t no_cell).regular) (d e : ℕ) (hd : d < 10) (he : e < 10)
      (ne : d ≡ e → ⊥)
      (c : Cell Point) (w : RedChild l c) (y : ℕ) (hy : y < 6)
      (x : T (joinsb sameb (point (get_or l.cells t no_cell) d, point (get_or l.cells t no_cell) e) (edge [] c y))) where
    pub sharing : Sharing l up t (point (get_or l.cells t no_cell) d, point (get_or l.cells t no_cell) e)
    sharing =
        let g = get_or l.cells t no_cell in
        let p = get_or l.cells w.p no_cell in
        let s = get_or l.statuses t 0 in
        let es = red_edges [] l.cells l.statuses in
        let (known, st) = closed_at l closed t ht in
        let small = asked_small es g s st in
        let reds : (f : Edge) → T (heldb sameb (edges [] p) f) → T (heldb sameb es f) =
        (λ f u. red_at_lem f l.cells l.statuses (record { i = w.p; below = w.below; known = w.known; red = w.red; has = u })) in
        let a = low_digit 63 w.i y in
        let b = high_digit 63 w.i y in
        let up63 : 63 < 64 = omega arith in
        let ab = digits_rise 63 w.i up63 w.inside y hy in
        let hb = digits_below_lem 63 w.i up63 w.inside y hy in
        let x' : T (joinsb sameb (point g d, point g e) (point p a, point p b)) = rw
        (child_edge 63 w.i up63 w.inside y hy p c w.points) at x in
        let rg = regular_at n k l regular t ht rt in
        let rp = regular_at n k l regular w.p w.below (red_regular l closed w.p w.below w.red) in
        let j = digits_joined 63 w.i up63 w.inside y hy in
        let z = refined_here n k g p h rg rp es reds s st rt d e a b hd he (omega arith) hb j x' ne in
        let v : EdgeAt (pattern_of s) d e = edge_child (pattern_of s) d e small
        (joined_here n k g p h rg rp es reds s st rt d e a b hd he (omega arith) hb j x') ne in
        let q : ChildAt l up t v.child = family_child l up next_up t v.child ht known z v.inside in
        record {
          refined = z;
          i = v.child;
          child = q;
          y = v.number;
          below = v.below;
          joins = edge_joins (pattern_of s) d e small v g (get_or up.cells q.u no_cell) (child_points l up t v.child q);
        }

  module _ (closed_up : T (closedb up)) (ms : List ℕ) (ls : List Level) (t : ℕ) (ht : t < length l.cells)
      (rt : T (get_or l.cells t no_cell).regular)
      (u : ℕ) (hu : u < length up.cells) (ru : T (get_or up.cells u no_cell).regular) (new : new_red_at ms ls up u ≡ true) (y : ℕ)
      (hy : y < 6) where
    pub turns : (d e : ℕ) → d < 10 → e < 10 → (d ≡ e → ⊥)
        → T (joinsb sameb (point (get_or l.cells t no_cell) d, point (get_or l.cells t no_cell) e) (edge [] (get_or up.cells u no_cell) y))
        → heldb sameb (edges [] (get_or l.cells t no_cell)) (point (get_or l.cells t no_cell) d, point (get_or l.cells t no_cell) e) ≡ false
        → new_red_at ms (up ∷ ls) l t ≡ true
    unfolding rows_up
    turns d e hd he ne x own =
        let g = get_or l.cells t no_cell in
        let f : Edge = (point g d, point g e) in
        let r = get_or up.cells u no_cell in
        let w : Sharing l up t f = sharing t ht rt d e hd he ne r (red_child l up next_up u hu ru) y hy x in
        let c = get_or up.cells w.child.u no_cell in
        let o : Edge = edge [] c w.y in
        let known = closed-length up closed_up in
        let held : T (heldb sameb (edges_up (new_reds (up ∷ ls) ms)) o) =
        held_up ms ls up known u hu new o (held_at [] r sameb o y hy (joins_trans o f (edge [] r y) (joins_sym f o w.joins) x)) in
        new_red_by up ms known (edges_up (new_reds (up ∷ ls) ms)) (row_in l ms t) w.child.u w.child.below
        (child_parent l up t w.i w.child) w.y w.below held
        w.refined (held_not (edges [] g) f o w.joins own)
