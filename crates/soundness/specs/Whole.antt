-- The cells of a whole table by level and place.
--   RedAt n qs ss j e       a red cell of the level j has the edge e
--   RedSomewhere n qs ss e  a red cell of some level has it
-- Laws: spot_at_lem, spot_with (by level and place, and by number), parent_is (a cell's parent,
-- among all cells), red_level (a red cell that has an edge), coarse_level (coarse cells are regular).
use Rattle.std.specs.Prelude.{◌≡◌, true, ℕ, ◌+◌, ◌<◌, T, get_or}
use Rattle.std.proofs.Common.{sym, ◌∙◌, arith}
use Rattle.std.proofs.Math.Path.{ap}
use mathlib.Core.List.{List, []}
use Rattle.std.proofs.Math.ListN.{length}
use Rattle.base.specs.Lists.{sameb}
use Rattle.mesh.specs.Cells.{Cell, edge, edges, joinsb, heldb, red_edges, no_cell}
use Rattle.mesh.specs.Weights.{Point, coarse_cells}
use Rattle.mesh.specs.Table.{levels_of, cells_of}
use Rattle.mesh.specs.Laws.{length-coarse}
use Rattle.lineage.specs.Paths.{coarse_at}
use Rattle.lineage.specs.Levels.{cells_first}
use Rattle.carriers.specs.Lists.{held_which}
use Rattle.carriers.specs.Joins.{Edge}
use Rattle.soundness.specs.Held.{RedHas, red_which}
use Rattle.soundness.specs.Spots.{Spot, SpotOf, spot, spot_of}
use Rattle.soundness.specs.Apart.{parent_of}
use Rattle.soundness.specs.Sound.{lv}
use Rattle.base.specs.Each.{default_free}

-- Rule 6.2: one of a level.
pub record RedAt (n : ℕ) (qs : List (List ℕ)) (ss : List ℕ) (j : ℕ) (e : Edge) : Type 0 where
  pub u : ℕ
  pub below : u < length (lv n qs ss j).cells
  pub red : get_or (lv n qs ss j).statuses u 0 ≡ 64
  pub y : ℕ
  pub small : y < 6
  pub joins : T (joinsb sameb e (edge [] (get_or (lv n qs ss j).cells u no_cell) y))

-- Rule 6.4: one of any level.
pub record RedSomewhere (n : ℕ) (qs : List (List ℕ)) (ss : List ℕ) (e : Edge) : Type 0 where
  pub j : ℕ
  pub high : j < length (levels_of n qs ss)
  pub at : RedAt n qs ss j e

module _ (n : ℕ) (qs : List (List ℕ)) (ss : List ℕ) where
  pub spot_at_lem : (j p : ℕ) → p < length (lv n qs ss j).cells → Spot (levels_of n qs ss) 0 ss j p
  unfolding levels_of
  spot_at_lem j p h = spot 12 0 (coarse_cells n qs) ss j p h

  pub spot_with : (i : ℕ) → i < length (cells_of (levels_of n qs ss)) → SpotOf (levels_of n qs ss) 0 ss i
  unfolding levels_of
  spot_with i h = spot_of 12 0 (coarse_cells n qs) ss i h

  pub parent_is : (j t : ℕ) → t < length (lv n qs ss j).cells → (c : Cell Point) → c.parent ≡ (lv n qs ss j).first + t
      → parent_of (cells_of (levels_of n qs ss)) ss c ≡ get_or (lv n qs ss j).cells t no_cell
  parent_is j t h c q =
      let cs = cells_of (levels_of n qs ss) in
      let a = spot_at_lem j t h in
      let e : c.parent ≡ a.o + t = q ∙ omega (arith, a.first) in
      ap (λ (k : ℕ). get_or cs k c) e ∙ default_free cs (a.o + t) c no_cell a.inside ∙ a.cell

  pub red_level : (e : Edge) → T (heldb sameb (red_edges [] (cells_of (levels_of n qs ss)) ss) e) → RedSomewhere n qs ss e
  red_level e t =
      let w : RedHas (cells_of (levels_of n qs ss)) ss e = red_which e (cells_of (levels_of n qs ss)) ss t in
      let o = spot_with w.i w.below in
      let c : get_or (cells_of (levels_of n qs ss)) w.i no_cell ≡ get_or (lv n qs ss o.j).cells o.p no_cell = rw o.number at
      o.at.cell in
      let s : get_or ss w.i 0 ≡ get_or (lv n qs ss o.j).statuses o.p 0 = rw o.number at o.at.status in
      let h : T (heldb sameb (edges [] (get_or (lv n qs ss o.j).cells o.p no_cell)) e) = rw c at w.has in
      let (y, hy, js) = held_which [] (get_or (lv n qs ss o.j).cells o.p no_cell) sameb e h in
      record { j = o.j; high = o.high; at = record { u = o.p; below = o.below; red = sym s ∙ w.red; y = y; small = hy; joins = js } }

  pub coarse_level : (p : ℕ) → p < length (lv n qs ss 0).cells → (get_or (lv n qs ss 0).cells p no_cell).regular ≡ true
  unfolding levels_of
  coarse_level p h =
      let e : (lv n qs ss 0).cells ≡ coarse_cells n qs = cells_first 11 0 (coarse_cells n qs) ss in
      ap (λ (cs : List (Cell Point)). (get_or cs p no_cell).regular) e
      ∙ ap (λ (c : Cell Point). c.regular) (coarse_at n qs p (omega (arith, ap length e, length-coarse n qs)))
