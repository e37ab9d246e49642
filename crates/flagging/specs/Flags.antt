-- Which cells of an old table will be red and what each cell keeps, over corner numbers: t are the rows of the cells, ss their statuses,
-- ms their marks, and ks the numbers of their first children.
--   kids_of ks k             the numbers of the children of the cell k
--   listedb table            the test whether an edge is listed
--   idleb held j            the cell j is a leaf marked 2, and none of its edges is held by a new red cell of its level
--   touchedb held g j       an edge of the cell j, not of the cell g, is held by a new red cell of its level
--   pulledb held g j        the child j of the green cell g is marked 1 or touched
--   red_atb held k           the cell k will be red, where held tells the edges of the new red cells one level up
--   flags_at held k m        the flags of the m cells from k on
--   reds_up h first last     the edges of the new red cells of the level from first to last, where h levels are looked at
--   kepts_at held es k m     what the m cells from k on keep, where es are the edges of the new red cells of their level
--   closed_at es t f c, closed_over es t fs k m   the same from flags, where the edges es are listed
--   kept_up h first last     what the cells of h levels from this one on keep
--   high_up h first last     a cell of the highest of these h levels will be red
use Rattle.std.specs.Prelude.{Bool, ◌&&◌, ◌||◌, get_or}
use Rattle.std.proofs.Math.Bool.{true, false, not}
use mathlib.Core.List.{List, [], ◌++◌, map}
use Prim.Native.Nat.{ℕ, zero, suc, ◌-◌}
use Rattle.std.proofs.Math.Dec.{eqb}
use Rattle.base.specs.Lists.{allb, anyb}
use Rattle.base.specs.Places.{hasb}
use Rattle.mesh.specs.Cells.{redb, edges, heldb, red_edges}
use Rattle.edges.specs.Pairs.{Pair, sorted, isb}
use Rattle.pairs.specs.declared.PairTable.{PairTable}
use Rattle.edges.specs.Table.{entries}
use Rattle.closure.specs.Listed.{listed_pattern}
use Rattle.rows.specs.Numbered.{cell_at, cells_at}
use Rattle.lineage.specs.Olds.{flag_of}
use Rattle.kept.specs.Kept.{kept_of}
use Rattle.base.specs.Range.{range}

-- Rule 3.2: the children of a cell, by number.
unfoldable pub kids_of : List ℕ → ℕ → List ℕ
unfolding range
kids_of ks k = range (get_or ks k 0) (get_or ks (suc k) 0 - get_or ks k 0)

abbrev pub listedb : {N H : ℕ} → PairTable N H → Pair → Bool
listedb table e = hasb isb (entries table) (sorted e)

-- Rule 7.3, at one child.
unfoldable pub idleb : List ℕ → List ℕ → List ℕ → (Pair → Bool) → ℕ → Bool
unfolding allb edges cell_at
idleb t ss ms held j = (eqb (get_or ss j 0) 0 && eqb (get_or ms j 0) 2) && allb (λ e. not (held e)) (edges 0 (cell_at t j))

-- Rule 7.5: an edge of the child, not of its parent, is held.
unfoldable pub touchedb : List ℕ → (Pair → Bool) → ℕ → ℕ → Bool
unfolding anyb heldb edges cell_at
touchedb t held g j = anyb (λ e. not (heldb eqb (edges 0 (cell_at t g)) e) && held e) (edges 0 (cell_at t j))

-- Rule 7.5, at one child.
unfoldable pub pulledb : List ℕ → List ℕ → (Pair → Bool) → ℕ → ℕ → Bool
unfolding touchedb
pulledb t ms held g j = eqb (get_or ms j 0) 1 || touchedb t held g j

-- Rules 6.2, 7.7: what a cell with this flag keeps, where the edges of its level's new red cells are listed.
unfoldable pub closed_at : List Pair → List ℕ → ℕ → ℕ → ℕ
unfolding listed_pattern cell_at
closed_at es t f c = elim (redb f) [ true ↦ 64 | false ↦ listed_pattern es (cell_at t c) ]

-- the same of the m cells from k on, whose flags are fs
unfoldable pub closed_over : List Pair → List ℕ → List ℕ → ℕ → ℕ → List ℕ
unfolding closed_at range
closed_over es t fs k m = map (λ c. closed_at es t (get_or fs c 0) c) (range k m)

module _ (t ss ms ks : List ℕ) where
  -- Rules 7.3 to 7.6, over rows.
  unfoldable pub red_atb : (Pair → Bool) → ℕ → Bool
  unfolding idleb pulledb kids_of allb anyb cell_at
  red_atb held k =
      elim (redb (get_or ss k 0)) [
        | true ↦ not (allb (idleb t ss ms held) (kids_of ks k))
        | false ↦ elim (eqb (get_or ss k 0) 0) [
          | true ↦ (cell_at t k).regular && eqb (get_or ms k 0) 1
          | false ↦ anyb (pulledb t ms held k) (kids_of ks k)
        ]
      ]

  -- Rule 7.2: the flags of some cells of a level.
  unfoldable pub flags_at : (Pair → Bool) → ℕ → ℕ → List ℕ
  unfolding red_atb range flag_of
  flags_at held k m = map (λ k. flag_of (red_atb held k)) (range k m)

  -- Rule 7.2: the edges of the new red cells of a level.
  unfoldable pub reds_up : ℕ → ℕ → ℕ → List Pair
  unfolding flags_at red_edges cells_at heldb
  reds_up zero first last = []
  reds_up (suc h) first last =
      red_edges 0 (cells_at t first (last - first)) (flags_at (heldb eqb (reds_up h last (get_or ks last 0))) first (last - first))

  -- Rules 6.2, 7.7: what some cells of a level keep.
  unfoldable pub kepts_at : (Pair → Bool) → List Pair → ℕ → ℕ → List ℕ
  unfolding red_atb range kept_of cell_at
  kepts_at held es k m = map (λ k. kept_of 0 eqb es (red_atb held k) (cell_at t k)) (range k m)

  -- Rules 6.2, 7.7: what the cells keep, from this level up.
  unfoldable pub kept_up : ℕ → ℕ → ℕ → List ℕ
  unfolding kepts_at reds_up heldb
  kept_up zero first last = []
  kept_up (suc h) first last =
      kepts_at (heldb eqb (reds_up h last (get_or ks last 0))) (reds_up (suc h) first last) first (last - first)
      ++ kept_up h last (get_or ks last 0)

  -- Rule 7.8: on the highest level that is looked at, a cell will be red.
  unfoldable pub high_up : ℕ → ℕ → ℕ → Bool
  unfolding flags_at reds_up heldb anyb
  high_up zero first last = false
  high_up (suc zero) first last = anyb redb (flags_at (heldb eqb (reds_up 0 last (get_or ks last 0))) first (last - first))
  high_up (suc (suc h)) first last = high_up (suc h) last (get_or ks last 0)
