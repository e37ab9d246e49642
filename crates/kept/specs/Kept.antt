-- The step's statuses from what the old cells keep, by cell numbers of the old table ss over m coarse cells: no new cell is looked at.
--   kept_of es b c          what the cell c keeps: 64 where b says that it will be red, else the pattern of its edges that stand in es
--   kept_levels ls ms       what the cells keep, level by level, where es are the edges of the level's new red cells;
--                          kept_table n qs ss ms of a whole table, in cell order
--   digit_pair p i y        the edge y of the child i of the family p: the digits of its ends as one number
--   held_pairs s ks f       the edges of the old children of a cell that new red cells hold, so; s was its status, f is the number of its
--                          first child, and ks is what the old cells keep
--   fresh_of s ks f         the statuses of the eight children of that cell, which was not red and will be
--   born_by m ss ks t o   the statuses of the children of a cell with new status t and old number o
--   born_next m ss ks ts os   those one level up of cells with new statuses ts and old numbers os
--   write_by m ss ks h ts os   at most h levels of statuses, from those of a level on
use Rattle.std.specs.Prelude.{Bool, get_or}
use Rattle.std.proofs.Math.Bool.{true, false}
use mathlib.Core.List.{List, [], ◌∷◌, ◌++◌, map, flat_map, flatten}
use Prim.Native.Nat.{ℕ, zero, suc, ◌+◌, ◌*◌}
use Rattle.std.proofs.Math.ListN.{replicate}
use Rattle.base.specs.Lists.{memberb, filterb, sameb}
use Rattle.base.specs.Range.{range}
use Rattle.cutting.specs.Rule.{family, low, high, split}
use Rattle.families.specs.Children.{low_digit, high_digit}
use Rattle.mesh.specs.Cells.{Cell, redb, pattern_of, bits_of, pattern}
use Rattle.mesh.specs.Weights.{Point}
use Rattle.mesh.specs.Table.{Level, levels_of, size_of}
use Rattle.mesh.specs.Layout.{edge_numbers}
use Rattle.mesh.specs.Step.{Row, rows, rows_up, edges_up, new_redb, new_reds, red_afterb}
use Rattle.rows.specs.Numbered.{part}
use Rattle.lineage.specs.Olds.{first_child, olds_next}

module _ {A : Type 0} (o : A) (same : A → A → Bool) where
  -- Rules 6.2, 7.7: of a regular cell this is the status after the step, if it stays. Of a green cell's child it tells which of its edges
  -- new red cells hold, for the children of that green cell where it turns red.
  unfoldable pub kept_of : List (A × A) → Bool → Cell A → ℕ
  unfolding pattern
  kept_of es b c = elim b [ true ↦ 64 | false ↦ pattern o same es c ]

-- Rule 7.7, of a level's rows.
unfoldable pub kept_rows : List Level → List ℕ → List (Point × Point) → List Row → List ℕ
unfolding kept_of red_afterb rows_up edges_up new_reds sameb
kept_rows ls ms es rs = map (λ r. kept_of [] sameb es (new_redb (rows_up ls ms) (edges_up (new_reds ls ms)) r) r.cell) rs

-- Rule 7.7, level by level.
unfoldable pub kept_levels : List Level → List ℕ → List (List ℕ)
unfolding kept_rows rows edges_up new_reds
kept_levels [] ms = []
kept_levels (l ∷ ls) ms = kept_rows ls ms (edges_up (new_reds (l ∷ ls) ms)) (rows l ms) ∷ kept_levels ls ms

-- Rule 7.7: what each old cell keeps, by cell number.
unfoldable pub kept_table : ℕ → List (List ℕ) → List ℕ → List ℕ → List ℕ
unfolding kept_levels levels_of
kept_table n qs ss ms = flatten (kept_levels (levels_of n qs ss) ms)

-- Rule 2.3: an edge of a child by its two digits.
abbrev pub digit_pair : ℕ → ℕ → ℕ → ℕ
digit_pair p i y = 10 * low_digit p i y + high_digit p i y

module _ (s : ℕ) (ks : List ℕ) (f : ℕ) where
  -- Rules 6.2, 7.5: the edges that new red cells hold, among those of an old family.
  unfoldable pub held_pairs : List ℕ
  unfolding pattern_of size_of range split filterb flat_map family low high
  held_pairs = flat_map (λ j. map (digit_pair (pattern_of s) j) (filterb (split (get_or ks (f + j) 0)) edge_numbers)) (range 0 (size_of s))

  -- Rules 6.2, 7.7: an edge of a new child that a new red cell holds is an edge of the old family.
  unfoldable pub fresh_of : List ℕ
  unfolding held_pairs bits_of range memberb family low high
  fresh_of = map (λ i. bits_of (map (λ y. memberb (digit_pair 63 i y) held_pairs) edge_numbers)) (range 0 8)

module _ (m : ℕ) (ss ks : List ℕ) where
  -- Rules 4.2, 6.3, 7.7: a family that stays, one that is new, and the leaves of a green cell.
  unfoldable pub born_by : ℕ → ℕ → List ℕ
  unfolding fresh_of first_child size_of
  born_by t o =
      elim (redb t) [
        | true ↦ elim (redb (get_or ss o 0)) [ true ↦ part ks (first_child m ss o) 8 | false ↦ fresh_of (get_or ss o 0) ks (first_child m ss o) ]
        | false ↦ replicate (size_of t) 0
      ]

  -- Rule 3.2: by parent and then by place in the family.
  unfoldable pub born_next : List ℕ → List ℕ → List ℕ
  unfolding born_by
  born_next [] os = []
  born_next (t ∷ ts) [] = []
  born_next (t ∷ ts) (o ∷ os) = born_by t o ++ born_next ts os

  -- Rule 7.7, level after level.
  unfoldable pub write_by : ℕ → List ℕ → List ℕ → List (List ℕ)
  unfolding born_next olds_next
  write_by zero ts os = []
  write_by (suc h) [] os = []
  write_by (suc h) (t ∷ ts) os = (t ∷ ts) ∷ write_by h (born_next (t ∷ ts) os) (olds_next m ss (t ∷ ts) os)
