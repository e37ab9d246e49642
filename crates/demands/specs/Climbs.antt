-- The climb to the coarse cell (rule 3.5, change request U5): over the rows that laying out leaves, whatever stands behind them, it gives
-- what the call `ancestor` answers, coarse cell and turns. The turns are the level in the cell's row too; yet the parents alone decide.
--   rows_after ..                the lent table of cells after laying out
--   ClimbsAgree ps ts ss rows   the climbs from all cells of the table agree with the answers and with the levels
-- Law: climbs_agree.
use Rattle.std.specs.Prelude.{◌≡◌, List, ℕ, ◌*◌, ◌≤◌, ◌<◌, ℤ, length, get_or, take, drop}
use Rattle.std.proofs.Common.{sym, ap, arith}
use Rattle.std.proofs.Math.Seq.{take-append_seam}
use Rattle.base.specs.Fours.{fours}
use Rattle.base.specs.Refuse.{passed, held_after}
use Rattle.base.specs.Answer.{Accepted}
use Rattle.mesh.specs.Cells.{none, no_cell}
use Rattle.mesh.specs.Coarse.{coarse_corner_count}
use Rattle.mesh.specs.Layout.{cell_table}
use Rattle.mesh.specs.Answers.{cells_in, corners_in, table_answer}
use Rattle.lattice.specs.Levels.{fours_four}
use Rattle.soundness.specs.Sound.{sound_parts}
use Rattle.conformity.specs.Accepted.{table_parts}
use Rattle.ancestors.specs.Climb.{level_in, parent_in, climb_from, parents_decide}
use Rattle.ancestors.specs.Linked.{ancestor_of}
use Rattle.ancestors.specs.Table.{table_size, table_climb, table_turns}
use Rattle.layout.specs.Calls.{lentb, layout_answer}
use Rattle.queries.specs.Calls.{ancestor_answer}
use Rattle.demands.specs.Takes.{status_there, takes_table}

-- Rules 9.2, 12.7.
abbrev pub rows_after : List ℤ → List ℕ → List ℕ → List ℕ → List ℕ → List ℤ → List ℕ
rows_after ps ts ss table ends sums =
    held_after (layout_answer ps ts ss table ends sums) (cell_table (corners_in ps ts ss) (cells_in ps ts ss)) table

-- Rules 3.5, 12.9.
pub record ClimbsAgree (ps : List ℤ) (ts ss rows : List ℕ) : Type 0 where
  pub answered : (c : ℕ) → c < length ss
      → (ancestor_answer ps ts ss c ≡ Accepted) × (ancestor_of (get_or (cells_in ps ts ss) c no_cell) ≡ climb_from rows c c)
  pub turns : (c : ℕ) → c < length ss → (climb_from rows c c).level ≡ level_in rows c
  -- in a table with the same parents
  pub parents : (t : List ℕ) → ((k : ℕ) → parent_in t k ≡ parent_in rows k) → (c : ℕ) → climb_from t c c ≡ climb_from rows c c

module _ (ps : List ℤ) (ts ss table ends : List ℕ) (sums : List ℤ) (e : layout_answer ps ts ss table ends sums ≡ Accepted) where
  accepted : table_answer ps ts ss ≡ Accepted
  unfolding layout_answer
  accepted = (passed 15 (lentb table ends sums) (table_answer ps ts ss) e).1

  few : length (cells_in ps ts ss) ≤ none
  few = omega (arith, (sound_parts (coarse_corner_count ps) (fours ts) ss (table_parts ps ts ss accepted).1).few)

  there : (c : ℕ) → c < length ss → c < length (cells_in ps ts ss)
  there = status_there ps ts ss accepted

  rows_held : take (8 * length (cells_in ps ts ss)) (rows_after ps ts ss table ends sums) ≡ cell_table (corners_in ps ts ss) (cells_in ps ts ss)
  unfolding held_after
  rows_held =
      let new = cell_table (corners_in ps ts ss) (cells_in ps ts ss) in
      let size = table_size (coarse_corner_count ps) (fours ts) ss (fours_four ts) (corners_in ps ts ss) in
      rw (e, ← size) (take-append_seam new (drop (length new) table))

  pub climbs_agree : ClimbsAgree ps ts ss (rows_after ps ts ss table ends sums)
  climbs_agree =
      let n = coarse_corner_count ps in
      let rows = rows_after ps ts ss table ends sums in
      record {
        answered = λ c h. (
          (takes_table ps ts ss accepted).ancestor c h,
          sym (table_climb n (fours ts) ss (fours_four ts) few (corners_in ps ts ss) rows rows_held c (there c h) no_cell),
        );
        turns = λ c h. table_turns n (fours ts) ss (fours_four ts) few (corners_in ps ts ss) rows rows_held c (there c h);
        parents = λ t same c. parents_decide t rows same c c;
      }
