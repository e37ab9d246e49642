-- What the work of a step asks for and leaves.
--   Held n mesh rows ss   an accepted mesh of n corners and a sound table over it, with the rows of its cells
--   Advanced ..           the new table, of so many cells
-- Law: held_statuses (the statuses of a held table).
use Rattle.std.specs.Prelude.{◌≡◌, List, ℕ, ◌*◌, ◌≤◌, T, length, take}
use Rattle.base.specs.Bools.{is_true}
use Rattle.base.specs.Fours.{fours}
use Rattle.base.specs.Limits.{most_cells}
use Rattle.mesh.specs.Table.{soundb}
use Rattle.mesh.specs.Layout.{cell_table}
use Rattle.counting.specs.Levels.{Levels}
use Rattle.counting.specs.Sound as counting
use Rattle.tables.specs.Checked.{Statuses}
use Rattle.tables.specs.Sound.{Mesh, table_cells, examined_corners}
use Rattle.mesh.specs.Answers.{new_table}

-- Rules 6.1 to 6.4, 9.2: a sound table over an accepted mesh, with its rows.
pub record Held (n : ℕ) (mesh rows ss : List ℕ) : Type 0 where
  pub accepted : Mesh n mesh
  pub sound : T (soundb n (fours mesh) ss)
  pub table : take (8 * length (table_cells n (fours mesh) ss)) rows ≡ cell_table (examined_corners n (fours mesh) ss)
      (table_cells n (fours mesh) ss)

-- Rules 7.7, 7.8: the new table, of so many cells.
pub record Advanced (n : ℕ) (mesh ss ms table : List ℕ) (cells : ℕ) : Type 0 where
  pub counted : length (new_table n (fours mesh) ss ms) ≡ cells
  pub few : cells ≤ most_cells
  pub table_is : take cells table ≡ new_table n (fours mesh) ss ms
  pub sound : T (soundb n (fours mesh) (new_table n (fours mesh) ss ms))

-- a held table has few statuses, and each fits
pub held_statuses : (n : ℕ) (mesh rows ss : List ℕ) → Held n mesh rows ss → Statuses ss
held_statuses n mesh rows ss h =
    let l : Levels ss (length (fours mesh)) = counting.sound_counted n (fours mesh) ss (is_true (soundb n (fours mesh) ss) h.sound) in
    record { few = l.small; fit = l.statuses }
