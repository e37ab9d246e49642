-- What the call asks for and leaves.
--   Marked ..       a sound table over an accepted mesh of n corners with its rows, and marks
--   Kept ..         what each cell keeps is written; whether a cell of level 10 will be red
--   Unkept ..       why it is refused: there is no room for six edges of each cell that will be red; 8 where one is on level 10, else 9
use Rattle.std.specs.Prelude.{◌≡◌, Bool, List, [], ◌++◌, ℕ, suc, ◌*◌, ◌≤◌, ◌<◌, T, length, get_or, take, drop}
use Rattle.base.specs.declared.Refusal.{Refusal}
use Rattle.base.specs.Fours.{fours}
use Rattle.base.specs.Lists.{anyb, filterb}
use Rattle.mesh.specs.Cells.{redb}
use Rattle.mesh.specs.Table.{soundb, levels_of}
use Rattle.mesh.specs.Layout.{cell_table}
use Rattle.tables.specs.Sound.{Mesh, table_cells, examined_corners}
use Rattle.lineage.specs.Firsts.{first_children}
use Rattle.kept.specs.Kept.{kept_table}
use Rattle.lineage.specs.Olds.{flags}
use Rattle.flagging.specs.Old.{limit_of}

-- Rules 6.1 to 6.4, 7.1: a sound table with its rows, and one mark for each cell.
pub record Marked (n : ℕ) (mesh rows ss ms ks kept : List ℕ) : Type 0 where
  pub accepted : Mesh n mesh
  pub sound : T (soundb n (fours mesh) ss)
  pub table : take (8 * length (table_cells n (fours mesh) ss)) rows ≡ cell_table (examined_corners n (fours mesh) ss)
      (table_cells n (fours mesh) ss)
  pub marks : length ms ≡ length ss
  pub firsts : take (suc (length ss)) ks ≡ first_children (length (fours mesh)) ss
  pub room : length ss ≤ length kept

-- Rules 7.2, 7.7, 7.8: what the cells of the table ss keep is written, and whether one of level 10 will be red.
pub record Kept (n : ℕ) (qs : List (List ℕ)) (ss ms kept kept' : List ℕ) (high : Bool) : Type 0 where
  pub table : kept' ≡ kept_table n qs ss ms ++ drop (length ss) kept
  pub top : high ≡ anyb redb (get_or (flags (levels_of n qs ss) ms) 10 [])

-- Rules 7.8, 12.1: why it is refused, in so much room.
pub record Unkept (n : ℕ) (qs : List (List ℕ)) (ss ms : List ℕ) (room : ℕ) (r : Refusal) : Type 0 where
  pub limit : r ≡ limit_of (anyb redb (get_or (flags (levels_of n qs ss) ms) 10 []))
  pub many : room < 6 * length (filterb redb (kept_table n qs ss ms))
