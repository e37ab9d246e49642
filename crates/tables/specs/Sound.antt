-- What the examination of a table leaves where the table is sound.
--   table_cells, examined_corners   the cells and corners of a table, by weights
--   Mesh n mesh  an accepted mesh of n corners, as far as it matters here
--   sound_answer ..  the answer to a table: 6 where it is not sound
--   LaidSound ..     the rows, the ends of the new corners, and how many cells, levels and new corners there are
use Rattle.std.specs.Prelude.{◌≡◌, List, ℕ, ◌*◌, ◌%◌, ◌≤◌, ◌<◌, T, length, take}
use Rattle.base.specs.Answer.{Answer, Accepted}
use Rattle.base.specs.Refuse.{refuse}
use Rattle.base.specs.Limits.{most_cells, most_levels}
use Rattle.mesh.specs.Cells.{Cell}
use Rattle.mesh.specs.Weights.{Point}
use Rattle.base.specs.Fours.{fours}
use Rattle.mesh.specs.Coarse.{cellsb}
use Rattle.mesh.specs.Table.{levels_of, cells_of, soundb}
use Rattle.mesh.specs.Layout.{Corner, corners_of, cell_table}
use Rattle.edges.specs.Table.{listed}
use Rattle.numbering.specs.Corners.{NumberedCorners}

-- Rule 4.4.
abbrev pub table_cells : ℕ → List (List ℕ) → List ℕ → List (Cell Point)
table_cells n qs ss = cells_of (levels_of n qs ss)

-- Rule 5.5.
abbrev pub examined_corners : ℕ → List (List ℕ) → List ℕ → List Corner
examined_corners n qs ss = corners_of n (table_cells n qs ss) ss

-- Rules 9.2, 9.3: rows and ends of a sound table.
pub record LaidSound (n : ℕ) (qs : List (List ℕ)) (ss rows ps qs' : List ℕ) (cells levels m : ℕ) : Type 0 where
  pub counted : length (table_cells n qs ss) ≡ cells
  pub high : length (levels_of n qs ss) ≡ levels
  pub few : cells ≤ most_cells
  pub low : levels ≤ most_levels
  pub most : m ≤ cells
  pub table : take (8 * cells) rows ≡ cell_table (examined_corners n qs ss) (table_cells n qs ss)
  pub corners : NumberedCorners n (examined_corners n qs ss) (listed ps qs' 0 m)

-- Rules 1.2, 1.4: an accepted mesh, as far as it matters here.
pub record Mesh (n : ℕ) (mesh : List ℕ) : Type 0 where
  pub whole : length mesh % 4 ≡ 0
  pub few : length mesh ≤ 1024
  pub some : 0 < length mesh
  pub corners : n ≤ 512
  pub cells : T (cellsb n (fours mesh))

-- Rules 6.1 to 6.4, 12.6: the answer to a table, 6 where it is not sound.
abbrev pub sound_answer : ℕ → List (List ℕ) → List ℕ → Answer
sound_answer n qs ss = refuse 6 (soundb n qs ss) Accepted
