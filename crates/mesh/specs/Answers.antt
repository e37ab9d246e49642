-- What a mesh with its table, and a step of it, are answered, lent tables aside. A mesh is ps and ts, a table ss.
--   levels_in, cells_in, corners_in ps ts ss    the table's levels, its cells and their corners
--   table_answer ps ts ss    a mesh and a table: accepted, or 1 to 6
--   markb s m               the mark m may stand at a cell with status s
--   marksb ss ms            refusal 7: the marks fit the table
--   new_table n qs ss ms     the new table, without the limits
--   limits_answer ..         8 where a level above 10 would arise, 9 where more than 4,096 cells would
--   marked_answer ..         a step: 1 to 9
use mathlib.Core.List.{List, [], ◌∷◌, flatten}
use Rattle.std.specs.Prelude.{ℕ, ℤ, Bool, true, false, ◌&&◌, ◌||◌, eqb, leb, length}
use Rattle.base.specs.Fours.{fours}
use Rattle.base.specs.Refuse.{refuse, and_then}
use Rattle.base.specs.Answer.{Answer}
use Rattle.base.specs.Answer.{Accepted}
use Rattle.base.specs.Limits.{most_levels, most_cells}
use Rattle.mesh.specs.Coarse.{coarse_corner_count, mesh_answer}
use Rattle.mesh.specs.Cells.{Cell}
use Rattle.mesh.specs.Weights.{Point}
use Rattle.mesh.specs.Table.{Level, levels_of, cells_of, soundb}
use Rattle.mesh.specs.Layout.{Corner, corners_of}
use Rattle.mesh.specs.Step.{step_table}

-- Rule 4.4.
abbrev pub levels_in : List ℤ → List ℕ → List ℕ → List Level
levels_in ps ts ss = levels_of (coarse_corner_count ps) (fours ts) ss

-- Rule 4.4.
abbrev pub cells_in : List ℤ → List ℕ → List ℕ → List (Cell Point)
cells_in ps ts ss = cells_of (levels_in ps ts ss)

-- Rule 5.5.
abbrev pub corners_in : List ℤ → List ℕ → List ℕ → List Corner
corners_in ps ts ss = corners_of (coarse_corner_count ps) (cells_in ps ts ss) ss

-- Rule 12.6: the mesh, then 6 where the table is not sound.
unfoldable pub table_answer : List ℤ → List ℕ → List ℕ → Answer
unfolding and_then mesh_answer refuse soundb
table_answer ps ts ss = and_then (mesh_answer ps ts) (refuse 6 (soundb (coarse_corner_count ps) (fours ts) ss) Accepted)

-- Rule 7.1: at most 2, and 0 on a refined cell.
unfoldable pub markb : ℕ → ℕ → Bool
markb s m = leb m 2 && (eqb s 0 || eqb m 0)

-- Rule 7.1: one mark for each cell, each allowed there.
unfoldable pub marksb : List ℕ → List ℕ → Bool
unfolding markb
marksb [] [] = true
marksb [] (m ∷ ms) = false
marksb (s ∷ ss) [] = false
marksb (s ∷ ss) (m ∷ ms) = markb s m && marksb ss ms

-- Rules 7.7, 9.6: the new statuses by cell number, whatever the limits.
abbrev pub new_table : ℕ → List (List ℕ) → List ℕ → List ℕ → List ℕ
new_table n qs ss ms = flatten (step_table n qs ss ms)

-- Rule 7.8: 8 for a level too many, then 9 for too many cells.
unfoldable pub limits_answer : ℕ → List (List ℕ) → List ℕ → List ℕ → Answer
unfolding refuse step_table
limits_answer n qs ss ms = refuse 8 (leb (length (step_table n qs ss ms)) most_levels)
    (refuse 9 (leb (length (new_table n qs ss ms)) most_cells) Accepted)

-- Rule 12.11, its 15 aside.
unfoldable pub marked_answer : List ℤ → List ℕ → List ℕ → List ℕ → Answer
unfolding refuse and_then table_answer marksb limits_answer
marked_answer ps ts ss ms = and_then (table_answer ps ts ss) (refuse 7 (marksb ss ms) (limits_answer (coarse_corner_count ps) (fours ts) ss ms))
