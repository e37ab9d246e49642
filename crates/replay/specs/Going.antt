-- What the functions of a replay hold and leave.
--   ReplayGoing n mesh rows table cells   a sound table of so many cells over an accepted mesh, with the rows of its cells
--   Came ..          tables that have come to a table
--   next_answer ..   one step of flat tables: 7, 8, 9; marks_part its marks
--   Replayed ..      the mesh, and then the steps in turn
use Rattle.std.specs.Prelude.{◌≡◌, List, ◌&&◌, ℕ, ◌-◌, ◌≤◌, T, leb, ℤ, length, take, drop}
use Rattle.base.specs.Fours.{fours}
use Rattle.base.specs.Limits.{most_cells}
use Rattle.base.specs.Refuse.{refuse}
use Rattle.base.specs.Answer.{Answer}
use Rattle.mesh.specs.Coarse.{coarse_corner_count}
use Rattle.mesh.specs.Table.{levels_of, soundb}
use Rattle.advance.specs.Advanced.{Held}
use Rattle.archive.specs.Tables.{steps_of}
use Rattle.replay.specs.Run.{one_answer, run_table, rest_table}

-- Rules 6.1 to 6.4, 9.2: a sound table with its rows.
pub record ReplayGoing (n : ℕ) (mesh rows table : List ℕ) (cells : ℕ) : Type 0 where
  pub held : Held n mesh rows (take cells table)
  pub few : cells ≤ most_cells
  pub room : most_cells ≤ length table

-- Rules 6.1 to 6.4, 9.2: these tables have come to the table t, of so many cells and levels.
pub record Came (n : ℕ) (mesh rows table : List ℕ) (cells levels : ℕ) (t : List ℕ) : Type 0 where
  pub table_is : take cells table ≡ t
  pub going : ReplayGoing n mesh rows table cells
  pub high : length (levels_of n (fours mesh) (take cells table)) ≡ levels

-- Rule 9.7: the marks of one step.
abbrev pub marks_part : ℕ → ℕ → List (ℕ × ℕ) → List (ℕ × ℕ)
marks_part p e ms = take (e - p) (drop p ms)

-- Rule 12.14, of one step.
unfoldable pub next_answer : ℕ → List (List ℕ) → List ℕ → ℕ → ℕ → List (ℕ × ℕ) → Answer
unfolding refuse one_answer
next_answer n qs t p e ms = refuse 7 (leb p e && leb e (length ms)) (one_answer n qs t (marks_part p e ms))

-- Rules 9.7, 10.1: the table that flat tables replay to.
abbrev pub step_ends : List ℤ → List ℕ → List ℕ → List ℕ → List ℕ → List ℕ
step_ends ps ts cs ms es = run_table (coarse_corner_count ps) (fours ts) (rest_table (fours ts)) (steps_of cs ms es)

-- Rule 12.14: the table that the mesh and then the steps in turn come to, of so many cells and levels.
pub record Replayed (ps : List ℤ) (ts cs ms es table : List ℕ) (cells levels : ℕ) : Type 0 where
  pub counted : length (step_ends ps ts cs ms es) ≡ cells
  pub few : cells ≤ most_cells
  pub table_is : take cells table ≡ step_ends ps ts cs ms es
  pub sound : T (soundb (coarse_corner_count ps) (fours ts) (step_ends ps ts cs ms es))
  pub high : length (levels_of (coarse_corner_count ps) (fours ts) (step_ends ps ts cs ms es)) ≡ levels
