-- The calls on archives: what each answers, and what the lent tables hold after (docs/METHOD.md, rules 12.13 to 12.16).
--   archive_answer bs     17 where the bytes are not in the form, and then what the job answers
--   job_levels, job_counts j   the levels of the table that a job replays to, and their counts
--   replay_answer ..      15 where a table is too short, and then the same; replay_size its result
--   read_answer ..        reading: 15, and then the same; lengths_of its result
--   write_answer ..       writing the job of flat tables: 15, then the mesh and the steps in turn, and last 17
--   Reopened ..          what replaying an archive leaves
use Rattle.std.specs.Prelude.{◌≡◌, Bool, ◌&&◌, ℕ, ◌/◌, ◌≤◌, T, leb, ℤ, length, take}
use mathlib.Core.List.{List, flatten}
use Rattle.base.specs.Fours.{fours}
use Rattle.base.specs.Refuse.{refuse, and_then}
use Rattle.base.specs.Answer.{Answer, Accepted}
use Rattle.base.specs.Limits.{most_cells, most_bytes, full_counts, full_coarse, full_positions, most_marks}
use Rattle.mesh.specs.Coarse.{coarse_corner_count}
use Rattle.mesh.specs.Table.{Level, levels_of, soundb}
use Rattle.mesh.specs.Counts.{count_table}
use Rattle.archive.specs.Job.{Job, job_bytes}
use Rattle.archive.specs.Form.{formb, job_of}
use Rattle.archive.specs.Stored.{job_from}
use Rattle.replay.specs.Run.{job_answer, job_table, tables_answer}
use Rattle.jobs.specs.declared.Size.{Size}
use Rattle.jobs.specs.declared.Lengths.{Lengths}

-- Rule 12.2: the form first, then the mesh, then the steps in turn.
unfoldable pub archive_answer : List ℕ → Answer
unfolding refuse formb job_answer job_of
archive_answer bs = refuse 17 (formb bs) (job_answer (job_of bs))

-- Rules 4.4, 10.1: the levels of the table that a job replays to.
abbrev pub job_levels : Job → List Level
job_levels j = levels_of (coarse_corner_count j.positions) (fours j.cells) (job_table j)

-- Rule 9.5: and their counts.
abbrev pub job_counts : Job → List ℕ
job_counts j = count_table (job_levels j)

-- Rule 12.15: 15 for 4,096 statuses and four numbers a level, then as the archive.
unfoldable pub replay_answer : List ℕ → List ℕ → List ℕ → Answer
unfolding refuse archive_answer
replay_answer bs table counts = refuse 15 (leb most_cells (length table) && leb full_counts (length counts)) (archive_answer bs)

-- Rule 12.15: how many cells and levels.
abbrev pub replay_size : Job → Size
replay_size j = record { cells = length (job_table j); levels = length (job_levels j) }

-- Rule 9.7: the full lengths; no archive holds more.
unfoldable pub roomb : List ℤ → List ℕ → List ℕ → List ℕ → List ℕ → Bool
roomb ps ts cs ms es =
    leb full_positions (length ps) && (leb full_coarse (length ts)
    && (leb most_marks (length cs) && (leb most_marks (length ms) && leb most_bytes (length es))))

-- Rule 12.13: 15, then as the archive.
unfoldable pub read_answer : List ℕ → List ℤ → List ℕ → List ℕ → List ℕ → List ℕ → Answer
unfolding refuse roomb archive_answer
read_answer bs ps ts cs ms es = refuse 15 (roomb ps ts cs ms es) (archive_answer bs)

-- Rule 12.13: how many corners, cells, marks and steps.
abbrev pub lengths_of : Job → Lengths
lengths_of j =
    record {
      corners = length j.positions / 3;
      cells = length j.cells / 4;
      marks = length (flatten j.steps);
      steps = length
          j.steps;
    }

-- Rule 12.14: 15, the mesh, the steps in turn, and last 17.
unfoldable pub write_answer : List ℤ → List ℕ → List ℕ → List ℕ → List ℕ → List ℕ → Answer
unfolding refuse and_then tables_answer job_bytes
write_answer ps ts cs ms es out =
    refuse 15 (leb most_bytes (length out))
    (and_then (tables_answer ps ts cs ms es) (refuse 17 (leb (length (job_bytes (job_from ps ts cs ms es))) most_bytes) Accepted))

-- Rules 10.1, 12.15: what replaying an archive leaves.
pub record Reopened (bs table : List ℕ) (coarse cells levels : ℕ) : Type 0 where
  pub coarse_are : length (fours (job_of bs).cells) ≡ coarse
  pub counted : length (job_table (job_of bs)) ≡ cells
  pub few : cells ≤ most_cells
  pub table_is : take cells table ≡ job_table (job_of bs)
  pub sound : T (soundb (coarse_corner_count (job_of bs).positions) (fours (job_of bs).cells) (job_table (job_of bs)))
  pub high : length (job_levels (job_of bs)) ≡ levels
