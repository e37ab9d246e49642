-- The answers of the call `replay`, and what the lent tables hold after them.
-- Assumes nothing.
use mathlib.Core.Path.{◌≡◌, sym, ◌∙◌, ap}
use mathlib.Core.List.{List, ◌++◌}
use Prim.Native.Nat.{ℕ, ◌*◌, ◌≤◌, ◌<◌}
use lib.ListN.{length, take, drop}
use borrow.Author.Tests.{le-leb, lt-leb}
use Rattle.base.specs.Bools.{is_true}
use Rattle.base.specs.Fours.{fours}
use Rattle.base.specs.Limits.{full_counts, most_cells}
use Rattle.base.specs.Refuse.{refuse}
use Rattle.base.specs.Answer.{Answer, Refused}
use Rattle.mesh.specs.Coarse.{coarse_corner_count}
use Rattle.mesh.specs.Table.{soundb}
use Rattle.counting.specs.Levels.{Levels, level_number, level_counts, counts-length}
use Rattle.counting.specs.Sound.{sound_counted}
use Rattle.counting.specs.Whole.{counts_right}
use Rattle.archive.specs.Job.{Job}
use Rattle.archive.specs.Form.{job_of}
use Rattle.replay.specs.Run.{job_table}
use Rattle.jobs.specs.Calls.{archive_answer, job_counts, replay_answer, Reopened}

module _ (bs table counts : List ℕ) where
  abbrev j : Job
  j = job_of bs

  abbrev answer : Answer
  answer = replay_answer bs table counts

  pub short_table : length table < most_cells → answer ≡ Refused 15
  unfolding replay_answer refuse
  short_table h = rw (lt-leb most_cells (length table) h)

  pub short_counts : most_cells ≤ length table → length counts < full_counts → answer ≡ Refused 15
  unfolding replay_answer refuse
  short_counts g h = rw (le-leb most_cells (length table) g, lt-leb full_counts (length counts) h)

  module _ (g : most_cells ≤ length table) (h : full_counts ≤ length counts) where
    pub long : answer ≡ archive_answer bs
    unfolding replay_answer refuse
    long = rw (le-leb most_cells (length table) g, le-leb full_counts (length counts) h)

  module _ (new : List ℕ) (coarse cells levels : ℕ) (r : Reopened bs new coarse cells levels) where
    pub replay_levels : Levels (take cells new) coarse
    replay_levels =
        rw (r.table_is, ← r.coarse_are)
        (sound_counted (coarse_corner_count j.positions) (fours j.cells) (job_table j)
        (is_true (soundb (coarse_corner_count j.positions) (fours j.cells) (job_table j)) r.sound))

    pub replay_done : (table' counts' : List ℕ) (n : ℕ) → table' ≡ take cells new ++ drop cells table
        → n ≡ level_number 12 0 coarse (take cells new)
        → counts' ≡ level_counts 12 0 coarse (take cells new) ++ drop (4 * n) counts
        → (table' ≡ job_table j ++ drop (length (job_table j)) table) × (counts' ≡ job_counts j ++ drop (length (job_counts j)) counts)
    replay_done table' counts' n e m f =
        let c : level_counts 12 0 coarse (take cells new) ≡ job_counts j =
        rw (r.table_is, ← r.coarse_are) (sym (counts_right (coarse_corner_count j.positions) (fours j.cells) (job_table j))) in
        let l : 4 * n ≡ length (job_counts j) =
        ap (λ (x : ℕ). 4 * x) m ∙ sym (counts-length 12 0 coarse (take cells new)) ∙ ap length c in
        (e ∙ rw (r.table_is, r.counted), f ∙ rw (c, l))
