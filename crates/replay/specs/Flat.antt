-- The flat tables of a job replay to what the job does.
--   tables_answer_lem j   the same answer
--   tables_table j    the same table
use Rattle.std.specs.Prelude.{◌≡◌, refl, ℕ, ◌+◌, ◌-◌, ◌≤◌}
use Rattle.std.proofs.Math.Path.{sym, ap}
use Rattle.std.proofs.Common.{◌∙◌, length-drop, take_at, drop_at, drop-drop}
use mathlib.Core.List.{List, [], ◌∷◌, flatten}
use native.Mathlib.Omega.{arith}
use Rattle.std.proofs.Math.ListN.{length, take, drop, length-append, length-map}
use borrow.Author.Tests.{le-leb, eq-eqb}
use Rattle.base.specs.Fours.{fours}
use Rattle.base.specs.Refuse.{refuse, and_then}
use Rattle.mesh.specs.Coarse.{coarse_corner_count, mesh_answer}
use Rattle.archive.specs.Job.{Job}
use Rattle.archive.specs.Tables.{Mark, cell_of, mark_of, marked_of, marks_of, ends_after, ends_of, pairs, pairs_back, steps_back}
use Rattle.replay.specs.Run.{one_answer, one_table, run_answer, run_table, rest_table, job_answer, job_table, flat_answer, tables_answer}
use Rattle.replay.specs.Going.{step_ends}

-- what stands behind the first p marks is s, so the steps from there are those of s
module _ (n : ℕ) (qs : List (List ℕ)) (all : List Mark) where
  flat_run : (t : List ℕ) (p : ℕ) (s : List (List Mark)) → p ≤ length all → drop p all ≡ flatten s
      → flat_answer n qs t p all (ends_after p s) ≡ run_answer n qs t s
  unfolding flat_answer run_answer ends_after flatten refuse
  flat_run t p [] l h =
      let d : length all - p ≡ 0 = sym (length-drop p all) ∙ ap length h in
      rw (eq-eqb p (length all) (omega arith))
  flat_run t p (m ∷ s) l h =
      let d : length all - p ≡ length m + length (flatten s) = sym (length-drop p all) ∙ ap length h ∙ length-append m (flatten s) in
      let k : p + length m - p ≡ length m = omega arith in
      let f : take (p + length m - p) (drop p all) ≡ m = rw (k, h) (take_at m (flatten s) (length m) refl) in
      let r : drop (p + length m) all ≡ flatten s = sym (drop-drop (length m) p all) ∙ rw h (drop_at m (flatten s) (length m) refl) in
      rw (le-leb p (p + length m) (omega arith), le-leb (p + length m) (length all) (omega arith), f)
      (ap (and_then (one_answer n qs t m)) (flat_run (one_table n qs t m) (p + length m) s (omega arith) r))

module _ (j : Job) where
  abbrev s : List (List Mark)
  s = j.steps

  lengths : length (marked_of s) ≡ length (marks_of s)
  unfolding marked_of marks_of
  lengths = length-map (flatten s) cell_of ∙ sym (length-map (flatten s) mark_of)

  all_pairs : pairs (marked_of s) (marks_of s) ≡ flatten s
  unfolding marked_of marks_of
  all_pairs = pairs_back (flatten s)

  pub tables_answer_lem : tables_answer j.positions j.cells (marked_of s) (marks_of s) (ends_of s) ≡ job_answer j
  unfolding tables_answer job_answer refuse ends_of
  tables_answer_lem =
      rw (eq-eqb (length (marked_of s)) (length (marks_of s)) lengths, all_pairs)
      (ap (and_then (mesh_answer j.positions j.cells))
      (flat_run (coarse_corner_count j.positions) (fours j.cells) (flatten s) (rest_table (fours j.cells)) 0 s (omega arith) refl))

  pub tables_table : step_ends j.positions j.cells (marked_of s) (marks_of s) (ends_of s) ≡ job_table j
  unfolding job_table
  tables_table = ap (run_table (coarse_corner_count j.positions) (fours j.cells) (rest_table (fours j.cells))) (steps_back s)
