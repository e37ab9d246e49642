-- What a step or a job leaves is accepted again (Rule 13.3), so its leaves meet face to face (Rules 13.1, 13.2).
-- Laws: sound_accepted (a sound table over an accepted mesh), step_again, job_again, archive_again.
use Rattle.std.specs.Prelude.{◌≡◌, List, ℕ, T, leb, ℤ, length}
use Rattle.base.specs.Bools.{is_true}
use Rattle.base.specs.Fours.{fours}
use Rattle.base.specs.Limits.{most_cells}
use Rattle.base.specs.Refuse.{refuse, and_then, passed, both}
use Rattle.base.specs.Answer.{Accepted}
use Rattle.mesh.specs.Coarse.{coarse_corner_count, mesh_answer}
use Rattle.mesh.specs.Table.{soundb}
use Rattle.mesh.specs.Answers.{table_answer, marksb, new_table, limits_answer, marked_answer}
use Rattle.lattice.specs.Levels.{fours_four}
use Rattle.soundness.specs.Steady.{step_sound}
use Rattle.conformity.specs.Accepted.{mesh_parts, table_parts}
use Rattle.step.specs.Calls.{step_answer}
use Rattle.archive.specs.Job.{Job}
use Rattle.archive.specs.Form.{job_of}
use Rattle.replay.specs.Accepted.{limits_within}
use Rattle.replay.specs.Run.{job_answer, job_table}
use Rattle.jobs.specs.Calls.{archive_answer}
use Rattle.jobs.specs.Sound.{job_parts, job_sound, archive_job}

sound_accepted : (ps : List ℤ) (ts ss : List ℕ) → mesh_answer ps ts ≡ Accepted → T (soundb (coarse_corner_count ps) (fours ts) ss)
    → table_answer ps ts ss ≡ Accepted
unfolding table_answer and_then refuse
sound_accepted ps ts ss m s = rw (m, is_true (soundb (coarse_corner_count ps) (fours ts) ss) s)

module _ (ps : List ℤ) (ts ss ms table : List ℕ) (e : step_answer ps ts ss ms table ≡ Accepted) where
  abbrev n : ℕ
  n = coarse_corner_count ps

  step_parts : (table_answer ps ts ss ≡ Accepted) × (limits_answer n (fours ts) ss ms ≡ Accepted)
  unfolding step_answer marked_answer
  step_parts =
      let limits = limits_answer n (fours ts) ss ms in
      let (_, a) = passed 15 (leb most_cells (length table)) (marked_answer ps ts ss ms) e in
      let (t, b) = both (table_answer ps ts ss) (refuse 7 (marksb ss ms) limits) a in
      (t, (passed 7 (marksb ss ms) limits b).1)

  pub step_again : table_answer ps ts (new_table n (fours ts) ss ms) ≡ Accepted
  step_again =
      let (mesh, sound) = table_parts ps ts ss step_parts.0 in
      let (high, few) = limits_within n (fours ts) ss ms step_parts.1 in
      let new = new_table n (fours ts) ss ms in
      sound_accepted ps ts new mesh (step_sound n (fours ts) ss ms (fours_four ts) (mesh_parts ps ts mesh).0 sound high few)

pub job_again : (j : Job) → job_answer j ≡ Accepted → table_answer j.positions j.cells (job_table j) ≡ Accepted
job_again j e = sound_accepted j.positions j.cells (job_table j) (job_parts j e).0 (job_sound j e)

pub archive_again : (bs : List ℕ) → archive_answer bs ≡ Accepted
    → table_answer (job_of bs).positions (job_of bs).cells (job_table (job_of bs)) ≡ Accepted
archive_again bs e = job_again (job_of bs) (archive_job bs e)
