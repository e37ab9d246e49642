-- The table of an accepted job.
-- Laws: job_parts (its mesh and its steps are accepted), job_mesh (what that says of its mesh), job_sound (its table is sound), job_high
-- (at
-- most 11 levels), job_counts_lem (four numbers a level), counts_few (at most 44); archive_parts, archive_job (an accepted archive is in the
-- form and holds
-- an accepted job).
use Rattle.std.specs.Prelude.{◌≡◌, refl, ◌&&◌, ℕ, ◌*◌, ◌≤◌, T, eqb, leb, length}
use Rattle.std.proofs.Common.{◌∙◌, arith, leb→le, length-append}
use Rattle.std.proofs.Math.Bool.{true}
use mathlib.Core.List.{List, [], ◌∷◌, flat_map}
use Rattle.base.specs.Limits.{full_counts, most_cells, most_levels}
use Rattle.base.specs.Lists.{allb}
use Rattle.base.specs.Bools.{and_left, and_right}
use Rattle.base.specs.Fours.{fours, length-fours}
use Rattle.base.specs.Answer.{Accepted}
use Rattle.mesh.specs.Coarse.{coarse_corner_count, mesh_answer}
use Rattle.mesh.specs.Table.{Level, levels_of, cells_of, closedb, apartb, soundb}
use Rattle.mesh.specs.Counts.{counts_of, count_table}
use Rattle.lattice.specs.Levels.{fours_four}
use Rattle.tables.specs.Sound.{Mesh}
use Rattle.base.specs.Refuse.{code_of, passed, both}
use Rattle.opening.specs.Accepted.{mesh_passed}
use Rattle.archive.specs.Job.{Job}
use Rattle.archive.specs.Form.{formb, job_of}
use Rattle.replay.specs.Run.{run_answer, rest_table, job_answer, job_table}
use Rattle.replay.specs.Sound.{run_sound}
use Rattle.replay.specs.Rest.{rest_sound}
use Rattle.jobs.specs.Calls.{archive_answer, job_levels, job_counts}

-- a sound table has at most 11 levels
sound_high : (n : ℕ) (qs : List (List ℕ)) (ss : List ℕ) → T (soundb n qs ss) → length (levels_of n qs ss) ≤ most_levels
unfolding soundb
sound_high n qs ss s =
    let ls = levels_of n qs ss in
    let cs = cells_of ls in
    let low = leb (length ls) most_levels && leb (length cs) most_cells in
    let a : T (eqb (length ss) (length cs) && low) = and_left (eqb (length ss) (length cs) && low) (allb closedb ls && apartb cs ss) s in
    let b : T low = and_right (eqb (length ss) (length cs)) low a in
    leb→le (length ls) most_levels (and_left (leb (length ls) most_levels) (leb (length cs) most_cells) b)

-- four numbers a level
count-length : (ls : List Level) → length (count_table ls) ≡ 4 * length ls
unfolding count_table counts_of flat_map
count-length [] = refl
count-length (l ∷ ls) = length-append (counts_of l) (count_table ls) ∙ omega (arith, count-length ls)

module _ (j : Job) where
  pub job_counts_lem : length (job_counts j) ≡ 4 * length (job_levels j)
  job_counts_lem = count-length (job_levels j)

  module _ (e : job_answer j ≡ Accepted) where
    abbrev n : ℕ
    n = coarse_corner_count j.positions

    abbrev qs : List (List ℕ)
    qs = fours j.cells

    pub job_parts : (mesh_answer j.positions j.cells ≡ Accepted) × (run_answer n qs (rest_table qs) j.steps ≡ Accepted)
    unfolding job_answer
    job_parts = both (mesh_answer j.positions j.cells) (run_answer n qs (rest_table qs) j.steps) e

    pub job_mesh : Mesh n j.cells
    unfolding code_of
    job_mesh = (mesh_passed j.positions j.cells (rw job_parts.0)).mesh

    pub job_sound : T (soundb n qs (job_table j))
    unfolding job_table
    job_sound =
        let l = length-fours j.cells in
        let r : soundb n qs (rest_table qs) ≡ true = rest_sound n qs (omega (arith, l, job_mesh.some, job_mesh.whole))
        (omega (arith, l, job_mesh.few)) in
        run_sound n qs (fours_four j.cells) job_mesh.cells (rest_table qs) j.steps (rw r tt) job_parts.1

    pub job_high : length (job_levels j) ≤ most_levels
    job_high = sound_high n qs (job_table j) job_sound

    pub counts_few : length (job_counts j) ≤ full_counts
    counts_few = omega (arith, job_counts_lem, job_high)

pub archive_parts : (bs : List ℕ) → archive_answer bs ≡ Accepted → T (formb bs) × (job_answer (job_of bs) ≡ Accepted)
unfolding archive_answer
archive_parts bs e = passed 17 (formb bs) (job_answer (job_of bs)) e

pub archive_job : (bs : List ℕ) → archive_answer bs ≡ Accepted → job_answer (job_of bs) ≡ Accepted
archive_job bs e = (archive_parts bs e).1
