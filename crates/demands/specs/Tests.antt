-- The tests of each call, in the order of their refusals (Rules 12.2 to 12.16).
--   mesh_tests, table_tests     a mesh; a mesh with a table
--   cut_tests, layout_tests, corner_tests, ancestor_tests, counts_tests, step_tests   the calls without archives
--   limit_tests, one_tests, run_tests   the limits of a step; one step of a job; the steps in turn, each on the table before it
--   job_tests, archive_tests    a job; the bytes of an archive
--   replay_tests, read_tests    the calls on archives
--   flat_tests, write_tests     a job in flat tables, and writing it
use Rattle.std.specs.Prelude.{◌&&◌, List, [], ◌∷◌, ◌++◌, ℕ, ◌-◌, eqb, leb, ltb, ℤ, length, take, drop}
use Rattle.base.specs.Fours.{fours}
use Rattle.base.specs.Limits.{most_cells, most_levels, most_corners, most_bytes, full_sums, full_counts}
use Rattle.mesh.specs.Coarse.{coarse_corner_count, countsb, positionsb, cellsb, solidb, singleb}
use Rattle.mesh.specs.Table.{soundb}
use Rattle.mesh.specs.Step.{step_table}
use Rattle.mesh.specs.Answers.{cells_in, marksb, new_table}
use Rattle.layout.specs.Calls.{lentb}
use Rattle.archive.specs.Job.{Job, job_bytes}
use Rattle.archive.specs.Form.{formb, job_of}
use Rattle.archive.specs.Stored.{job_from}
use Rattle.archive.specs.Tables.{pairs}
use Rattle.replay.specs.Run.{spread, markingb, one_table, rest_table}
use Rattle.jobs.specs.Calls.{roomb}
use Rattle.demands.specs.Order.{Test}

-- Rule 12.4.
abbrev pub cut_tests : ℕ → List ℕ → List Test
cut_tests p digits = (15, leb 32 (length digits)) ∷ (6, ltb p 64) ∷ []

-- Rule 12.5.
abbrev pub mesh_tests : List ℤ → List ℕ → List Test
mesh_tests ps ts =
    let qs = fours ts in
    (1, countsb ps ts) ∷ (2, positionsb ps) ∷ (3, cellsb (coarse_corner_count ps) qs) ∷ (4, solidb ps qs) ∷ (5, singleb qs) ∷ []

-- Rule 12.6.
abbrev pub table_tests : List ℤ → List ℕ → List ℕ → List Test
table_tests ps ts ss = mesh_tests ps ts ++ ((6, soundb (coarse_corner_count ps) (fours ts) ss) ∷ [])

-- Rule 12.7.
abbrev pub layout_tests : List ℤ → List ℕ → List ℕ → List ℕ → List ℕ → List ℤ → List Test
layout_tests ps ts ss table ends sums = (15, lentb table ends sums) ∷ table_tests ps ts ss

-- Rule 12.8.
abbrev pub corner_tests : List ℤ → ℕ → ℕ → List Test
corner_tests sums n k = (15, leb full_sums (length sums)) ∷ (7, ltb k n && ltb k most_corners) ∷ []

-- Rule 12.9.
abbrev pub ancestor_tests : List ℤ → List ℕ → List ℕ → ℕ → List Test
ancestor_tests ps ts ss c = table_tests ps ts ss ++ ((7, ltb c (length (cells_in ps ts ss))) ∷ [])

-- Rule 12.10.
abbrev pub counts_tests : List ℤ → List ℕ → List ℕ → List ℕ → List Test
counts_tests ps ts ss counts = (15, leb full_counts (length counts)) ∷ table_tests ps ts ss

-- Rule 7.8.
abbrev pub limit_tests : ℕ → List (List ℕ) → List ℕ → List ℕ → List Test
limit_tests n qs ss ms = (8, leb (length (step_table n qs ss ms)) most_levels) ∷ (9, leb (length (new_table n qs ss ms)) most_cells) ∷ []

-- Rule 12.11.
abbrev pub step_tests : List ℤ → List ℕ → List ℕ → List ℕ → List ℕ → List Test
step_tests ps ts ss ms table =
    (15, leb most_cells (length table)) ∷ (table_tests ps ts ss ++ ((7, marksb ss ms) ∷ limit_tests (coarse_corner_count ps) (fours ts) ss ms))

-- Rule 12.12: one step.
abbrev pub one_tests : ℕ → List (List ℕ) → List ℕ → List (ℕ × ℕ) → List Test
one_tests n qs t m = (7, markingb (length t) m && marksb t (spread (length t) m)) ∷ limit_tests n qs t (spread (length t) m)

-- Rule 12.12: step after step.
unfoldable pub run_tests : ℕ → List (List ℕ) → List ℕ → List (List (ℕ × ℕ)) → List Test
run_tests n qs t [] = []
run_tests n qs t (m ∷ ms) = one_tests n qs t m ++ run_tests n qs (one_table n qs t m) ms

-- Rules 12.2, 12.12: the mesh, then the steps.
abbrev pub job_tests : Job → List Test
job_tests j =
    let qs = fours j.cells in
    mesh_tests j.positions j.cells ++ run_tests (coarse_corner_count j.positions) qs (rest_table qs) j.steps

-- Rule 12.2: the form before the mesh.
abbrev pub archive_tests : List ℕ → List Test
archive_tests bs = (17, formb bs) ∷ job_tests (job_of bs)

-- Rule 12.15.
abbrev pub replay_tests : List ℕ → List ℕ → List ℕ → List Test
replay_tests bs table counts = (15, leb most_cells (length table) && leb full_counts (length counts)) ∷ archive_tests bs

-- Rule 12.13.
abbrev pub read_tests : List ℕ → List ℤ → List ℕ → List ℕ → List ℕ → List ℕ → List Test
read_tests bs ps ts cs ms es = (15, roomb ps ts cs ms es) ∷ archive_tests bs

-- Rule 12.14: p marks are done, and the step at hand has those up to e
unfoldable pub flat_tests : ℕ → List (List ℕ) → List ℕ → ℕ → List (ℕ × ℕ) → List ℕ → List Test
flat_tests n qs t p ms [] = (7, eqb p (length ms)) ∷ []
flat_tests n qs t p ms (e ∷ es) =
    let m = take (e - p) (drop p ms) in
    (7, leb p e && leb e (length ms)) ∷ (one_tests n qs t m ++ flat_tests n qs (one_table n qs t m) e ms es)

-- Rule 12.14.
abbrev pub write_tests : List ℤ → List ℕ → List ℕ → List ℕ → List ℕ → List ℕ → List Test
write_tests ps ts cs ms es out =
    (15, leb most_bytes (length out))
    ∷ ((mesh_tests ps ts
    ++ ((7, eqb (length cs) (length ms)) ∷ flat_tests (coarse_corner_count ps) (fours ts) (rest_table (fours ts)) 0 (pairs cs ms) es))
    ++ ((17, leb (length (job_bytes (job_from ps ts cs ms es))) most_bytes) ∷ []))
