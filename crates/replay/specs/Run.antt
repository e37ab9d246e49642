-- What a job replays to (docs/METHOD.md, rules 10.1, 12.12 and 12.14).
--   spread k ms        the marks of a step as one number a cell, of k cells
--   markingb k ms      the marked cells ascend strictly and are below k, and each mark is 1 or 2
--   one_answer, one_table   one step of a job: the answer, 7, 8 or 9, and the table after it
--   run_answer, run_table   the steps in turn: the answer, and the table after them
--   job_answer j        the mesh, 1 to 5, and then the steps in turn
--   job_table j         the table that the job replays to
--   flat_answer, tables_answer   the same over flat tables
use Rattle.std.specs.Prelude.{Bool, true, ◌&&◌, List, [], ◌∷◌, ℕ, ◌-◌, eqb, leb, ltb, ℤ, length, replicate, set, take, drop}
use Rattle.base.specs.Lists.{allb}
use Rattle.base.specs.Fours.{fours}
use Rattle.base.specs.Refuse.{refuse, and_then}
use Rattle.base.specs.Answer.{Answer}
use Rattle.base.specs.Answer.{Accepted}
use Rattle.mesh.specs.Coarse.{coarse_corner_count, mesh_answer}
use Rattle.mesh.specs.Answers.{marksb, new_table, limits_answer}
use Rattle.archive.specs.Job.{Job}
use Rattle.archive.specs.Tables.{pairs}

-- Rule 10.1: marks set one after the other.
unfoldable pub spread_over : List ℕ → List (ℕ × ℕ) → List ℕ
spread_over l [] = l
spread_over l (m ∷ ms) = spread_over (set l m.0 m.1) ms

-- Rule 10.1: a mark for each cell, 0 where none is given.
unfoldable pub spread : ℕ → List (ℕ × ℕ) → List ℕ
unfolding spread_over
spread k ms = spread_over (replicate k 0) ms

-- Rule 12.12: the cells ascend.
unfoldable pub risingb : List (ℕ × ℕ) → Bool
risingb [] = true
risingb (m ∷ []) = true
risingb (m ∷ n ∷ ms) = ltb m.0 n.0 && risingb (n ∷ ms)

-- Rule 12.12: they do, they are there, and each mark is 1 or 2.
unfoldable pub markingb : ℕ → List (ℕ × ℕ) → Bool
unfolding risingb allb
markingb k ms = risingb ms && allb (λ m. ltb m.0 k && (leb 1 m.1 && leb m.1 2)) ms

-- Rule 12.12: 7, then 8 and 9, of one step.
unfoldable pub one_answer : ℕ → List (List ℕ) → List ℕ → List (ℕ × ℕ) → Answer
unfolding refuse markingb marksb spread limits_answer
one_answer n qs t ms = refuse 7 (markingb (length t) ms && marksb t (spread (length t) ms)) (limits_answer n qs t (spread (length t) ms))

-- Rule 10.1: the table after one step.
abbrev pub one_table : ℕ → List (List ℕ) → List ℕ → List (ℕ × ℕ) → List ℕ
one_table n qs t ms = new_table n qs t (spread (length t) ms)

-- Rule 12.12: the first step that is refused.
unfoldable pub run_answer : ℕ → List (List ℕ) → List ℕ → List (List (ℕ × ℕ)) → Answer
unfolding and_then one_answer
run_answer n qs t [] = Accepted
run_answer n qs t (m ∷ ms) = and_then (one_answer n qs t m) (run_answer n qs (one_table n qs t m) ms)

-- Rule 10.1: step after step.
unfoldable pub run_table : ℕ → List (List ℕ) → List ℕ → List (List (ℕ × ℕ)) → List ℕ
run_table n qs t [] = t
run_table n qs t (m ∷ ms) = run_table n qs (one_table n qs t m) ms

-- Rule 10.1: every coarse cell a leaf.
abbrev pub rest_table : List (List ℕ) → List ℕ
rest_table qs = replicate (length qs) 0

-- Rules 12.5, 12.12: the mesh, then the steps.
unfoldable pub job_answer : Job → Answer
unfolding and_then mesh_answer run_answer
job_answer j = and_then (mesh_answer j.positions j.cells)
    (run_answer (coarse_corner_count j.positions) (fours j.cells) (rest_table (fours j.cells)) j.steps)

-- Rule 10.1: the table that a job replays to.
unfoldable pub job_table : Job → List ℕ
unfolding run_table
job_table j = run_table (coarse_corner_count j.positions) (fours j.cells) (rest_table (fours j.cells)) j.steps

-- Rule 12.14: the steps of flat tables (archive `Tables`): ms are the marked cells with their marks, es where each step ends, p marks are
-- done. 7 where a step ends before it begins or behind the last mark, and where marks are left.
unfoldable pub flat_answer : ℕ → List (List ℕ) → List ℕ → ℕ → List (ℕ × ℕ) → List ℕ → Answer
unfolding refuse and_then one_answer
flat_answer n qs t p ms [] = refuse 7 (eqb p (length ms)) Accepted
flat_answer n qs t p ms (e ∷ es) =
    let m = take (e - p) (drop p ms) in
    refuse 7 (leb p e && leb e (length ms)) (and_then (one_answer n qs t m) (flat_answer n qs (one_table n qs t m) e ms es))

-- Rule 12.14: the mesh, 7 where the tables differ in length, then the steps.
unfoldable pub tables_answer : List ℤ → List ℕ → List ℕ → List ℕ → List ℕ → Answer
unfolding refuse and_then mesh_answer flat_answer pairs
tables_answer ps ts cs ms es =
    and_then (mesh_answer ps ts)
    (refuse 7 (eqb (length cs) (length ms)) (flat_answer (coarse_corner_count ps) (fours ts) (rest_table (fours ts)) 0 (pairs cs ms) es))
