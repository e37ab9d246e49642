-- What is asked of a status table over a coarse mesh: what each call answers (docs/METHOD.md, rules 12.9 and 12.10). A mesh is ps and ts, a
-- table ss.
--   ancestor_answer ..   a cell's ancestor: 1 to 6, then 7 where there is no such cell
--   counts_answer ..     counts: 15, then 1 to 6
use Rattle.std.specs.Prelude.{List, ℕ, leb, ltb, ℤ, length}
use Rattle.base.specs.Refuse.{refuse, and_then}
use Rattle.base.specs.Answer.{Answer, Accepted}
use Rattle.base.specs.Limits.{full_counts}
use Rattle.mesh.specs.Answers.{cells_in, table_answer}

-- Rule 12.9: 1 to 6, then 7.
unfoldable pub ancestor_answer : List ℤ → List ℕ → List ℕ → ℕ → Answer
unfolding and_then refuse table_answer
ancestor_answer ps ts ss c = and_then (table_answer ps ts ss) (refuse 7 (ltb c (length (cells_in ps ts ss))) Accepted)

-- Rule 12.10: 15, then 1 to 6.
unfoldable pub counts_answer : List ℤ → List ℕ → List ℕ → List ℕ → Answer
unfolding refuse table_answer
counts_answer ps ts ss counts = refuse 15 (leb full_counts (length counts)) (table_answer ps ts ss)
