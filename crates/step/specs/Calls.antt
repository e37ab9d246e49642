-- The step's call: what it answers, and what the lent table holds after (docs/METHOD.md, sections 7 and 12). A mesh
-- is ps and ts, the old table ss, the marks ms.
--   step_answer ..          15, then 1 to 9
use Rattle.std.specs.Prelude.{List, ℕ, leb, ℤ, length}
use Rattle.base.specs.Refuse.{refuse}
use Rattle.base.specs.Answer.{Answer}
use Rattle.base.specs.Limits.{most_cells}
use Rattle.mesh.specs.Answers.{marked_answer}

-- Rule 12.11: 15, 1 to 6, 7, 8, 9.
unfoldable pub step_answer : List ℤ → List ℕ → List ℕ → List ℕ → List ℕ → Answer
unfolding refuse marked_answer
step_answer ps ts ss ms table = refuse 15 (leb most_cells (length table)) (marked_answer ps ts ss ms)
