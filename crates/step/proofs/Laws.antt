-- Laws of the step's answer where the lent table is long enough: the table's refusal, the marks', and the limits.
use Rattle.std.specs.Prelude.{◌≡◌, true, false, List, ℕ, ◌≤◌, ℤ, length}
use Rattle.std.proofs.Common.{◌∙◌, le-leb}
use Rattle.base.specs.Fours.{fours}
use Rattle.base.specs.Limits.{most_cells}
use Rattle.base.specs.Refuse.{refuse, and_then, answer_of, answer_refused, answer_none}
use Rattle.base.specs.Answer.{Refused}
use Rattle.mesh.specs.Coarse.{coarse_corner_count}
use Rattle.mesh.specs.Answers.{table_answer, marksb, limits_answer, marked_answer}
use Rattle.step.specs.Calls.{step_answer}

module _ (ps : List ℤ) (ts ss ms table : List ℕ) (long : most_cells ≤ length table) where
  lent : step_answer ps ts ss ms table ≡ and_then (table_answer ps ts ss)
      (refuse 7 (marksb ss ms) (limits_answer (coarse_corner_count ps) (fours ts) ss ms))
  unfolding step_answer marked_answer refuse
  lent = rw (le-leb most_cells (length table) long)

  pub step_table_lem : (k : ℕ) → table_answer ps ts ss ≡ answer_of k → (k ≡ 0 → ⊥) → step_answer ps ts ss ms table ≡ Refused k
  unfolding and_then
  step_table_lem k e z = lent ∙ rw (e, answer_refused k z)

  module _ (k : ℕ) (e : table_answer ps ts ss ≡ answer_of k) (z : k ≡ 0) where
    opened : step_answer ps ts ss ms table ≡ refuse 7 (marksb ss ms) (limits_answer (coarse_corner_count ps) (fours ts) ss ms)
    unfolding and_then
    opened = lent ∙ rw (e, answer_none k z)

    pub step_marks : marksb ss ms ≡ false → step_answer ps ts ss ms table ≡ Refused 7
    unfolding refuse
    step_marks m = opened ∙ rw m

    pub step_limits : marksb ss ms ≡ true → step_answer ps ts ss ms table ≡ limits_answer (coarse_corner_count ps) (fours ts) ss ms
    unfolding refuse
    step_limits m = opened ∙ rw m
