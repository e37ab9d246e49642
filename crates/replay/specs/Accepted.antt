-- What an accepted answer says.
-- Laws: passed (a test that is not refused), both (an answer and the next), limits_within (the limits of a step).
use Rattle.std.specs.Prelude.{◌≡◌, List, ℕ, ◌≤◌, leb, length}
use Rattle.std.proofs.Common.{leb→le}
use Rattle.base.specs.Limits.{most_cells, most_levels}
use Rattle.base.specs.Refuse.{refuse, passed}
use Rattle.base.specs.Answer.{Accepted}
use Rattle.mesh.specs.Step.{step_table}
use Rattle.mesh.specs.Answers.{new_table, limits_answer}

pub limits_within : (n : ℕ) (qs : List (List ℕ)) (ss ms : List ℕ) → limits_answer n qs ss ms ≡ Accepted
    → (length (step_table n qs ss ms) ≤ most_levels) × (length (new_table n qs ss ms) ≤ most_cells)
unfolding limits_answer
limits_within n qs ss ms e =
    let (a, b) = passed 8 (leb (length (step_table n qs ss ms)) most_levels)
    (refuse 9 (leb (length (new_table n qs ss ms)) most_cells) Accepted) e in
    let (c, _) = passed 9 (leb (length (new_table n qs ss ms)) most_cells) Accepted b in
    (leb→le (length (step_table n qs ss ms)) most_levels a, leb→le (length (new_table n qs ss ms)) most_cells c)
