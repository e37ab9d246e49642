-- The mesh first, then the steps in turn.
use Rattle.std.proofs.Common.{◌≡◌, ◌∙◌, sym, arith, rules, Err}
use Rattle.replay.proofs.Ended.{ended_mesh, ended_lengths, ended, all_ended}
use Rattle.replay.proofs.run.Goals as goal

pub returns-in_err-rest-clause-answer : goal.returns-in_err-rest-clause-answer
returns-in_err-rest-clause-answer c =
    let r : c.from_residual.result ≡ Err c.in_err-rest.field-0.0 = search rules in
    rw r (ended_mesh _ _ _ _ _ _ c.in_err-rest.ensures.answer)

pub returns-then-marked-marks-clause-answer : goal.returns-then-marked-marks-clause-answer
returns-then-marked-marks-clause-answer c = ended_lengths _ _ _ _ _ c.in_ok-rest.ensures.answer c.if-marked-marks.true

pub returns-clause-answer : goal.returns-clause-answer
returns-clause-answer c =
    (rw c.in_ok-rest.ensures.came.table_is at c.run_steps.ensures.answer)
    ∙ sym (ended _ _ _ _ _ c.in_ok-rest.ensures.answer (omega (arith, c.if-marked-marks.false)))

pub returns-clause-replayed : goal.returns-clause-replayed
returns-clause-replayed c =
    all_ended _ _ _ _ _ _ _ c.run_steps.result (rw c.in_ok-rest.ensures.came.table_is at c.run_steps.ensures.came)
