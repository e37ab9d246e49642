-- The steps before are done, and the rest comes to what the whole comes to.
use Rattle.std.proofs.Common.{◌≡◌, ◌∙◌, refl, arith, rules, Err}
use Rattle.pairs.specs.Keys.{clear_new}
use Rattle.archive.specs.Ends.{length_pairs}
use Rattle.replay.proofs.Turns.{turn_refused, turn_next, turn_left, turn_end}
use Rattle.replay.proofs.run_steps.Goals as goal

pub returns-in_err-now-clause-answer : goal.returns-in_err-now-clause-answer
returns-in_err-now-clause-answer c =
    let r : c.from_residual.result ≡ Err c.in_err-now.field-0.0 = search rules in
    rw r (turn_refused _ _ _ _ _ _ _ _ _ _ _ c.loop-end.invariant c.loop-end-test.true _ c.in_err-now.ensures.answer)

pub loop-end-preserved : goal.loop-end-preserved
loop-end-preserved c =
    turn_next _ _ _ _ _ _ _ _ _ _ _ c.loop-end.invariant c.loop-end-test.true _ _ _ _ c.in_ok-now.ensures.answer c.in_ok-now.ensures.came

pub returns-then-p-marked-clause-answer : goal.returns-then-p-marked-clause-answer
returns-then-p-marked-clause-answer c =
    turn_left _ _ _ _ _ _ _ _ _ _ _ c.loop-end.invariant (omega (arith, c.loop-end-test.false))
    (λ z. c.if-p-marked.true (z ∙ length_pairs c.args.marked.now c.args.marks.now c.requires.marked_len))

pub returns-clause-answer : goal.returns-clause-answer
returns-clause-answer c =
    (turn_end _ _ _ _ _ _ _ _ _ _ _ c.loop-end.invariant (omega (arith, c.loop-end-test.false))
    (omega (arith, c.if-p-marked.false, length_pairs c.args.marked.now c.args.marks.now c.requires.marked_len))).0

pub returns-clause-came : goal.returns-clause-came
returns-clause-came c =
    (turn_end _ _ _ _ _ _ _ _ _ _ _ c.loop-end.invariant (omega (arith, c.loop-end-test.false))
    (omega (arith, c.if-p-marked.false, length_pairs c.args.marked.now c.args.marks.now c.requires.marked_len))).1

pub invariant_of-empty_table : goal.invariant_of-empty_table
invariant_of-empty_table c =
    record { sized = (refl, refl, refl, refl); in_order = (clear_new 5120 (omega arith)).empty _ _ _; up = omega arith }

pub invariant_of-empty_table-2 : goal.invariant_of-empty_table-2
invariant_of-empty_table-2 c =
    record { sized = (refl, refl, refl, refl); in_order = (clear_new 4096 (omega arith)).empty _ _ _; up = omega arith }
