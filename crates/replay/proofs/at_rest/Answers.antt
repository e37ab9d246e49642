-- A table of leaves is accepted just where its mesh is.
use Rattle.std.proofs.Common.{◌≡◌, ◌∙◌, arith, rules, Err, refl}
use Rattle.pairs.specs.Keys.{clear_new}
use Rattle.replay.proofs.Resting.{rested, rested_answer}
use Rattle.replay.proofs.at_rest.Goals as goal

pub returns-in_err-laid-clause-answer : goal.returns-in_err-laid-clause-answer
returns-in_err-laid-clause-answer c =
    let r : c.from_residual.result ≡ Err c.in_err-laid.field-0.0 = search rules in
    rw r (c.in_err-laid.ensures.answer
    ∙ rested_answer c.args.positions.now c.args.cells.now c.min-k.result (λ h. omega (arith, c.min-k.ensures)) _ _ c.clear.ensures)

pub returns-clause-answer : goal.returns-clause-answer
returns-clause-answer c =
    c.in_ok-laid.ensures.answer
    ∙ rested_answer c.args.positions.now c.args.cells.now c.min-k.result (λ h. omega (arith, c.min-k.ensures)) _ _ c.clear.ensures

pub returns-clause-came : goal.returns-clause-came
returns-clause-came c =
    rested c.args.positions.now c.args.cells.now c.min-k.result (λ h. omega (arith, c.min-k.ensures)) _ _ _ _ _ _ _ _ c.clear.ensures
    (omega (arith, c.min-k.ensures)) (omega arith) c.in_ok-laid.ensures.fits

pub invariant_of-mids : goal.invariant_of-mids
invariant_of-mids c =
    record { sized = (refl, refl, refl, refl); in_order = (clear_new 4096 (omega arith)).empty _ _ _; up = omega arith }
