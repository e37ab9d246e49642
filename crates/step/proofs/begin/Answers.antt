-- The table is opened, and then the marks are looked at.
use Rattle.std.proofs.Common.{◌≡◌, ◌∙◌, sym, rules, Err, arith, ℕ}
use Rattle.std.proofs.lemmas.List.{length-replicate}
use Rattle.pairs.specs.Keys.{clear_new}
use Rattle.step.specs.Answers.{marks_many, opened_held}
use Rattle.step.specs.Within.{begun_table, begun_marks, begun_held}
use Rattle.step.proofs.begin.Goals as goal

pub returns-in_err-open-clause-answer : goal.returns-in_err-open-clause-answer
returns-in_err-open-clause-answer g c =
    let r : c.from_residual.result ≡ Err c.in_err-open.field-0.0 = search rules in
    rw r (begun_table c.args.positions.now c.args.cells.now c.args.status.now c.args.marks.now c.in_err-open.ensures.answer)

pub returns-then-not-marks_fit-clause-answer : goal.returns-then-not-marks_fit-clause-answer
returns-then-not-marks_fit-clause-answer g c =
    begun_marks c.args.positions.now c.args.cells.now c.args.status.now c.args.marks.now c.in_ok-open.ensures.answer
    (sym c.marks_fit.ensures ∙ c.if-not-marks_fit.true)

pub returns-clause-answer : goal.returns-clause-answer
returns-clause-answer g c =
    begun_held c.args.positions.now c.args.cells.now c.args.status.now c.args.marks.now c.in_ok-open.ensures.answer
    (sym c.marks_fit.ensures ∙ c.if-not-marks_fit.false)

pub returns-clause-begun : goal.returns-clause-begun
returns-clause-begun g c =
    record {
      held = opened_held _ _ _ _ _ _ _ _ _ c.in_ok-open.ensures.fits;
      marks = marks_many _ _ (sym c.marks_fit.ensures ∙ c.if-not-marks_fit.false);
    }

pub invariant_of-mids : goal.invariant_of-mids
invariant_of-mids g c =
    record {
      sized = (
        length-replicate {A = ℕ} g.row.M 0,
        length-replicate {A = ℕ} g.row.M 0,
        length-replicate {A = ℕ} g.row.MH 65535,
        length-replicate {A = ℕ} g.row.M 0,
      );
      in_order = (clear_new g.row.MH c.requires.sizes.2).empty _ _ _;
      up = omega arith;
    }
