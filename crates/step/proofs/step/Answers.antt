-- The step is made, and what it gives is handed out where there is no refusal.
use Rattle.std.proofs.Common.{◌≡◌, ◌∙◌, ◌++◌, ap, sym, arith, rules, Err, ℕ, List, drop}
use Rattle.base.specs.Refuse.{held_after}
use Rattle.step.specs.Answers.{step_short}
use Rattle.step.specs.Within.{made_on}
use Rattle.step.proofs.step.Goals as goal

pub returns-then-table-lt-MOST_CELLS-clause-answer : goal.returns-then-table-lt-MOST_CELLS-clause-answer
returns-then-table-lt-MOST_CELLS-clause-answer c =
    sym (step_short c.args.positions.now c.args.cells.now c.args.status.now c.args.marks.now c.args.table.now c.if-table-lt-MOST_CELLS.true)

pub returns-then-table-lt-MOST_CELLS-clause-table_value : goal.returns-then-table-lt-MOST_CELLS-clause-table_value
unfolding held_after
returns-then-table-lt-MOST_CELLS-clause-table_value c =
    rw (step_short c.args.positions.now c.args.cells.now c.args.status.now c.args.marks.now c.args.table.now c.if-table-lt-MOST_CELLS.true)

pub returns-in_err-k-clause-answer : goal.returns-in_err-k-clause-answer
returns-in_err-k-clause-answer c =
    let r : c.from_residual.result ≡ Err c.in_err-k.field-0.0 = search rules in
    rw r (c.in_err-k.ensures.answer
    ∙ sym (made_on c.args.positions.now c.args.cells.now c.args.status.now c.args.marks.now c.args.table.now
    (omega (arith, c.if-table-lt-MOST_CELLS.false))))

pub returns-in_err-k-clause-table_value : goal.returns-in_err-k-clause-table_value
unfolding held_after
returns-in_err-k-clause-table_value c =
    rw (made_on c.args.positions.now c.args.cells.now c.args.status.now c.args.marks.now c.args.table.now
    (omega (arith, c.if-table-lt-MOST_CELLS.false)) ∙ sym c.in_err-k.ensures.answer)

pub returns-clause-answer : goal.returns-clause-answer
returns-clause-answer c =
    c.in_ok-k.ensures.answer
    ∙ sym (made_on c.args.positions.now c.args.cells.now c.args.status.now c.args.marks.now c.args.table.now
    (omega (arith, c.if-table-lt-MOST_CELLS.false)))

pub returns-clause-table_value : goal.returns-clause-table_value
unfolding held_after
returns-clause-table_value c =
    let m = c.in_ok-k.ensures.made in
    rw (
      made_on c.args.positions.now c.args.cells.now c.args.status.now c.args.marks.now c.args.table.now
          (omega (arith, c.if-table-lt-MOST_CELLS.false)) ∙ sym c.in_ok-k.ensures.answer,
      m.counted,
    )
    (c.copy_front.ensures ∙ ap (λ (t : List ℕ). t ++ drop c.in_ok-k.k c.args.table.now) m.table_is)
