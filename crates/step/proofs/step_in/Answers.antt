-- What begins as it should goes on as a step of a table that is held.
use Rattle.std.proofs.Common.{◌≡◌, ◌∙◌, sym, rules, Err, arith, ℕ}
use Rattle.std.proofs.lemmas.List.{length-replicate}
use Rattle.pairs.specs.Keys.{clear_new}
use Rattle.advance.specs.Advanced.{held_statuses}
use Rattle.step.specs.Within.{begun_refused, begun_on}
use Rattle.step.proofs.step_in.Goals as goal

pub returns-in_err-begin-clause-answer : goal.returns-in_err-begin-clause-answer
returns-in_err-begin-clause-answer g c =
    let r : c.from_residual.result ≡ Err c.in_err-begin.field-0.0 = search rules in
    rw r (begun_refused c.args.positions.now c.args.cells.now c.args.status.now c.args.marks.now _ c.in_err-begin.ensures.answer)

pub advance-requires : goal.advance-requires
advance-requires g c =
    let b = c.in_ok-begin.ensures.begun in
    let k = held_statuses _ _ _ _ b.held in
    let m = c.requires.red_room k.few in
    (search rules, (b.held, (b.marks, (m.0, ((c.requires.work_sizes.0, m.1), search rules)))))

pub returns-clause-answer : goal.returns-clause-answer
returns-clause-answer g c =
    c.advance.ensures.answer
    ∙ sym (begun_on c.args.positions.now c.args.cells.now c.args.status.now c.args.marks.now c.in_ok-begin.ensures.answer)

pub invariant_of-empty_table : goal.invariant_of-empty_table
invariant_of-empty_table g c =
    record {
      sized = (
        length-replicate {A = ℕ} g.row.N 0,
        length-replicate {A = ℕ} g.row.N 0,
        length-replicate {A = ℕ} g.row.H 65535,
        length-replicate {A = ℕ} g.row.N 0,
      );
      in_order = (clear_new g.row.H c.requires.work_sizes.1).empty _ _ _;
      up = omega arith;
    }
