-- The job is replayed first, and then its archive is stored, if it has not too many bytes.
use Rattle.std.proofs.Common.{◌≡◌, ◌∙◌, sym, arith, rules, Err}
use Rattle.base.specs.Refuse.{held_after}
use Rattle.jobs.proofs.WriteAnswers.{write_short, write_refused, write_taken, write_many, write_few, write_done}
use Rattle.jobs.proofs.write.Goals as goal

pub returns-then-bytes-lt-MOST_BYTES-clause-answer : goal.returns-then-bytes-lt-MOST_BYTES-clause-answer
returns-then-bytes-lt-MOST_BYTES-clause-answer c = write_short c.args.positions.now c.args.cells.now c.args.marked.now c.args.marks.now c.args.ends.now c.args.bytes.now c.if-bytes-lt-MOST_BYTES.true

pub returns-then-bytes-lt-MOST_BYTES-clause-bytes_value : goal.returns-then-bytes-lt-MOST_BYTES-clause-bytes_value
unfolding held_after
returns-then-bytes-lt-MOST_BYTES-clause-bytes_value c = rw (sym (write_short c.args.positions.now c.args.cells.now c.args.marked.now c.args.marks.now c.args.ends.now c.args.bytes.now c.if-bytes-lt-MOST_BYTES.true))

pub returns-in_err-run-clause-answer : goal.returns-in_err-run-clause-answer
returns-in_err-run-clause-answer c =
    let r : c.from_residual.result ≡ Err c.in_err-run.field-0.0 = search rules in
    rw r (write_refused c.args.positions.now c.args.cells.now c.args.marked.now c.args.marks.now c.args.ends.now c.args.bytes.now (omega (arith, c.if-bytes-lt-MOST_BYTES.false)) _ c.in_err-run.ensures.answer)

pub returns-in_err-run-clause-bytes_value : goal.returns-in_err-run-clause-bytes_value
unfolding held_after
returns-in_err-run-clause-bytes_value c = rw (sym (write_refused c.args.positions.now c.args.cells.now c.args.marked.now c.args.marks.now c.args.ends.now c.args.bytes.now (omega (arith, c.if-bytes-lt-MOST_BYTES.false)) _ c.in_err-run.ensures.answer))

pub fits-requires : goal.fits-requires
fits-requires c = let t = write_taken c.args.positions.now c.args.cells.now c.args.marked.now c.args.marks.now c.args.ends.now c.args.bytes.now (omega (arith, c.if-bytes-lt-MOST_BYTES.false)) c.in_ok-run.ensures.answer in (t.corners, t.cells)

pub returns-then-not-fits-clause-answer : goal.returns-then-not-fits-clause-answer
returns-then-not-fits-clause-answer c =
    write_many c.args.positions.now c.args.cells.now c.args.marked.now c.args.marks.now c.args.ends.now c.args.bytes.now (omega (arith, c.if-bytes-lt-MOST_BYTES.false)) c.in_ok-run.ensures.answer (sym c.fits.ensures ∙ c.if-not-fits.true)

pub returns-then-not-fits-clause-bytes_value : goal.returns-then-not-fits-clause-bytes_value
unfolding held_after
returns-then-not-fits-clause-bytes_value c =
    rw (sym (write_many c.args.positions.now c.args.cells.now c.args.marked.now c.args.marks.now c.args.ends.now c.args.bytes.now (omega (arith, c.if-bytes-lt-MOST_BYTES.false)) c.in_ok-run.ensures.answer (sym c.fits.ensures ∙ c.if-not-fits.true)))

pub store-requires-clause-storable : goal.store-requires-clause-storable
store-requires-clause-storable c = (write_taken c.args.positions.now c.args.cells.now c.args.marked.now c.args.marks.now c.args.ends.now c.args.bytes.now (omega (arith, c.if-bytes-lt-MOST_BYTES.false)) c.in_ok-run.ensures.answer).storable

pub store-requires-clause-ends_in_bounds : goal.store-requires-clause-ends_in_bounds
store-requires-clause-ends_in_bounds c =
    write_few c.args.positions.now c.args.cells.now c.args.marked.now c.args.marks.now c.args.ends.now c.args.bytes.now (omega (arith, c.if-bytes-lt-MOST_BYTES.false)) c.in_ok-run.ensures.answer (sym c.fits.ensures ∙ c.if-not-fits.false)

pub returns-clause-answer : goal.returns-clause-answer
returns-clause-answer c = write_done c.args.positions.now c.args.cells.now c.args.marked.now c.args.marks.now c.args.ends.now c.args.bytes.now (omega (arith, c.if-bytes-lt-MOST_BYTES.false)) c.in_ok-run.ensures.answer (sym c.fits.ensures ∙ c.if-not-fits.false)

pub returns-clause-bytes_value : goal.returns-clause-bytes_value
unfolding held_after
returns-clause-bytes_value c =
    rw (sym (write_done c.args.positions.now c.args.cells.now c.args.marked.now c.args.marks.now c.args.ends.now c.args.bytes.now (omega (arith, c.if-bytes-lt-MOST_BYTES.false)) c.in_ok-run.ensures.answer (sym c.fits.ensures ∙ c.if-not-fits.false))) c.store.ensures.bytes_value
