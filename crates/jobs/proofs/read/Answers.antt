-- The archive is replayed beside the lent tables first, and then its job is read into them.
use Rattle.std.proofs.Common.{◌≡◌, ◌∙◌, sym, arith, rules, Err, T}
use Rattle.base.specs.Refuse.{held_after}
use Rattle.archive.specs.Bytes.{Octets}
use Rattle.archive.specs.Form.{formb}
use Rattle.jobs.proofs.ReadAnswers.{read_short, long, read_form, read_room, read_lengths}
use Rattle.jobs.proofs.read.Goals as goal

pub returns-then-not-lent-clause-answer : goal.returns-then-not-lent-clause-answer
returns-then-not-lent-clause-answer c = read_short c.args.bytes.now c.args.positions.now c.args.cells.now c.args.marked.now c.args.marks.now c.args.ends.now (sym c.lent.ensures ∙ c.if-not-lent.true)

pub returns-then-not-lent-clause-tables : goal.returns-then-not-lent-clause-tables
unfolding held_after
returns-then-not-lent-clause-tables c =
    let s = sym (read_short c.args.bytes.now c.args.positions.now c.args.cells.now c.args.marked.now c.args.marks.now c.args.ends.now (sym c.lent.ensures ∙ c.if-not-lent.true)) in
    (rw s, (rw s, (rw s, (rw s, rw s))))

pub returns-in_err-reopen-clause-answer : goal.returns-in_err-reopen-clause-answer
returns-in_err-reopen-clause-answer c =
    let r : c.from_residual.result ≡ Err c.in_err-reopen.field-0.0 = search rules in
    rw r (c.in_err-reopen.ensures.answer ∙ sym (long c.args.bytes.now c.args.positions.now c.args.cells.now c.args.marked.now c.args.marks.now c.args.ends.now (sym c.lent.ensures ∙ c.if-not-lent.false)))

pub returns-in_err-reopen-clause-tables : goal.returns-in_err-reopen-clause-tables
unfolding held_after
returns-in_err-reopen-clause-tables c =
    let s = long c.args.bytes.now c.args.positions.now c.args.cells.now c.args.marked.now c.args.marks.now c.args.ends.now (sym c.lent.ensures ∙ c.if-not-lent.false) ∙ sym c.in_err-reopen.ensures.answer in
    (rw s, (rw s, (rw s, (rw s, rw s))))

pub returns-in_default-clause-answer : goal.returns-in_default-clause-answer
returns-in_default-clause-answer c =
    let f : T (formb c.args.bytes.now) = read_form c.args.bytes.now c.args.positions.now c.args.cells.now c.args.marked.now c.args.marks.now c.args.ends.now (sym c.lent.ensures ∙ c.if-not-lent.false) c.in_ok-reopen.ensures.answer in
    absurd (rw c.in_default.ensures at f)

pub returns-in_default-clause-tables : goal.returns-in_default-clause-tables
returns-in_default-clause-tables c =
    let f : T (formb c.args.bytes.now) = read_form c.args.bytes.now c.args.positions.now c.args.cells.now c.args.marked.now c.args.marks.now c.args.ends.now (sym c.lent.ensures ∙ c.if-not-lent.false) c.in_ok-reopen.ensures.answer in
    absurd (rw c.in_default.ensures at f)

pub load-requires-clause-load_room : goal.load-requires-clause-load_room
load-requires-clause-load_room c =
    let o : Octets c.args.bytes.now = record { small = λ i h. omega (arith, c.type_inv.bytes i) } in
    read_room c.args.bytes.now c.args.positions.now c.args.cells.now c.args.marked.now c.args.marks.now c.args.ends.now (sym c.lent.ensures ∙ c.if-not-lent.false) c.in_ok-reopen.ensures.answer _ _ _ _ c.in-Some.ensures.1 o

pub returns-clause-answer : goal.returns-clause-answer
returns-clause-answer c =
    c.in_ok-reopen.ensures.answer ∙ sym (long c.args.bytes.now c.args.positions.now c.args.cells.now c.args.marked.now c.args.marks.now c.args.ends.now (sym c.lent.ensures ∙ c.if-not-lent.false))

pub returns-clause-lengths : goal.returns-clause-lengths
returns-clause-lengths c =
    read_lengths c.args.bytes.now c.args.positions.now c.args.cells.now c.args.marked.now c.args.marks.now c.args.ends.now (sym c.lent.ensures ∙ c.if-not-lent.false) c.in_ok-reopen.ensures.answer _ _ _ _ c.in-Some.ensures.1

pub returns-clause-tables : goal.returns-clause-tables
unfolding held_after
returns-clause-tables c =
    let s = long c.args.bytes.now c.args.positions.now c.args.cells.now c.args.marked.now c.args.marks.now c.args.ends.now (sym c.lent.ensures ∙ c.if-not-lent.false) ∙ sym c.in_ok-reopen.ensures.answer in
    let l = c.load.ensures in
    (rw s l.positions, (rw s l.cells, (rw s l.marked, (rw s l.marks, rw s l.ends))))
