-- The marks are examined, and then the step is made.
use Rattle.std.proofs.Common.{◌≡◌, ◌∙◌, ◌-◌, ◌≤◌, sym, arith, true, false, length, length-take-le}
use Rattle.archive.specs.Tables.{pairs}
use Rattle.archive.specs.Ends.{length_pairs}
use Rattle.replay.proofs.Steps.{moved_missed, moved_on, moved_all}
use Rattle.replay.proofs.Turns.{pairs_part, next_back, next_behind, next_moved}
use Rattle.replay.proofs.next_step.Goals.{then-e-p-via-then-e-p, then-e-p-via-else-e-p+then-e-marked}
use Rattle.replay.proofs.next_step.Goals as goal

pub returns-then-e-p-clause-answer : goal.returns-then-e-p-clause-answer
returns-then-e-p-clause-answer c =
    elim c.then-e-p.branch [
      | then-e-p-via-then-e-p w ↦ sym (next_back _ _ _ _ _ _ w.if-e-p.true)
      | then-e-p-via-else-e-p+then-e-marked w ↦
          sym (next_behind _ _ _ _ _ _ (omega (arith, length_pairs c.args.marked.now c.args.marks.now c.requires.marked_len, w.if-e-marked.true)))
    ]

pub returns-then-not-examine_marks-clause-answer : goal.returns-then-not-examine_marks-clause-answer
returns-then-not-examine_marks-clause-answer c =
    let e : c.examine_marks.result ≡ false = c.if-not-examine_marks.true in
    let h : c.args.e ≤ length (pairs c.args.marked.now c.args.marks.now) =
    omega (arith, length_pairs c.args.marked.now c.args.marks.now c.requires.marked_len, c.if-e-marked.false) in
    sym (next_moved _ _ _ _ _ _ c.if-e-p.false h _ (pairs_part (c.args.e - c.args.p) c.args.p c.args.marked.now c.args.marks.now)
    ∙ moved_missed _ _ _ _ _ (rw e at c.examine_marks.ensures))

pub returns-clause-answer : goal.returns-clause-answer
returns-clause-answer c =
    let e : c.examine_marks.result ≡ true = c.if-not-examine_marks.false in
    let h : c.args.e ≤ length (pairs c.args.marked.now c.args.marks.now) =
    omega (arith, length_pairs c.args.marked.now c.args.marks.now c.requires.marked_len, c.if-e-marked.false) in
    let l = length-take-le c.args.cells c.args.table.now (omega (arith, c.requires.going.few, c.requires.going.room)) in
    c.make.ensures.answer
    ∙ sym (next_moved _ _ _ _ _ _ c.if-e-p.false h _ (pairs_part (c.args.e - c.args.p) c.args.p c.args.marked.now c.args.marks.now)
    ∙ moved_on _ _ _ _ _ (rw e at c.examine_marks.ensures) c.args.cells l)

pub returns-clause-came : goal.returns-clause-came
returns-clause-came c =
    let e : c.examine_marks.result ≡ true = c.if-not-examine_marks.false in
    let l = length-take-le c.args.cells c.args.table.now (omega (arith, c.requires.going.few, c.requires.going.room)) in
    rw (sym (pairs_part (c.args.e - c.args.p) c.args.p c.args.marked.now c.args.marks.now))
    (moved_all _ _ _ _ _ (rw e at c.examine_marks.ensures) c.args.cells l _ _ _ c.make.result c.make.ensures.came)
