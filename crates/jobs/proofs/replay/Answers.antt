-- Short tables are refused, and else the archive is replayed and its table and counts are handed out.
use Rattle.std.proofs.Common.{◌≡◌, ◌∙◌, sym, arith, rules, Err}
use Rattle.base.specs.Answer.{Refused}
use Rattle.base.specs.Refuse.{held_after}
use Rattle.jobs.specs.Calls.{replay_answer}
use Rattle.jobs.proofs.Answers.{short_table, short_counts, long, replay_levels, replay_done}
use Rattle.jobs.proofs.replay.Goals.{then-table-lt-MOST_CELLS-via-then-table-lt-MOST_CELLS, then-table-lt-MOST_CELLS-via-else-table-lt-MOST_CELLS+then-counts-lt-FULL_COUNTS, Joined-then-table-lt-MOST_CELLS}
use Rattle.jobs.proofs.replay.Goals as goal

short : (c : Joined-then-table-lt-MOST_CELLS) → replay_answer c.args.bytes.now c.args.table.now c.args.counts.now ≡ Refused 15
short c =
    elim c.then-table-lt-MOST_CELLS.branch [
      | then-table-lt-MOST_CELLS-via-then-table-lt-MOST_CELLS w ↦ short_table c.args.bytes.now c.args.table.now c.args.counts.now w.if-table-lt-MOST_CELLS.true
      | then-table-lt-MOST_CELLS-via-else-table-lt-MOST_CELLS+then-counts-lt-FULL_COUNTS w ↦
          short_counts c.args.bytes.now c.args.table.now c.args.counts.now (omega (arith, w.if-table-lt-MOST_CELLS.false))
          w.if-counts-lt-FULL_COUNTS.true
    ]

pub returns-then-table-lt-MOST_CELLS-clause-answer : goal.returns-then-table-lt-MOST_CELLS-clause-answer
returns-then-table-lt-MOST_CELLS-clause-answer c = sym (short c)

pub returns-then-table-lt-MOST_CELLS-clause-table_value : goal.returns-then-table-lt-MOST_CELLS-clause-table_value
unfolding held_after
returns-then-table-lt-MOST_CELLS-clause-table_value c = rw (short c)

pub returns-then-table-lt-MOST_CELLS-clause-counts_value : goal.returns-then-table-lt-MOST_CELLS-clause-counts_value
unfolding held_after
returns-then-table-lt-MOST_CELLS-clause-counts_value c = rw (short c)

pub returns-in_err-laid-clause-answer : goal.returns-in_err-laid-clause-answer
returns-in_err-laid-clause-answer c =
    let r : c.from_residual.result ≡ Err c.in_err-laid.field-0.0 = search rules in
    rw r (c.in_err-laid.ensures.answer
    ∙ sym (long c.args.bytes.now c.args.table.now c.args.counts.now (omega (arith, c.if-table-lt-MOST_CELLS.false))
    (omega (arith, c.if-counts-lt-FULL_COUNTS.false))))

pub returns-in_err-laid-clause-table_value : goal.returns-in_err-laid-clause-table_value
unfolding held_after
returns-in_err-laid-clause-table_value c =
    rw (long c.args.bytes.now c.args.table.now c.args.counts.now (omega (arith, c.if-table-lt-MOST_CELLS.false))
    (omega (arith, c.if-counts-lt-FULL_COUNTS.false)) ∙ sym c.in_err-laid.ensures.answer)

pub returns-in_err-laid-clause-counts_value : goal.returns-in_err-laid-clause-counts_value
unfolding held_after
returns-in_err-laid-clause-counts_value c =
    rw (long c.args.bytes.now c.args.table.now c.args.counts.now (omega (arith, c.if-table-lt-MOST_CELLS.false))
    (omega (arith, c.if-counts-lt-FULL_COUNTS.false)) ∙ sym c.in_err-laid.ensures.answer)

pub hand_out-requires-clause-levels : goal.hand_out-requires-clause-levels
hand_out-requires-clause-levels c =
    replay_levels c.args.bytes.now c.args.table.now c.args.counts.now _ _ _ _ c.in_ok-laid.ensures.reopened

pub returns-clause-answer : goal.returns-clause-answer
returns-clause-answer c =
    c.in_ok-laid.ensures.answer
    ∙ sym (long c.args.bytes.now c.args.table.now c.args.counts.now (omega (arith, c.if-table-lt-MOST_CELLS.false))
    (omega (arith, c.if-counts-lt-FULL_COUNTS.false)))

pub returns-clause-size : goal.returns-clause-size
returns-clause-size c =
    let r = c.in_ok-laid.ensures.reopened in
    rw (sym r.counted, sym r.high)

pub returns-clause-table_value : goal.returns-clause-table_value
unfolding held_after
returns-clause-table_value c =
    rw (long c.args.bytes.now c.args.table.now c.args.counts.now (omega (arith, c.if-table-lt-MOST_CELLS.false))
    (omega (arith, c.if-counts-lt-FULL_COUNTS.false)) ∙ sym c.in_ok-laid.ensures.answer)
    (replay_done c.args.bytes.now c.args.table.now c.args.counts.now _ _ _ _ c.in_ok-laid.ensures.reopened _ _ _ c.hand_out.ensures.table_value
    c.hand_out.ensures.value c.hand_out.ensures.counts_value).0

pub returns-clause-counts_value : goal.returns-clause-counts_value
unfolding held_after
returns-clause-counts_value c =
    rw (long c.args.bytes.now c.args.table.now c.args.counts.now (omega (arith, c.if-table-lt-MOST_CELLS.false))
    (omega (arith, c.if-counts-lt-FULL_COUNTS.false)) ∙ sym c.in_ok-laid.ensures.answer)
    (replay_done c.args.bytes.now c.args.table.now c.args.counts.now _ _ _ _ c.in_ok-laid.ensures.reopened _ _ _ c.hand_out.ensures.table_value
    c.hand_out.ensures.value c.hand_out.ensures.counts_value).1
