-- A short table is refused, and else the number of statuses decides on the tables for the work.
use Rattle.std.proofs.Common.{sym}
use Rattle.base.specs.Refuse.{held_after}
use Rattle.queries.proofs.Answers.{counts_short}
use Rattle.queries.proofs.counts.Goals as goal

pub returns-then-counts-lt-FULL_COUNTS-clause-answer : goal.returns-then-counts-lt-FULL_COUNTS-clause-answer
returns-then-counts-lt-FULL_COUNTS-clause-answer c =
    counts_short c.args.positions.now c.args.cells.now c.args.status.now c.args.counts.now c.if-counts-lt-FULL_COUNTS.true

pub returns-then-counts-lt-FULL_COUNTS-clause-counts_value : goal.returns-then-counts-lt-FULL_COUNTS-clause-counts_value
unfolding held_after
returns-then-counts-lt-FULL_COUNTS-clause-counts_value c =
    rw (sym (counts_short c.args.positions.now c.args.cells.now c.args.status.now c.args.counts.now c.if-counts-lt-FULL_COUNTS.true))
