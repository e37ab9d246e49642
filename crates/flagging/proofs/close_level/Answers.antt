-- The invariant is `Closing` (crate's proofs).
use Rattle.edges.specs.Table.{entries}
use Rattle.flagging.proofs.Level.{closing_start, closing_more, closing_all}
use Rattle.flagging.proofs.close_level.Goals as goal

pub loop-c-init : goal.loop-c-init
loop-c-init g c =
    closing_start (entries c.args.table.now) c.args.rows.now c.args.first c.args.last c.args.kept.now c.requires.first_le_last.0

pub loop-c-preserved : goal.loop-c-preserved
loop-c-preserved g c =
    closing_more (entries c.args.table.now) c.args.rows.now c.args.first c.args.last c.args.kept.now c.loop-c.kept c.loop-c.c
    c.loop-c.invariant c.loop-c-test.true c.requires.first_le_last.1 c.kept_of.result c.kept_of.ensures

pub returns : goal.returns
returns g c =
    closing_all (entries c.args.table.now) c.args.rows.now c.args.first c.args.last c.args.kept.now c.loop-c.kept c.loop-c.c
    c.loop-c.invariant c.loop-c-test.false
