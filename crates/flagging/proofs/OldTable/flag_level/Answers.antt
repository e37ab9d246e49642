-- The invariant is `Flagging` (crate's proofs).
use Rattle.std.proofs.Common.{arith, ◌∙◌}
use Rattle.probing.specs.Probed.{from_one}
use Rattle.flagging.specs.Flags.{listedb}
use Rattle.flagging.proofs.Level.{flagging_start, flagging_more, flagging_all}
use Rattle.flagging.proofs.OldTable.flag_level.Goals as goal

pub loop-c-init : goal.loop-c-init
loop-c-init g c =
    let o = c.args.self.now in
    flagging_start o.rows.now o.status.now o.marks.now o.kids.now (listedb c.args.table.now) c.args.first c.args.last c.args.kept.now
    c.requires.up

pub loop-c-preserved : goal.loop-c-preserved
loop-c-preserved g c =
    let o = c.args.self.now in
    flagging_more o.rows.now o.status.now o.marks.now o.kids.now (listedb c.args.table.now) c.args.first c.args.last c.args.kept.now
    c.loop-c.kept c.loop-c.reds c.loop-c.c c.loop-c.invariant c.loop-c-test.true (omega (arith, c.requires.inside, c.requires.room))
    c.flag.result c.from-reds.result c.is_new_red-red.result c.is_new_red-red.ensures c.flag.ensures (c.from-reds.ensures ∙ from_one _)

pub returns : goal.returns
returns g c =
    let o = c.args.self.now in
    flagging_all o.rows.now o.status.now o.marks.now o.kids.now (listedb c.args.table.now) c.args.first c.args.last c.args.kept.now
    c.loop-c.kept c.loop-c.reds c.loop-c.c c.loop-c.invariant c.loop-c-test.false
