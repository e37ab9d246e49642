-- Its flags are written; then it is refused, or its edges are listed and what its cells keep is written.
use Rattle.std.proofs.Common.{rules, arith}
use Rattle.flagging.specs.Flags.{listedb}
use Rattle.flagging.proofs.Treat.{reds_range, reds_ready, treated}
use Rattle.flagging.proofs.OldTable.treat_level.Goals as goal

pub red_level-requires : goal.red_level-requires
red_level-requires g c =
    let o = c.args.self.now in
    let held = listedb c.args.table.now in
    let f = c.flag_level-reds in (
      search rules,
      (
        reds_range o.rows.now o.status.now o.marks.now o.kids.now held c.args.first c.args.last c.args.kept.now f.new.kept
            f.result f.ensures c.requires.span f.auto.kept,
        reds_ready o.rows.now o.status.now o.marks.now o.kids.now held c.args.first c.args.last c.args.kept.now f.new.kept
            f.result f.ensures c.requires.span c.args.table.now c.start_level.new.self c.start_level.ensures.from
            c.start_level.ensures.kept.2 o.in_order c.requires.small
            (omega (arith, c.if-reds-table.false, c.args.table.now.in_order.in_xs, c.args.table.now.sized)),
      ),
    )

pub close_level-requires : goal.close_level-requires
close_level-requires g c =
    let o = c.args.self.now in (
      search rules,
      (
        omega (arith, c.requires.span.inside, o.in_order.rows),
        (c.requires.span.up, omega (arith, c.requires.span.inside, c.requires.span.room, c.flag_level-reds.auto.kept)),
      ),
    )

pub returns : goal.returns
returns g c =
    let o = c.args.self.now in
    let held = listedb c.args.table.now in
    let f = c.flag_level-reds in
    treated o.rows.now o.status.now o.marks.now o.kids.now held c.args.first c.args.last c.args.kept.now f.new.kept f.result
    f.ensures c.requires.span c.args.table.now c.start_level.new.self c.start_level.ensures.from c.start_level.ensures.kept.2
    c.red_level.new.table c.red_level.ensures c.close_level.new.kept c.close_level.ensures c.args.is_highest c.args.above
    c.is_high-high.result c.is_high-high.ensures
