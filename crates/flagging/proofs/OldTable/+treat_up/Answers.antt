-- The levels above are treated first, then this one.
use Rattle.std.proofs.Common.{arith, ◌-◌}
use Rattle.std.proofs.lemmas.Result.{err_from_is_err_and, MatchResult-weaker}
use Rattle.flagging.proofs.Up.{up_none, up_refused, up_more, up_untreated}
use Rattle.flagging.proofs.OldTable.+treat_up.Goals as goal

pub returns-then-depth-eq0 : goal.returns-then-depth-eq0
returns-then-depth-eq0 g t c =
    let o = c.args.self.now in
    up_none o.rows.now o.status.now o.marks.now o.kids.now c.args.first c.args.last c.args.kept.now c.args.table.now c.requires.empty
    c.args.depth c.if-depth-eq0.true

pub returns-in_err-above : goal.returns-in_err-above
returns-in_err-above g t c =
    let o = c.args.self.now in
    let e = err_from_is_err_and c.from_residual.result c.from_residual.ensures.1 in
    rw (e.1, e.2)
    (up_refused o.rows.now o.status.now o.marks.now o.kids.now c.args.first c.args.last (c.args.depth - 1) c.args.depth
    (omega (arith, c.if-depth-eq0.false)) g.row.N c.in_err-above.field-0.0 c.in_err-above.ensures)

pub returns : goal.returns
returns g t c =
    let o = c.args.self.now in
    MatchResult-weaker c.treat_level.result c.treat_level.ensures
    (up_more o.rows.now o.status.now o.marks.now o.kids.now c.args.first c.args.last (c.args.depth - 1) c.args.depth
    (omega (arith, c.if-depth-eq0.false)) c.args.kept.now c.treat_up.new.kept c.treat_up.new.table _ c.in_ok-above.ensures
    c.requires.one_level.span c.treat_level.new.kept c.treat_level.new.table)
    (up_untreated o.rows.now o.status.now o.marks.now o.kids.now c.args.first c.args.last (c.args.depth - 1) c.args.depth
    (omega (arith, c.if-depth-eq0.false)) c.args.kept.now c.treat_up.new.kept c.treat_up.new.table _ c.in_ok-above.ensures)
