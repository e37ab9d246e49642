-- A cell that will be red keeps 64; another one keeps 0 where no edge is listed, or none of its own, and else what the looks give.
use Rattle.std.proofs.Common.{sym, ◌∙◌}
use Rattle.edges.specs.Table.{entries}
use Rattle.rows.specs.Numbered.{cell_at}
use Rattle.closure.specs.Closed.{pattern_unlisted}
use Rattle.closure.specs.Near.{unlisted_pattern}
use Rattle.flagging.proofs.Level.{closed_red, closed_pattern}
use Rattle.flagging.proofs.kept_of.Goals as goal
use Rattle.flagging.proofs.kept_of.Goals.{then-table-via-then-table, then-table-via-else-table+then-not-is_near}

pub returns-then-flag-eq64 : goal.returns-then-flag-eq64
returns-then-flag-eq64 g c = sym (closed_red (entries c.args.table.now) c.args.rows.now c.args.flag c.args.c c.if-flag-eq64.true)

pub returns-then-table : goal.returns-then-table
returns-then-table g c =
    let t = c.args.table.now in
    let d = cell_at c.args.rows.now c.args.c in
    let own = closed_pattern (entries t) c.args.rows.now c.args.flag c.args.c c.if-flag-eq64.false in
    elim c.then-table.branch [
      | then-table-via-then-table w ↦ sym (own ∙ pattern_unlisted t.xs t.ys t.from t.n d w.if-table.true)
      | then-table-via-else-table+then-not-is_near w ↦ sym (own ∙ unlisted_pattern (entries t) d (w.is_near.ensures w.if-not-is_near.true))
    ]

pub returns : goal.returns
returns g c =
    c.pattern_in.ensures ∙ sym (closed_pattern (entries c.args.table.now) c.args.rows.now c.args.flag c.args.c c.if-flag-eq64.false)
