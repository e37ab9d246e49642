-- Of an edge that is listed both corners are.
use Rattle.std.proofs.Common.{sym, ◌∙◌}
use Rattle.rows.specs.Numbered.{cell_at}
use Rattle.edges.specs.Table.{entries}
use Rattle.closure.specs.Near.{unlisted}
use Rattle.closure.proofs.is_near.Goals as goal

pub returns : goal.returns
unfolding cell_at
returns g c =
    λ t.
    unlisted (entries c.args.table.now) (cell_at c.args.cells.now c.args.c) _ _ _ _ c.may_meet.ensures c.may_meet-2.ensures
    c.may_meet-3.ensures c.may_meet-4.ensures (sym c.two_of.ensures ∙ t)
