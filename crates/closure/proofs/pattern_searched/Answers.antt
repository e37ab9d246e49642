-- It has the six tests as bits.
use Rattle.std.proofs.Common.{◌∙◌}
use Rattle.edges.specs.Table.{entries}
use Rattle.rows.specs.Numbered.{cell_at}
use Rattle.closure.specs.Closed.{six_bits}
use Rattle.closure.proofs.pattern_searched.Goals as goal

pub returns : goal.returns
returns g c =
    c.bits.ensures
    ∙ six_bits (entries c.args.table.now) (cell_at c.args.cells.now c.args.c) _ _ _ _ _ _ c.is_held.ensures c.is_held-2.ensures
    c.is_held-3.ensures c.is_held-4.ensures c.is_held-5.ensures c.is_held-6.ensures
