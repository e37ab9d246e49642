-- Six looks that all decide are the six tests as bits.
use Rattle.edges.specs.Table.{entries}
use Rattle.rows.specs.Numbered.{cell_at}
use Rattle.closure.specs.Closed.{probed_bits}
use Rattle.closure.proofs.pattern_in.Goals as goal

pub returns : goal.returns
returns g c =
    probed_bits (entries c.args.table.now) (cell_at c.args.cells.now c.args.c) _ _ _ _ _ _ c.probe_edge-p.ensures
    c.probe_edge-q.ensures c.probe_edge-r.ensures c.probe_edge-s.ensures c.probe_edge-t.ensures c.probe_edge-u.ensures
    c.if-p-q-ne0.false
