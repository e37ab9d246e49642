-- The cell's six edges are inserted one after the other.
use Rattle.std.proofs.Common.{arith}
use Rattle.edges.specs.Table.{grown_none}
use Rattle.rows.specs.Numbered.{cell_at}
use Rattle.redlist.specs.Steps.{grown_edge, all_edges}
use Rattle.redlist.proofs.red_edges.Goals as goal

pub returns : goal.returns
returns g c =
    let d = cell_at c.args.cells.now c.args.c in
    let a0 = grown_none c.args.table.now c.requires.edges in
    let a1 = grown_edge d 0 (omega arith) a0 c.red_edge.ensures in
    let a2 = grown_edge d 1 (omega arith) a1 c.red_edge-2.ensures in
    let a3 = grown_edge d 2 (omega arith) a2 c.red_edge-3.ensures in
    let a4 = grown_edge d 3 (omega arith) a3 c.red_edge-4.ensures in
    let a5 = grown_edge d 4 (omega arith) a4 c.red_edge-5.ensures in
    let a6 = grown_edge d 5 (omega arith) a5 c.red_edge-6.ensures in
    rw (all_edges d) at a6
