-- `columns::outer` meets its contract: the edge is read, and looked for among the other cell's.
use Rattle.columns.proofs.Placing.{outer_is}
use Rattle.columns.proofs.outer.Goals as goal

pub returns : goal.returns
returns c =
    outer_is c.args.rows.now c.args.g c.args.c c.args.e (c.edge_of-own.result.a, c.edge_of-own.result.b) c.edge_of-own.ensures
    c.has_edge.result c.has_edge.ensures c.from.result c.from.ensures
