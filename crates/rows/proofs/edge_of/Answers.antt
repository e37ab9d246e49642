-- `rows::edge_of` meets its contract: the two numbers are the corners of the edge.
use native.Mathlib.Omega.{arith}
use Rattle.rows.proofs.EdgeEnds.{ends_at}
use Rattle.rows.proofs.edge_of.Goals as goal

pub returns : goal.returns
returns c =
    rw (c.low_corner.ensures.0, c.high_corner.ensures.0)
    (ends_at c.args.cells.now c.args.c c.args.e (omega arith))
