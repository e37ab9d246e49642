-- Where no edge is listed it holds, and else the edges that are left decide as all six do.
use Rattle.std.proofs.Common.{◌≡◌, drop}
use Rattle.base.specs.Lists.{allb}
use Rattle.mesh.specs.Cells.{edges}
use Rattle.edges.specs.Table.{entries}
use Rattle.rows.specs.Numbered.{cell_at}
use Rattle.separation.specs.Scan.{apart_test}
use Rattle.separation.proofs.apart_child.Given as goal

abbrev pub invariant-loop-e : goal.invariant-loop-e
invariant-loop-e g l =
    allb (apart_test (entries l.table) l.cells l.g) (drop l.e (edges 0 (cell_at l.cells l.c)))
    ≡ allb (apart_test (entries l.table) l.cells l.g) (edges 0 (cell_at l.cells l.c))
