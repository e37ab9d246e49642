-- The edges that are left decide as all six do.
use Rattle.std.proofs.Common.{◌≡◌, eqb, drop}
use Rattle.base.specs.Lists.{anyb}
use Rattle.mesh.specs.Cells.{edges, joinsb, heldb}
use Rattle.rows.specs.Numbered.{cell_at}
use Rattle.separation.proofs.has_edge.Given as goal

abbrev pub invariant-loop-e : goal.invariant-loop-e
invariant-loop-e l =
    anyb (joinsb eqb (l.a, l.b)) (drop l.e (edges 0 (cell_at l.cells l.g))) ≡ heldb eqb (edges 0 (cell_at l.cells l.g)) (l.a, l.b)
