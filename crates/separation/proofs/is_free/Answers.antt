-- None of the six searches finds an edge.
use Rattle.std.proofs.Common.{sym}
use Rattle.edges.specs.Table.{entries}
use Rattle.rows.specs.Numbered.{cell_at}
use Rattle.separation.specs.Scan.{six_free}
use Rattle.separation.proofs.is_free.Goals as goal

pub returns : goal.returns
returns g c =
    λ h.
    six_free (entries c.args.table.now) (cell_at c.args.cells.now c.args.c) (sym c.if-is_held.ensures) (sym c.if-is_held-2.ensures)
    (sym c.if-is_held-3.ensures) (sym c.if-is_held-4.ensures) (sym c.if-is_held-5.ensures) (sym c.if-is_held-6.ensures)
