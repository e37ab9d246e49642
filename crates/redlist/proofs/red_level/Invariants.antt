-- A turn inserts the edges of the next cell, if it is red.
use Rattle.std.proofs.Common.{◌-◌}
use Rattle.mesh.specs.Cells.{red_edges}
use Rattle.edges.specs.Table.{Grown}
use Rattle.rows.specs.Numbered.{cells_at, part}
use Rattle.redlist.proofs.red_level.Given as goal

abbrev pub invariant-loop-c : goal.invariant-loop-c
invariant-loop-c g l =
    Grown l.initial.table (red_edges 0 (cells_at l.cells l.first (l.c - l.first)) (part l.status l.first (l.c - l.first))) l.table
