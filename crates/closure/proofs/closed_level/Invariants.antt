-- The rest of the range decides as the whole does.
use Rattle.std.proofs.Common.{◌≡◌, ◌-◌}
use Rattle.edges.specs.Table.{entries}
use Rattle.rows.specs.Numbered.{cells_at, part}
use Rattle.closure.specs.Listed.{listed_closed}
use Rattle.closure.proofs.closed_level.Given as goal

abbrev pub invariant-loop-c : goal.invariant-loop-c
invariant-loop-c g l =
    listed_closed (entries l.table) (cells_at l.cells l.c (l.last - l.c)) (part l.status l.c (l.last - l.c))
    ≡ listed_closed (entries l.table) (cells_at l.cells l.first (l.last - l.first)) (part l.status l.first (l.last - l.first))
