-- The cells that are left decide as all do.
use Rattle.std.proofs.Common.{◌≡◌, ◌-◌}
use Rattle.base.specs.Lists.{allb}
use Rattle.edges.specs.Table.{entries}
use Rattle.rows.specs.Numbered.{cells_at}
use Rattle.closure.specs.Listed.{listed_apart}
use Rattle.separation.specs.Parents.{apart_all}
use Rattle.separation.proofs.apart.Given as goal

abbrev pub invariant-loop-c : goal.invariant-loop-c
invariant-loop-c g l =
    allb (listed_apart (entries l.table) l.cells) (cells_at l.cells l.c (l.last - l.c)) ≡ apart_all (entries l.table) l.cells l.last
