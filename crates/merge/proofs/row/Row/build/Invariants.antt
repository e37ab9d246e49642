-- `merge::row::Row::build` meets its contract: a turn finds the next cell. The measure is how many places are left.
use Rattle.std.proofs.Common.{◌-◌}
use Rattle.base.specs.Limits.{most_cells}
use Rattle.merge.proofs.Settling.{Going}
use Rattle.merge.proofs.row.Row.build.Given as goal

abbrev pub invariant-loop-row : goal.invariant-loop-row
invariant-loop-row l = Going l.masters l.m l.row

abbrev pub decreases-loop-row : goal.decreases-loop-row
decreases-loop-row l = most_cells - l.row.found
