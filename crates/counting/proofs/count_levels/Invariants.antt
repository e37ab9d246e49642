-- `counting::count_levels` meets its contract: a turn stores the counts of a level and goes on to the next, and a table within the
-- limits has at most eleven. The measure is how many more there can be.
use Prim.Native.Nat.{◌-◌}
use Rattle.counting.proofs.Turns.{At}
use Rattle.counting.proofs.count_levels.Given as goal

abbrev pub invariant-loop-first : goal.invariant-loop-first
invariant-loop-first l = At l.status l.coarse l.initial.counts l.level l.first l.last l.counts

abbrev pub decreases-loop-first : goal.decreases-loop-first
decreases-loop-first l = 12 - l.level
