-- The first i statuses are copied, and the others are as they were.
use Rattle.std.proofs.Common.{◌≡◌, ◌++◌, ◌≤◌, take, drop}
use Rattle.merge.proofs.copy_statuses.Given as goal

abbrev pub invariant-loop-i : goal.invariant-loop-i
invariant-loop-i l = (l.i ≤ l.n) × (l.to ≡ take l.i l.from ++ drop l.i l.initial.to)
