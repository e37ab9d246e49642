-- What was read stands in front. The measure is the number of places left.
use Rattle.std.proofs.Common.{length, ◌-◌, ◌≤◌}
use Rattle.meshlist.proofs.read_full.Given as goal

abbrev pub invariant-loop-done : goal.invariant-loop-done
invariant-loop-done g l = l.done ≤ length l.bytes

abbrev pub decreases-loop-done : goal.decreases-loop-done
decreases-loop-done g l = length l.initial.bytes - l.done
