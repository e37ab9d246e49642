-- `merge::push` meets its contract: a turn writes the next child's key.
use Rattle.merge.specs.Sweep.{Pushed}
use Rattle.merge.proofs.push.Given as goal

abbrev pub invariant-loop-i : goal.invariant-loop-i
invariant-loop-i l = Pushed l.initial.heads l.initial.digits l.end l.x l.y l.i l.heads l.digits
