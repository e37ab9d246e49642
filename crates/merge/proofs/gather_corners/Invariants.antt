-- `merge::gather_corners` meets its contract: a turn takes the next coarse cell.
use Rattle.merge.proofs.Corners.{Gathering}
use Rattle.merge.proofs.gather_corners.Given as goal

abbrev pub invariant-loop-i : goal.invariant-loop-i
invariant-loop-i l = Gathering l.stores l.parts l.n l.m l.mesh l.i
