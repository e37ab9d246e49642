-- `writing::fresh_with` meets its contract: the invariant says that the statuses before are set.
use Rattle.std.proofs.Common.{◌≡◌, take, replicate}
use Rattle.growth.specs.Written.{written}
use Rattle.writing.proofs.Fresh.{row}
use Rattle.writing.proofs.fresh_with.Given as goal

abbrev pub invariant-loop-i : goal.invariant-loop-i
invariant-loop-i l = l.fresh ≡ written (replicate 8 0) 0 (take l.i (row l.held))
