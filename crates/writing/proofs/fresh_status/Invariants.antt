-- `writing::fresh_status` meets its contract: the invariant says that the edges passed are in the status.
use Rattle.std.proofs.Common.{◌≡◌}
use Rattle.writing.proofs.Fresh.{bits_from}
use Rattle.writing.proofs.fresh_status.Given as goal

abbrev pub invariant-loop-y : goal.invariant-loop-y
invariant-loop-y l = l.status ≡ bits_from l.held l.digits l.i l.y
