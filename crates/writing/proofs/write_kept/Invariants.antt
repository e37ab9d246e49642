-- `writing::write_kept` meets its contract: the invariant says that the numbers before are written.
use Rattle.std.proofs.Common.{◌≡◌, take}
use Rattle.base.specs.Range.{range}
use Rattle.growth.specs.Written.{written}
use Rattle.writing.proofs.write_kept.Given as goal

abbrev pub invariant-loop-i : goal.invariant-loop-i
invariant-loop-i l = l.old ≡ written l.initial.old l.at (take l.i (range l.first l.count))
