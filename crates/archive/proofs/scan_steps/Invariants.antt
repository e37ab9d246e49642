-- `archive::scan_steps` meets its contract: the record `On` says where the scan has come. The measure is the number of bytes left.
use Prim.Native.Nat.{◌-◌}
use lib.ListN.{length}
use Rattle.archive.specs.Scan.{ScanAt}
use Rattle.archive.proofs.scan_steps.Given as goal

abbrev pub invariant-loop-at : goal.invariant-loop-at
invariant-loop-at l = ScanAt l.bytes l.from l.at l.least l.marks l.steps

abbrev pub decreases-loop-at : goal.decreases-loop-at
decreases-loop-at l = length l.bytes - l.at
