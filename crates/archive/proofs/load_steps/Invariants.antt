-- `archive::load_steps` meets its contract: the record `Load` says what the tables hold where the scan has come. The measure is the
-- number of bytes left.
use Prim.Native.Nat.{◌-◌}
use lib.ListN.{length}
use Rattle.archive.proofs.StepTables.{Load}
use Rattle.archive.proofs.load_steps.Given as goal

abbrev pub invariant-loop-at : goal.invariant-loop-at
invariant-loop-at l = Load l.bytes l.from l.initial.marked l.initial.marks l.initial.ends l.marked l.marks l.ends l.at l.m l.s

abbrev pub decreases-loop-at : goal.decreases-loop-at
decreases-loop-at l = length l.bytes - l.at
