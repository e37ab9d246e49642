-- The records of the corners passed stand in front.
use mathlib.Core.List.{[]}
use Rattle.archive.specs.Job.{corner_bytes}
use Rattle.archive.proofs.Stores.{RecordsTo}
use Rattle.archive.proofs.store_corners.Given as goal

abbrev pub invariant-loop-i : goal.invariant-loop-i
invariant-loop-i l = RecordsTo corner_bytes 13 [] l.corners 0 l.initial.out l.out l.i
