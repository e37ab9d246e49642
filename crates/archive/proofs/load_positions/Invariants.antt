-- `archive::load_positions` meets its contract: each number stands at its place of the bytes. The measure is the number of numbers left.
use Prim.Native.Nat.{◌-◌}
use lib.ListN.{length}
use Rattle.archive.specs.Form.{corner_records}
use Rattle.archive.proofs.Fill.{Filled}
use Rattle.archive.proofs.load_positions.Given as goal

abbrev pub invariant-loop-k : goal.invariant-loop-k
invariant-loop-k l = Filled (corner_records (length l.bytes) l.bytes).0 l.initial.positions l.positions l.k

abbrev pub decreases-loop-k : goal.decreases-loop-k
decreases-loop-k l = l.n - l.k
