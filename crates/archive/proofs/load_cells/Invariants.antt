-- `archive::load_cells` meets its contract: each number stands at its place of the bytes. The measure is the number of numbers left.
use Prim.Native.Nat.{◌-◌}
use lib.ListN.{length, drop}
use Rattle.archive.specs.Form.{cell_records}
use Rattle.archive.proofs.Fill.{Filled}
use Rattle.archive.proofs.load_cells.Given as goal

abbrev pub invariant-loop-k : goal.invariant-loop-k
invariant-loop-k l = Filled (cell_records (length l.bytes) (drop l.from l.bytes)).0 l.initial.cells l.cells l.k

abbrev pub decreases-loop-k : goal.decreases-loop-k
decreases-loop-k l = l.n - l.k
