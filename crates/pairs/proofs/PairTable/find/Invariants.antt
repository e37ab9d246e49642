-- `PairTable::find` meets its contract. The invariant: what the chain has passed is not the pair. The measure is the entry, counted
-- so that no entry comes last.
use Prim.Native.Nat.{◌+◌, ◌%◌, ◌≤◌}
use lib.ListN.{length}
use Rattle.spots.specs.Spots.{buckets_of}
use Rattle.pairs.specs.Chain.{InChain}
use Rattle.pairs.proofs.PairTable.find.Given as goal

abbrev pub invariant-loop-e : goal.invariant-loop-e
invariant-loop-e g l = InChain (buckets_of (length l.self.heads)) l.self.xs l.self.ys l.x l.y l.self.from l.self.n l.e × (l.e ≤ 65535)

abbrev pub decreases-loop-e : goal.decreases-loop-e
decreases-loop-e g l = (l.e + 1) % 65536
