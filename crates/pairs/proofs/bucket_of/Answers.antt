-- `pairs::bucket_of` meets its contract: it is computed as the definition says, and a remainder is less than its divisor.
use mathlib.Core.Path.{refl}
use native.Mathlib.Omega.{arith}
use Rattle.spots.specs.Spots.{buckets_short, buckets_long}
use Rattle.pairs.specs.Keys.{bucket}
use Rattle.pairs.proofs.bucket_of.Goals as goal

pub returns-then-k-lt4096 : goal.returns-then-k-lt4096
unfolding bucket
returns-then-k-lt4096 c =
    rw (buckets_short c.args.k c.if-k-lt4096.true) (refl, omega arith, omega arith)

pub returns-else-k-lt4096 : goal.returns-else-k-lt4096
unfolding bucket
returns-else-k-lt4096 c =
    rw (buckets_long c.args.k (omega (arith, c.if-k-lt4096.false))) (refl, omega arith, omega (arith, c.if-k-lt4096.false))
