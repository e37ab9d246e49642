-- `spots::buckets_of` meets its contract.
use mathlib.Core.Path.{sym}
use native.Mathlib.Omega.{arith}
use Rattle.spots.specs.Spots.{buckets_short, buckets_long}
use Rattle.spots.proofs.buckets_of.Goals as goal

pub returns-then-k-lt4096 : goal.returns-then-k-lt4096
returns-then-k-lt4096 c =
    (sym (buckets_short _ c.if-k-lt4096.true), omega arith)

pub returns : goal.returns
returns c =
    (sym (buckets_long _ (omega (arith, c.if-k-lt4096.false))), omega arith)
