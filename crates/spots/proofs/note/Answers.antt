-- `spots::note` meets its contract: two stores behind the buckets, where there is room for them.
use mathlib.Core.Path.{◌∙◌}
use native.Mathlib.Omega.{arith}
use Rattle.spots.specs.Noted.{noted_short, noted_long}
use Rattle.spots.proofs.note.Goals as goal

pub returns-then-heads-m : goal.returns-then-heads-m
returns-then-heads-m c =
    let a = c.args in
    noted_short a.heads.now a.n a.x a.y (omega (arith, c.buckets_of-m.ensures.0, c.if-heads-m.true))

pub returns : goal.returns
returns c =
    let a = c.args in
    noted_long a.heads.now a.n a.x a.y (omega (
      arith,
      c.if-heads-m.false,
      c.buckets_of-m.ensures.0,
    )) c.spot_of-a.result
    c.spot_of-b.result (c.spot_of-a.ensures.0 ∙ rw c.buckets_of-m.ensures.0) (c.spot_of-b.ensures.0 ∙ rw c.buckets_of-m.ensures.0)
