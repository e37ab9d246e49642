-- `spots::may_have` meets its contract: it goes through the definition's cases.
use mathlib.Core.Path.{sym}
use native.Mathlib.Omega.{arith}
use Rattle.spots.specs.Noted.{have_short, have_long}
use Rattle.spots.proofs.may_have.Goals as goal

pub returns-then-heads-m : goal.returns-then-heads-m
returns-then-heads-m c =
    let a = c.args in
    sym (have_short a.heads.now a.from a.x (omega (arith, c.buckets_of-m.ensures.0, c.if-heads-m.true)))

pub returns : goal.returns
returns c =
    let a = c.args in
    let m = c.buckets_of-m.ensures.0 in
    rw (c.spot_of-s.ensures.0, m)
    (sym (have_long a.heads.now a.from a.x (omega (arith, c.if-heads-m.false, m))))
