-- The front is filled, and the rest is as it was.
use Rattle.std.proofs.Common.{length-take-le}
use Rattle.replay.proofs.clear.Goals as goal

pub returns : goal.returns
returns c =
    let e = length-take-le c.args.k c.args.out.now c.requires in
    rw (c.fill.ensures.after (λ y e. e), e)
