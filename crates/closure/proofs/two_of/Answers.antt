-- The tests as bits, added up.
use Rattle.std.proofs.Common.{◌∙◌}
use Rattle.probing.specs.Probed.{from_one}
use Rattle.closure.specs.Near.{twob}
use Rattle.closure.proofs.two_of.Goals as goal

pub returns : goal.returns
unfolding twob
returns c =
    rw (c.from.ensures ∙ from_one _, c.from-2.ensures ∙ from_one _, c.from-3.ensures ∙ from_one _, c.from-4.ensures ∙ from_one _)
