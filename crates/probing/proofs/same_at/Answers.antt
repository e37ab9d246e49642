-- A product of two tests is both.
use Rattle.std.proofs.Common.{◌∙◌}
use Rattle.pairs.specs.Keys.{hereb}
use Rattle.probing.proofs.Units.{one_both}
use Rattle.probing.specs.Probed.{from_one}
use Rattle.probing.proofs.same_at.Goals as goal

pub returns : goal.returns
unfolding hereb
returns g c = rw (c.from.ensures ∙ from_one _, c.from-2.ensures ∙ from_one _) (one_both _ _)
