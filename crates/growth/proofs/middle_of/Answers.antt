-- `growth::middle_of` meets its contract: the constant is the list of the digits.
use mathlib.Core.Path.{refl}
use Rattle.growth.specs.Places.{middle_edge}
use Rattle.growth.proofs.Found.{middle_below}
use Rattle.growth.proofs.middle_of.Goals as goal

pub returns : goal.returns
unfolding middle_edge
returns c =
    (refl, middle_below c.args.e c.requires)
