-- `growth::is_split` meets its contract: the shift divides by a power of two.
use mathlib.Core.Path.{refl}
use Rattle.cutting.specs.Rule.{split}
use Rattle.growth.proofs.is_split.Goals as goal

pub returns : goal.returns
unfolding split
returns c =
    refl
