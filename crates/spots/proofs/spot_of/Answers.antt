-- `spots::spot_of` meets its contract: it is computed as the definition says.
use mathlib.Core.Path.{refl}
use native.Mathlib.Omega.{arith}
use Rattle.spots.specs.Spots.{spot_of}
use Rattle.spots.proofs.spot_of.Goals as goal

pub returns : goal.returns
unfolding spot_of
returns c =
    (refl, omega arith)
