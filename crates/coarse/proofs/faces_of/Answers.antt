-- The four faces are the definition's.
use Rattle.std.proofs.Common.{refl}
use Rattle.base.specs.Fours.{faces}
use Rattle.coarse.proofs.faces_of.Goals as goal

pub returns : goal.returns
unfolding faces
returns c = refl
