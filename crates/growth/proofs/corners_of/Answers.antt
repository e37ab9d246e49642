-- `growth::corners_of` meets its contract: the last four numbers of a row are the corners.
use mathlib.Core.Path.{refl}
use Rattle.growth.proofs.Found.{corners_read}
use Rattle.growth.proofs.corners_of.Goals as goal

pub returns : goal.returns
returns c =
    corners_read c.args.cells.now c.args.c _ _ _ _ refl
    refl refl refl
