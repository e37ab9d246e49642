-- `merge::corners_of` meets its contract: four numbers of the store.
use Rattle.merge.proofs.Corners.{corners_read}
use Rattle.merge.proofs.corners_of.Goals as goal

pub returns : goal.returns
returns c = corners_read c.args.stores.now c.args.j c.args.i c.requires.0 c.requires.1 c.requires.2
