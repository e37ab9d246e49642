-- The number is within 500,000, so that no width loses of it.
use Prim.Native.Nat.{◌+◌, ◌*◌}
use lib.Dec.{lit<}
use Rattle.mesh.specs.Coarse.{coordinate_at}
use Rattle.coarse.proofs.Size.{kept_32, kept_read, kept_tells}
use Rattle.coarse.proofs.coordinate_of.Goals as goal

pub returns : goal.returns
unfolding coordinate_at
returns c =
    let k = kept_32 (c.requires.corner_there.near (3 * c.args.corner + c.args.axis)) (lit< tt) in
    rw (c.from-2.ensures, c.from.ensures) (kept_tells (kept_read k (lit< tt)))
