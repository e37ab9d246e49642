-- `corners::coarse_sum` meets its contract: the number read is the corner's coordinate, and it is small.
use Rattle.std.proofs.Common.{rules}
use mathlib.Core.Path.{◌∙◌}
use Prim.Native.Nat.{◌+◌, ◌*◌}
use lib.ListN.{get_or}
use lib.IntN.{pos}
use Rattle.mesh.specs.Coarse.{coordinate_at}
use Rattle.corners.proofs.Size.{read}
use Rattle.corners.proofs.coarse_sum.Goals as goal

pub returns : goal.returns
unfolding coordinate_at
returns c =
    read c.scaled.result c.scaled.type_inv
    ∙ c.scaled.ensures
    ∙ rw (read (get_or c.args.positions.now (3 * c.args.i + c.args.k) (pos 0)) (search rules))
