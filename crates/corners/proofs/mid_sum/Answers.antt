-- `corners::mid_sum` meets its contract: the numbers read are the two corners' sums, and both are small.
use Rattle.std.proofs.Common.{rules}
use mathlib.Core.Path.{◌∙◌}
use Prim.Native.Nat.{◌+◌, ◌*◌}
use lib.ListN.{get_or}
use lib.IntN.{pos}
use Rattle.mesh.specs.Coarse.{coordinate_at}
use Rattle.corners.proofs.Size.{read}
use Rattle.corners.proofs.mid_sum.Goals as goal

pub half_sum-requires : goal.half_sum-requires
unfolding coordinate_at
half_sum-requires c =
    rw (
      read (get_or c.args.sums.now (3 * c.args.a + c.args.k) (pos 0)) (search rules),
      read (get_or c.args.sums.now (3 * c.args.b + c.args.k) (pos 0)) (search rules),
    )
    (record {
      small_sum = c.requires.sum_held.small c.args.k c.requires.k_bound;
      small_sum_2 = c.requires.sum_held_2.small c.args.k c.requires.k_bound;
    })

pub returns : goal.returns
unfolding coordinate_at
returns c =
    read c.half_sum.result c.half_sum.type_inv
    ∙ c.half_sum.ensures
    ∙ rw (
      read (get_or c.args.sums.now (3 * c.args.a + c.args.k) (pos 0)) (search rules),
      read (get_or c.args.sums.now (3 * c.args.b + c.args.k) (pos 0)) (search rules),
    )
