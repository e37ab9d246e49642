-- `corners::put_mid` meets its contract: all three sums are read before the first is stored.
use mathlib.Core.Path.{◌∙◌}
use Rattle.corners.specs.Sums.{mid_sums}
use Rattle.corners.proofs.Size.{read}
use Rattle.corners.proofs.put_mid.Goals as goal

pub returns : goal.returns
unfolding mid_sums
returns c =
    c.put.ensures
    ∙ rw (
      read c.mid_sum.result c.mid_sum.type_inv,
      read c.mid_sum-2.result c.mid_sum-2.type_inv,
      read c.mid_sum-3.result c.mid_sum-3.type_inv,
      c.mid_sum.ensures,
      c.mid_sum-2.ensures,
      c.mid_sum-3.ensures,
    )
