-- `corners::coarse_sums` meets its contract. The table holds the sums of the corners passed and, behind them, what it held.
use Rattle.std.proofs.Common.{rules}
use mathlib.Core.Path.{refl, ◌∙◌}
use native.Mathlib.Omega.{arith}
use Rattle.corners.specs.Sums.{coarse_sums}
use Rattle.corners.proofs.Size.{read}
use Rattle.corners.proofs.SumRows.{coarse_turn}
use Rattle.corners.proofs.coarse_sums.Goals as goal

pub loop-i-init : goal.loop-i-init
unfolding coarse_sums
loop-i-init c =
    (search rules, refl, refl)

pub loop-i-preserved : goal.loop-i-preserved
loop-i-preserved c = (
  search rules,
  search rules,
  c.put.ensures
      ∙ rw (
        read c.coarse_sum.result c.coarse_sum.type_inv,
        read c.coarse_sum-in-loop-i.result c.coarse_sum-in-loop-i.type_inv,
        read c.coarse_sum-in-loop-i-2.result c.coarse_sum-in-loop-i-2.type_inv,
        c.coarse_sum.ensures,
        c.coarse_sum-in-loop-i.ensures,
        c.coarse_sum-in-loop-i-2.ensures,
        c.loop-i.invariant.2,
      )
      (coarse_turn c.args.sums.now c.args.positions.now c.loop-i.i (omega arith)),
)
