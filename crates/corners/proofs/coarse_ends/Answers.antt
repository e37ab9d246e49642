-- `corners::coarse_ends` meets its contract. The table holds the ends of the corners passed and, behind them, what it held.
use Rattle.std.proofs.Common.{rules}
use mathlib.Core.Path.{refl, ◌∙◌}
use native.Mathlib.Omega.{arith}
use Rattle.corners.specs.Ends.{coarse_ends}
use Rattle.corners.proofs.EndRows.{coarse_turn}
use Rattle.corners.proofs.coarse_ends.Goals as goal

pub loop-i-init : goal.loop-i-init
unfolding coarse_ends
loop-i-init c =
    (search rules, refl, refl)

pub loop-i-preserved : goal.loop-i-preserved
loop-i-preserved c = (
  search rules,
  search rules,
  c.put.ensures ∙ rw c.loop-i.invariant.2 (coarse_turn c.args.ends.now c.loop-i.i (omega arith)),
)
