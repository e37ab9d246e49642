-- `corners::coarse_sums` meets its contract. The table holds the sums of the corners passed and, behind them, what it held.
use mathlib.Core.Path.{◌≡◌}
use mathlib.Core.List.{◌++◌}
use Prim.Native.Nat.{◌*◌, ◌≤◌}
use lib.ListN.{length, drop}
use Rattle.corners.specs.Sums.{coarse_sums}
use Rattle.corners.proofs.coarse_sums.Given as goal

abbrev pub invariant-loop-i : goal.invariant-loop-i
invariant-loop-i l = (l.i ≤ l.n) × (length l.sums ≡ length l.initial.sums) × (l.sums ≡ coarse_sums l.positions l.i ++ drop (3 * l.i) l.initial.sums)
