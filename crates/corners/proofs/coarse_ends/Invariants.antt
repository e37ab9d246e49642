-- `corners::coarse_ends` meets its contract. The table holds the ends of the corners passed and, behind them, what it held.
use mathlib.Core.Path.{◌≡◌}
use mathlib.Core.List.{◌++◌}
use Prim.Native.Nat.{◌*◌, ◌≤◌}
use lib.ListN.{length, drop}
use Rattle.corners.specs.Ends.{coarse_ends}
use Rattle.corners.proofs.coarse_ends.Given as goal

abbrev pub invariant-loop-i : goal.invariant-loop-i
invariant-loop-i l = (l.i ≤ l.n) × (length l.ends ≡ length l.initial.ends) × (l.ends ≡ coarse_ends l.i ++ drop (2 * l.i) l.initial.ends)
