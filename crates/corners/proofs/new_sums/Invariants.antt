-- `corners::new_sums` meets its contract. The table holds its front with the sums of the corners passed behind it, and then what
-- it held; both ends of a corner are among those passed, whose sums are small.
use mathlib.Core.Path.{◌≡◌}
use mathlib.Core.List.{◌++◌}
use Prim.Native.Nat.{◌+◌, ◌*◌, ◌≤◌}
use lib.ListN.{length, take, drop}
use Rattle.corners.specs.Sums.{add_sums}
use Rattle.corners.proofs.new_sums.Given as goal

abbrev pub invariant-loop-j : goal.invariant-loop-j
invariant-loop-j l = (l.j ≤ l.m) × (length l.sums ≡ length l.initial.sums) × (l.sums ≡ add_sums (take (3 * l.n) l.initial.sums) l.xs l.ys l.j ++ drop (3 * (l.n + l.j)) l.initial.sums)
