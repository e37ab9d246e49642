-- `corners::new_ends` meets its contract. The table holds its front with the ends of the corners passed behind it, and then what
-- it held; an end fits a u16 since it is below its corner.
use mathlib.Core.Path.{◌≡◌}
use mathlib.Core.List.{◌++◌}
use Prim.Native.Nat.{◌+◌, ◌*◌, ◌≤◌}
use lib.ListN.{length, take, drop}
use Rattle.corners.specs.Ends.{add_ends}
use Rattle.corners.proofs.new_ends.Given as goal

abbrev pub invariant-loop-j : goal.invariant-loop-j
invariant-loop-j l = (l.j ≤ l.m) × (length l.ends ≡ length l.initial.ends) × (l.ends ≡ add_ends (take (2 * l.n) l.initial.ends) l.xs l.ys l.j ++ drop (2 * (l.n + l.j)) l.initial.ends)
