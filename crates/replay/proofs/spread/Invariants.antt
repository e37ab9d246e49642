-- The invariant: the marks passed are in the table, and the rest decides as the whole does.
use Rattle.replay.proofs.Spreading.{Scanned}
use lib.ListN.{length}
use Prim.Native.Nat.{◌≤◌}
use mathlib.Core.Path.{◌≡◌}
use Rattle.replay.proofs.spread.Given as goal

abbrev pub invariant-loop-i : goal.invariant-loop-i
invariant-loop-i l = (length l.out ≡ length l.initial.out) × (l.k ≤ length l.out) × Scanned l.marked l.marks l.k l.out l.i l.next
