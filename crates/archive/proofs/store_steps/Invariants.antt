-- The record `Storing` says what the bytes hold where the way has come.
use mathlib.Core.Path.{◌≡◌}
use Prim.Native.Nat.{◌≤◌, ◌<◌}
use lib.ListN.{length, get_or}
use Rattle.archive.proofs.Storing.{Storing}
use Rattle.archive.proofs.store_steps.Given as goal

abbrev pub invariant-loop-last : goal.invariant-loop-last
invariant-loop-last l = Storing l.marked l.marks l.ends l.from l.fn.out l.out l.at l.m l.last-index

abbrev pub invariant-loop-k : goal.invariant-loop-k
invariant-loop-k l = Storing l.marked l.marks l.ends l.from l.fn.out l.out l.at l.k l.last-index × (l.last-index < length l.ends) × (l.end ≡ get_or l.ends l.last-index 0) × (l.k ≤ l.end)
