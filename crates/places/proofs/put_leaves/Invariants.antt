use Prim.Native.Nat.{◌-◌}
use mathlib.Core.Path.{◌≡◌}
use Rattle.turns.specs.Loops.{each_from}
use Rattle.places.specs.Put.{put_leaf}
use Rattle.places.specs.Front.{SameFront}
use Rattle.places.proofs.put_leaves.Given as goal

abbrev pub invariant-loop-i : goal.invariant-loop-i
invariant-loop-i l = SameFront l.initial.store l.store × (each_from (put_leaf l.p) (l.n - l.i) l.i l.store ≡ each_from (put_leaf l.p) l.n 0 l.initial.store)
