use lib.ListN.{get_or}
use Prim.Native.Nat.{◌-◌}
use mathlib.Core.Path.{◌≡◌}
use Rattle.turns.specs.Loops.{each_from}
use Rattle.places.specs.Put.{put_child}
use Rattle.places.specs.Front.{SameFront}
use Rattle.places.proofs.put_children.Given as goal

abbrev pub invariant-loop-i : goal.invariant-loop-i
invariant-loop-i l = SameFront l.initial.store l.store
    × (each_from (put_child l.p (λ i1. get_or l.fresh i1 0)) (8 - l.i) l.i l.store ≡ each_from (put_child l.p (λ i1. get_or l.fresh i1 0)) 8 0 l.initial.store)
