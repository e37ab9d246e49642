-- `filling::put_masks` meets its contract: a turn writes at the next slot.
use Rattle.filling.specs.Passes.{Masked}
use Rattle.filling.proofs.put_masks.Given as goal

abbrev pub invariant-loop-e : goal.invariant-loop-e
invariant-loop-e l = Masked l.slots l.masks l.c l.e l.initial.region l.region
