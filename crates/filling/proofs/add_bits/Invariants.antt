-- `filling::add_bits` meets its contract: a turn takes the next slot.
use Rattle.filling.specs.Passes.{Doubled}
use Rattle.filling.proofs.add_bits.Given as goal

abbrev pub invariant-loop-s : goal.invariant-loop-s
invariant-loop-s l = Doubled l.s l.initial.masks l.flags l.masks
