-- `filling::Share::fill_slots` meets its contract: a turn takes the next cell.
use Rattle.base.specs.Limits.{most_slots}
use Rattle.filling.specs.Regions.{Tabled, slot_to}
use Rattle.filling.proofs.Share.fill_slots.Given as goal

abbrev pub invariant-loop-c : goal.invariant-loop-c
invariant-loop-c l = Tabled most_slots (slot_to l.self.cols.now l.self.cells l.self.part l.slots l.c) l.region
