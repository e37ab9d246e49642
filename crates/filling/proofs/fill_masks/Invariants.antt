-- `filling::fill_masks` meets its contract: a turn takes the next lower part.
use Rattle.std.proofs.Common.{◌+◌, ◌-◌}
use Rattle.base.specs.Limits.{most_parts, most_slots}
use Rattle.filling.specs.Regions.{Tabled, mask_from}
use Rattle.filling.proofs.fill_masks.Given as goal

abbrev pub invariant-loop-p : goal.invariant-loop-p
invariant-loop-p l = Tabled most_slots (mask_from l.cols l.cells l.slots (l.p + 1) (most_parts - l.p)) l.masks
