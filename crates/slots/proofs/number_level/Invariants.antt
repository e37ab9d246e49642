-- `slots::number_level` meets its contract: a turn numbers the next edge.
use Rattle.std.proofs.Common.{◌*◌}
use Rattle.slots.proofs.Numbering.{Run}
use Rattle.slots.proofs.number_level.Given as goal

abbrev pub invariant-loop-i : goal.invariant-loop-i
invariant-loop-i l = Run l.rows (6 * l.first) l.i l.fn.table l.initial.slots l.table l.slots
