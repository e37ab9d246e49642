-- `slots::number` meets its contract: a turn numbers the next level.
use Rattle.slots.proofs.Numbering.{Going}
use Rattle.slots.proofs.number.Given as goal

abbrev pub invariant-loop-k : goal.invariant-loop-k
invariant-loop-k l = Going l.rows l.firsts l.k l.table l.slots l.starts
