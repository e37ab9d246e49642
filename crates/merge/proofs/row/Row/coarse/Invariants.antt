-- `merge::row::Row::coarse` meets its contract: a turn writes the next coarse cell's key.
use Rattle.merge.proofs.Rows.{Headed}
use Rattle.merge.proofs.row.Row.coarse.Given as goal

abbrev pub invariant-loop-i : goal.invariant-loop-i
invariant-loop-i l = Headed l.heads l.i
