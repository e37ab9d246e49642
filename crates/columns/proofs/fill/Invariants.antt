-- `columns::fill` meets its contract: a turn writes the numbers of the next cell.
use Rattle.columns.specs.Ten.{Filled}
use Rattle.columns.proofs.fill.Given as goal

abbrev pub invariant-loop-c : goal.invariant-loop-c
invariant-loop-c l = Filled l.rows l.status l.kids l.owners l.c l.cols
