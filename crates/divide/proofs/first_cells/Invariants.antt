-- `divide::first_cells` meets its contract: a turn reads where the next level begins.
use Rattle.divide.proofs.Dividing.{Firsts}
use Rattle.divide.proofs.first_cells.Given as goal

abbrev pub invariant-loop-k : goal.invariant-loop-k
invariant-loop-k l = Firsts l.kids l.k l.firsts
