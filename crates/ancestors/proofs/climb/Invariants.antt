-- `ancestors::climb` meets its contract: a parent comes before its children, so that the cell's number falls with each turn. The
-- measure is that number.
use Rattle.ancestors.proofs.Turns.{On}
use Rattle.ancestors.proofs.climb.Given as goal

abbrev pub invariant-loop-at : goal.invariant-loop-at
invariant-loop-at l = On l.rows l.cell l.at l.turns

abbrev pub decreases-loop-at : goal.decreases-loop-at
decreases-loop-at l = l.at
