-- The measure is the number of levels that are looked at.
use Rattle.flagging.proofs.OldTable.+treat_up.Given as goal

abbrev pub decreases-treat_up : goal.decreases-treat_up
decreases-treat_up g l = l.depth
