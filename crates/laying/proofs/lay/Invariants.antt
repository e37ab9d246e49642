-- `laying::lay` meets its contract: the loop holds `Laying` (specs of tables), and each need is one law of a sound table (`Turns`). The
-- measure is the number of levels left.
use Rattle.std.proofs.Common.{◌-◌}
use Rattle.base.specs.Fours.{fours}
use Rattle.tables.specs.Here.{Laying}
use Rattle.laying.proofs.lay.Given as goal

abbrev pub invariant-loop-n : goal.invariant-loop-n
invariant-loop-n g l = Laying l.n (fours l.mesh) l.status l.level l.first l.last l.rows l.mids

abbrev pub decreases-loop-n : goal.decreases-loop-n
decreases-loop-n g l = 11 - l.level
