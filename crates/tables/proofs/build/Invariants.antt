-- `tables::build` meets its contract: the loop holds `Here` (crate's specs), and each way out is one of its laws. The measure is
-- the number of levels left.
use Rattle.std.proofs.Common.{◌-◌}
use Rattle.base.specs.Fours.{fours}
use Rattle.tables.specs.Here.{Here}
use Rattle.tables.proofs.build.Given as goal

abbrev pub invariant-loop-size : goal.invariant-loop-size
invariant-loop-size g l = Here l.n (fours l.mesh) l.status l.level l.first l.last l.rows l.red l.mids

abbrev pub decreases-loop-size : goal.decreases-loop-size
decreases-loop-size g l = 11 - l.level
