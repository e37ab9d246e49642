-- `filling::Share::fill_corners` meets its contract: a turn writes the next corner.
use Rattle.filling.proofs.Passing.{So}
use Rattle.filling.specs.Regions.{corner_by}
use Rattle.filling.proofs.Share.fill_corners.Given as goal

abbrev pub invariant-loop-j : goal.invariant-loop-j
invariant-loop-j l = So (corner_by l.self.cols.now l.mesh l.self.part) l.j l.initial.region l.region
