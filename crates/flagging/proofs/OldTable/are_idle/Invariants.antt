-- The rest of the range decides as the whole does.
use Rattle.std.proofs.Common.{◌≡◌, ◌-◌}
use Rattle.base.specs.Lists.{allb}
use Rattle.base.specs.Range.{range}
use Rattle.flagging.specs.Flags.{listedb, idleb}
use Rattle.flagging.proofs.OldTable.are_idle.Given as goal

abbrev pub invariant-loop-j : goal.invariant-loop-j
invariant-loop-j g l =
    allb (idleb l.self.rows.now l.self.status.now l.self.marks.now (listedb l.table)) (range l.j (l.last - l.j))
    ≡ allb (idleb l.self.rows.now l.self.status.now l.self.marks.now (listedb l.table)) (range l.first (l.last - l.first))
