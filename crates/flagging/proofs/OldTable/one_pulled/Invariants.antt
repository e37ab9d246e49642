-- The rest of the range decides as the whole does.
use Rattle.std.proofs.Common.{◌≡◌, ◌-◌}
use Rattle.base.specs.Lists.{anyb}
use Rattle.base.specs.Range.{range}
use Rattle.flagging.specs.Flags.{listedb, pulledb}
use Rattle.flagging.proofs.OldTable.one_pulled.Given as goal

abbrev pub invariant-loop-j : goal.invariant-loop-j
invariant-loop-j g l =
    anyb (pulledb l.self.rows.now l.self.marks.now (listedb l.table) l.«g») (range l.j (l.last - l.j))
    ≡ anyb (pulledb l.self.rows.now l.self.marks.now (listedb l.table) l.«g») (range l.first (l.last - l.first))
