-- The invariant is `Flagging` (crate's proofs).
use Rattle.flagging.specs.Flags.{listedb}
use Rattle.flagging.proofs.Level.{Flagging}
use Rattle.flagging.proofs.OldTable.flag_level.Given as goal

abbrev pub invariant-loop-c : goal.invariant-loop-c
invariant-loop-c g l =
    Flagging l.self.rows.now l.self.status.now l.self.marks.now l.self.kids.now (listedb l.table) l.first l.last l.initial.kept l.kept
    l.reds l.c
