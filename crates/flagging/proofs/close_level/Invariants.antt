-- The invariant is `Closing` (crate's proofs).
use Rattle.edges.specs.Table.{entries}
use Rattle.flagging.proofs.Level.{Closing}
use Rattle.flagging.proofs.close_level.Given as goal

abbrev pub invariant-loop-c : goal.invariant-loop-c
invariant-loop-c g l = Closing (entries l.table) l.rows l.first l.last l.initial.kept l.kept l.c
