-- `writing::write_table` meets its contract: the invariant is `WriteGoing` (crate's proofs).
use Rattle.writing.proofs.Turn.{WriteGoing}
use Rattle.writing.proofs.write_table.Given as goal

abbrev pub invariant-loop-level : goal.invariant-loop-level
invariant-loop-level l = WriteGoing l.coarse l.status l.kept l._level l.first l.last l.table l.old
