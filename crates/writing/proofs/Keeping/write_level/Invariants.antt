-- `writing::Keeping::write_level` meets its contract: the invariant is `Families` (crate's proofs).
use Rattle.writing.proofs.Levels.{Families}
use Rattle.writing.proofs.Keeping.write_level.Given as goal

abbrev pub invariant-loop-c : goal.invariant-loop-c
invariant-loop-c l = Families l.self.coarse l.self.status.now l.self.kept.now l.first l.last l.initial.table l.initial.old l.table l.old l.k l.c
