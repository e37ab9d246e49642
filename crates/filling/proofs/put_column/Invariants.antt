-- `filling::put_column` meets its contract: a turn writes the next number.
use Rattle.filling.specs.Passes.{Column}
use Rattle.filling.proofs.put_column.Given as goal

abbrev pub invariant-loop-j : goal.invariant-loop-j
invariant-loop-j l = Column l.cols l.c l.j l.initial.region l.region
