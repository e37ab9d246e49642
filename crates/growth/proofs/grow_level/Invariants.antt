-- `growth::grow_level` meets its contract: the invariant says what the cells passed have left in the tables.
use Rattle.std.proofs.Common.{◌-◌}
use Rattle.growth.specs.Level.{Grows}
use Rattle.growth.proofs.grow_level.Given as goal

abbrev pub invariant-loop-c : goal.invariant-loop-c
invariant-loop-c g l = Grows l.initial.cells l.initial.mids l.status l.first (l.c - l.first) l.level l.at l.n l.cells l.mids l.next
