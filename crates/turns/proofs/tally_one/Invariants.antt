use Rattle.std.proofs.Common.{◌≡◌, ◌-◌}
use Rattle.turns.specs.Tally.{add_edge}
use Rattle.turns.specs.Loops.{each_from, SameHead}
use Rattle.turns.proofs.tally_one.Given as goal

abbrev pub invariant-loop-e : goal.invariant-loop-e
invariant-loop-e l = SameHead l.initial.store l.store
    × (each_from (add_edge l.c) (6 - l.e) l.e l.store ≡ each_from (add_edge l.c) 6 0 l.initial.store)
