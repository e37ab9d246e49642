use Rattle.std.proofs.Common.{◌≡◌, ◌-◌}
use Rattle.turns.specs.Decide.{decide_one}
use Rattle.turns.specs.Loops.{each_from, SameHead}
use Rattle.turns.specs.Post.{mark_one}
use Rattle.turns.proofs.enter_marks.Given as goal

abbrev pub invariant-loop-c : goal.invariant-loop-c
invariant-loop-c l = SameHead l.initial.store l.store
    × (each_from decide_one (l.last - l.c) l.c l.store ≡ each_from decide_one (l.last - l.first) l.first l.initial.store)

abbrev pub invariant-loop-c-2 : goal.invariant-loop-c-2
invariant-loop-c-2 l = SameHead l.initial.store l.store
    × (each_from mark_one (l.last - l.c) l.c l.store ≡ each_from mark_one (l.last - l.first) l.first l.initial.store)
