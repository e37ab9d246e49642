use Rattle.std.proofs.Common.{◌≡◌, ◌-◌}
use Rattle.turns.specs.Loops.{each_from, SameHead}
use Rattle.turns.specs.Post.{count_one}
use Rattle.turns.specs.Tally.{tally_one}
use Rattle.turns.proofs.enter_counts.Given as goal

abbrev pub invariant-loop-c : goal.invariant-loop-c
invariant-loop-c l = SameHead l.initial.store l.store
    × (each_from tally_one (l.last - l.c) l.c l.store ≡ each_from tally_one (l.last - l.first) l.first l.initial.store)

abbrev pub invariant-loop-s : goal.invariant-loop-s
invariant-loop-s l = SameHead l.initial.store l.store
    × (each_from count_one (l.to - l.s) l.s l.store ≡ each_from count_one (l.to - l.from) l.from l.initial.store)
