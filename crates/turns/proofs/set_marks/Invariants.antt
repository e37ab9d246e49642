use Rattle.std.proofs.Common.{◌≡◌, ◌-◌, ◌≤◌}
use Rattle.store.specs.Fields.{field, CELLS}
use Rattle.turns.specs.Loops.{SameHead}
use Rattle.turns.specs.Start.{marked_from}
use Rattle.turns.proofs.set_marks.Given as goal

abbrev pub invariant-loop-c : goal.invariant-loop-c
invariant-loop-c l = SameHead l.initial.store l.store × (l.j ≤ l.c)
    × (marked_from l.store l.marks (l.c-end - l.c) l.c l.j ≡ marked_from l.initial.store l.marks (field l.initial.store CELLS) 0 0)
