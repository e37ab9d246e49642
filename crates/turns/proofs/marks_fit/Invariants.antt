use Rattle.std.proofs.Common.{◌≡◌, ◌-◌, ◌≤◌}
use Rattle.store.specs.Fields.{field, CELLS}
use Rattle.turns.specs.Start.{marks_due}
use Rattle.turns.proofs.marks_fit.Given as goal

abbrev pub invariant-loop-c : goal.invariant-loop-c
invariant-loop-c l = (l.j ≤ l.c) × (marks_due l.store l.marks (l.c-end - l.c) l.c l.j ≡ marks_due l.store l.marks (field l.store CELLS) 0 0)
