-- `firsts::first_children` meets its contract: a turn writes the first child of one cell more.
use Rattle.std.proofs.Common.{◌≡◌, ◌+◌, ◌*◌, ◌≤◌, ◌++◌, map, drop}
use Rattle.lineage.specs.Olds.{first_child}
use Rattle.base.specs.Range.{range}
use Rattle.firsts.proofs.first_children.Given as goal

abbrev pub invariant-loop-c : goal.invariant-loop-c
invariant-loop-c l = (l.at ≡ first_child l.coarse l.status l.c) × (l.at ≤ 256 + 8 * l.c)
    × (l.kids ≡ map (first_child l.coarse l.status) (range 0 l.c) ++ drop l.c l.initial.kids)
