-- `rows::level_size` meets its contract: a turn adds the next cell's children.
use Rattle.std.proofs.Common.{◌≡◌, ◌*◌, ◌-◌, ◌≤◌}
use Rattle.mesh.specs.Table.{sizes}
use Rattle.rows.specs.Numbered.{part}
use Rattle.rows.proofs.level_size.Given as goal

abbrev pub invariant-loop-c : goal.invariant-loop-c
invariant-loop-c l = (l.n ≡ sizes (part l.status l.first (l.c - l.first))) × (l.n ≤ 8 * (l.c - l.first))
