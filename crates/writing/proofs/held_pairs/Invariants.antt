-- `writing::held_pairs` meets its contract: the invariant says that the edges of the children before are noted.
use Rattle.std.proofs.Common.{◌≡◌, false, replicate}
use Rattle.writing.specs.Held.{held_below, noting}
use Rattle.writing.proofs.held_pairs.Given as goal

abbrev pub invariant-loop-j : goal.invariant-loop-j
invariant-loop-j l = l.held ≡ noting (replicate 100 false) (held_below l.status l.kept l.first l.j)
