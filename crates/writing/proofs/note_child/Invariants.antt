-- `writing::note_child` meets its contract: the invariant says that the edges before are noted.
use Rattle.std.proofs.Common.{◌≡◌, take}
use Rattle.mesh.specs.Layout.{edge_numbers}
use Rattle.writing.specs.Held.{pairs_at, noting}
use Rattle.writing.proofs.note_child.Given as goal

abbrev pub invariant-loop-y : goal.invariant-loop-y
invariant-loop-y l = l.held ≡ noting l.initial.held (pairs_at l.digits l.j l.pattern (take l.y edge_numbers))
