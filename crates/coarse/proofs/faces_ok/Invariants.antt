-- The invariant: each key's count is how many of the faces passed have it, 2 at most.
use mathlib.Core.List.{[], flat_map}
use mathlib.Core.Path.{◌≡◌}
use Prim.Native.Nat.{◌+◌, ◌*◌, ◌<◌}
use lib.ListN.{length, get_or}
use Rattle.base.specs.Fours.{faces}
use Rattle.coarse.specs.Tally.{lead, low_face}
use Rattle.coarse.proofs.Meets.{Sofar}
use Rattle.coarse.proofs.faces_ok.Given as goal

abbrev pub invariant-loop-q : goal.invariant-loop-q
invariant-loop-q g l = Sofar lead low_face 2 (flat_map faces l.cells) l.tally (4 * l.q-index)

abbrev pub invariant-loop-f : goal.invariant-loop-f
invariant-loop-f g l = Sofar lead low_face 2 (flat_map faces l.cells) l.tally (4 * l.q-index + l.f-index) × (l.q-index < length l.cells) × (l.f-items ≡ faces (get_or l.cells l.q-index []))
