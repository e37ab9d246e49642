-- A face whose key is met for the third time is in three cells; a turn counts its key.
use Rattle.std.proofs.Common.{◌≡◌, ◌+◌, ◌*◌, ◌<◌, get_or, arith, rules}
use mathlib.Core.List.{[], flat_map}
use Rattle.base.specs.Fours.{faces}
use Rattle.coarse.specs.Tally.{lead, low_face}
use Rattle.coarse.proofs.Faces.{face_at}
use Rattle.coarse.proofs.Meets.{meets_start}
use Rattle.coarse.proofs.Turns.{faces_open, faces_turn, faces_over, faces_end}
use Rattle.coarse.proofs.faces_ok.Goals as goal

pub loop-q-init : goal.loop-q-init
loop-q-init g c = meets_start lead low_face 2 (flat_map faces c.args.cells.now) c.clear.ensures

pub count-requires : goal.count-requires
count-requires g c = (search rules, faces_open c.requires.ranked c.loop-f.invariant.0 (omega arith) c.requires.room _ _)

pub returns-then-count-gt2 : goal.returns-then-count-gt2
unfolding lead low_face
returns-then-count-gt2 g c =
    let qs = c.args.cells.now in
    let own = c.loop-f.invariant.2 in
    let h : c.loop-f.f-index < 4 = search rules in
    let at : get_or c.faces_of-f-items.result c.loop-f.f-index [] ≡ get_or (flat_map faces qs) (4 * c.loop-q.q-index + c.loop-f.f-index) [] = rw own (face_at qs c.loop-q.q-index c.loop-f.f-index c.loop-f.invariant.1 h) in
    faces_over c.requires.ranked c.loop-f.invariant.0 (omega arith)
    at
    c.pair.ensures c.from.ensures c.count.ensures (search rules)

pub loop-f-preserved : goal.loop-f-preserved
unfolding lead low_face
loop-f-preserved g c =
    let qs = c.args.cells.now in
    let own = c.loop-f.invariant.2 in
    let h : c.loop-f.f-index < 4 = search rules in
    let at : get_or c.faces_of-f-items.result c.loop-f.f-index [] ≡ get_or (flat_map faces qs) (4 * c.loop-q.q-index + c.loop-f.f-index) [] = rw own (face_at qs c.loop-q.q-index c.loop-f.f-index c.loop-f.invariant.1 h) in
    let e : 4 * c.loop-q.q-index + (c.loop-f.f-index + 1) ≡ 4 * c.loop-q.q-index + c.loop-f.f-index + 1 = omega arith in (
      rw e
          (faces_turn c.requires.ranked c.loop-f.invariant.0 (omega arith)
          at
          c.pair.ensures c.from.ensures c.count.ensures (search rules)),
      c.loop-f.invariant.1,
      own,
    )

pub returns : goal.returns
returns g c = faces_end c.requires.ranked c.loop-q.invariant (omega arith)
