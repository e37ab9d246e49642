-- A turn stores one corner's record.
use Rattle.std.proofs.Common.{◌≡◌, ◌+◌, ◌*◌, ◌/◌, ◌∙◌, ◌<◌, ap, List, [], length, get_or, arith, rules}
use lib.IntN.{ℤ, pos}
use lib.Seq.{sets}
use mir.Syntax.{w32}
use mir.Val.{to_z, of_z}
use Rattle.archive.specs.Job.{corner_bytes}
use Rattle.archive.proofs.Stores.{records_start, records_turn, records_all, chunk_length, three_points, corner-size, corners_flat}
use Rattle.archive.proofs.store_corners.Goals as goal

pub loop-i-init : goal.loop-i-init
loop-i-init c = records_start corner_bytes 13 [] c.as_chunks.result.0.now 0 c.args.out.now

pub loop-i-preserved : goal.loop-i-preserved
loop-i-preserved c =
    let ps = c.args.positions.now in
    let qs = c.as_chunks.result.0.now in
    let q : List ℤ = get_or qs c.loop-i.i [] in
    let h : c.loop-i.i < length qs = search rules in
    let three : length q ≡ 3 = rw c.as_chunks.ensures.front (chunk_length 3 (length ps / 3) ps (omega arith) c.loop-i.i (omega (arith, c.as_chunks.ensures.front_len))) in
    let x : to_z w32 (of_z w32 (get_or q 0 (pos 0))) ≡ get_or q 0 (pos 0) = search rules in
    let y : to_z w32 (of_z w32 (get_or q 1 (pos 0))) ≡ get_or q 1 (pos 0) = search rules in
    let w : to_z w32 (of_z w32 (get_or q 2 (pos 0))) ≡ get_or q 2 (pos 0) = search rules in
    let z : 0 + 13 * c.loop-i.i ≡ 13 * c.loop-i.i = omega arith in
    records_turn corner_bytes 13 [] qs 0 c.args.out.now c.loop-i.invariant h (corner-size q three)
    (rw z (rw (x, y, w) at c.put_corner.ensures ∙ ap (λ (k : List ℤ). sets c.loop-i.out (13 * c.loop-i.i) (corner_bytes k)) (three_points q three)))

pub returns : goal.returns
returns c =
    records_all corner_bytes 13 [] c.as_chunks.result.0.now 0 c.args.out.now c.loop-i.invariant (search rules)
    ∙ rw (c.as_chunks.ensures.front, corners_flat c.args.positions.now)
