-- `growth::points_of` meets its contract: after each edge it is known which edges are in the table and which points have numbers.
use Rattle.std.proofs.Common.{arith, rules}
use Rattle.growth.proofs.Turn.{turn_start, turn_ready, turn_more, turn_all}
use Rattle.growth.proofs.points_of.Goals as goal

pub split_edge-requires : goal.split_edge-requires
split_edge-requires g c =
    let t0 = turn_start c.requires.mids c.corners_of-points.result c.corners_of-points.ensures in
    let q = turn_ready c.requires c.pattern_of-pattern.ensures t0 (omega arith) in
    (search rules, (q.0, (t0.mids, q.1)))

pub split_edge-requires-2 : goal.split_edge-requires-2
split_edge-requires-2 g c =
    let t0 = turn_start c.requires.mids c.corners_of-points.result c.corners_of-points.ensures in
    let t1 = turn_more t0 (omega arith) c.split_edge.ensures.grown c.split_edge.ensures.points_value in
    let q = turn_ready c.requires c.pattern_of-pattern.ensures t1 (omega arith) in
    (search rules, (q.0, (t1.mids, q.1)))

pub split_edge-requires-3 : goal.split_edge-requires-3
split_edge-requires-3 g c =
    let t0 = turn_start c.requires.mids c.corners_of-points.result c.corners_of-points.ensures in
    let t1 = turn_more t0 (omega arith) c.split_edge.ensures.grown c.split_edge.ensures.points_value in
    let t2 = turn_more t1 (omega arith) c.split_edge-2.ensures.grown c.split_edge-2.ensures.points_value in
    let q = turn_ready c.requires c.pattern_of-pattern.ensures t2 (omega arith) in
    (search rules, (q.0, (t2.mids, q.1)))

pub split_edge-requires-4 : goal.split_edge-requires-4
split_edge-requires-4 g c =
    let t0 = turn_start c.requires.mids c.corners_of-points.result c.corners_of-points.ensures in
    let t1 = turn_more t0 (omega arith) c.split_edge.ensures.grown c.split_edge.ensures.points_value in
    let t2 = turn_more t1 (omega arith) c.split_edge-2.ensures.grown c.split_edge-2.ensures.points_value in
    let t3 = turn_more t2 (omega arith) c.split_edge-3.ensures.grown c.split_edge-3.ensures.points_value in
    let q = turn_ready c.requires c.pattern_of-pattern.ensures t3 (omega arith) in
    (search rules, (q.0, (t3.mids, q.1)))

pub split_edge-requires-5 : goal.split_edge-requires-5
split_edge-requires-5 g c =
    let t0 = turn_start c.requires.mids c.corners_of-points.result c.corners_of-points.ensures in
    let t1 = turn_more t0 (omega arith) c.split_edge.ensures.grown c.split_edge.ensures.points_value in
    let t2 = turn_more t1 (omega arith) c.split_edge-2.ensures.grown c.split_edge-2.ensures.points_value in
    let t3 = turn_more t2 (omega arith) c.split_edge-3.ensures.grown c.split_edge-3.ensures.points_value in
    let t4 = turn_more t3 (omega arith) c.split_edge-4.ensures.grown c.split_edge-4.ensures.points_value in
    let q = turn_ready c.requires c.pattern_of-pattern.ensures t4 (omega arith) in
    (search rules, (q.0, (t4.mids, q.1)))

pub split_edge-requires-6 : goal.split_edge-requires-6
split_edge-requires-6 g c =
    let t0 = turn_start c.requires.mids c.corners_of-points.result c.corners_of-points.ensures in
    let t1 = turn_more t0 (omega arith) c.split_edge.ensures.grown c.split_edge.ensures.points_value in
    let t2 = turn_more t1 (omega arith) c.split_edge-2.ensures.grown c.split_edge-2.ensures.points_value in
    let t3 = turn_more t2 (omega arith) c.split_edge-3.ensures.grown c.split_edge-3.ensures.points_value in
    let t4 = turn_more t3 (omega arith) c.split_edge-4.ensures.grown c.split_edge-4.ensures.points_value in
    let t5 = turn_more t4 (omega arith) c.split_edge-5.ensures.grown c.split_edge-5.ensures.points_value in
    let q = turn_ready c.requires c.pattern_of-pattern.ensures t5 (omega arith) in
    (search rules, (q.0, (t5.mids, q.1)))

pub returns : goal.returns
returns g c =
    let t0 = turn_start c.requires.mids c.corners_of-points.result c.corners_of-points.ensures in
    let t1 = turn_more t0 (omega arith) c.split_edge.ensures.grown c.split_edge.ensures.points_value in
    let t2 = turn_more t1 (omega arith) c.split_edge-2.ensures.grown c.split_edge-2.ensures.points_value in
    let t3 = turn_more t2 (omega arith) c.split_edge-3.ensures.grown c.split_edge-3.ensures.points_value in
    let t4 = turn_more t3 (omega arith) c.split_edge-4.ensures.grown c.split_edge-4.ensures.points_value in
    let t5 = turn_more t4 (omega arith) c.split_edge-5.ensures.grown c.split_edge-5.ensures.points_value in
    let t6 = turn_more t5 (omega arith) c.split_edge-6.ensures.grown c.split_edge-6.ensures.points_value in
    let q = turn_all t6 c.args.status c.pattern_of-pattern.ensures in
    record { grown = q.0; points_set = q.1 }
