-- `corners::half_sum` meets its contract: twice 512,000,000 fits an i32, and so does its half.
use mir.Facts.{to_z-of_z}
use Rattle.corners.specs.Sums.{half}
use Rattle.corners.proofs.Size.{sum_fits, half_fits}
use Rattle.corners.proofs.half_sum.Goals as goal

pub returns : goal.returns
unfolding half
returns c =
    let s = sum_fits c.args.a c.args.b c.requires.small_sum c.requires.small_sum_2 in
    rw (to_z-of_z c.ranges.a, to_z-of_z c.ranges.b, to_z-of_z s)
    (to_z-of_z (half_fits c.args.a c.args.b c.requires.small_sum c.requires.small_sum_2))
