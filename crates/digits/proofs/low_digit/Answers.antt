use Rattle.digits.proofs.Corners.{low_same}
use Rattle.digits.proofs.low_digit.Goals as goal

pub returns : goal.returns
returns c = rw (c.low_corner.ensures.0, low_same c.args.y c.requires.1)
