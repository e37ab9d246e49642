use Rattle.digits.proofs.Corners.{high_same}
use Rattle.digits.proofs.high_digit.Goals as goal

pub returns : goal.returns
returns c = rw (c.high_corner.ensures.0, high_same c.args.y c.requires.1)
