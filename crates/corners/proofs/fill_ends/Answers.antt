-- `corners::fill_ends` meets its contract: the second loop leaves the front that the first one wrote.
use Rattle.corners.proofs.EndRows.{both}
use Rattle.corners.proofs.fill_ends.Goals as goal

pub returns : goal.returns
returns c =
    both c.args.ends.now c.args.n c.coarse_ends.new.ends c.coarse_ends.ensures
    c.args.xs.now c.args.ys.now c.args.m c.new_ends.new.ends c.new_ends.ensures
