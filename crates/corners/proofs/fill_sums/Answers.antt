-- `corners::fill_sums` meets its contract: the second loop leaves the front that the first one wrote, whose numbers are small.
use Rattle.std.proofs.Common.{rules}
use Rattle.corners.proofs.SumRows.{both, front_small}
use Rattle.corners.proofs.fill_sums.Goals as goal

pub new_sums-requires : goal.new_sums-requires
new_sums-requires c =
    let f = front_small c.args.sums.now c.args.positions.now c.args.n c.coarse_sums.new.sums c.coarse_sums.ensures c.requires.smalls in
    record {
      ends = c.requires.ends;
      m_in_bounds = search rules;
      smalls = f;
    }

pub returns : goal.returns
returns c =
    both c.args.sums.now c.args.positions.now c.args.n c.coarse_sums.new.sums c.coarse_sums.ensures
    c.args.xs.now c.args.ys.now c.args.m c.new_sums.new.sums c.new_sums.ensures
