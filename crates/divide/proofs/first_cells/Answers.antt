-- `divide::first_cells` meets its contract: a turn reads where the next level begins.
use Rattle.std.proofs.Common.{◌≡◌, arith, add-one}
use Rattle.base.specs.Limits.{most_levels}
use Rattle.divide.proofs.Dividing.{firsts_start, firsts_turn, firsts_done}
use Rattle.divide.proofs.first_cells.Goals as goal

pub loop-k-init : goal.loop-k-init
loop-k-init c = firsts_start c.args.kids.now

pub loop-k-preserved : goal.loop-k-preserved
loop-k-preserved c = rw (add-one c.loop-k.k) (firsts_turn c.args.kids.now c.loop-k.firsts c.loop-k.k c.loop-k-test.true c.loop-k.invariant)

pub returns : goal.returns
returns c =
    let k : c.loop-k.k ≡ most_levels = omega arith in
    firsts_done c.args.kids.now c.loop-k.firsts c.loop-k.k k c.loop-k.invariant
