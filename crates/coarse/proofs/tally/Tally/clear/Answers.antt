-- No entry, so no count is looked at.
use Rattle.std.proofs.Common.{arith}
use lib.ListN.{get_or-eq_default}
use Rattle.coarse.specs.Tally.{times}
use Rattle.pairs.specs.Keys.{seek}
use Rattle.coarse.proofs.tally.Tally.clear.Goals as goal

pub returns : goal.returns
unfolding times seek
returns g c =
    let t = c.args.self.now in
    record {
      empty = c.clear.ensures.empty.1;
      none = λ x y. rw (c.clear.ensures.empty.0, c.clear.ensures.empty.1) (get_or-eq_default t.counts 0 {n = 65535} (omega (arith, t.room.0, t.room.1)));
    }
