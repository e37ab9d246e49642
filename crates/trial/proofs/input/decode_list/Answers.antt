-- One place more holds its number.
use Rattle.std.proofs.Common.{arith, rules}
use Rattle.trial.proofs.Tables.{tabbed_start, tabbed_more}
use Rattle.trial.proofs.input.decode_list.Goals as goal

pub loop-i-init : goal.loop-i-init
loop-i-init g c = (omega arith, tabbed_start (g.T.Coded.coded c.args.bytes.now) c.args.list.now)

pub loop-i-preserved : goal.loop-i-preserved
loop-i-preserved g c = (
  search rules,
  tabbed_more (g.T.Coded.coded c.args.bytes.now) c.args.list.now c.loop-i.invariant.1 c.decode.result (search rules) c.decode.ensures,
)
