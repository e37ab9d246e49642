-- A cell whose key is met again is one met before; a turn counts its key.
use Rattle.std.proofs.Common.{arith, rules}
use Rattle.coarse.specs.Tally.{lead, low_cell}
use Rattle.coarse.proofs.Meets.{meets_start}
use Rattle.coarse.proofs.Turns.{cells_open, cells_turn, cells_over, cells_end}
use Rattle.coarse.proofs.cells_differ.Goals as goal

pub loop-q-init : goal.loop-q-init
loop-q-init g c = meets_start lead low_cell 1 c.args.cells.now c.requires.fresh

pub count-requires : goal.count-requires
count-requires g c = (search rules, cells_open c.requires.ranked c.loop-q.invariant (search rules) c.requires.room _ _)

pub returns-then-count-gt1 : goal.returns-then-count-gt1
unfolding lead low_cell
returns-then-count-gt1 g c =
    cells_over c.requires.ranked c.loop-q.invariant (search rules) c.pair.ensures c.pair-in-loop-q.ensures c.count.ensures (search rules)

pub loop-q-preserved : goal.loop-q-preserved
unfolding lead low_cell
loop-q-preserved g c =
    cells_turn c.requires.ranked c.loop-q.invariant (search rules) c.pair.ensures c.pair-in-loop-q.ensures c.count.ensures (search rules)

pub returns : goal.returns
returns g c = cells_end c.requires.ranked c.loop-q.invariant (omega arith)
