-- `growth::grow_level` meets its contract: the invariant says what the cells passed have left in the tables.
use Rattle.std.proofs.Common.{rules}
use Rattle.growth.proofs.WholeLevel.{grows_start, next_asked, next_grows}
use Rattle.growth.proofs.grow_level.Goals as goal

pub loop-c-init : goal.loop-c-init
loop-c-init g c = grows_start _ _ _ _ _ c.args.level _ _ c.requires

pub refine-next-requires : goal.refine-next-requires
refine-next-requires g c =
    let q = next_asked _ _ _ _ _ c.args.level _ _ c.requires c.loop-c.c c.loop-c.auto.c c.loop-c-test.true c.loop-c.invariant c.loop-c.auto.cells in
    (search rules, (q.0, q.1))

pub loop-c-preserved : goal.loop-c-preserved
loop-c-preserved g c =
    next_grows _ _ _ _ _ c.args.level _ _ c.requires c.loop-c.c c.loop-c.auto.c c.loop-c-test.true c.loop-c.invariant c.refine-next.ensures
