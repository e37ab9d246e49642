-- `rows::level_size` meets its contract: a turn adds the next cell's children.
use Rattle.std.proofs.Common.{sym, arith}
use Rattle.rows.specs.Sizes.{sizes_step, sizes_none, status_fits}
use Rattle.rows.proofs.level_size.Goals as goal

pub loop-c-init : goal.loop-c-init
loop-c-init c =
    (sym (sizes_none c.args.status.now c.args.first), omega arith)

pub size_of-n-requires : goal.size_of-n-requires
size_of-n-requires c =
    status_fits c.args.status.now c.requires.status_value c.loop-c.c (omega (arith, c.loop-c-test.true, c.requires.first_le_last.1))

pub loop-c-preserved : goal.loop-c-preserved
loop-c-preserved c = (
  omega (
    arith,
    c.loop-c.invariant.0,
    c.size_of-n.ensures.0,
    sizes_step c.args.status.now c.args.first c.loop-c.c c.loop-c.auto.c (omega (arith, c.loop-c-test.true, c.requires.first_le_last.1)),
  ),
  omega (arith, c.loop-c.invariant.1, c.loop-c.auto.c, c.size_of-n.ensures.1),
)
