-- `writing::write_table` meets its contract: the invariant is `WriteGoing` (crate's proofs).
use Rattle.std.proofs.Common.{arith}
use Rattle.writing.proofs.Turn.{coarse_inside, going_start, result_end, result_many, result_high, going_next}
use Rattle.writing.proofs.write_table.Goals as goal

pub write_kept-requires-clause-first_in_bounds : goal.write_kept-requires-clause-first_in_bounds
write_kept-requires-clause-first_in_bounds c =
    let i = coarse_inside c.requires in
    (omega (arith, i, c.requires.in_kept), omega (arith, c.requires.coarse))

pub loop-level-init : goal.loop-level-init
loop-level-init c = going_start c.requires c.told-table c.told-old c.write_kept.ensures

pub returns-then-size-eq0 : goal.returns-then-size-eq0
returns-then-size-eq0 c = result_end c.requires c.loop-level.invariant (omega arith)

pub returns-then-size-last : goal.returns-then-size-last
returns-then-size-last c = result_many c.requires c.loop-level.invariant (omega arith) (omega arith)

pub loop-level-preserved : goal.loop-level-preserved
loop-level-preserved c =
    going_next c.requires c.loop-level.invariant (omega arith) c.level_size-size.result c.level_size-size.ensures c.loop-level-test.true (omega arith)
    c.write_level.ensures

pub returns-then-level_size-gt0 : goal.returns-then-level_size-gt0
returns-then-level_size-gt0 c = result_high c.requires c.loop-level.invariant (omega arith) (omega arith)

pub returns : goal.returns
returns c = result_end c.requires c.loop-level.invariant (omega arith)
