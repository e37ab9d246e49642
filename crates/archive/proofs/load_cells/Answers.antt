-- `archive::load_cells` meets its contract: each number stands at its place of the bytes. The measure is the number of numbers left.
use mathlib.Core.Path.{◌∙◌}
use native.Mathlib.Omega.{arith}
use lib.ListN.{length, drop}
use Rattle.archive.specs.Form.{cell_records}
use Rattle.archive.proofs.Fill.{filled_more}
use Rattle.archive.proofs.Fields.{cell_inside, cell_from}
use Rattle.archive.proofs.load_cells.Goals as goal

pub overflow_add-from : goal.overflow_add-from
overflow_add-from c =
    omega (arith, cell_inside c.args.bytes.now c.args.from c.loop-k.k c.requires.from_in_bounds (omega (arith, c.loop-k-test.true)))

pub overflow_add-from-in-loop-k : goal.overflow_add-from-in-loop-k
overflow_add-from-in-loop-k c =
    omega (arith, cell_inside c.args.bytes.now c.args.from c.loop-k.k c.requires.from_in_bounds (omega (arith, c.loop-k-test.true)))

pub overflow_add-from-in-loop-k-2 : goal.overflow_add-from-in-loop-k-2
overflow_add-from-in-loop-k-2 c =
    omega (arith, cell_inside c.args.bytes.now c.args.from c.loop-k.k c.requires.from_in_bounds (omega (arith, c.loop-k-test.true)))

pub number-requires : goal.number-requires
number-requires c =
    cell_inside c.args.bytes.now c.args.from c.loop-k.k c.requires.from_in_bounds (omega (arith, c.loop-k-test.true))

pub loop-k-preserved : goal.loop-k-preserved
loop-k-preserved c =
    filled_more (cell_records (length c.args.bytes.now) (drop c.args.from c.args.bytes.now)).0 c.args.cells.now
    c.loop-k.invariant 0 c.number.result (omega (arith, c.loop-k-test.true))
    (c.number.ensures ∙ cell_from c.args.bytes.now c.args.from c.loop-k.k c.requires.from_in_bounds
    (omega (arith, c.loop-k-test.true)))
