-- `slots::number_level` meets its contract: a turn numbers the next edge.
use Rattle.std.proofs.Common.{◌≡◌, ◌*◌, arith, add-one, lit<}
use Rattle.slots.proofs.Numbering.{entry_small, run_start, run_room, run_more, run_done}
use Rattle.slots.proofs.number_level.Goals as goal

pub loop-i-init : goal.loop-i-init
loop-i-init c =
    run_start c.args.rows.now (6 * c.args.first) c.args.table.now c.args.slots.now c.start_level.new.self c.start_level.ensures.from
    c.start_level.ensures.kept.2

pub insert-requires : goal.insert-requires
insert-requires c = (
  lit< tt,
  (
    c.loop-i.invariant.edges,
    run_room c.args.rows.now (6 * c.args.first) c.args.table.now c.args.slots.now c.loop-i.i c.loop-i.table c.loop-i.slots
        c.loop-i.invariant c.loop-i.auto.i (omega arith) c.requires.2 (omega arith),
  ),
)

pub overflow_cast-slots : goal.overflow_cast-slots
overflow_cast-slots c =
    omega (
      arith,
      entry_small c.loop-i.table (c.edge_of-ends.result.a, c.edge_of-ends.result.b) c.insert.new.table c.insert.result c.insert.ensures,
    )

pub loop-i-preserved : goal.loop-i-preserved
loop-i-preserved c =
    rw (add-one c.loop-i.i) (run_more c.args.rows.now (6 * c.args.first) c.args.table.now c.args.slots.now c.loop-i.i c.loop-i.table c.loop-i.slots
    c.loop-i.invariant c.loop-i.auto.i (omega arith) (c.edge_of-ends.result.a, c.edge_of-ends.result.b) c.edge_of-ends.ensures
    c.insert.new.table c.insert.result c.insert.ensures)

pub returns : goal.returns
returns c =
    let k : c.loop-i.i ≡ 6 * c.args.last = omega arith in
    run_done c.args.rows.now c.args.first c.args.last c.args.table.now c.args.slots.now c.loop-i.table c.loop-i.slots
    (rw k at c.loop-i.invariant)
