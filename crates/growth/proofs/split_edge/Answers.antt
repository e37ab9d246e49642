-- `growth::split_edge` meets its contract: an edge that is not split changes nothing; one that is gets the number of its entry.
use Rattle.std.proofs.Common.{◌≡◌, sym, ◌∙◌, true, false, arith, rules}
use Rattle.cutting.specs.Rule.{split}
use Rattle.rows.specs.Numbered.{cell_at}
use Rattle.growth.proofs.Split.{whole, room, slot_below, halved}
use Rattle.growth.proofs.split_edge.Goals as goal

pub add_edge-at-requires : goal.add_edge-at-requires
add_edge-at-requires g c =
    let t : split c.args.pattern c.args.e ≡ true = sym c.is_split.ensures ∙ c.if-is_split.true in (
      search rules,
      (
        (c.requires.c_in_bounds.0, c.requires.c_in_bounds.1),
        (
          c.requires.mids.distinct,
          room c.args.pattern (cell_at c.args.cells.now c.args.c) c.args.e c.args.n c.args.points.now c.args.mids.now t c.requires.space,
        ),
      ),
    )

pub overflow_add-points : goal.overflow_add-points
overflow_add-points g c =
    omega (
      arith,
      slot_below c.args.pattern (cell_at c.args.cells.now c.args.c) c.args.e c.args.n c.args.points.now c.args.mids.now c.add_edge-at.ensures,
      c.requires.c_in_bounds.2,
    )

pub overflow_cast-points : goal.overflow_cast-points
overflow_cast-points g c =
    omega (
      arith,
      slot_below c.args.pattern (cell_at c.args.cells.now c.args.c) c.args.e c.args.n c.args.points.now c.args.mids.now c.add_edge-at.ensures,
      c.requires.c_in_bounds.2,
    )

pub returns-then-is_split : goal.returns-then-is_split
returns-then-is_split g c =
    let t : split c.args.pattern c.args.e ≡ true = sym c.is_split.ensures ∙ c.if-is_split.true in
    let w = halved c.args.pattern (cell_at c.args.cells.now c.args.c) c.args.e c.args.n c.args.points.now c.args.mids.now c.add_edge-at.ensures
    c.requires.mids.all t c.middle_of.result c.middle_of.ensures.0 in
    record { grown = w.0; points_value = w.1 }

pub returns-else-is_split : goal.returns-else-is_split
returns-else-is_split g c =
    let t : split c.args.pattern c.args.e ≡ false = sym c.is_split.ensures ∙ c.if-is_split.false in
    let w = whole c.args.pattern (cell_at c.args.cells.now c.args.c) c.args.e c.args.n c.args.points.now c.args.mids.now t c.requires.mids.distinct in
    record { grown = w.0; points_value = w.1 }
