-- `divide::divide` meets its contract: slots, columns, stores; the stores are those of the split.
use Rattle.std.proofs.Common.{refl, ◌∙◌, arith}
use Rattle.divide.proofs.Dividing.{rising_of}
use Rattle.divide.proofs.Whole.{kids_of_lem, levels_of_lem, few_cells, few_levels, ready_of, small_of, masks_are, stores_are}
use Rattle.divide.proofs.divide.Goals as goal

pub first_cells-firsts-requires : goal.first_cells-firsts-requires
first_cells-firsts-requires c = (
  kids_of_lem c.args.n c.args.mesh.now c.args.status.now c.args.rows.now c.args.kids.now c.args.owners.now c.args.parts c.args.levels c.args.stores.now c.requires,
  levels_of_lem c.args.n c.args.mesh.now c.args.status.now c.args.rows.now c.args.kids.now c.args.owners.now c.args.parts c.args.levels c.args.stores.now c.requires,
)

pub number-requires : goal.number-requires
number-requires c =
    rising_of c.args.kids.now c.first_cells-firsts.result _
    (few_cells c.args.n c.args.mesh.now c.args.status.now c.args.rows.now c.args.kids.now c.args.owners.now c.args.parts c.args.levels c.args.stores.now c.requires)
    (levels_of_lem c.args.n c.args.mesh.now c.args.status.now c.args.rows.now c.args.kids.now c.args.owners.now c.args.parts c.args.levels c.args.stores.now c.requires)
    c.first_cells-firsts.ensures

pub fill-requires : goal.fill-requires
fill-requires c =
    record {
      sources = ready_of c.args.n c.args.mesh.now c.args.status.now c.args.rows.now c.args.kids.now c.args.owners.now c.args.parts c.args.levels c.args.stores.now c.requires c.told-rows;
      cols_len = refl;
    }

pub fill_masks-requires : goal.fill_masks-requires
fill_masks-requires c = (
  few_cells c.args.n c.args.mesh.now c.args.status.now c.args.rows.now c.args.kids.now c.args.owners.now c.args.parts c.args.levels c.args.stores.now c.requires,
  small_of c.args.n c.args.mesh.now c.args.status.now c.args.rows.now c.args.kids.now c.args.owners.now c.args.parts c.args.levels c.args.stores.now c.requires
      c.first_cells-firsts.result c.number.new.starts c.number.new.slots
      (record { firsts = c.first_cells-firsts.ensures; starts = c.number.array_long2; slots = c.number.ensures }),
)

pub overflow_cast-source-3 : goal.overflow_cast-source-3
overflow_cast-source-3 c = omega (arith, few_levels c.args.n c.args.mesh.now c.args.status.now c.args.rows.now c.args.kids.now c.args.owners.now c.args.parts c.args.levels c.args.stores.now c.requires)

pub invariant_of-source : goal.invariant_of-source
invariant_of-source c =
    record {
      few = (few_cells c.args.n c.args.mesh.now c.args.status.now c.args.rows.now c.args.kids.now c.args.owners.now c.args.parts c.args.levels c.args.stores.now c.requires, c.requires.mesh.few);
      sized = (c.first_cells-firsts.ensures.size, c.number.array_long2);
      small_slots = small_of c.args.n c.args.mesh.now c.args.status.now c.args.rows.now c.args.kids.now c.args.owners.now c.args.parts c.args.levels c.args.stores.now c.requires c.first_cells-firsts.result c.number.new.starts c.number.new.slots (record { firsts = c.first_cells-firsts.ensures; starts = c.number.array_long2; slots = c.number.ensures });
    }

pub write_parts-requires : goal.write_parts-requires
write_parts-requires c =
    record {
      stores_room = (c.requires.room, c.requires.parts);
      masks = masks_are c.fill.new.cols _ c.number.new.slots c.fill_masks.new.masks c.fill_masks.ensures;
    }

pub returns : goal.returns
returns c =
    c.write_parts.ensures
    ∙ stores_are c.args.n c.args.mesh.now c.args.status.now c.args.rows.now c.args.kids.now c.args.owners.now c.args.parts c.args.levels c.args.stores.now c.requires
    c.first_cells-firsts.result c.number.new.starts c.number.new.slots (record { firsts = c.first_cells-firsts.ensures; starts = c.number.array_long2; slots = c.number.ensures })
    c.fill.new.cols c.fill.ensures
