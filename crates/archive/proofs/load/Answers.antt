-- `archive::load` meets its contract: the parts stand one behind the other, where the counts say.
use native.Mathlib.Omega.{arith}
use Rattle.archive.specs.Form.{job_of}
use Rattle.archive.proofs.Counted.{corners_inside, cells_are, counted, steps_are, positions_many, cells_many_are, steps_fit}
use Rattle.archive.proofs.Whole.{found_fits}
use Rattle.archive.proofs.load.Goals as goal

pub load_positions-requires : goal.load_positions-requires
load_positions-requires c =
    record {
      n_value = positions_many c.args.bytes.now c.requires.counts_of;
      n_in_bounds = omega (arith, c.requires.counts_of.corners_are, c.requires.load_room.positions_fit);
    }

pub load_cells-requires : goal.load_cells-requires
load_cells-requires c =
    record {
      from_in_bounds = corners_inside c.args.bytes.now c.requires.counts_of;
      n_value = cells_many_are c.args.bytes.now c.requires.counts_of;
      n_in_bounds = omega (arith, c.requires.counts_of.cells_are, c.requires.load_room.cells_fit);
    }

pub overflow_add-form : goal.overflow_add-form
overflow_add-form c =
    omega (arith, found_fits (counted c.args.bytes.now c.requires.counts_of))

pub load_steps-requires : goal.load_steps-requires
load_steps-requires c =
    steps_fit c.args.bytes.now c.requires.counts_of c.requires.t c.requires.load_room

pub returns : goal.returns
unfolding job_of
returns c =
    let w = steps_are c.args.bytes.now c.requires.counts_of in
    record {
      positions = c.load_positions.ensures;
      cells = rw (cells_are c.args.bytes.now c.requires.counts_of) c.load_cells.ensures;
      marked = rw w c.load_steps.ensures.marked_value;
      marks = rw w c.load_steps.ensures.marks_value;
      ends = rw w c.load_steps.ensures.ends_value;
    }
