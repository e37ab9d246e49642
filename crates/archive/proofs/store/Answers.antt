-- `archive::store` meets its contract: the three parts, one behind the other, are the archive.
use mathlib.Core.Path.{◌∙◌}
use Prim.Native.Nat.{◌*◌, ◌/◌}
use native.Mathlib.Omega.{arith}
use lib.ListN.{length}
use Rattle.archive.specs.Job.{corner_bytes, cell_bytes}
use Rattle.archive.proofs.Stored.{steps_room, stored_all, stored-length}
use Rattle.archive.proofs.Stores.{sets_length}
use Rattle.archive.proofs.store.Goals as goal

pub store_corners-requires : goal.store_corners-requires
store_corners-requires c =
    record {
      positions_len = c.requires.storable.threes;
      positions_in_bounds = omega (arith, steps_room c.requires.storable c.args.bytes.now c.requires.ends_in_bounds);
    }

pub store_cells-requires : goal.store_cells-requires
store_cells-requires c =
    record {
      cells_len = c.requires.storable.fours;
      cells_in_bounds = omega (
        arith,
        steps_room c.requires.storable c.args.bytes.now c.requires.ends_in_bounds,
        sets_length c.args.bytes.now 0
            (corner_bytes c.args.positions.now) c.store_corners.ensures,
      );
    }

pub overflow_add-from : goal.overflow_add-from
overflow_add-from c =
    omega (arith, steps_room c.requires.storable c.args.bytes.now c.requires.ends_in_bounds)

pub store_steps-requires : goal.store_steps-requires
store_steps-requires c =
    record {
      ends_rise = c.requires.storable.ends;
      ends_in_bounds = omega (
        arith,
        steps_room c.requires.storable c.args.bytes.now c.requires.ends_in_bounds,
        sets_length c.args.bytes.now 0
            (corner_bytes c.args.positions.now) c.store_corners.ensures,
        sets_length _
            (13 * (length c.args.positions.now / 3)) (cell_bytes c.args.cells.now) c.store_cells.ensures,
      );
    }

pub returns : goal.returns
returns c =
    record {
      bytes_value = stored_all c.requires.storable c.args.bytes.now c.requires.ends_in_bounds
          c.store_corners.ensures
          c.store_cells.ensures c.store_steps.ensures.out_value;
      value = c.store_steps.ensures.value ∙ stored-length c.requires.storable;
    }
