-- `examining::examine_within` meets its contract: the table for the work is new, and has a size.
use Rattle.std.proofs.Common.{rules, arith, ℕ, refl}
use Rattle.std.proofs.lemmas.List.{length-replicate}
use Rattle.pairs.specs.Keys.{clear_new}
use Rattle.examining.proofs.examine_within.Goals as goal

pub build-requires : goal.build-requires
build-requires g c = (
  search rules,
  (
    search rules,
    (
      c.requires.mesh,
      (
        c.requires.statuses,
        (c.requires.table_room, (c.requires.red_room, (c.requires.empty.0, c.requires.empty.1, refl))),
      ),
    ),
  ),
)

pub invariant_of-red : goal.invariant_of-red
invariant_of-red g c =
    record {
      sized = (
        length-replicate {A = ℕ} g.row.N 0,
        length-replicate {A = ℕ} g.row.N 0,
        length-replicate {A = ℕ} g.row.H 65535,
        length-replicate {A = ℕ} g.row.N 0,
      );
      in_order = (clear_new g.row.H c.requires.red_size.0).empty _ _ _;
      up = omega arith;
    }
