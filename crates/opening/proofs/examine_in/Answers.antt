-- The table of midpoints is new.
use Rattle.std.proofs.Common.{arith, ℕ}
use Rattle.std.proofs.lemmas.List.{length-replicate}
use Rattle.pairs.specs.Keys.{clear_new}
use Rattle.opening.proofs.examine_in.Goals as goal

pub invariant_of-mids : goal.invariant_of-mids
invariant_of-mids g c =
    record {
      sized = (
        length-replicate {A = ℕ} g.row.M 0,
        length-replicate {A = ℕ} g.row.M 0,
        length-replicate {A = ℕ} g.row.MH 65535,
        length-replicate {A = ℕ} g.row.M 0,
      );
      in_order = (clear_new g.row.MH c.requires.sizes.2).empty _ _ _;
      up = omega arith;
    }
