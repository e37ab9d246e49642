-- No bucket of a new table has an entry.
use Rattle.std.proofs.Common.{ℕ, arith}
use Rattle.std.proofs.lemmas.List.{length-replicate}
use Rattle.pairs.specs.Keys.{clear_new}
use Rattle.pairs.proofs.PairTable.new.Goals as goal

pub invariant_of-result : goal.invariant_of-result
invariant_of-result g c = record {
  sized = (
    length-replicate {A = ℕ} g.row.N 0,
    length-replicate {A = ℕ} g.row.N 0,
    length-replicate {A = ℕ} g.row.H 65535,
    length-replicate {A = ℕ} g.row.N 0,
  );
  in_order = (clear_new g.row.H c.requires).empty _ _ _;
  up = omega arith;
}
