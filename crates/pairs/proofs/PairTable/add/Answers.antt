-- The entry is stored behind the others, and becomes the last one of its bucket.
use Rattle.std.proofs.Common.{rules}
use native.Mathlib.Omega.{arith}
use Rattle.pairs.proofs.More.{added_at}
use Rattle.pairs.proofs.PairTable.add.Goals as goal

pub invariant_of-self : goal.invariant_of-self
invariant_of-self g c =
    let b = c.bucket_of-b in
    let t = c.args.self.now in
    record {
      sized = search rules;
      in_order = rw c.note.ensures (added_at {x = c.args.x} {y = c.args.y} t.in_order (record { small = search rules; in_xs = search rules; in_ys = search rules; in_links = search rules }) b.result (search rules) (search rules)).keys;
      up = omega (arith, t.up);
    }
