-- No bucket of a cleared table has an entry.
use Rattle.std.proofs.Common.{arith, length, ◌∙◌}
use Rattle.pairs.specs.Keys.{clear_new}
use Rattle.pairs.proofs.PairTable.clear.Goals as goal

pub invariant_of-self : goal.invariant_of-self
invariant_of-self g c =
    let t = c.args.self.now in
    record {
      sized = (t.sized.0, t.sized.1, c.fill.ensures.len ∙ t.sized.2, t.sized.3);
      in_order = rw (c.fill.ensures.after (λ y e. e)) ((clear_new (length t.heads) t.in_order.in_heads).empty _ _ _);
      up = omega arith;
    }
