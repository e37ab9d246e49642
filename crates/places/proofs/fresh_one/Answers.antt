use Rattle.std.proofs.Common.{rules, ◌∙◌}
use Rattle.places.proofs.Knowing.{fresh_bit, bits_are}
use Rattle.places.proofs.fresh_one.Goals as goal

pub returns : goal.returns
returns c =
    c.pattern.ensures.pattern (fresh_bit c.args.store.now c.args.old.now c.args.red.now c.args.first c.args.n c.args.i)
    (λ y b l q. search rules)
    ∙ bits_are _ _ _ _ _ _
