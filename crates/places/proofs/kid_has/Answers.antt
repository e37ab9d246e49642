use Rattle.std.proofs.Common.{rules, ◌∙◌}
use Rattle.places.specs.Fresh.{edge_hit}
use Rattle.places.proofs.Knowing.{kid_is}
use Rattle.turns.proofs.Asking.{asked_by}
use Rattle.places.proofs.kid_has.Goals as goal

pub returns : goal.returns
returns c =
    asked_by (edge_hit c.args.store.now c.args.digits.now c.args.d c.args.ends.0 c.args.ends.1 c.args.j) 0 6 _ _
    c.any.ensures.ran (search rules)
    (λ x t q k. search rules) ∙ kid_is _ _ _ _ _ _
