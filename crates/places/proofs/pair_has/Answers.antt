use Rattle.std.proofs.Common.{rules, arith, ℕ, ap, ◌≡◌, ◌+◌, ◌-◌, ◌∙◌}
use Rattle.places.specs.Fresh.{kid_has}
use Rattle.places.proofs.Knowing.{pair_is}
use Rattle.turns.specs.Loops.{some_from}
use Rattle.turns.proofs.Asking.{asked_by}
use Rattle.places.proofs.pair_has.Goals as goal

pub returns : goal.returns
returns c =
    let z : c.args.n - 0 ≡ c.args.n = omega arith in
    let f = λ (j : ℕ). kid_has c.args.store.now c.args.digits.now (c.args.first + j) c.args.ends.0 c.args.ends.1 j in
    asked_by f 0 c.args.n _ _ c.any.ensures.ran (search rules)
    (λ x t q k. search rules)
    ∙ ap (λ n. some_from f n 0) z ∙ pair_is _ _ _ _ _ _
