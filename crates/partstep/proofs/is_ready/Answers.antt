use Rattle.std.proofs.Common.{◌≡◌, rules, arith, ap, not, ◌∙◌, ◌+◌, ◌-◌}
use Rattle.store.specs.Fields.{field, PARTS}
use Rattle.turns.specs.Loops.{some_from}
use Rattle.turns.proofs.Asking.{asked_by}
use Rattle.partstep.specs.Step.{waits_for, readyb}
use Rattle.partstep.proofs.is_ready.Goals as goal

pub returns : goal.returns
unfolding readyb
returns c =
    let n = field c.args.store.now PARTS in
    let z : n + 1 - 1 ≡ n = omega arith in
    ap not (asked_by (waits_for c.args.store.now) 1 (n + 1) _ _ c.any.ensures.ran (search rules) (λ x t q k. search rules)
    ∙ ap (λ m. some_from (waits_for c.args.store.now) m 1) z)
