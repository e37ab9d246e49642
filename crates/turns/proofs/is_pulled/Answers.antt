use Rattle.std.proofs.Common.{◌≡◌, rules, arith}
use Rattle.std.proofs.lemmas.Grind.{common_steps}
use Rattle.turns.specs.Decide.{pull_of, pulled_kid}
use Rattle.turns.specs.Loops.{some_from}
use Rattle.turns.proofs.Asking.{asked_by}
use Rattle.turns.proofs.is_pulled.Goals as goal

pub returns-else-store-d-eq1 : goal.returns-else-store-d-eq1
unfolding pulled_kid
returns-else-store-d-eq1 c =
    let x = c.args.store.now in
    let d = c.args.d in
    let e : c.any.result ≡ some_from (pull_of x d) 6 0 =
    asked_by (pull_of x d) 0 6 _ _ c.any.ensures.ran (search rules) (λ x t q k. search rules) in
    grind (arith, common_steps)
