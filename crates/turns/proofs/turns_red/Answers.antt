use Rattle.std.proofs.Common.{◌≡◌, rules, arith, ◌+◌, ◌-◌}
use Rattle.std.proofs.lemmas.Grind.{common_steps}
use Rattle.store.specs.Fields.{field, CHILD}
use Rattle.turns.specs.Decide.{busyb, pulled_kid, kid_count, ruleb}
use Rattle.turns.specs.Loops.{some_from}
use Rattle.turns.proofs.Asking.{asked_by}
use Rattle.turns.proofs.turns_red.Goals as goal

pub returns-in-64 : goal.returns-in-64
unfolding ruleb
returns-in-64 c =
    let x = c.args.store.now in
    let a = field x (CHILD + c.args.c) in
    let n = kid_count x c.args.c in
    let z : a + n - a ≡ n = omega arith in
    let e : c.any.result ≡ some_from (busyb x) (a + n - a) a =
    asked_by (busyb x) a (a + n) _ _ c.any.ensures.ran (search rules) (λ x t q k. search rules) in
    grind (arith, common_steps)

pub returns-in_default : goal.returns-in_default
unfolding ruleb
returns-in_default c =
    let x = c.args.store.now in
    let a = field x (CHILD + c.args.c) in
    let n = kid_count x c.args.c in
    let z : a + n - a ≡ n = omega arith in
    let e : c.any-in_default.result ≡ some_from (pulled_kid x) (a + n - a) a =
    asked_by (pulled_kid x) a (a + n) _ _ c.any-in_default.ensures.ran (search rules) (λ x t q k. search rules) in
    grind (arith, common_steps)
