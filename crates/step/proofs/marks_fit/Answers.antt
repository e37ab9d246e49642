-- `step::marks_fit` meets its contract: the chain's tests are the definition's, one after the other.
use Rattle.std.proofs.Common.{ne_eqb, rules, tests, arith, ◌∙◌, length}
use Rattle.std.proofs.lemmas.Iterator.{YieldsList-from_range}
use Rattle.std.proofs.lemmas.Iterator.Search.{all_from_yields_List}
use Rattle.step.proofs.Marks.{fitb, marks_differ, marks_chain}
use Rattle.step.proofs.marks_fit.Goals as goal

pub returns-then-marks-status : goal.returns-then-marks-status
returns-then-marks-status c =
    let n = length c.args.status.now in
    all_from_yields_List (fitb c.args.status.now c.args.marks.now) _ _ _ c.all.ensures.ran
    (YieldsList-from_range 0 n n (cc) (omega arith)) (λ x b q k. search (rules, tests))
    ∙ marks_chain c.args.status.now c.args.marks.now n 0 (omega arith) c.if-marks-status.true

pub returns-else-marks-status : goal.returns-else-marks-status
returns-else-marks-status c = ne_eqb _ _ c.if-marks-status.false ∙ marks_differ _ _ c.if-marks-status.false
