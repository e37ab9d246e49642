-- `columns::one_owner` meets its contract: the chain's test is the definition's.
use Rattle.std.proofs.Common.{rules, tests, arith, ◌∙◌, ap, ◌-◌, ◌+◌, add-one, ℕ, get_or, eqb}
use Rattle.std.proofs.lemmas.Iterator.{YieldsList-from_range}
use Rattle.std.proofs.lemmas.Iterator.Search.{all_from_yields_List}
use Rattle.base.specs.Lists.{allb}
use Rattle.base.specs.Range.{range}
use Rattle.rows.specs.Chains.{all_chain}
use Rattle.columns.proofs.Owning.{ownedb, range_chain}
use Rattle.columns.proofs.one_owner.Goals as goal

pub returns : goal.returns
returns c =
    let first = get_or c.args.kids.now c.args.c 0 in
    let last = get_or c.args.kids.now (c.args.c + 1) 0 in
    all_from_yields_List (λ d. eqb (get_or c.args.owners.now d 0) c.family_of-owner.result) _ _ _ c.all.ensures.ran
    (YieldsList-from_range first last (last - first) (cc) (omega arith)) (λ x b q k. search (rules, tests))
    ∙ all_chain _ _ ∙ ap (allb _) (range_chain first (last - first))
    ∙ ap (λ (v : ℕ). allb (λ d. eqb (get_or c.args.owners.now d 0) v) (range first (last - first))) c.family_of-owner.ensures
    ∙ ap (λ (n : ℕ). allb (ownedb c.args.kids.now c.args.owners.now c.args.c) (range first (get_or c.args.kids.now n 0 - first))) (add-one c.args.c)
