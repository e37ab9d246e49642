-- `merge::has_all` meets its contract: the chain's test is the definition's.
use Rattle.std.proofs.Common.{rules, tests, arith, ◌∙◌, ◌+◌, eqb}
use Rattle.std.proofs.lemmas.Iterator.{YieldsList-from_range}
use Rattle.std.proofs.lemmas.Iterator.Search.{all_from_yields_List}
use Rattle.base.specs.Lists.{anyb}
use Rattle.store.specs.Fields.{field, PART}
use Rattle.store.specs.Stores.{stores_by}
use Rattle.merge.specs.Stores.{all_parts}
use Rattle.merge.proofs.has_all.Goals as goal

pub returns : goal.returns
returns c =
    let b = c.args.stores.now in
    all_from_yields_List (λ p. anyb (λ x. eqb (field x PART) p) (stores_by b c.args.parts)) _ _ _ c.all.ensures.ran
    (YieldsList-from_range 1 (c.args.parts + 1) c.args.parts (cc) (omega arith)) (λ x b q k. search (rules, tests))
    ∙ all_parts b c.args.parts
