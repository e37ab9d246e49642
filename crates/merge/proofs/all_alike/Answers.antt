-- `merge::all_alike` meets its contract: the chain's test is the definition's.
use Rattle.std.proofs.Common.{rules, tests, arith, ◌∙◌}
use Rattle.std.proofs.lemmas.Iterator.{YieldsList-from_range}
use Rattle.std.proofs.lemmas.Iterator.Search.{all_from_yields_List}
use Rattle.store.specs.Stores.{store_in}
use Rattle.merge.specs.Merge.{alikeb}
use Rattle.merge.specs.Stores.{all_stores}
use Rattle.merge.proofs.all_alike.Goals as goal

pub returns : goal.returns
returns c =
    let b = c.args.stores.now in
    all_from_yields_List (λ j. alikeb b (store_in b j)) _ _ _ c.all.ensures.ran
    (YieldsList-from_range 0 c.args.parts c.args.parts (cc) (omega arith)) (λ x b q k. search (rules, tests))
    ∙ all_stores (alikeb b) b c.args.parts
