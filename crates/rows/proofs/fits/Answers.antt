-- `rows::fits` meets its contract: the chain's test is the definition's.
use Rattle.std.proofs.Common.{rules, tests, ◌∙◌, leb}
use Rattle.std.proofs.lemmas.Iterator.{YieldsList-from_slice}
use Rattle.std.proofs.lemmas.Iterator.Search.{all_from_yields_List}
use Rattle.rows.specs.Chains.{all_chain}
use Rattle.rows.proofs.fits.Goals as goal

pub returns : goal.returns
returns c =
    all_from_yields_List (λ s. leb s 64) _ _ _ c.all.ensures.ran (YieldsList-from_slice c.args.status.now cc) (λ x b q k. search (rules, tests))
    ∙ all_chain (λ s. leb s 64) c.args.status.now
