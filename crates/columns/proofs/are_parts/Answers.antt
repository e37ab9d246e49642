-- `columns::are_parts` meets its contract: the chain's test is the definition's.
use Rattle.std.proofs.Common.{rules, tests, ◌∙◌}
use Rattle.std.proofs.lemmas.Iterator.{YieldsList-from_slice}
use Rattle.std.proofs.lemmas.Iterator.Search.{all_from_yields_List}
use Rattle.rows.specs.Chains.{all_chain}
use Rattle.columns.proofs.Owning.{partb}
use Rattle.columns.proofs.are_parts.Goals as goal

pub returns : goal.returns
returns c =
    all_from_yields_List (partb c.args.parts) _ _ _ c.all.ensures.ran (YieldsList-from_slice c.args.owners.now cc) (λ x b q k. search (rules, tests))
    ∙ all_chain (partb c.args.parts) c.args.owners.now
