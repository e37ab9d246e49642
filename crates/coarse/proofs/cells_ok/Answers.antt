-- The library's `all` is the definition's.
use Rattle.std.proofs.Common.{rules, ◌∙◌}
use borrow.Author.Tests.{tests}
use Rattle.std.proofs.lemmas.Iterator.{YieldsList-from_slice}
use Rattle.std.proofs.lemmas.Iterator.Search.{all_from_yields_List}
use Rattle.mesh.specs.Coarse.{cellb, cellsb}
use Rattle.coarse.proofs.Scan.{all_is}
use Rattle.coarse.proofs.cells_ok.Goals as goal

pub returns : goal.returns
unfolding cellsb
returns c =
    all_from_yields_List (cellb c.args.count) _ _ c.all.result c.all.ensures.ran (YieldsList-from_slice c.args.cells.now cc) (λ x b q k. search (rules, tests))
    ∙ all_is (cellb c.args.count) c.args.cells.now
