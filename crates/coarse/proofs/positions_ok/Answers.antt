-- The library's `all` is the definition's.
use Rattle.std.proofs.Common.{rules, ◌∙◌}
use lib.IntN.{nat_abs}
use lib.Dec.{leb}
use borrow.Author.Tests.{tests}
use Rattle.std.proofs.lemmas.Iterator.{YieldsList-from_slice}
use Rattle.std.proofs.lemmas.Iterator.Search.{all_from_yields_List}
use Rattle.mesh.specs.Coarse.{positionsb}
use Rattle.coarse.proofs.Scan.{all_is}
use Rattle.coarse.proofs.positions_ok.Goals as goal

pub returns : goal.returns
unfolding positionsb
returns c =
    all_from_yields_List (λ z. leb (nat_abs z) 500000) _ _ c.all.result c.all.ensures.ran (YieldsList-from_slice c.args.positions.now cc) (λ x b q k. search (rules, tests))
    ∙ all_is (λ z. leb (nat_abs z) 500000) c.args.positions.now
