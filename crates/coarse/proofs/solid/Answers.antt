-- The library's `all` is the definition's.
use Rattle.std.proofs.Common.{rules, ◌∙◌}
use mathlib.Core.Bool.{not}
use borrow.Author.Tests.{tests}
use Rattle.std.proofs.lemmas.Iterator.{YieldsList-from_slice}
use Rattle.std.proofs.lemmas.Iterator.Search.{all_from_yields_List}
use Rattle.cutting.specs.Rule.{zerob}
use Rattle.mesh.specs.Coarse.{determinant, solidb}
use Rattle.coarse.proofs.Scan.{all_is}
use Rattle.coarse.proofs.solid.Goals as goal

pub returns : goal.returns
unfolding solidb
returns c =
    all_from_yields_List (λ q. not (zerob (determinant c.args.positions.now q))) _ _ c.all.result c.all.ensures.ran (YieldsList-from_slice c.args.cells.now cc) (λ x b q k. search (rules, tests))
    ∙ all_is (λ q. not (zerob (determinant c.args.positions.now q))) c.args.cells.now
