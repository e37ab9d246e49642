-- `coarse::solid_cell` meets its contract: three terms of less than 2 to the 61 each, and their sum is the determinant.
use mathlib.Core.Path.{ap}
use mathlib.Core.Bool.{not}
use Rattle.mesh.specs.Coarse.{determinant}
use Rattle.coarse.specs.Volume.{term_of}
use Rattle.coarse.proofs.Volumes.{sum_zero}
use Rattle.coarse.proofs.solid_cell.Goals as goal

pub returns : goal.returns
unfolding term_of determinant
returns c =
    ap not (sum_zero c.term-x.ensures c.term-y.ensures c.term-z.ensures)
