-- The tests are those of the definition, in their order.
use Rattle.std.proofs.Common.{arith}
use Rattle.std.proofs.lemmas.Grind.{common_steps}
use Rattle.mesh.specs.Coarse.{countsb}
use Rattle.coarse.proofs.counts_ok.Goals as goal

pub returns-then-contains : goal.returns-then-contains
unfolding countsb
returns-then-contains c = grind (arith, common_steps)

pub returns-else-contains : goal.returns-else-contains
unfolding countsb
returns-else-contains c = grind (arith, common_steps)
