-- The tests are those of the definition, in their order.
use Rattle.std.proofs.Common.{arith}
use Rattle.std.proofs.lemmas.Grind.{common_steps}
use Rattle.mesh.specs.Coarse.{cellb}
use Rattle.coarse.proofs.ascending.Goals as goal

pub returns-then-q-3 : goal.returns-then-q-3
unfolding cellb
returns-then-q-3 c = grind (arith, common_steps)

pub returns-else-q-3 : goal.returns-else-q-3
unfolding cellb
returns-else-q-3 c = grind (arith, common_steps)
