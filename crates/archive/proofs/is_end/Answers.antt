-- The tests are those of the definition, in their order.
use Rattle.std.proofs.Common.{arith, length-drop}
use Rattle.std.proofs.lemmas.Grind.{common_steps}
use Rattle.archive.specs.Scan.{endb}
use Rattle.archive.proofs.is_end.Goals as goal

pub returns-then-least-eq0 : goal.returns-then-least-eq0
unfolding endb
returns-then-least-eq0 c = grind (arith, common_steps, length-drop c.args.at c.args.bytes.now)

pub returns-else-least-eq0 : goal.returns-else-least-eq0
unfolding endb
returns-else-least-eq0 c = grind (arith, common_steps, length-drop c.args.at c.args.bytes.now)
