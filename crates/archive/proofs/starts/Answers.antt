-- The tests are those of the definition.
use Rattle.std.proofs.Common.{arith, length-drop, get_or-drop}
use Rattle.std.proofs.lemmas.Grind.{common_steps}
use Rattle.archive.specs.Form.{startsb}
use Rattle.archive.proofs.starts.Goals as goal

pub returns-then-bytes-at : goal.returns-then-bytes-at
unfolding startsb
returns-then-bytes-at c =
    grind (arith, common_steps, length-drop c.args.at c.args.bytes.now, get_or-drop c.args.at c.args.bytes.now 0 0)

pub returns-else-bytes-at : goal.returns-else-bytes-at
unfolding startsb
returns-else-bytes-at c =
    grind (arith, common_steps, length-drop c.args.at c.args.bytes.now, get_or-drop c.args.at c.args.bytes.now 0 0)
