-- The tests are those of the definition, in their order.
use Rattle.std.proofs.Common.{arith, drop, length-drop, get_or-drop, drop-drop}
use Rattle.std.proofs.lemmas.Grind.{common_steps}
use Rattle.archive.specs.Records.{starts_long}
use Rattle.archive.specs.Scan.{mark_recordb}
use Rattle.archive.proofs.is_mark.Goals as goal

pub bounds-bytes-at : goal.bounds-bytes-at
bounds-bytes-at c = grind (arith, common_steps, length-drop c.args.at c.args.bytes.now, starts_long 77 4 (drop c.args.at c.args.bytes.now))

pub returns-then-contains : goal.returns-then-contains
unfolding mark_recordb
returns-then-contains c =
    grind (arith, common_steps, get_or-drop c.args.at c.args.bytes.now 3 0, drop-drop 1 c.args.at c.args.bytes.now)

pub returns-else-contains : goal.returns-else-contains
unfolding mark_recordb
returns-else-contains c =
    grind (arith, common_steps, get_or-drop c.args.at c.args.bytes.now 3 0, drop-drop 1 c.args.at c.args.bytes.now)
