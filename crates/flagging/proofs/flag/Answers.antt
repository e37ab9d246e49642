-- `flagging::flag` meets its contract.
use mathlib.Core.Path.{refl}
use Rattle.lineage.specs.Olds.{flag_of}
use Rattle.flagging.proofs.flag.Goals as goal

pub returns-then-b : goal.returns-then-b
unfolding flag_of
returns-then-b c =
    rw c.if-b.true refl

pub returns-else-b : goal.returns-else-b
unfolding flag_of
returns-else-b c =
    rw c.if-b.false refl
