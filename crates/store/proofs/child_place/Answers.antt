-- `store::child_place` meets its contract: the three cases of a level.
use native.Mathlib.Omega.{arith}
use Rattle.store.proofs.Placing.{child_short, child_long, child_beyond}
use Rattle.store.proofs.child_place.Goals as goal

pub returns-then-level-lt5 : goal.returns-then-level-lt5
returns-then-level-lt5 c =
    child_short _ _ _ (omega arith) c.with_number.ensures

pub returns-then-level-lt10 : goal.returns-then-level-lt10
returns-then-level-lt10 c =
    child_long _ _ _ (omega arith) (omega arith) c.with_number-then-level-lt10.ensures

pub returns-else-level-lt10 : goal.returns-else-level-lt10
returns-else-level-lt10 c =
    child_beyond _ _ (omega arith) (omega arith)
