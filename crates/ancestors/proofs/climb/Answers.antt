-- `ancestors::climb` meets its contract: a parent comes before its children, so that the cell's number falls with each turn. The
-- measure is that number.
use native.Mathlib.Omega.{arith}
use Rattle.ancestors.proofs.Turns.{on_next, on_end}
use Rattle.ancestors.proofs.climb.Goals as goal

pub loop-at-preserved : goal.loop-at-preserved
loop-at-preserved c =
    on_next c.loop-at.invariant c.requires
    (λ e. omega (arith, c.loop-at-test.true, e))

pub returns : goal.returns
returns c =
    on_end c.loop-at.invariant (omega (arith, c.loop-at-test.false))
