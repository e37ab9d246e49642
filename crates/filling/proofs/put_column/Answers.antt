-- `filling::put_column` meets its contract: a turn writes the next number.
use native.Mathlib.Omega.{arith}
use native.Mathlib.Numerals.{add-one}
use Rattle.store.specs.Written.{wrote_next}
use Rattle.filling.proofs.put_column.Goals as goal

pub loop-j-preserved : goal.loop-j-preserved
loop-j-preserved c =
    rw (add-one c.loop-j.j) (wrote_next _ _ c.args.region.now c.loop-j.j c.loop-j.region (omega (arith, c.requires, c.loop-j-test.true))
    (λ i h e. absurd (omega (arith, e))) c.loop-j.invariant)
