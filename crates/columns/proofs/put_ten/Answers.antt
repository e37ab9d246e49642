-- `columns::put_ten` meets its contract: a turn writes the next number.
use mathlib.Core.Path.{◌≡◌}
use mathlib.Core.Path.{◌≡◌}
use native.Mathlib.Omega.{arith}
use native.Mathlib.Numerals.{add-one}
use Rattle.store.specs.Written.{wrote_next}
use Rattle.columns.proofs.put_ten.Goals as goal

pub loop-j-preserved : goal.loop-j-preserved
loop-j-preserved c =
    rw (add-one c.loop-j.j) (wrote_next _ _ c.args.cols.now c.loop-j.j c.loop-j.cols (omega (arith, c.requires, c.loop-j-test.true))
    (λ i h e. absurd (omega (arith, e))) c.loop-j.invariant)

pub returns : goal.returns
returns c =
    let k : c.loop-j.j ≡ 10 = omega arith in
    rw k at c.loop-j.invariant
