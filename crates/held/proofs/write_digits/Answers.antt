use Rattle.held.proofs.Rows.{digit_more, digits_out}
use lib.ListN.{length-set}
use native.Mathlib.Numerals.{add-one}
use native.Mathlib.Omega.{arith}
use Rattle.held.proofs.write_digits.Goals as goal

pub loop-i-preserved : goal.loop-i-preserved
loop-i-preserved c = (
  omega arith,
  simp length-set c.loop-i.invariant.1,
  rw add-one
      (digit_more _ _ _ _ _ _ c.loop-i-test.true c.loop-i.invariant.2),
)

pub returns : goal.returns
returns c =
    digits_out _ _ _ _ _ _ (omega arith) c.loop-i.invariant.2
