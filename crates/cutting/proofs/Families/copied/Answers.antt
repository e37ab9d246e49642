-- The array holds the digits passed, and zeros behind them.
use Rattle.std.proofs.Common.{rules}
use native.Mathlib.Numerals.{add-one}
use native.Mathlib.Omega.{arith}
use Rattle.cutting.specs.Answer.{digits_below}
use Rattle.cutting.proofs.Table.{digits-length}
use Rattle.cutting.proofs.Copy.{copy_more}
use Rattle.cutting.proofs.Families.copied.Goals as goal

pub loop-i-preserved : goal.loop-i-preserved
loop-i-preserved c = (
  search rules,
  rw (add-one, c.loop-i.invariant.1, c.digit.ensures)
      (copy_more 32 (digits_below 64) c.args.from c.loop-i.i (omega (arith, digits-length)) (omega arith)),
)
