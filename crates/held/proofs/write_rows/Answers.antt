use Rattle.held.proofs.Rows.{rows_all, row_more, rows_out}
use native.Mathlib.Numerals.{add-one}
use native.Mathlib.Omega.{arith}
use mathlib.Core.Path.{refl, ◌∙◌}
use Rattle.held.proofs.write_rows.Goals as goal

pub loop-j-init : goal.loop-j-init
loop-j-init c =
    (refl, refl, rows_all _ _)

pub loop-j-preserved : goal.loop-j-preserved
loop-j-preserved c = (
  c.loop-j.invariant.0,
  c.write_row.auto.rows ∙
      c.loop-j.invariant.1,
  rw add-one (row_more _ _ _ _ _ _
      (omega (arith, c.loop-j.invariant.0)) c.loop-j.invariant.2
      c.write_row.ensures),
)

pub returns : goal.returns
returns c =
    (c.loop-j.invariant.0, rows_out _ _ _ _ _ (omega (arith, c.loop-j.invariant.0)) c.loop-j.invariant.2)
