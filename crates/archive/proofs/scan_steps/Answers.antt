-- The record `ScanAt` says where the scan has come.
use mathlib.Core.Path.{refl, sym, ◌∙◌}
use native.Mathlib.Omega.{arith}
use Rattle.archive.specs.Scan.{on_start, on_mark, on_step, on_end, on_out}
use Rattle.archive.proofs.Whole.{scanned_none}
use Rattle.archive.proofs.scan_steps.Goals as goal

pub loop-at-init : goal.loop-at-init
loop-at-init c = on_start c.args.bytes.now c.args.from c.requires

pub number-requires : goal.number-requires
number-requires c = omega (arith, (on_mark c.loop-at.invariant (sym c.is_mark.ensures ∙ c.if-is_mark.true) _ refl).near)

pub loop-at-preserved-then-is_mark : goal.loop-at-preserved-then-is_mark
loop-at-preserved-then-is_mark c =
    on_mark c.loop-at.invariant (sym c.is_mark.ensures ∙ c.if-is_mark.true) c.from-least.result (c.from-least.ensures ∙ c.number.ensures)

pub loop-at-preserved : goal.loop-at-preserved
loop-at-preserved c =
    on_step c.loop-at.invariant (sym c.is_mark.ensures ∙ c.if-is_mark.false) (sym c.starts.ensures ∙ c.if-not-starts.false)

pub returns : goal.returns
returns c = scanned_none (on_out c.loop-at.invariant c.loop-at-test.false)

pub returns-then-is_end : goal.returns-then-is_end
returns-then-is_end c =
    rw c.if-is_end.true at
    (on_end c.loop-at.invariant (sym c.is_mark.ensures ∙ c.if-is_mark.false) (sym c.starts.ensures ∙ c.if-not-starts.true) c.is_end.result c.is_end.ensures)

pub returns-else-is_end : goal.returns-else-is_end
returns-else-is_end c =
    scanned_none
    (rw c.if-is_end.false at
    (on_end c.loop-at.invariant (sym c.is_mark.ensures ∙ c.if-is_mark.false) (sym c.starts.ensures ∙ c.if-not-starts.true) c.is_end.result c.is_end.ensures))
