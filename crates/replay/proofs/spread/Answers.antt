-- `replay::spread` meets its contract: the marks passed are in the table, and the rest decides as the whole does.
use Rattle.std.proofs.Common.{rules}
use Rattle.replay.proofs.Spreading.{scan_start, scan_next, scan_miss, scan_end}
use Rattle.replay.specs.Marking.{may_below}
use native.Mathlib.Omega.{arith}
use mathlib.Core.Path.{sym, ◌∙◌}
use Rattle.replay.proofs.spread.Goals as goal

pub loop-i-init : goal.loop-i-init
loop-i-init c =
    (search rules, search rules, scan_start _ _ _ _ _ c.clear.ensures)

pub returns-then-not-may_stand : goal.returns-then-not-may_stand
returns-then-not-may_stand c =
    scan_miss _ _ _ _ _ _ c.loop-i.invariant.2 c.loop-i-test.true
    c.requires.0
    (sym c.may_stand.ensures ∙ c.if-not-may_stand.true)

pub bounds-out-c : goal.bounds-out-c
bounds-out-c c =
    let m = may_below _ _ _ _ (sym c.may_stand.ensures ∙ c.if-not-may_stand.false) in
    omega (arith, m, c.loop-i.invariant.1)

pub loop-i-preserved : goal.loop-i-preserved
loop-i-preserved c = (
  search rules,
  search rules,
  scan_next _ _ _ _ _ _ c.loop-i.invariant.2 c.loop-i-test.true c.requires.0
      (sym c.may_stand.ensures ∙ c.if-not-may_stand.false),
)

pub returns : goal.returns
returns c =
    scan_end _ _ _ _ _ _ c.loop-i.invariant.2 (omega arith)
