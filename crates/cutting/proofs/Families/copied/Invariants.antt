-- The array holds the digits passed, and zeros behind them.
use mathlib.Core.Path.{◌≡◌}
use mathlib.Core.List.{◌++◌}
use Prim.Native.Nat.{◌-◌, ◌≤◌}
use lib.ListN.{take, drop, replicate}
use Rattle.cutting.specs.Answer.{digits_below}
use Rattle.cutting.proofs.Families.copied.Given as goal

abbrev pub invariant-loop-i : goal.invariant-loop-i
invariant-loop-i l = (l.i ≤ l.count) × (l.copy ≡ take l.i (drop l.from (digits_below 64)) ++ replicate (32 - l.i) 0)
