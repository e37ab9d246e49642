use Rattle.store.specs.Places.{eights}
use lib.Seq.{sets}
use lib.ListN.{length}
use Prim.Native.Nat.{◌+◌, ◌-◌, ◌≤◌}
use mathlib.Core.Path.{◌≡◌}
use Rattle.held.proofs.write_digits.Given as goal

abbrev pub invariant-loop-i : goal.invariant-loop-i
invariant-loop-i l = (l.i ≤ 10) × (length l.rows ≡ length l.initial.rows) ×
    (sets l.rows (l.at + l.i) (eights (10 - l.i) l.rest) ≡ sets l.initial.rows l.at (eights 10 l.digits))
