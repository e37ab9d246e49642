-- `filling::put_masks` meets its contract: a turn writes at the next slot.
use Prim.Native.Nat.{◌+◌, ◌*◌}
use native.Mathlib.Omega.{arith}
use native.Mathlib.Numerals.{add-one}
use Rattle.filling.proofs.Passing.{marked_start, marked_turn}
use Rattle.filling.proofs.put_masks.Goals as goal

pub loop-e-init : goal.loop-e-init
loop-e-init c = marked_start c.args.slots.now c.args.masks.now c.args.c c.args.region.now

pub loop-e-preserved : goal.loop-e-preserved
loop-e-preserved c =
    rw (add-one c.loop-e.e) (marked_turn c.args.slots.now c.args.masks.now c.args.c c.args.region.now c.loop-e.e c.loop-e.region
    c.loop-e-test.true (omega (arith, c.requires.0))
    (c.requires.2.small (6 * c.args.c + c.loop-e.e) (omega (arith, c.loop-e-test.true))) c.loop-e.invariant)
