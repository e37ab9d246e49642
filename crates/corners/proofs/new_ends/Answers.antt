-- `corners::new_ends` meets its contract. The table holds its front with the ends of the corners passed behind it, and then what
-- it held; an end fits a u16 since it is below its corner.
use Rattle.std.proofs.Common.{rules}
use mathlib.Core.Path.{◌≡◌, refl, sym, ◌∙◌}
use Prim.Native.Nat.{◌*◌}
use native.Mathlib.Nat.{add-zero}
use native.Mathlib.Omega.{arith}
use lib.ListN.{take-append-drop, length, take}
use lib.Seq.{length-take-le}
use Rattle.corners.specs.Ends.{add_ends}
use Rattle.corners.proofs.EndRows.{new_turn}
use Rattle.corners.proofs.new_ends.Goals as goal

pub loop-j-init : goal.loop-j-init
unfolding add_ends
loop-j-init c =
    (search rules, refl, rw (add-zero c.args.n) (sym (take-append-drop (2 * c.args.n) c.args.ends.now)))

pub loop-j-preserved : goal.loop-j-preserved
loop-j-preserved c =
    let e : length (take (2 * c.args.n) c.args.ends.now) ≡ 2 * c.args.n = length-take-le (2 * c.args.n) c.args.ends.now (omega arith) in (
      search rules,
      search rules,
      c.put.ensures
          ∙ rw c.loop-j.invariant.2 (new_turn c.args.ends.now (take (2 * c.args.n) c.args.ends.now) c.args.xs.now c.args.ys.now c.args.n c.loop-j.j e (omega arith)),
    )
