-- `corners::new_sums` meets its contract. The table holds its front with the sums of the corners passed behind it, and then what
-- it held; both ends of a corner are among those passed, whose sums are small.
use Rattle.std.proofs.Common.{rules}
use mathlib.Core.Path.{◌≡◌, refl, sym, ◌∙◌}
use Prim.Native.Nat.{◌*◌}
use native.Mathlib.Nat.{add-zero}
use native.Mathlib.Omega.{arith}
use lib.ListN.{length, get_or, take, take-append-drop}
use lib.Seq.{length-take-le}
use Rattle.corners.specs.Sums.{add_sums}
use Rattle.corners.proofs.SumRows.{new_turn, held}
use Rattle.corners.proofs.new_sums.Goals as goal

pub loop-j-init : goal.loop-j-init
unfolding add_sums
loop-j-init c =
    (search rules, refl, rw (add-zero c.args.n) (sym (take-append-drop (3 * c.args.n) c.args.sums.now)))

pub put_mid-requires : goal.put_mid-requires
put_mid-requires c =
    let e : length (take (3 * c.args.n) c.args.sums.now) ≡ 3 * c.args.n = length-take-le (3 * c.args.n) c.args.sums.now (omega arith) in
    let h = held c.args.sums.now (take (3 * c.args.n) c.args.sums.now) c.args.xs.now c.args.ys.now c.args.n c.loop-j.j e c.loop-j.sums c.loop-j.invariant.2 c.requires.smalls (omega arith) in record {
      sum_held = h (get_or c.args.xs.now c.loop-j.j 0) (c.requires.ends.below_x c.loop-j.j (omega arith));
      sum_held_2 = h (get_or c.args.ys.now c.loop-j.j 0) (c.requires.ends.below_y c.loop-j.j (omega arith));
      at_in_bounds = omega arith;
    }

pub loop-j-preserved : goal.loop-j-preserved
loop-j-preserved c =
    let e : length (take (3 * c.args.n) c.args.sums.now) ≡ 3 * c.args.n = length-take-le (3 * c.args.n) c.args.sums.now (omega arith) in (
      search rules,
      search rules,
      c.put_mid.ensures
          ∙ new_turn c.args.sums.now (take (3 * c.args.n) c.args.sums.now) c.args.xs.now c.args.ys.now c.args.n c.loop-j.j e c.loop-j.sums c.loop-j.invariant.2
          (c.requires.ends.below_x c.loop-j.j (omega arith)) (c.requires.ends.below_y c.loop-j.j (omega arith)) (omega arith),
    )
