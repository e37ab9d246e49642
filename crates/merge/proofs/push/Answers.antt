-- `merge::push` meets its contract: a turn writes the next child's key.
use Rattle.std.proofs.Common.{◌≡◌, ℕ, ◌+◌, ◌*◌, ap, arith, add-one}
use Rattle.merge.proofs.Rows.{digits_room, pushed_none, pushed_more}
use Rattle.merge.proofs.push.Goals as goal

pub loop-i-init : goal.loop-i-init
loop-i-init c = pushed_none c.args.heads.now c.args.digits.now c.args.end c.args.x c.args.y

pub overflow_cast-digits-in-loop-i : goal.overflow_cast-digits-in-loop-i
overflow_cast-digits-in-loop-i c =
    omega (
      arith,
      digits_room c.args.x c.args.y c.loop-i.i c.power-most.result c.requires.key.0 (c.requires.key.1 (omega arith)) (omega (arith, c.requires.key.2))
          c.power-most.ensures.0,
    )

pub loop-i-preserved : goal.loop-i-preserved
loop-i-preserved c =
    rw (add-one c.loop-i.i) (pushed_more c.args.heads.now c.args.digits.now c.args.end c.args.x c.args.y c.loop-i.heads c.loop-i.digits
    c.loop-i.i _ c.loop-i.invariant (omega arith) (omega arith) (ap (λ (p : ℕ). c.args.y + c.loop-i.i * p) c.power-most.ensures.0))

pub returns : goal.returns
returns c =
    let k : c.loop-i.i ≡ c.args.size = omega arith in
    rw k at c.loop-i.invariant
