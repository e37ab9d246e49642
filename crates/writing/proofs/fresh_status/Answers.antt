-- `writing::fresh_status` meets its contract: the invariant says that the edges passed are in the status.
use Rattle.std.proofs.Common.{◌≡◌, ◌∙◌, ◌-◌, ap, ℕ, false, get_or, arith}
use Rattle.base.specs.Bools.{one_if, one_most}
use Rattle.writing.specs.Held.{pair_at}
use Rattle.writing.proofs.Fresh.{byte_is, bits_none, bits_next, bits_few, bits_all}
use Rattle.writing.proofs.fresh_status.Goals.{After-from}
use Rattle.writing.proofs.fresh_status.Goals as goal

bit : (c : After-from) → c.from.result ≡ one_if (get_or c.args.held.now (pair_at c.args.digits.now c.args.i (c.loop-y.y - 1)) false)
bit c =
    c.from.ensures ∙ byte_is (get_or c.args.held.now c.pair_of.result false)
    ∙ ap (λ (x : ℕ). one_if (get_or c.args.held.now x false)) c.pair_of.ensures.0

pub loop-y-init : goal.loop-y-init
loop-y-init c = bits_none c.args.held.now c.args.digits.now c.args.i

pub overflow_mul-status : goal.overflow_mul-status
overflow_mul-status c = omega (arith, bits_few c.args.held.now c.args.digits.now c.args.i c.loop-y.y)

pub overflow_add-status : goal.overflow_add-status
overflow_add-status c = omega (arith, bits_few c.args.held.now c.args.digits.now c.args.i c.loop-y.y, bit c, one_most)

pub loop-y-preserved : goal.loop-y-preserved
loop-y-preserved c = omega (arith, bits_next c.args.held.now c.args.digits.now c.args.i c.loop-y.y c.loop-y-test.true c.loop-y.auto.y, bit c)

pub returns : goal.returns
returns c =
    let z : c.loop-y.y ≡ 0 = omega arith in
    rw z at c.loop-y.invariant ∙ bits_all c.args.held.now c.args.digits.now c.args.i
