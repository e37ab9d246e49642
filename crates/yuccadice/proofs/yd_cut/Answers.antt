-- A short table is refused first, and then a pattern above 63.
use Rattle.std.proofs.Common.{◌≡◌, ◌∙◌, ◌++◌, sym, arith, rules, length, take, drop}
use Rattle.std.proofs.Math.Seq.{take-length}
use Rattle.base.specs.Refuse.{held_after}
use Rattle.yuccadice.proofs.Results.{code_none, code_refused, value_new, value_old}
use Rattle.yuccadice.proofs.Told.{cut_short, cut_long}
use Rattle.yuccadice.proofs.yd_cut.Goals as goal

pub returns-then-digits-lt32 : goal.returns-then-digits-lt32
unfolding held_after
returns-then-digits-lt32 c =
    let e = cut_short c.args.pattern c.args.digits.now c.if-digits-lt32.true in
    (c.number.ensures ∙ code_refused e, rw (sym e), value_old _ e)

pub returns-in-Ok : goal.returns-in-Ok
unfolding held_after
returns-in-Ok c =
    let e = c.in-Ok.ensures.answer ∙ cut_long c.args.pattern c.args.digits.now (omega (arith, c.if-digits-lt32.false)) in
    let d = c.in-Ok.family.digits in
    let l : length d ≡ 32 = search rules in
    let w : take 32 d ++ drop 32 c.args.digits.now ≡ d ++ drop (length d) c.args.digits.now = rw (← l, take-length d) in (
      code_none e,
      rw (sym e, ← c.in-Ok.ensures.family.1) (c.copy_front.ensures ∙ w),
      value_new _ e (c.from.ensures ∙ c.in-Ok.ensures.family.0),
    )

pub returns-in-Err : goal.returns-in-Err
unfolding held_after
returns-in-Err c =
    let e = c.in-Err.ensures.answer ∙ cut_long c.args.pattern c.args.digits.now (omega (arith, c.if-digits-lt32.false)) in
    (c.number-in-Err.ensures ∙ code_refused e, rw (sym e), value_old _ e)
