-- One less where it is to be short.
use Rattle.std.proofs.Common.{◌≡◌, ◌∙◌, ap, refl, ◌-◌, ℕ, arith}
use mathlib.Core.Bool.{Bool, true, false}
use mir.Val.{bool_byte}
use Rattle.base.specs.Bools.{one_if}
use Rattle.trial.proofs.pattern.lent.Goals as goal

byte_is : (b : Bool) → bool_byte b ≡ one_if b
unfolding one_if
byte_is true = refl
byte_is false = refl

pub returns : goal.returns
returns c = (
  c.saturating_sub.ensures ∙ ap (λ (k : ℕ). c.args.full - k) (c.from.ensures ∙ byte_is c.args.short),
  omega (arith, c.saturating_sub.ensures),
)
