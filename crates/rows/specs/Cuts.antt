-- What cutting a pattern below 64 gives: a family.
use Rattle.std.specs.Prelude.{◌≡◌, refl, ℕ, ◌<◌, Result, Ok, Err, IsOk}
use Rattle.std.proofs.Common.{◌∙◌, ap}
use Rattle.base.specs.Answer.{Accepted}
use Rattle.base.specs.Refuse.{answered}
use Rattle.base.specs.declared.Refusal.{Refusal}
use Rattle.cutting.specs.Answer.{Cut, cut_into, cut_of, cut_of_accepted}

accepted_ok : {A : Type 0} (r : Result A Refusal) → answered r ≡ Accepted → IsOk r
accepted_ok (Ok v) e = refl
accepted_ok (Err k) e = cc

module _ (p : ℕ) (h : p < 64) where
  accepted : (cut_of p).answer ≡ Accepted
  unfolding cut_into
  accepted = ap (λ (c : Cut). c.answer) (cut_of_accepted p h)

  pub cut_ok : {A : Type 0} (r : Result A Refusal) → answered r ≡ (cut_of p).answer → IsOk r
  cut_ok r e = accepted_ok r (e ∙ accepted)
