-- What a call's answer tells a function of the library.
-- Laws: code_none, code_refused (the number), value_new, value_old (a lent number).
use mathlib.Core.Path.{◌≡◌, ◌∙◌}
use Prim.Native.Nat.{ℕ}
use Rattle.base.specs.Answer.{Answer, Accepted, Refused}
use Rattle.base.specs.Refuse.{code_of, value_after}

module _ {a : Answer} where
  pub code_none : Accepted ≡ a → 0 ≡ code_of a
  unfolding code_of
  code_none e = rw (← e)

  pub code_refused : {k : ℕ} → Refused k ≡ a → k ≡ code_of a
  unfolding code_of
  code_refused e = rw (← e)

  pub value_new : {A : Type 0} {new x : A} (old : A) → Accepted ≡ a → x ≡ new → x ≡ value_after a new old
  unfolding value_after
  value_new old e f = f ∙ rw (← e)

  pub value_old : {A : Type 0} {old : A} {k : ℕ} (new : A) → Refused k ≡ a → old ≡ value_after a new old
  unfolding value_after
  value_old new e = rw (← e)
