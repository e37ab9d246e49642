-- What the answers of four calls tell.
-- Laws: cut_short, cut_long (cutting), fetched_some (fetching), held_rows, held_refused (a done part).
use Rattle.std.proofs.Common.{◌≡◌, ◌∙◌, refl, arith, ℕ, ◌≤◌, ◌<◌, List, length, le-leb, Option, Some, None, Result, Ok}
use Rattle.std.proofs.lemmas.Bool.{lt-leb}
use Rattle.std.specs.Prelude.{unwrap_or}
use Rattle.base.specs.Answer as base
use Rattle.base.specs.Refuse.{refuse}
use Rattle.base.specs.declared.Refusal.{Refusal}
use Rattle.cutting.specs.Answer.{cut_of}
use Rattle.store.specs.Fetched.{Fetched, fetched}
use Rattle.held.specs.Listed as held
use Rattle.held.specs.Held.{listed_of}
use Rattle.yuccadice.specs.After.{cut_answer, fetched_code, fetched_length}

module _ (p : ℕ) (digits : List ℕ) where
  pub cut_short : length digits < 32 → base.Refused 15 ≡ cut_answer p digits
  unfolding cut_answer refuse
  cut_short h = rw (lt-leb 32 (length digits) h)

  pub cut_long : 32 ≤ length digits → (cut_of p).answer ≡ cut_answer p digits
  unfolding cut_answer refuse
  cut_long h = rw (le-leb 32 (length digits) h)

pub fetched_some : (o : Option ℕ) (a : Fetched) (r old : ℕ) → fetched (Ok o) ≡ a → r ≡ unwrap_or o 0
    → (0 ≡ fetched_code a) × (r ≡ fetched_length old a)
unfolding fetched_code fetched_length
fetched_some (Some n) a r old e f = (rw (← e), f ∙ rw (← e))
fetched_some None a r old e f = (rw (← e), f ∙ rw (← e))

pub held_rows : (a : base.Answer) (m n : ℕ) → held.Rows n ≡ listed_of a m → (base.Accepted ≡ a) × (n ≡ m)
unfolding listed_of
held_rows base.Accepted m n e = (refl, cc)
held_rows (base.Refused k) m n e = let z : ◌≡◌ {A = ℕ} 0 1 = cc in absurd (omega arith)

pub held_refused : (a : base.Answer) (m k : ℕ) → held.Refused k ≡ listed_of a m → base.Refused k ≡ a
unfolding listed_of
held_refused base.Accepted m k e = let z : ◌≡◌ {A = ℕ} 0 1 = cc in absurd (omega arith)
held_refused (base.Refused j) m k e = cc
