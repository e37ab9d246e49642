-- Refusals in their order (rules 12.1, 12.2).
--   refuse n ok rest   the refusal n where ok fails, else the rest
--   number_of r        the number of a refusal
--   answered r         the answer that the result of a call gives
use Rattle.std.specs.Prelude.{Result, Ok, Err, Bool, true, false, ℕ, zero, suc, List, ◌++◌, length, drop, ◌≡◌, refl, T}
use Rattle.base.specs.Answer.{Answer, Accepted, Refused}
use Rattle.base.specs.declared.Refusal.{Refusal}
use Rattle.base.specs.declared.Refusal.TheVariants.{Counts, Coordinate, Corners, Flat, Repeated, Unsound, Marks, TooHigh, TooMany, Parts, Owners, Message, Taken, Early, Lent, Store, Form}
use Rattle.std.proofs.Common.{arith}

-- Rule 12.1: the first condition that fails gives the number.
unfoldable pub refuse : ℕ → Bool → Answer → Answer
refuse n true rest = rest
refuse n false rest = Refused n

-- Rule 12.1: an answer, and the next where it is accepted.
unfoldable pub and_then : Answer → Answer → Answer
and_then Accepted b = b
and_then (Refused k) b = Refused k

-- Rules 9.1, 12.1: written in front where accepted, as it was where refused.
unfoldable pub held_after : {A : Type 0} → Answer → List A → List A → List A
held_after Accepted new old = new ++ drop (length new) old
held_after (Refused k) new old = old

-- Rule 12.17: 0, or the refusal's number.
unfoldable pub code_of : Answer → ℕ
code_of Accepted = 0
code_of (Refused k) = k

-- Rule 12.17, backwards.
unfoldable pub answer_of : ℕ → Answer
answer_of zero = Accepted
answer_of (suc k) = Refused (suc k)

-- Rule 12.3: the number of a refusal.
abbrev pub number_of : Refusal → ℕ
number_of Counts = 1
number_of Coordinate = 2
number_of Corners = 3
number_of Flat = 4
number_of Repeated = 5
number_of Unsound = 6
number_of Marks = 7
number_of TooHigh = 8
number_of TooMany = 9
number_of Parts = 10
number_of Owners = 11
number_of Message = 12
number_of Taken = 13
number_of Early = 14
number_of Lent = 15
number_of Store = 16
number_of Form = 17

-- Rule 12.1: what the result of a call answers.
abbrev pub answered : {A : Type 0} → Result A Refusal → Answer
answered (Ok v) = Accepted
answered (Err r) = Refused (number_of r)

-- Rule 12.17: the new number where accepted, as it was where refused.
unfoldable pub value_after : {A : Type 0} → Answer → A → A → A
value_after Accepted new old = new
value_after (Refused k) new old = old

pub passed : (n : ℕ) (b : Bool) (a : Answer) → refuse n b a ≡ Accepted → T b × (a ≡ Accepted)
unfolding refuse
passed n true a e = (tt, e)
passed n false a e = let z : ◌≡◌ {A = ℕ} 0 1 = cc in absurd (omega arith)

pub both : (a b : Answer) → and_then a b ≡ Accepted → (a ≡ Accepted) × (b ≡ Accepted)
unfolding and_then
both Accepted b e = (refl, e)
both (Refused k) b e = let z : ◌≡◌ {A = ℕ} 0 1 = cc in absurd (omega arith)

pub answer_refused : (k : ℕ) → (k ≡ 0 → ⊥) → answer_of k ≡ Refused k
unfolding answer_of
answer_refused zero h = absurd (h refl)
answer_refused (suc k) h = refl

pub answer_none : (k : ℕ) → k ≡ 0 → answer_of k ≡ Accepted
unfolding answer_of
answer_none k e = rw e
