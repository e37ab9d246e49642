-- Tests in order: the first that fails gives the refusal (Rule 12.1).
--   Test           a refusal's number, and whether its test is passed
--   first_of ts     accepted where all tests are passed, else refused with the number of the first that is not
--   one_ofb ns a    the answer a is accepted, or its number is one of ns
--   Answered a ts ns   the answer a is that of the tests ts, and no number but ns comes
-- Laws: first_then (tests behind tests), first_passed (accepted: all are passed), answered_by.
use Rattle.std.specs.Prelude.{◌≡◌, refl, Bool, true, false, List, [], ◌∷◌, ◌++◌, ℕ, T}
use Rattle.std.proofs.Common.{subst, sym}
use Rattle.base.specs.Lists.{allb, memberb}
use Rattle.base.specs.Bools.{and_left, and_right}
use Rattle.base.specs.Every.{All}
use Rattle.base.specs.Refuse.{refuse, and_then, passed}
use Rattle.base.specs.Answer.{Answer}
use Rattle.base.specs.Answer.{Accepted, Refused}

-- Rule 12.1: a refusal, and the test that it is given without.
abbrev pub Test : Type 0
Test = ℕ × Bool

-- Rule 12.1: the first that fails gives the number.
unfoldable pub first_of : List Test → Answer
unfolding refuse
first_of [] = Accepted
first_of (t ∷ ts) = refuse t.0 t.1 (first_of ts)

unfoldable pub one_ofb : List ℕ → Answer → Bool
unfolding memberb
one_ofb ns Accepted = true
one_ofb ns (Refused k) = memberb k ns

-- Rule 12.1: the answer of these tests, one of these numbers where it is refused.
pub record Answered (a : Answer) (ts : List Test) (ns : List ℕ) : Type 0 where
  pub first : a ≡ first_of ts
  pub among : T (one_ofb ns a)

pub first_then : (a b : List Test) → first_of (a ++ b) ≡ and_then (first_of a) (first_of b)
unfolding first_of and_then refuse
first_then [] b = refl
first_then (t ∷ a) b = go t.1 (first_then a b)
  where
    go : (c : Bool) → first_of (a ++ b) ≡ and_then (first_of a) (first_of b)
        → refuse t.0 c (first_of (a ++ b)) ≡ and_then (refuse t.0 c (first_of a)) (first_of b)
    go true i = i
    go false i = refl

pub first_passed : (ts : List Test) → first_of ts ≡ Accepted → All (λ t. T t.1) ts
unfolding first_of
first_passed [] e = tt
first_passed (t ∷ ts) e = let (p, r) = passed t.0 t.1 (first_of ts) e in (p, first_passed ts r)

-- every test has one of the numbers
abbrev pub numbersb : List ℕ → List Test → Bool
numbersb ns ts = allb (λ t. memberb t.0 ns) ts

first_among : (ns : List ℕ) (ts : List Test) → T (numbersb ns ts) → T (one_ofb ns (first_of ts))
unfolding first_of one_ofb allb refuse
first_among ns [] h = tt
first_among ns (t ∷ ts) h =
    go t.1 (and_left (memberb t.0 ns) (numbersb ns ts) h) (first_among ns ts (and_right (memberb t.0 ns) (numbersb ns ts) h))
  where
    go : (c : Bool) → T (memberb t.0 ns) → T (one_ofb ns (first_of ts)) → T (one_ofb ns (refuse t.0 c (first_of ts)))
    go true m i = i
    go false m i = m

pub answered_by : (a : Answer) (ts : List Test) (ns : List ℕ) → a ≡ first_of ts → T (numbersb ns ts) → Answered a ts ns
answered_by a ts ns e h = record { first = e; among = subst (λ (b : Answer). T (one_ofb ns b)) (sym e) (first_among ns ts h) }
