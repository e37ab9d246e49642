-- What the cutting call answers.
--   digits_below p   the families of the patterns below p, digit after digit
--   digit_table      all families, digit after digit, in ASCII: the table that the families are read from
--   start_table      where each family starts in that table, and the end of the last
--   Cut              an answer, and beside it the family's number of children and its digits
--   cut_of p         the whole answer to the byte p
use Rattle.std.specs.Prelude.{◌≡◌, true, false, ℕ, zero, suc, ◌+◌, ◌-◌, ◌≤◌, ◌<◌, ltb, length, replicate}
use mathlib.Core.List.{List, [], ◌++◌, map, flatten}
use Rattle.std.proofs.Common.{lt-ltb, le-ltb}
use Rattle.base.specs.Range.{range}
use Rattle.base.specs.Answer.{Answer, Accepted, Refused}
use Rattle.cutting.specs.Rule.{family}

-- Rule 2.9: the families one after the other.
unfoldable pub digits_below : ℕ → List ℕ
digits_below zero = []
digits_below (suc p) = digits_below p ++ flatten (family p)

-- Rule 2.9: the table of the families, as it is kept.
unfoldable pub digit_table : List ℕ
digit_table = map (λ d. 48 + d) (digits_below 64)

-- Rule 2.9: the family of a pattern stands behind those of the patterns below it.
unfoldable pub start_table : List ℕ
unfolding range
start_table = map (λ p. length (digits_below p)) (range 0 65)

-- Rule 12.4: what the call gives.
pub record Cut : Type 0 where
  pub answer : Answer
  pub count : ℕ
  pub digits : List ℕ

-- Rule 12.4: a family as its number of children and 32 digits, child after child, zeros behind them.
unfoldable pub cut_into : List (List ℕ) → Cut
unfolding flatten
cut_into f =
    record {
      answer = Accepted;
      count = length f;
      digits = flatten f ++ replicate (32 - length (flatten f)) 0;
    }

-- Rule 12.4: no family; zeros stand beside the refusal.
unfoldable pub no_cut : Cut
no_cut = record { answer = Refused 6; count = 0; digits = replicate 32 0 }

-- Rule 12.4: the whole answer; 6 above 63.
unfoldable pub cut_of : ℕ → Cut
unfolding cut_into no_cut
cut_of p = elim (ltb p 64) [ true ↦ cut_into (family p) | false ↦ no_cut ]

pub cut_of_accepted : (p : ℕ) → p < 64 → cut_of p ≡ cut_into (family p)
unfolding cut_of
cut_of_accepted p h = rw (lt-ltb p 64 h, cut_of)

pub cut_of_refused : (p : ℕ) → 64 ≤ p → cut_of p ≡ no_cut
unfolding cut_of
cut_of_refused p h = rw (le-ltb p 64 h, cut_of)
