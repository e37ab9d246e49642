-- Which round is of which kind.
--   Turn top r       the round r of an exchange on top + 1 levels is one of marks, of counts, of totals, or behind the last
-- Laws: turn_of (each round is one of them); same_counts, marks_counts, totals_counts, over_counts, marks_totals, counts_totals,
-- over_totals (kinds are told apart).
use Rattle.std.specs.Prelude.{◌≡◌, refl, ℕ, zero, suc, ◌+◌, ◌≤◌}
use Rattle.std.proofs.Common.{ap, arith}
use Rattle.std.proofs.Math.Decide.{dec_lt}
use Rattle.rounds.specs.Rounds.{Phase, marks, counts, totals, over}

pub data Turn (top r : ℕ) : Type 0 where
  in_marks : (i : ℕ) → i ≤ top → r ≡ i + i → Turn top r
  in_counts : (i : ℕ) → i ≤ top → r ≡ suc (i + i) → Turn top r
  in_totals : r ≡ suc (suc (top + top)) → Turn top r
  in_over : r ≡ suc (suc (suc (top + top))) → Turn top r

turn_on : (top r : ℕ) → suc r ≤ suc (suc (suc (top + top))) → Turn top r → Turn top (suc r)
turn_on top r h (in_marks i l e) = in_counts i l (ap suc e)
turn_on top r h (in_counts i l e) =
    elim (dec_lt i top) [
      | yes g ↦ in_marks (suc i) g (omega arith)
      | no g ↦ in_totals (omega arith)
    ]
turn_on top r h (in_totals e) = in_over (ap suc e)
turn_on top r h (in_over e) = absurd (omega arith)

pub turn_of : (top r : ℕ) → r ≤ suc (suc (suc (top + top))) → Turn top r
turn_of top zero h = in_marks 0 (omega arith) refl
turn_of top (suc r) h = turn_on top r h (turn_of top r (omega arith))

-- kinds are told apart
unfoldable kind_of : Phase → ℕ
kind_of (marks i) = 0
kind_of (counts i) = 1
kind_of totals = 2
kind_of over = 3

unfoldable number_of : Phase → ℕ
number_of (marks i) = i
number_of (counts i) = i
number_of totals = 0
number_of over = 0

pub same_counts : (i j : ℕ) → counts i ≡ counts j → i ≡ j
unfolding number_of
same_counts i j e = ap number_of e

pub marks_counts : {A : Type 0} (i j : ℕ) → marks i ≡ counts j → A
unfolding kind_of
marks_counts i j e = let z : ◌≡◌ {A = ℕ} 0 1 = ap kind_of e in absurd (omega arith)

pub totals_counts : {A : Type 0} (j : ℕ) → totals ≡ counts j → A
unfolding kind_of
totals_counts j e = let z : ◌≡◌ {A = ℕ} 2 1 = ap kind_of e in absurd (omega arith)

pub over_counts : {A : Type 0} (j : ℕ) → over ≡ counts j → A
unfolding kind_of
over_counts j e = let z : ◌≡◌ {A = ℕ} 3 1 = ap kind_of e in absurd (omega arith)

pub marks_totals : {A : Type 0} (i : ℕ) → marks i ≡ totals → A
unfolding kind_of
marks_totals i e = let z : ◌≡◌ {A = ℕ} 0 2 = ap kind_of e in absurd (omega arith)

pub counts_totals : {A : Type 0} (i : ℕ) → counts i ≡ totals → A
unfolding kind_of
counts_totals i e = let z : ◌≡◌ {A = ℕ} 1 2 = ap kind_of e in absurd (omega arith)

pub over_totals : {A : Type 0} → over ≡ totals → A
unfolding kind_of
over_totals e = let z : ◌≡◌ {A = ℕ} 3 2 = ap kind_of e in absurd (omega arith)
