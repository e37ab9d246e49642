-- What a part knows of its cells after the step, as the code finds it.
use mathlib.Core.Path.{◌≡◌, refl, ◌∙◌, ap, ap₂}
use mathlib.Core.Bool.{Bool}
use mathlib.Core.List.{List, map}
use Prim.Native.Nat.{ℕ, ◌+◌, ◌-◌, ◌≤◌, ◌<◌}
use native.Mathlib.Omega.{arith}
use native.Mathlib.Decide.{dec_lt}
use lib.ListN.{length, get_or, replicate}
use Rattle.base.specs.Every.{below_at}
use Rattle.std.specs.Prelude.{Result, Ok, Err, IsOk}
use Rattle.base.specs.Answer.{Accepted, Refused}
use Rattle.base.specs.Refuse.{answered, number_of}
use Rattle.base.specs.declared.Refusal.{Refusal}
use Rattle.cutting.specs.Answer.{Cut, cut_into, cut_of, cut_of_accepted}
use Rattle.mesh.specs.Cells.{bits_of}
use Rattle.mesh.specs.Layout.{edge_numbers}
use Rattle.store.specs.Fields.{field, CELLS, STATUS, CHILD}
use Rattle.turns.specs.Loops.{some_from}
use Rattle.turns.specs.Decide.{kid_count}
use Rattle.families.specs.Children.{low_digit, high_digit}
use Rattle.places.specs.Status.{pair_hit, fresh_bits}
use Rattle.digits.specs.Ends.{low_at, high_at}
use Rattle.places.specs.Fresh.{edge_hit, kid_has, pair_has, fresh_by, fresh_bits_is}
use Rattle.places.proofs.Bits.{bits_few}

pub kid_is : (x ds : List ℕ) (d a b j : ℕ) → some_from (edge_hit x ds d a b j) 6 0 ≡ kid_has x ds d a b j
unfolding kid_has
kid_is x ds d a b j = refl

pub pair_is : (x ds : List ℕ) (f n a b : ℕ) → some_from (λ j. kid_has x ds (f + j) a b j) n 0 ≡ pair_has x ds f n a b
unfolding pair_has
pair_is x ds f n a b = refl

-- a bit of a new child's status
abbrev pub fresh_bit : List ℕ → List ℕ → List ℕ → ℕ → ℕ → ℕ → ℕ → Bool
fresh_bit x ds rs f n i y = pair_has x ds f n (low_at rs i y) (high_at rs i y)

pub bits_are : (x ds rs : List ℕ) (f n i : ℕ) → bits_of (map (fresh_bit x ds rs f n i) edge_numbers) ≡ fresh_by x ds rs f n i
unfolding fresh_by
bits_are x ds rs f n i = refl

-- statuses in a row
pub record Filled (x ds rs : List ℕ) (f n : ℕ) (l : List ℕ) (m : ℕ) : Type 0 where
  pub size : length l ≡ 8
  pub at : (i : ℕ) → i < m → get_or l i 0 ≡ fresh_by x ds rs f n i

module _ (x : List ℕ) (c : ℕ) where
  pub fresh_few : (i : ℕ) → fresh_bits x c i ≤ 63
  unfolding fresh_bits
  fresh_few i = bits_few (λ y. pair_hit x c (low_digit 63 i y) (high_digit 63 i y))

  -- from the digits of both families
  pub fresh_by_lem : field x (STATUS + c) ≤ 63 → (f n : ℕ) (o r l : List ℕ) → f ≡ field x (CHILD + c) → n ≡ kid_count x c
      → o ≡ (cut_of (field x (STATUS + c))).digits → r ≡ (cut_of 63).digits → ((i : ℕ) → i < 8 → get_or l i 0 ≡ fresh_by x o r f n i)
      → (i : ℕ) → i < 8 → get_or l i 0 ≡ fresh_bits x c i
  fresh_by_lem h f n o r l e g a b k i m =
      k i m ∙ ap₂ (λ (u v : List ℕ). fresh_by x u v f n i) a b
      ∙ ap₂ (λ (u v : ℕ). fresh_by x (cut_of (field x (STATUS + c))).digits (cut_of 63).digits u v i) e g ∙ fresh_bits_is x c h i m

  pub kids_inside : kid_count x c ≤ field x CELLS - field x (CHILD + c)
  unfolding kid_count
  kids_inside = omega arith

-- zeros
pub zeros_at : (i : ℕ) → i < 8 → ◌≡◌ {A = ℕ} (get_or (replicate 8 0) i 0) 0
zeros_at = below_at (λ i. ◌≡◌ {A = ℕ} (get_or (replicate 8 0) i 0) 0) 8 (omega arith)

pub above_red : (s : ℕ) → 63 < s → (s ≡ 64 → ⊥) → 64 < s
above_red s h n = elim (dec_lt 64 s) [ yes k ↦ k | no k ↦ absurd (n (omega arith)) ]

-- below 64 there is a family
pub cut_ok : {A : Type 0} (r : Result A Refusal) (p : ℕ) → p < 64 → answered r ≡ (cut_of p).answer → IsOk r
unfolding cut_into
cut_ok (Ok v) p h e = refl
cut_ok (Err k) p h e = absurd (apart (e ∙ ap (λ (c : Cut). c.answer) (cut_of_accepted p h)))
  where
    apart : Refused (number_of k) ≡ Accepted → ⊥
    apart z = cc
