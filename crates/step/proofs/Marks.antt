-- Marks that fit a table, one after the other.
-- Assumes nothing.
use mathlib.Core.Path.{◌≡◌, refl, sym, ◌∙◌, ap, ap₂}
use mathlib.Core.Bool.{Bool, true, false, ◌&&◌, and-false, or-true}
use mathlib.Core.List.{List, [], ◌∷◌}
use Prim.Native.Nat.{ℕ, zero, suc, ◌+◌, ◌≤◌, ◌<◌}
use native.Mathlib.Omega.{arith}
use lib.Dec.{eqb, leb}
use lib.ListN.{length, get_or, drop, drop_of_length-le}
use lib.Seq.{drop-cons}
use borrow.Author.Tests.{ne_eqb}
use Rattle.std.specs.List.{list_all, range_with_len}
use Rattle.mesh.specs.Answers.{markb, marksb}

pub mark_none : (s m : ℕ) → m ≡ 0 → true ≡ markb s m
unfolding markb
mark_none s m e = rw (e, or-true (eqb s 0))

pub mark_refined : (s m : ℕ) → (m ≡ 0 → ⊥) → (s ≡ 0 → ⊥) → false ≡ markb s m
unfolding markb
mark_refined s m f e = rw (ne_eqb s 0 e, ne_eqb m 0 f, and-false (leb m 2))

pub mark_leaf : (s m : ℕ) → s ≡ 0 → leb m 2 ≡ markb s m
unfolding markb
mark_leaf s m e = rw e (go (leb m 2))
  where
    go : (b : Bool) → b ≡ (b && true)
    go true = refl
    go false = refl

pub marks_differ : (ss ms : List ℕ) → (length ms ≡ length ss → ⊥) → false ≡ marksb ss ms
unfolding marksb
marks_differ [] [] h = absurd (h refl)
marks_differ [] (m ∷ ms) h = refl
marks_differ (s ∷ ss) [] h = refl
marks_differ (s ∷ ss) (m ∷ ms) h = rw (← marks_differ ss ms (λ e. h (ap suc e))) (go (markb s m))
  where
    go : (b : Bool) → false ≡ (b && false)
    go true = refl
    go false = refl

module _ (ss ms : List ℕ) (c : ℕ) where
  marks_step : c < length ss → length ms ≡ length ss
      → marksb (drop c ss) (drop c ms) ≡ (markb (get_or ss c 0) (get_or ms c 0) && marksb (drop (c + 1) ss) (drop (c + 1) ms))
  unfolding marksb
  marks_step h e = let n : c + 1 ≡ suc c = omega arith in rw n (ap₂ marksb (drop-cons ss c 0 h) (drop-cons ms c 0 (omega arith)))

  marks_end : length ss ≤ c → length ms ≡ length ss → marksb (drop c ss) (drop c ms) ≡ true
  unfolding marksb
  marks_end h e = let g : length ms ≤ c = omega arith in ap₂ marksb (drop_of_length-le ss h) (drop_of_length-le ms g)

module _ (ss ms : List ℕ) where
  abbrev pub fitb : ℕ → Bool
  fitb c = markb (get_or ss c 0) (get_or ms c 0)

  pub marks_chain : (n a : ℕ) → a + n ≡ length ss → length ms ≡ length ss
      → list_all fitb (range_with_len a n) ≡ marksb (drop a ss) (drop a ms)
  marks_chain zero a h e = sym (marks_end ss ms a (omega arith) e)
  marks_chain (suc n) a h e = ap (λ (b : Bool). fitb a && b) (marks_chain n (a + 1) (omega arith) e)
      ∙ sym (marks_step ss ms a (omega arith) e)
