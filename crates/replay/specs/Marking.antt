-- The marks of a step, one after the other.
-- Assumes nothing.
use Rattle.std.specs.Prelude.{◌≡◌, refl, Bool, true, false, ◌&&◌, List, [], ◌∷◌, leb, ltb, length, take, drop, set}
use Rattle.std.proofs.Common.{sym, ◌∙◌, ap, ap₂, drop_of_length-le, drop-cons}
use Prim.Native.Nat.{ℕ, suc, ◌+◌, ◌≤◌, ◌<◌}
use native.Mathlib.Omega.{arith}
use Rattle.std.proofs.Math.Dec.{leb-zero}
use Rattle.std.proofs.Math.ListN.{get_or}
use Rattle.std.proofs.Math.Seq.{take-set-lt}
use borrow.Author.Tests.{le-leb, lt-leb, lt-ltb, le-ltb, ltb-true}
use Rattle.base.specs.Lists.{allb}
use Rattle.base.specs.Bools.{and_left, and_right, is_true}
use Rattle.archive.specs.Tables.{pairs}
use Rattle.replay.specs.Run.{spread_over, risingb, markingb}
use Rattle.replay.specs.Scan.{mayb, marking_from}

-- the marks rise and may stand, at once and one after the other
abbrev standsb : ℕ → ℕ × ℕ → Bool
standsb k m = ltb m.0 k && (leb 1 m.1 && leb m.1 2)

swap : (a b o c : Bool) → ((a && b) && (o && c)) ≡ (o && (a && (b && c)))
swap true b true c = refl
swap true true false c = refl
swap true false false c = refl
swap false b true c = refl
swap false b false c = refl

group : (a o r : Bool) → ((a && o) && r) ≡ (a && (o && r))
group true o r = refl
group false o r = refl

from_first : (k : ℕ) (m : ℕ × ℕ) (ms : List (ℕ × ℕ)) → markingb k (m ∷ ms) ≡ (standsb k m && marking_from k (suc m.0) ms)
unfolding markingb risingb allb marking_from mayb
from_first k m [] = refl
from_first k m (l ∷ ms) =
    swap (ltb m.0 l.0) (risingb (l ∷ ms)) (standsb k m) (allb (standsb k) (l ∷ ms))
    ∙ ap (λ (b : Bool). standsb k m && b) (ap (λ (b : Bool). ltb m.0 l.0 && b) (from_first k l ms)
    ∙ sym (group (ltb m.0 l.0) (standsb k l) (marking_from k (suc l.0) ms)))

pub from_start : (k : ℕ) (ms : List (ℕ × ℕ)) → marking_from k 0 ms ≡ markingb k ms
unfolding marking_from mayb markingb risingb allb
from_start k [] = refl
from_start k (m ∷ ms) = ap (λ (b : Bool). (b && standsb k m) && marking_from k (suc m.0) ms) (leb-zero m.0) ∙ sym (from_first k m ms)

-- one mark on
module _ (cs ms : List ℕ) (i : ℕ) (h : i < length cs) (e : length cs ≡ length ms) where
  abbrev rest : List (ℕ × ℕ)
  rest = pairs (drop (i + 1) cs) (drop (i + 1) ms)

  pairs_next : pairs (drop i cs) (drop i ms) ≡ (get_or cs i 0, get_or ms i 0) ∷ rest
  unfolding pairs
  pairs_next = let n : i + 1 ≡ suc i = omega arith in rw n (ap₂ pairs (drop-cons cs i 0 h) (drop-cons ms i 0 (omega arith)))

  pub marking_next : (k b : ℕ) → mayb k b (get_or cs i 0) (get_or ms i 0) ≡ true → marking_from k b (pairs (drop i cs) (drop i ms)) ≡ marking_from
      k (get_or cs i 0 + 1) rest
  unfolding marking_from
  marking_next k b t = let n : get_or cs i 0 + 1 ≡ suc (get_or cs i 0) = omega arith in rw (pairs_next, t, n)

  pub marking_miss : (k b : ℕ) → mayb k b (get_or cs i 0) (get_or ms i 0) ≡ false → marking_from k b (pairs (drop i cs) (drop i ms)) ≡ false
  unfolding marking_from
  marking_miss k b t = rw (pairs_next, t)

  pub spread_next : (k : ℕ) (out : List ℕ) → get_or cs i 0 < k → spread_over (take k out) (pairs (drop i cs) (drop i ms)) ≡ spread_over
      (take k (set out (get_or cs i 0) (get_or ms i 0))) rest
  unfolding spread_over
  spread_next k out l = rw (pairs_next, take-set-lt k out (get_or cs i 0) (get_or ms i 0) l)

-- at the end
pub pairs_end : (cs ms : List ℕ) (i : ℕ) → length cs ≤ i → pairs (drop i cs) (drop i ms) ≡ []
unfolding pairs
pairs_end cs ms i h = rw (drop_of_length-le cs h)

-- a mark that may stand stands at a cell
pub may_below : (k b c m : ℕ) → mayb k b c m ≡ true → c < k
unfolding mayb
may_below k b c m t = ltb-true c k
    (is_true (ltb c k) (and_left (ltb c k) (leb 1 m && leb m 2) (and_right (leb b c) (ltb c k && (leb 1 m && leb m 2)) (rw t tt))))

module _ (k b c m : ℕ) where
  pub may_early : c < b → false ≡ mayb k b c m
  unfolding mayb
  may_early h = rw (lt-leb b c h)

  module _ (late : b ≤ c) where
    pub may_beyond : k ≤ c → false ≡ mayb k b c m
    unfolding mayb
    may_beyond h = rw (le-leb b c late, le-ltb c k h)

    pub may_none : c < k → m < 1 → false ≡ mayb k b c m
    unfolding mayb
    may_none h l = rw (le-leb b c late, lt-ltb c k h, lt-leb 1 m l)

    pub may_here : c < k → 1 ≤ m → leb m 2 ≡ mayb k b c m
    unfolding mayb
    may_here h l = rw (le-leb b c late, lt-ltb c k h, le-leb 1 m l)
