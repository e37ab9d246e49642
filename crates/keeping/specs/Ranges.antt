-- Ranges of numbers.
--   Blocks par at lo hi   the numbers from at k to at (suc k) have the parent k, for each k from lo to hi
-- Law: blocks (the numbers of a range that have one parent).
-- Assumes nothing.
use Rattle.std.specs.Prelude.{◌≡◌, Bool, true, false}
use Rattle.std.proofs.Math.Path.{refl}
use Rattle.std.proofs.Common.{◌∙◌, ap, ap₂, ⊎_elim, eq-or-lt_of_le}
use mathlib.Core.List.{List, [], ◌∷◌, append-nil, ◌++◌}
use Prim.Native.Nat.{ℕ, zero, suc, ◌+◌, ◌-◌, ◌≤◌, ◌<◌}
use native.Mathlib.Omega.{arith}
use Rattle.std.proofs.Math.Dec.{eqb}
use borrow.Author.Tests.{eq-eqb, ne_eqb}
use Rattle.base.specs.Lists.{filterb}
use Rattle.base.specs.Range.{range, range_append}
use Rattle.base.specs.Append.{filter_append}

module _ (f : ℕ → Bool) where
  filter_range_all : (k m : ℕ) → ((j : ℕ) → k ≤ j → j < k + m → f j ≡ true) → filterb f (range k m) ≡ range k m
  unfolding filterb range
  filter_range_all k zero h = refl
  filter_range_all k (suc m) h =
      rw (h k (omega arith) (omega arith), filterb)
      (ap (λ (l : List ℕ). k ∷ l) (filter_range_all (suc k) m (λ j a b. h j (omega arith) (omega arith))))

  filter_range_none : (k m : ℕ) → ((j : ℕ) → k ≤ j → j < k + m → f j ≡ false) → filterb f (range k m) ≡ []
  unfolding filterb range
  filter_range_none k zero h = refl
  filter_range_none k (suc m) h =
      rw (h k (omega arith) (omega arith), filterb) (filter_range_none (suc k) m (λ j a b. h j (omega arith) (omega arith)))

-- a range of blocks: block k has the numbers from at k to at (suc k), each with the parent k
module _ (par at : ℕ → ℕ) where
  pub record Blocks (lo hi : ℕ) : Type 0 where
    pub up : (a b : ℕ) → lo ≤ a → a ≤ b → b ≤ hi → at a ≤ at b
    pub own : (k j : ℕ) → lo ≤ k → k < hi → at k ≤ j → j < at (suc k) → par j ≡ k

  less : (lo hi : ℕ) → Blocks lo hi → Blocks (suc lo) hi
  less lo hi b = record { up = λ x y p q r. b.up x y (omega arith) q r; own = λ k j p q r s. b.own k j (omega arith) q r s }

  apart_from : (m lo hi k : ℕ) → lo + m ≡ hi → Blocks lo hi → (k < lo) → filterb (λ j. eqb (par j) k) (range (at lo) (at hi - at lo)) ≡ []
  unfolding filterb range
  apart_from zero lo hi k e b h = let w : lo ≡ hi = omega arith in let z : at hi - at lo ≡ 0 = rw w (omega arith) in rw z
  apart_from (suc m) lo hi k e b h =
      let u = b.up lo (suc lo) (omega arith) (omega arith) (omega arith) in
      let v = b.up (suc lo) hi (omega arith) (omega arith) (omega arith) in
      let s : at hi - at lo ≡ (at (suc lo) - at lo) + (at hi - at (suc lo)) = omega arith in
      let f : at lo + (at (suc lo) - at lo) ≡ at (suc lo) = omega arith in
      rw (
        s,
        range_append (at lo) (at (suc lo) - at lo) (at hi - at (suc lo)),
        f,
        filter_append (λ j. eqb (par j) k)
            (range (at lo) (at (suc lo) - at lo)) (range (at (suc lo)) (at hi - at (suc lo))),
      )
      (ap₂ ◌++◌ (filter_range_none (λ j. eqb (par j) k) (at lo) (at (suc lo) - at lo)
      (λ j p q. ne_eqb (par j) k (λ x. omega (arith, b.own lo j (omega arith) (omega arith) p (omega arith)))))
      (apart_from m (suc lo) hi k (omega arith) (less lo hi b) (omega arith)))

  pub blocks : (m lo hi k : ℕ) → lo + m ≡ hi → Blocks lo hi → lo ≤ k → k < hi
      → filterb (λ j. eqb (par j) k) (range (at lo) (at hi - at lo)) ≡ range (at k) (at (suc k) - at k)
  blocks zero lo hi k e b h g = absurd (omega arith)
  blocks (suc m) lo hi k e b h g =
      let u = b.up lo (suc lo) (omega arith) (omega arith) (omega arith) in
      let v = b.up (suc lo) hi (omega arith) (omega arith) (omega arith) in
      let s : at hi - at lo ≡ (at (suc lo) - at lo) + (at hi - at (suc lo)) = omega arith in
      let f : at lo + (at (suc lo) - at lo) ≡ at (suc lo) = omega arith in
      rw (
        s,
        range_append (at lo) (at (suc lo) - at lo) (at hi - at (suc lo)),
        f,
        filter_append (λ j. eqb (par j) k)
            (range (at lo) (at (suc lo) - at lo)) (range (at (suc lo)) (at hi - at (suc lo))),
      )
      (⊎_elim
      (λ (z : lo ≡ k).
      ap₂ ◌++◌ (filter_range_all (λ j. eqb (par j) k) (at lo) (at (suc lo) - at lo)
      (λ j p q. eq-eqb (par j) k (b.own lo j (omega arith) (omega arith) p (omega arith) ∙ z)))
      (apart_from m (suc lo) hi k (omega arith) (less lo hi b) (omega arith)) ∙ append-nil (range (at lo) (at (suc lo) - at lo)) ∙ rw z)
      (λ (z : lo < k).
      ap₂ ◌++◌ (filter_range_none (λ j. eqb (par j) k) (at lo) (at (suc lo) - at lo)
      (λ j p q. ne_eqb (par j) k (λ x. omega (arith, b.own lo j (omega arith) (omega arith) p (omega arith)))))
      (blocks m (suc lo) hi k (omega arith) (less lo hi b) (omega arith) g))
      (eq-or-lt_of_le h))
