-- Edges as pairs of corner numbers, the lower first, and lists of different ones in the order of their first appearance.
--   Pair              two numbers
--   sorted e          the pair of e's two ends, the lower first
--   isb p q           p and q are the same pair
--   add_pair es e      es with the pair of e behind it, where it is not in it; add_pairs es l the same for each edge of l
--   pairs_of xs ys k m the m pairs of two lists from the place k on
-- Laws: same_pair (isb tells pairs apart), joins_sorted (edges have the same ends where their pairs are the same).
use Rattle.std.specs.Prelude.{◌≡◌, Bool, ◌&&◌, ◌||◌, List, [], ◌∷◌, ◌++◌, map, get_or}
use Rattle.std.proofs.Math.Path.{refl}
use Rattle.std.proofs.Common.{sym, ◌∙◌, ap₂}
use Rattle.std.proofs.Math.Bool.{true, false, or-true, or-false, or_assoc}
use Prim.Native.Nat.{ℕ, zero, suc, ◌+◌, min, max}
use Rattle.std.proofs.Math.Decide.{ℕ_discrete}
use native.Mathlib.Omega.{arith}
use Rattle.std.proofs.Math.Dec.{T, eqb, eqb→eq}
use borrow.Author.Tests.{eq-eqb, eqb-true}
use Rattle.base.specs.Lists.{anyb}
use Rattle.base.specs.Bools.{and_left, and_right, not_both}
use Rattle.base.specs.Places.{hasb, add, Same, has_added}
use Rattle.mesh.specs.Cells.{joinsb, heldb}

-- Rule 5.4: an edge by its ends' numbers.
abbrev pub Pair : Type 0
Pair = ℕ × ℕ

-- Rule 5.4: an edge has no direction, so the lower end is first.
unfoldable pub sorted : Pair → Pair
sorted e = (min e.0 e.1, max e.0 e.1)

-- Rule 5.4: the same two ends.
unfoldable pub isb : Pair → Pair → Bool
isb p q = eqb p.0 q.0 && eqb p.1 q.1

-- Rule 5.5: one that is not there yet comes next.
unfoldable pub add_pair : List Pair → Pair → List Pair
unfolding add isb sorted
add_pair es e = add isb es (sorted e)

-- Rule 5.5, edge by edge.
unfoldable pub add_pairs : List Pair → List Pair → List Pair
unfolding add_pair
add_pairs es [] = es
add_pairs es (e ∷ l) = add_pairs (add_pair es e) l

unfoldable pub pairs_of : List ℕ → List ℕ → ℕ → ℕ → List Pair
pairs_of xs ys k zero = []
pairs_of xs ys k (suc m) = pairs_of xs ys k m ++ ((get_or xs (k + m) 0, get_or ys (k + m) 0) ∷ [])

pub same_pair : Same isb
unfolding isb
same_pair = record { sound = sound; self = λ p. rw (eq-eqb p.0 p.0 refl, eq-eqb p.1 p.1 refl) }
  where
    sound : (p q : Pair) → isb p q ≡ true → p ≡ q
    sound (a, b) (c, d) t =
        let u : T (eqb a c && eqb b d) = rw t tt in
        ap₂ (λ (x y : ℕ). (x, y)) (eqb→eq a c (and_left (eqb a c) (eqb b d) u)) (eqb→eq b d (and_right (eqb a c) (eqb b d) u))

-- two tests that follow from each other are the same
pub test_ext : (a b : Bool) → (a ≡ true → b ≡ true) → (b ≡ true → a ≡ true) → a ≡ b
test_ext true true p q = refl
test_ext true false p q = sym (p refl)
test_ext false true p q = q refl
test_ext false false p q = refl

module _ (a b c d : ℕ) where
  joins : Bool
  joins = (eqb a c && eqb b d) || (eqb a d && eqb b c)

  sort : Bool
  sort = eqb (min c d) (min a b) && eqb (max c d) (max a b)

  straight : a ≡ c → b ≡ d → sort ≡ true
  unfolding sort
  straight p q = rw (eq-eqb (min c d) (min a b) (omega arith), eq-eqb (max c d) (max a b) (omega arith))

  crossed : a ≡ d → b ≡ c → sort ≡ true
  unfolding sort
  crossed p q = rw (eq-eqb (min c d) (min a b) (omega arith), eq-eqb (max c d) (max a b) (omega arith))

  to : joins ≡ true → sort ≡ true
  unfolding joins
  to t = go (eqb a c) (eqb b d) (eqb a d) (eqb b c) refl refl refl refl t
    where
      go : (p q r s : Bool) → eqb a c ≡ p → eqb b d ≡ q → eqb a d ≡ r → eqb b c ≡ s → ((p && q) || (r && s)) ≡ true → sort ≡ true
      go true true r s e f g h t = straight (eqb-true a c e) (eqb-true b d f)
      go true false true true e f g h t = crossed (eqb-true a d g) (eqb-true b c h)
      go true false true false e f g h t = not_both false t refl
      go true false false s e f g h t = not_both false t refl
      go false q true true e f g h t = crossed (eqb-true a d g) (eqb-true b c h)
      go false q true false e f g h t = not_both false t refl
      go false q false s e f g h t = not_both false t refl

  from : sort ≡ true → joins ≡ true
  unfolding sort joins
  from t =
      let u : T (eqb (min c d) (min a b) && eqb (max c d) (max a b)) = rw t tt in
      let p : min c d ≡ min a b = eqb→eq (min c d) (min a b) (and_left (eqb (min c d) (min a b)) (eqb (max c d) (max a b)) u) in
      let q : max c d ≡ max a b = eqb→eq (max c d) (max a b) (and_right (eqb (min c d) (min a b)) (eqb (max c d) (max a b)) u) in
      elim (ℕ_discrete a c) [
        | yes e ↦ let f : b ≡ d = omega arith in rw (eq-eqb a c e, eq-eqb b d f)
        | no e ↦ let f : a ≡ d = omega (arith, e) in let g : b ≡ c = omega (arith, e) in rw (eq-eqb a d f, eq-eqb b c g, or-true)
      ]

pub joins_sorted : (e f : Pair) → joinsb eqb e f ≡ isb (sorted f) (sorted e)
unfolding joinsb isb sorted joins sort
joins_sorted e f = test_ext (joins e.0 e.1 f.0 f.1) (sort e.0 e.1 f.0 f.1) (to e.0 e.1 f.0 f.1)
    (from e.0 e.1 f.0 f.1)

pub joins_pair : (es : List Pair) (e : Pair) → heldb eqb es e ≡ hasb isb (map sorted es) (sorted e)
unfolding heldb anyb hasb
joins_pair [] e = refl
joins_pair (f ∷ es) e = rw (joins_sorted e f, joins_pair es e)

-- what an edge more, and each edge of a list, does to what the list has
pub has_pairs : (es l : List Pair) (p : Pair) → hasb isb (add_pairs es l) p ≡ (hasb isb es p || hasb isb (map sorted l) p)
unfolding add_pairs add_pair hasb
has_pairs es [] p = sym (or-false (hasb isb es p))
has_pairs es (e ∷ l) p = has_pairs (add_pair es e) l p ∙ rw (has_added isb (0, 0) same_pair es (sorted e) p)
    (or_assoc (hasb isb es p) (isb (sorted e) p) (hasb isb (map sorted l) p))
