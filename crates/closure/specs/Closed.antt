-- Bits from the last to the first, cells from the first to the last, and what listed edges say of the tests of `mesh`.
-- Assumes nothing.
use Rattle.std.specs.Prelude.{◌≡◌, Bool, eqb, length, get_or}
use Rattle.std.proofs.Math.Path.{refl, ap, fun_ext}
use Rattle.std.proofs.Common.{sym, ◌∙◌, drop-cons}
use Rattle.std.proofs.Math.Bool.{true, false}
use mathlib.Core.List.{List, [], ◌∷◌, map}
use Prim.Native.Nat.{ℕ, zero, suc, ◌+◌, ◌*◌, ◌-◌, ◌/◌, ◌≤◌, ◌<◌}
use native.Mathlib.Omega.{arith}
use borrow.Author.Tests.{eq-eqb, ne_eqb}
use Rattle.base.specs.Bools.{one_if}
use Rattle.base.specs.Places.{hasb}
use Rattle.mesh.specs.Cells.{Cell, redb, edge, edges, bits_of, heldb, pattern, status_of, closed_from}
use Rattle.rows.specs.Numbered.{cell_at, cells_at, part}
use Rattle.probing.specs.Probed.{Probed}
use Rattle.edges.specs.Pairs.{Pair, sorted, isb, add_pairs, pairs_of, joins_pair, has_pairs}
use Rattle.edges.specs.Table.{listed}
use Rattle.closure.specs.Listed.{listed_pattern, listed_status, listed_closed}
use Rattle.rows.specs.Laws.{cells_cons}

part_cons : (l : List ℕ) (k m : ℕ) → k < length l → part l k (suc m) ≡ get_or l k 0 ∷ part l (suc k) m
part_cons l k m h = rw (drop-cons l k 0 h)

module _ (es : List Pair) (t l : List ℕ) where
  -- what a range from c on decides, as far as its first cell decides it
  pub closed_next : (c last : ℕ) → c < last → last ≤ length l → get_or l c 0 ≡ listed_status es (redb (get_or l c 0)) (cell_at t c)
      → listed_closed es (cells_at t c (last - c)) (part l c (last - c)) ≡ listed_closed es (cells_at t (c + 1) (last - (c + 1)))
      (part l (c + 1) (last - (c + 1)))
  unfolding listed_closed
  closed_next c last h g e =
      let k : last - c ≡ suc (last - (c + 1)) = omega arith in
      let w : c + 1 ≡ suc c = omega arith in
      rw (
        k,
        cells_cons t c (last - (c + 1)),
        part_cons l c (last - (c + 1)) (omega arith),
        eq-eqb (get_or l c 0)
            (listed_status es (redb (get_or l c 0)) (cell_at t c)) e,
        w,
      )

  pub closed_not : (c last : ℕ) → c < last → last ≤ length l → (get_or l c 0 ≡ listed_status es (redb (get_or l c 0)) (cell_at t c) → ⊥)
      → listed_closed es (cells_at t c (last - c)) (part l c (last - c)) ≡ false
  unfolding listed_closed
  closed_not c last h g e =
      let k : last - c ≡ suc (last - (c + 1)) = omega arith in
      rw (
        k,
        cells_cons t c (last - (c + 1)),
        part_cons l c (last - (c + 1)) (omega arith),
        ne_eqb (get_or l c 0)
            (listed_status es (redb (get_or l c 0)) (cell_at t c)) e,
      )

  pub closed_end : (last : ℕ) → listed_closed es (cells_at t last (last - last)) (part l last (last - last)) ≡ true
  unfolding listed_closed cells_at
  closed_end last = let e : last - last ≡ 0 = omega arith in rw e

-- Listed edges and the edges of red cells.
pub record Lists (es reds : List Pair) : Type 0 where
  pub has : (p : Pair) → hasb isb es p ≡ hasb isb (map sorted reds) p

pub lists_added : (reds : List Pair) → Lists (add_pairs [] reds) reds
unfolding hasb
lists_added reds = record { has = λ p. has_pairs [] reds p }

module _ (es reds : List Pair) (m : Lists es reds) where
  pub held_listed : (e : Pair) → hasb isb es (sorted e) ≡ heldb eqb reds e
  held_listed e = m.has (sorted e) ∙ sym (joins_pair reds e)

  pub pattern_listed : (c : Cell ℕ) → listed_pattern es c ≡ pattern 0 eqb reds c
  unfolding listed_pattern pattern
  pattern_listed c = ap (λ (f : Pair → Bool). bits_of (map f (edges 0 c))) (fun_ext held_listed)

  status_listed : (r : Bool) (c : Cell ℕ) → listed_status es r c ≡ status_of 0 eqb reds r c
  unfolding listed_status status_of
  status_listed r c = ap (λ (p : ℕ). elim c.regular [ true ↦ elim r [ true ↦ 64 | false ↦ p ] | false ↦ 0 ]) (pattern_listed c)

  pub closed_listed : (cs : List (Cell ℕ)) (ss : List ℕ) → listed_closed es cs ss ≡ closed_from 0 eqb reds cs ss
  unfolding listed_closed closed_from
  closed_listed [] [] = refl
  closed_listed [] (s ∷ ss) = refl
  closed_listed (c ∷ cs) [] = refl
  closed_listed (c ∷ cs) (s ∷ ss) = rw (status_listed (redb s) c, closed_listed cs ss)

-- the six tests as bits
pub six_bits : (es : List Pair) (c : Cell ℕ) (p q r s t u : Bool) → p ≡ hasb isb es (sorted (edge 0 c 0))
    → q ≡ hasb isb es (sorted (edge 0 c 1)) → r ≡ hasb isb es (sorted (edge 0 c 2)) → s ≡ hasb isb es (sorted (edge 0 c 3))
    → t ≡ hasb isb es (sorted (edge 0 c 4)) → u ≡ hasb isb es (sorted (edge 0 c 5))
    → bits_of (p ∷ q ∷ r ∷ s ∷ t ∷ u ∷ []) ≡ listed_pattern es c
unfolding listed_pattern edges
six_bits es c p q r s t u e f g h i j = rw (e, f, g, h, i, j)

-- one look that decides, as a bit
probed_bit : (b : Bool) (r : ℕ) → Probed b r → r / 2 ≡ 0 → r ≡ one_if b
unfolding one_if
probed_bit b zero k h = sym (ap one_if (k.none refl))
probed_bit b (suc zero) k h = sym (ap one_if (k.here refl))
probed_bit b (suc (suc r)) k h = absurd (omega arith)

-- six looks that all decide
pub probed_bits : (es : List Pair) (c : Cell ℕ) (p q r s t u : ℕ) → Probed (hasb isb es (sorted (edge 0 c 0))) p
    → Probed (hasb isb es (sorted (edge 0 c 1))) q → Probed (hasb isb es (sorted (edge 0 c 2))) r
    → Probed (hasb isb es (sorted (edge 0 c 3))) s → Probed (hasb isb es (sorted (edge 0 c 4))) t
    → Probed (hasb isb es (sorted (edge 0 c 5))) u → p / 2 + q / 2 + r / 2 + s / 2 + t / 2 + u / 2 ≡ 0
    → p + 2 * q + 4 * r + 8 * s + 16 * t + 32 * u ≡ listed_pattern es c
unfolding bits_of
probed_bits es c p q r s t u e f g h i j z = omega (
  arith,
  six_bits es c _ _ _ _ _ _ refl refl refl refl refl refl,
  probed_bit _ p e (omega arith),
  probed_bit _ q f (omega arith),
  probed_bit _ r g (omega arith),
  probed_bit _ s h (omega arith),
  probed_bit _ t i (omega arith),
  probed_bit _ u j (omega arith),
)

-- no edge is listed
pub pattern_unlisted : (xs ys : List ℕ) (from n : ℕ) (c : Cell ℕ) → from ≡ n → listed_pattern (listed xs ys from n) c ≡ 0
unfolding listed_pattern pairs_of hasb bits_of edges one_if
pattern_unlisted xs ys from n c e = let w : n - from ≡ 0 = omega arith in rw w

-- the three cases of a status
module _ (es : List Pair) (r : Bool) (c : Cell ℕ) where
  pub status_irregular : c.regular ≡ false → listed_status es r c ≡ 0
  unfolding listed_status
  status_irregular e = rw (e, listed_status)

  pub listed_red : c.regular ≡ true → r ≡ true → listed_status es r c ≡ 64
  unfolding listed_status
  listed_red e f = rw (e, f, listed_status)

  pub status_pattern : c.regular ≡ true → r ≡ false → listed_status es r c ≡ listed_pattern es c
  unfolding listed_status
  status_pattern e f = rw (e, f, listed_status)
