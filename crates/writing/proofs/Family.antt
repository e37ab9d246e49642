-- The statuses and the old numbers of one family, in the three cases: it stays, it is new, or it is one of leaves.
-- Assumes nothing.
use mathlib.Core.Path.{◌≡◌, refl, sym, ◌∙◌, ap}
use mathlib.Core.List.{List, [], ◌∷◌, ◌++◌, map, map-append}
use Prim.Native.Nat.{ℕ, zero, suc, ◌+◌, ◌≤◌, ◌<◌}
use native.Mathlib.Omega.{arith}
use lib.ListN.{length, get_or, take, replicate, length-replicate, get_or-eq_default}
use borrow.Author.Tests.{eq-eqb, ne_eqb}
use Rattle.base.specs.Range.{range, range_snoc}
use Rattle.mesh.specs.Cells.{none}
use Rattle.mesh.specs.Table.{size_of}
use Rattle.rows.specs.Numbered.{part}
use Rattle.rows.specs.Sizes.{size_red, status_fits}
use Rattle.growth.specs.Written.{written}
use Rattle.lineage.specs.Olds.{first_child, old_child, olds_of, up_to}
use Rattle.lineage.specs.Firsts.{first_next, first_up}
use Rattle.kept.specs.Families as families
use Rattle.kept.specs.Kept.{fresh_of, born_by}
use Rattle.writing.specs.Keeps.{Keeps}
use Rattle.writing.specs.Wrote.{Wrote}
use Rattle.writing.proofs.Fresh.{fresh_leaf}

-- numbers in a row, and the same number again and again
up_range : (k n : ℕ) → map (λ i. k + i) (up_to n) ≡ range k n
unfolding up_to range
up_range k zero = refl
up_range k (suc n) =
    map-append (λ i. k + i) (up_to n) (n ∷ [])
    ∙ ap (λ (l : List ℕ). l ++ ((k + n) ∷ [])) (up_range k n) ∙ sym (range_snoc k n)

pub up_from : (n : ℕ) → range 0 n ≡ up_to n
unfolding up_to range
up_from zero = refl
up_from (suc n) =
    let e : 0 + n ≡ n = omega arith in
    range_snoc 0 n ∙ rw e (ap (λ (l : List ℕ). l ++ (n ∷ [])) (up_from n))

repeat_snoc : (v n : ℕ) → replicate n v ++ (v ∷ []) ≡ replicate (suc n) v
repeat_snoc v zero = refl
repeat_snoc v (suc n) = ap (λ (l : List ℕ). v ∷ l) (repeat_snoc v n)

up_repeat : (v n : ℕ) → map (λ i. v) (up_to n) ≡ replicate n v
unfolding up_to
up_repeat v zero = refl
up_repeat v (suc n) = map-append (λ i. v) (up_to n) (n ∷ []) ∙ ap (λ (l : List ℕ). l ++ (v ∷ [])) (up_repeat v n) ∙ repeat_snoc v n

-- the first leaves of some
pub leaves_taken : (n m : ℕ) → n ≤ m → take {A = ℕ} n (replicate m 0) ≡ replicate n 0
leaves_taken zero m h = refl
leaves_taken (suc n) zero h = absurd (omega arith)
leaves_taken (suc n) (suc m) h = ap (λ (l : List ℕ). 0 ∷ l) (leaves_taken n m (omega arith))

-- the children of an old cell are cells
module _ {m : ℕ} {ss kids ks : List ℕ} (w : Keeps m ss kids ks) (o : ℕ) (h : o < length ss) where
  first_is : get_or kids o 0 ≡ first_child m ss o
  first_is = w.firsts.at o (omega arith)

  pub status_few : get_or ss o 0 ≤ 64
  status_few = status_fits ss w.fit o h

  pub first_inside : first_child m ss o + size_of (get_or ss o 0) ≤ length ss
  first_inside = omega (arith, first_next m ss o h, first_up m ss (suc o) (length ss) (omega arith), w.firsts.whole)

-- the cases
module _ (m : ℕ) (ss ks : List ℕ) (t o : ℕ) where
  module _ (red : t ≡ 64) where
    eight : size_of t ≡ 8
    eight = size_red t red

    module _ (same : get_or ss o 0 ≡ 64) where
      pub born_kept : born_by m ss ks t o ≡ part ks (first_child m ss o) 8
      born_kept = families.born_kept m ss ks t o (eq-eqb t 64 red) (eq-eqb (get_or ss o 0) 64 same)

      olds_kept : olds_of m ss t o ≡ range (first_child m ss o) 8
      unfolding olds_of old_child
      olds_kept = rw (eq-eqb t 64 red, eq-eqb (get_or ss o 0) 64 same, old_child, eight) (up_range (first_child m ss o) 8)

    module _ (other : get_or ss o 0 ≡ 64 → ⊥) where
      pub born_fresh : born_by m ss ks t o ≡ fresh_of (get_or ss o 0) ks (first_child m ss o)
      born_fresh = families.born_fresh m ss ks t o (eq-eqb t 64 red) (ne_eqb (get_or ss o 0) 64 other)

      olds_fresh : olds_of m ss t o ≡ replicate 8 65535
      unfolding olds_of old_child
      olds_fresh = rw (eq-eqb t 64 red, ne_eqb (get_or ss o 0) 64 other, old_child, eight) (up_repeat none 8)

  module _ (green : t ≡ 64 → ⊥) where
    pub born_leaves : born_by m ss ks t o ≡ replicate (size_of t) 0
    born_leaves = families.born_green m ss ks t o (ne_eqb t 64 green)

    olds_leaves : olds_of m ss t o ≡ replicate (size_of t) 65535
    unfolding olds_of
    olds_leaves = rw (ne_eqb t 64 green) (up_repeat none (size_of t))

-- no cell of the old table
pub no_cell : (ss : List ℕ) (o : ℕ) → length ss ≤ o → get_or ss o 0 ≡ 64 → ⊥
no_cell ss o h e = omega (arith, get_or-eq_default ss 0 h)

-- what is written is the family
module _ {m : ℕ} {ss kids ks : List ℕ} (w : Keeps m ss kids ks) (t o : ℕ) where
  done : {table old : List ℕ} {at : ℕ} {ts os table' old' : List ℕ} → Wrote table old at ts os table' old' → ts ≡ born_by m ss ks t o
      → os ≡ olds_of m ss t o → Wrote table old at (born_by m ss ks t o) (olds_of m ss t o) table' old'
  done {table} {old} {at} r e d =
      record { statuses = r.statuses ∙ ap (written table at) e; olds = r.olds ∙ ap (written old at) d }

  module _ {table old : List ℕ} {at : ℕ} {table' old' : List ℕ} where
    pub done_out : t ≡ 64 → length ss ≤ o → Wrote table old at (replicate 8 0) (replicate 8 65535) table' old'
        → Wrote table old at (born_by m ss ks t o) (olds_of m ss t o) table' old'
    done_out red h r =
        let n = no_cell ss o h in
        let z : get_or ss o 0 ≡ 0 = get_or-eq_default ss 0 h in
        done r (fresh_leaf ks (first_child m ss o) ∙ rw (← z) (sym (born_fresh m ss ks t o red n))) (sym (olds_fresh m ss ks t o red n))

    pub done_leaves : {n : ℕ} {l : List ℕ} → (t ≡ 64 → ⊥) → n ≡ size_of t → l ≡ replicate n 0
        → Wrote table old at l (replicate (length l) 65535) table' old' → Wrote table old at (born_by m ss ks t o) (olds_of m ss t o) table' old'
    done_leaves {n} green e i r =
        done r (i ∙ rw e (sym (born_leaves m ss ks t o green))) (rw (i, length-replicate {A = ℕ} n 0, e) (sym (olds_leaves m ss ks t o green)))

  module _ (h : o < length ss) {f : ℕ} (e : f ≡ get_or kids o 0) where
    first : f ≡ first_child m ss o
    first = e ∙ first_is w o h

    module _ {table old : List ℕ} {at : ℕ} {table' old' : List ℕ} where
      pub done_kept : t ≡ 64 → get_or ss o 0 ≡ 64 → Wrote table old at (part ks f 8) (range f 8) table' old'
          → Wrote table old at (born_by m ss ks t o) (olds_of m ss t o) table' old'
      done_kept red same r = done r (rw first (sym (born_kept m ss ks t o red same))) (rw first (sym (olds_kept m ss ks t o red same)))

      pub done_fresh : {l : List ℕ} → t ≡ 64 → (get_or ss o 0 ≡ 64 → ⊥) → l ≡ fresh_of (get_or ss o 0) ks f
          → Wrote table old at l (replicate (length l) 65535) table' old' → Wrote table old at (born_by m ss ks t o) (olds_of m ss t o) table' old'
      done_fresh red n i r =
          done r (i ∙ rw first (sym (born_fresh m ss ks t o red n)))
          (rw (i, families.length-fresh (get_or ss o 0) ks f) (sym (olds_fresh m ss ks t o red n)))

    -- the children stand in the old table
    pub family_inside : f + size_of (get_or ss o 0) ≤ length ss
    family_inside = omega (arith, first, first_inside w o h)

    pub eight_inside : get_or ss o 0 ≡ 64 → f + 8 ≤ length ss
    eight_inside s = omega (arith, family_inside, size_red (get_or ss o 0) s)
