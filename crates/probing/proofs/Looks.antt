-- What one look at the last entry of a bucket tells.
-- Assumes nothing.
use mathlib.Core.Path.{◌≡◌, refl, sym, ◌∙◌}
use mathlib.Core.Bool.{Bool, true, false, not}
use mathlib.Core.List.{List}
use Prim.Native.Nat.{ℕ, ◌+◌, ◌-◌, ◌*◌, ◌%◌, ◌≤◌, ◌<◌}
use native.Mathlib.Omega.{arith}
use lib.Dec.{eqb, ltb}
use lib.ListN.{length, get_or}
use borrow.Author.Tests.{ne_eqb, ltb-true, ltb-false}
use Rattle.base.specs.Bools.{one_if}
use Rattle.spots.specs.Spots.{buckets_of}
use Rattle.pairs.specs.declared.PairTable.{PairTable}
use Rattle.pairs.specs.Keys.{hereb, seek, bucket, Keys}
use Rattle.pairs.specs.Chain.{InChain, chain_start, chain_ended, chain_hit, chain_turn}
use Rattle.probing.specs.Probed.{Probed}

-- one look: t says whether the bucket has an entry from `from` on, e is that entry or 0, s says whether it is the pair, m whether the chain
-- goes on, and r is the verdict
module _ {xs ys heads links : List ℕ} {from n x y : ℕ} (k : Keys xs ys heads links n) (up : from < n) (h : ℕ) (h_most : h ≤ 65535)
    (o : InChain (buckets_of (length heads)) xs ys x y from n h) (t e : ℕ) (t_is : t ≡ one_if (ltb from ((h + 1) % 65536)))
    (e_is : (t ≡ 0 → e ≡ 0) × (t ≡ 1 → e + 1 ≡ (h + 1) % 65536)) where
  entry : ltb from ((h + 1) % 65536) ≡ true → (h ≡ 65535 → ⊥) × (e ≡ h) × (from ≤ h)
  unfolding one_if
  entry q =
      let u : t ≡ 1 = t_is ∙ rw q in
      let l : from < (h + 1) % 65536 = ltb-true from ((h + 1) % 65536) q in
      (λ z. omega arith, omega (arith, e_is.1 u), omega arith)

  pub look_inside : e < n
  unfolding one_if
  look_inside = go (ltb from ((h + 1) % 65536)) refl
    where
      go : (b : Bool) → ltb from ((h + 1) % 65536) ≡ b → e < n
      go true q = let (ne, i, l) = entry q in omega (arith, o.below ne)
      go false q = let u : t ≡ 0 = t_is ∙ rw q in omega (arith, e_is.0 u)

  pub looked : (s l m r : ℕ) → s ≡ one_if (hereb xs ys x y e) → l ≡ get_or links e 0 → l ≤ 65535 → m ≡ one_if (ltb from ((l + 1) % 65536))
      → (t ≡ 0 → r ≡ 0) × (t ≡ 1 → s ≡ 1 → r ≡ 1) × (t ≡ 1 → s ≡ 0 → r ≡ 2 * m)
      → Probed (not (eqb (seek xs ys x y from (n - from)) 65535)) r
  unfolding one_if
  looked s l m r s_is l_is l_most m_is v = go (ltb from ((h + 1) % 65536)) refl
    where
      missing : r ≡ 0 → seek xs ys x y from (n - from) ≡ 65535 → Probed (not (eqb (seek xs ys x y from (n - from)) 65535)) r
      missing z q = record { small = omega arith; none = λ w. rw q; here = λ w. absurd (omega arith) }

      on : (b : Bool) → ltb from ((l + 1) % 65536) ≡ b → t ≡ 1 → s ≡ 0 → InChain (buckets_of (length heads)) xs ys x y from n l
          → Probed (not (eqb (seek xs ys x y from (n - from)) 65535)) r
      on true b u z p =
          let j : m ≡ 1 = m_is ∙ rw b in
          let w : r ≡ 2 = omega (arith, v.2 u z, j) in
          record { small = omega arith; none = λ i. absurd (omega arith); here = λ i. absurd (omega arith) }
      on false b u z p =
          let j : m ≡ 0 = m_is ∙ rw b in
          let w : r ≡ 0 = omega (arith, v.2 u z, j) in
          missing w (chain_ended k p l_most (ltb-false from ((l + 1) % 65536) b))

      at : (b : Bool) → hereb xs ys x y e ≡ b → t ≡ 1 → (h ≡ 65535 → ⊥) → e ≡ h → from ≤ h
          → Probed (not (eqb (seek xs ys x y from (n - from)) 65535)) r
      at true b u ne i f =
          let w : r ≡ 1 = v.1 u (s_is ∙ rw b) in
          let q : h ≡ seek xs ys x y from (n - from) = chain_hit k o ne f refl (rw i at b) in
          record { small = omega arith; none = λ j. absurd (omega arith); here = λ j. rw (sym q, ne_eqb h 65535 ne) }
      at false b u ne i f =
          on (ltb from ((l + 1) % 65536)) refl u (s_is ∙ rw b) (rw (l_is, i) (chain_turn k o ne refl (rw i at b)))

      go : (b : Bool) → ltb from ((h + 1) % 65536) ≡ b → Probed (not (eqb (seek xs ys x y from (n - from)) 65535)) r
      go true q = let (ne, i, f) = entry q in at (hereb xs ys x y e) refl (t_is ∙ rw q) ne i f
      go false q = missing (v.0 (t_is ∙ rw q)) (chain_ended k o h_most (ltb-false from ((h + 1) % 65536) q))

-- where a search in a table starts
module _ {N H : ℕ} (t : PairTable N H) {x y b : ℕ} where
  pub start : (b ≡ bucket (buckets_of H) x y) × (b < buckets_of H) × (b < H)
      → InChain (buckets_of (length t.heads)) t.xs t.ys x y t.from t.n (get_or t.heads b 0)
  start (e, l, _) = chain_start {x = x} {y = y} t.in_order b (rw t.sized.2 e) (rw t.sized.2 l)
