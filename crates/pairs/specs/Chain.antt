-- How a chain and a search go down together: what the chain jumps over lies in other buckets, so it is not the pair.
--   InChain w xs ys x y from n e   where a search for the pair stands in its chain, with w buckets
-- Laws: chain_start (at the bucket), chain_ended (the pair is not there), chain_hit, chain_stop, chain_turn, chain_less (at an entry).
-- Assumes nothing.
use Rattle.std.specs.Prelude.{◌≡◌, Bool, cond, List, ltb, length, get_or}
use Rattle.std.proofs.Math.Path.{refl}
use Rattle.std.proofs.Common.{sym, ◌∙◌, eqb-true, ltb-true, ltb-false}
use Rattle.std.proofs.Math.Bool.{true, false}
use Prim.Native.Nat.{ℕ, zero, suc, ◌+◌, ◌-◌, ◌%◌, ◌≤◌, ◌<◌}
use Rattle.std.proofs.Math.Decide.{ℕ_discrete}
use native.Mathlib.Omega.{arith}
use Rattle.std.proofs.Math.Dec.{eqb}
use Rattle.std.proofs.lemmas.Bool.{eqb-false}
use Rattle.spots.specs.Spots.{buckets_of}
use Rattle.pairs.specs.Keys.{hereb, seek, bucket, latest, Keys, here_x, here_y, seek_here, seek_past}

-- where a chain stands: at no entry, and the pair is not among the n; or at an entry, and the pair is not above it
pub record InChain (w : ℕ) (xs ys : List ℕ) (x y from n e : ℕ) : Type 0 where
  pub none : e ≡ 65535 → seek xs ys x y from (n - from) ≡ 65535
  pub below : (e ≡ 65535 → ⊥) → e < n
  pub key : (e ≡ 65535 → ⊥) → bucket w (get_or xs e 0) (get_or ys e 0) ≡ bucket w x y
  pub rest : (e ≡ 65535 → ⊥) → seek xs ys x y from (n - from) ≡ seek xs ys x y from (suc e - from)

module _ (xs ys : List ℕ) (x y from : ℕ) where
  found : (e : ℕ) → from ≤ e → hereb xs ys x y e ≡ true → seek xs ys x y from (suc e - from) ≡ e
  found e h t =
      let p : suc e - from ≡ suc (e - from) = omega arith in
      let q : from + (e - from) ≡ e = omega arith in
      rw p (seek_here xs ys x y from (e - from) (rw q t) ∙ q)

  passed : (e : ℕ) → hereb xs ys x y e ≡ false → seek xs ys x y from (suc e - from) ≡ seek xs ys x y from (e - from)
  passed e t = go (ltb e from) refl
    where
      go : (b : Bool) → ltb e from ≡ b → seek xs ys x y from (suc e - from) ≡ seek xs ys x y from (e - from)
      go true b =
          let h : e < from = ltb-true e from b in
          let p : suc e - from ≡ 0 = omega arith in
          let q : e - from ≡ 0 = omega arith in
          rw (p, q)
      go false b =
          let h : from ≤ e = ltb-false e from b in
          let p : suc e - from ≡ suc (e - from) = omega arith in
          let q : from + (e - from) ≡ e = omega arith in
          rw p (seek_past xs ys x y from (e - from) (rw q t))

  old : (e : ℕ) → e < from → seek xs ys x y from (suc e - from) ≡ 65535
  unfolding seek
  old e h = let p : suc e - from ≡ 0 = omega arith in rw p

module _ (w : ℕ) (xs ys : List ℕ) (x y from : ℕ) where
  elsewhere : (e : ℕ) → (bucket w (get_or xs e 0) (get_or ys e 0) ≡ bucket w x y → ⊥) → hereb xs ys x y e ≡ false
  elsewhere e ne = go (hereb xs ys x y e) refl
    where
      go : (b : Bool) → hereb xs ys x y e ≡ b → b ≡ false
      go true t = absurd (ne (rw (here_x xs ys x y e t, here_y xs ys x y e t)))
      go false t = refl

  here : (m : ℕ) → m < 65535 → bucket w (get_or xs m 0) (get_or ys m 0) ≡ bucket w x y → InChain w xs ys x y from (suc m) m
  here m h k = record { none = λ e. absurd (omega arith); below = λ ne. omega arith; key = λ ne. k; rest = λ ne. refl }

  -- the same chain, said of more entries, none of which is the pair
  longer : (m n e : ℕ) → m ≤ n → seek xs ys x y from (n - from) ≡ seek xs ys x y from (m - from) → InChain w xs ys x y from m e
      → InChain w xs ys x y from n e
  longer m n e h s o =
      record {
        none = λ z. s ∙ o.none z;
        below = λ ne. omega (arith, o.below ne);
        key = o.key;
        rest = λ ne. s ∙ o.rest ne;
      }

  empty : InChain w xs ys x y from 0 65535
  unfolding seek
  empty =
      let p : 0 - from ≡ 0 = omega arith in
      record { none = λ z. rw p; below = λ ne. absurd (ne refl); key = λ ne. absurd (ne refl); rest = λ ne. absurd (ne refl) }

  latest_on : (m : ℕ) → m ≤ 65535 → InChain w xs ys x y from m (latest w xs ys (bucket w x y) m)
  unfolding latest
  latest_on zero h = empty
  latest_on (suc m) h = go (eqb (bucket w (get_or xs m 0) (get_or ys m 0)) (bucket w x y)) refl (latest_on m (omega arith))
    where
      go : (t : Bool) → eqb (bucket w (get_or xs m 0) (get_or ys m 0)) (bucket w x y) ≡ t
          → InChain w xs ys x y from m (latest w xs ys (bucket w x y) m)
          → InChain w xs ys x y from (suc m) (cond t m (latest w xs ys (bucket w x y) m))
      go true t o = here m (omega arith) (eqb-true (bucket w (get_or xs m 0) (get_or ys m 0)) (bucket w x y) t)
      go false t o =
          longer m (suc m) (latest w xs ys (bucket w x y) m) (omega arith)
          (passed xs ys x y from m (elsewhere m (eqb-false (bucket w (get_or xs m 0) (get_or ys m 0)) (bucket w x y) t))) o

-- the loop of `find`
module _ {xs ys heads links : List ℕ} {from n x y : ℕ} (k : Keys xs ys heads links n) where
  pub chain_start : (b : ℕ) → b ≡ bucket (buckets_of (length heads)) x y → b < buckets_of (length heads)
      → InChain (buckets_of (length heads)) xs ys x y from n (get_or heads b 0)
  chain_start b e h = rw (k.heads_right b h, e) (latest_on (buckets_of (length heads)) xs ys x y from n k.small)

  -- where the chain is at its end, or at an older entry
  pub chain_ended : {e : ℕ} → InChain (buckets_of (length heads)) xs ys x y from n e → e ≤ 65535 → (e + 1) % 65536 ≤ from
      → seek xs ys x y from (n - from) ≡ 65535
  chain_ended {e} o m h = go (ℕ_discrete e 65535)
    where
      go : Dec (e ≡ 65535) → seek xs ys x y from (n - from) ≡ 65535
      go (yes q) = o.none q
      go (no q) = o.rest q ∙ old xs ys x y from e (omega (arith, q))

  module _ {e : ℕ} (o : InChain (buckets_of (length heads)) xs ys x y from n e) (ne : e ≡ 65535 → ⊥) where
    pub chain_hit : from ≤ e → {b : Bool} → b ≡ hereb xs ys x y e → b ≡ true → e ≡ seek xs ys x y from (n - from)
    chain_hit h t u = sym (o.rest ne ∙ found xs ys x y from e h (sym t ∙ u))

    pub chain_stop : e < from → 65535 ≡ seek xs ys x y from (n - from)
    chain_stop h = sym (o.rest ne ∙ old xs ys x y from e h)

    link : get_or links e 0 ≡ latest (buckets_of (length heads)) xs ys (bucket (buckets_of (length heads)) x y) e
    link = k.links_right e (o.below ne) ∙ rw (o.key ne)

    link_on : InChain (buckets_of (length heads)) xs ys x y from e (get_or links e 0)
    link_on = rw link (latest_on (buckets_of (length heads)) xs ys x y from e (omega (arith, o.below ne, k.small)))

    pub chain_turn : {b : Bool} → b ≡ hereb xs ys x y e → b ≡ false → InChain (buckets_of (length heads)) xs ys x y from n (get_or links e 0)
    chain_turn t u = longer (buckets_of (length heads)) xs ys x y from e n (get_or links e 0) (omega (arith, o.below ne))
        (o.rest ne ∙ passed xs ys x y from e (sym t ∙ u))
        link_on

    pub chain_less : get_or links e 0 ≤ 65535 → (get_or links e 0 + 1) % 65536 < (e + 1) % 65536
    chain_less h = go (ℕ_discrete (get_or links e 0) 65535)
      where
        go : Dec (get_or links e 0 ≡ 65535) → (get_or links e 0 + 1) % 65536 < (e + 1) % 65536
        go (yes q) = omega (arith, o.below ne, k.small)
        go (no q) = omega (arith, o.below ne, k.small, link_on.below q)
