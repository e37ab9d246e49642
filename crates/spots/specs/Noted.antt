-- Spots after an entry is noted, and what they tell.
-- Laws: noted_short, noted_long (the two cases), noted-length, noted_below (buckets are as they were), spots_stored (a store in a bucket),
-- spots_noted (one entry more), have_short, have_long (the two cases), have_none (what `may_have` tells).
-- Assumes nothing.
use Rattle.std.specs.Prelude.{◌≡◌, Bool, ◌||◌, List, leb, ltb}
use Rattle.std.proofs.Math.Path.{refl}
use Rattle.std.proofs.Common.{sym, ◌∙◌, ap}
use Rattle.std.proofs.Math.Bool.{true, false, cond, or-true}
use Prim.Native.Nat.{ℕ, zero, suc, ◌+◌, ◌%◌, ◌≤◌, ◌<◌}
use Rattle.std.proofs.Math.Decide.{ℕ_discrete}
use native.Mathlib.Omega.{arith}
use Rattle.std.proofs.Math.Dec.{eqb}
use Rattle.std.proofs.Math.ListN.{length, get_or, set, length-set}
use Rattle.std.proofs.Math.Seq.{get_or-set_same, get_or-set_other}
use borrow.Author.Tests.{eq-eqb, ne_eqb, leb-true, leb-false, le-leb, lt-leb, ltb-false}
use Rattle.base.specs.Bools.{not_both}
use Rattle.spots.specs.Spots.{buckets_of, spot_of, last_with, noted, may_have, Spots, Without}

-- a store at n changes nothing below it
last_set : (xs ys : List ℕ) (s n x y m : ℕ) → m ≤ n → last_with (set xs n x) (set ys n y) s m ≡ last_with xs ys s m
unfolding last_with
last_set xs ys s n x y zero h = refl
last_set xs ys s n x y (suc m) h =
    let ne : m ≡ n → ⊥ = λ q. omega arith in
    rw (get_or-set_other xs n m x 0 ne, get_or-set_other ys n m y 0 ne, last_set xs ys s n x y m (omega arith))

-- heads with the last entry noted: the buckets are as they were, and the spots of the two numbers have the entry
module _ (heads : List ℕ) (n x y : ℕ) where
  abbrev w : ℕ
  w = buckets_of (length heads)

  pub noted_short : length heads < w + 1024 → heads ≡ noted heads n x y
  unfolding noted
  noted_short h = rw (lt-leb (w + 1024) (length heads) h, noted)

  pub noted_long : w + 1024 ≤ length heads → (a b : ℕ) → a ≡ w + spot_of x → b ≡ w + spot_of y → set (set heads a n) b n ≡ noted heads n x y
  unfolding noted
  noted_long h a b p q = rw (le-leb (w + 1024) (length heads) h, noted, p, q)

  pub noted-length : length (noted heads n x y) ≡ length heads
  unfolding noted
  noted-length = go (leb (w + 1024) (length heads))
    where
      go : (b : Bool)
          → length {A = ℕ} (elim b [ true ↦ set (set heads (w + spot_of x) n) (w + spot_of y) n | false ↦ heads ]) ≡ length heads
      go true = length-set (set heads (w + spot_of x) n) (w + spot_of y) n ∙ length-set heads (w + spot_of x) n
      go false = refl

  pub noted_below : (b : ℕ) → b < w → get_or (noted heads n x y) b 0 ≡ get_or heads b 0
  unfolding noted
  noted_below b h = go (leb (w + 1024) (length heads))
    where
      go : (t : Bool)
          → get_or (elim t [ true ↦ set (set heads (w + spot_of x) n) (w + spot_of y) n | false ↦ heads ]) b 0 ≡ get_or heads b 0
      go true =
          get_or-set_other (set heads (w + spot_of x) n) (w + spot_of y) b n 0 (λ q. omega arith)
          ∙ get_or-set_other heads (w + spot_of x) b n 0 (λ q. omega arith)
      go false = refl

  noted_at : w + 1024 ≤ length heads → (s : ℕ) → s < 1024
      → get_or (noted heads n x y) (w + s) 0 ≡ cond (eqb (spot_of x) s || eqb (spot_of y) s) n (get_or heads (w + s) 0)
  noted_at l s h =
      ap (λ (l : List ℕ). get_or l (w + s) 0) (sym (noted_long l (w + spot_of x) (w + spot_of y) refl refl))
      ∙ go (ℕ_discrete (spot_of y) s) (ℕ_discrete (spot_of x) s)
    where
      once : List ℕ
      once = set heads (w + spot_of x) n

      go : Dec (spot_of y ≡ s) → Dec (spot_of x ≡ s)
          → get_or (set once (w + spot_of y) n) (w + s) 0 ≡ cond (eqb (spot_of x) s || eqb (spot_of y) s) n (get_or heads (w + s) 0)
      go (yes q) (yes p) =
          rw (q, eq-eqb (spot_of x) s p) (get_or-set_same once (w + s) n 0 (omega (arith, length-set heads (w + spot_of x) n)))
      go (yes q) (no p) =
          rw (ne_eqb (spot_of x) s p, eq-eqb (spot_of y) s q, q)
          (get_or-set_same once (w + s) n 0 (omega (arith, length-set heads (w + spot_of x) n)))
      go (no q) (yes p) =
          rw (eq-eqb (spot_of x) s p)
          (get_or-set_other once (w + spot_of y) (w + s) n 0 (λ e. q (omega arith))
          ∙ rw p (get_or-set_same heads (w + s) n 0 (omega arith)))
      go (no q) (no p) =
          rw (ne_eqb (spot_of x) s p, ne_eqb (spot_of y) s q)
          (get_or-set_other once (w + spot_of y) (w + s) n 0 (λ e. q (omega arith))
          ∙ get_or-set_other heads (w + spot_of x) (w + s) n 0 (λ e. p (omega arith)))

module _ (xs ys heads : List ℕ) (n : ℕ) (t : Spots xs ys heads n) where
  abbrev v : ℕ
  v = buckets_of (length heads)

  -- a store in a bucket
  pub spots_stored : (b k : ℕ) → b < v → Spots xs ys (set heads b k) n
  spots_stored b k h =
      let e : length (set heads b k) ≡ length heads = length-set heads b k in
      λ l s g. rw e (get_or-set_other heads b (v + s) k 0 (λ q. omega arith) ∙ t (rw e at l) s g)

  -- one entry more
  pub spots_noted : (x y : ℕ) → n < length xs → n < length ys → Spots (set xs n x) (set ys n y) (noted heads n x y) (suc n)
  unfolding last_with
  spots_noted x y i j =
      let e : length (noted heads n x y) ≡ length heads = noted-length heads n x y in
      λ l s g.
      rw e
      (noted_at heads n x y (rw e at l) s g
      ∙ rw (get_or-set_same xs n x 0 i, get_or-set_same ys n y 0 j, last_set xs ys s n x y n (omega arith), t (rw e at l) s g))

-- an entry with a number is not above the last one noted at its spot
module _ (xs ys : List ℕ) (s e : ℕ) (t : (eqb (spot_of (get_or xs e 0)) s || eqb (spot_of (get_or ys e 0)) s) ≡ true) where
  not_above : (m : ℕ) → e < m → (e ≤ last_with xs ys s m) × (last_with xs ys s m < m)
  unfolding last_with
  not_above zero h = absurd (omega arith)
  not_above (suc m) h = go (eqb (spot_of (get_or xs m 0)) s || eqb (spot_of (get_or ys m 0)) s) refl (not_above m)
    where
      go : (b : Bool) → (eqb (spot_of (get_or xs m 0)) s || eqb (spot_of (get_or ys m 0)) s) ≡ b
          → (e < m → (e ≤ last_with xs ys s m) × (last_with xs ys s m < m))
          → (e ≤ cond b m (last_with xs ys s m)) × (cond b m (last_with xs ys s m) < suc m)
      go true q less = (omega arith, omega arith)
      go false q less =
          let ne : e ≡ m → ⊥ = λ i. not_both (eqb (spot_of (get_or xs m 0)) s || eqb (spot_of (get_or ys m 0)) s) (rw i at t) q in
          let (a, b) = less (omega (arith, ne)) in
          (a, omega arith)

-- what the last entry noted at the spot of x says
module _ (heads : List ℕ) (from x : ℕ) where
  abbrev u : ℕ
  u = buckets_of (length heads)

  pub have_short : length heads < u + 1024 → may_have heads from x ≡ true
  unfolding may_have
  have_short h = rw (lt-leb (u + 1024) (length heads) h, may_have)

  pub have_long : u + 1024 ≤ length heads → may_have heads from x ≡ ltb from ((get_or heads (u + spot_of x) 0 + 1) % 65536)
  unfolding may_have
  have_long h = rw (le-leb (u + 1024) (length heads) h, may_have)

  module _ (xs ys : List ℕ) (n : ℕ) (t : Spots xs ys heads n) (small : n ≤ 65535) where
    told : u + 1024 ≤ length heads → (get_or heads (u + spot_of x) 0 + 1) % 65536 ≤ from → Without xs ys from n x
    unfolding spot_of
    told l h =
        let p : get_or heads (u + spot_of x) 0 ≡ last_with xs ys (spot_of x) n = t l (spot_of x) (omega arith) in
        record {
          first = λ i a b c. let (d, e) = not_above xs ys (spot_of x) i (rw (c, eq-eqb (spot_of x) (spot_of x) refl)) n b in omega arith;
          second = λ i a b c. let (d, e) = not_above xs ys (spot_of x) i (or_right i c) n b in omega arith;
        }
      where
        or_right : (i : ℕ) → get_or ys i 0 ≡ x → (eqb (spot_of (get_or xs i 0)) (spot_of x) || eqb (spot_of (get_or ys i 0)) (spot_of x)) ≡ true
        or_right i c = rw (c, eq-eqb (spot_of x) (spot_of x) refl, or-true (eqb (spot_of (get_or xs i 0)) (spot_of x)))

    pub have_none : may_have heads from x ≡ false → Without xs ys from n x
    have_none e = go (leb (u + 1024) (length heads)) refl
      where
        go : (b : Bool) → leb (u + 1024) (length heads) ≡ b → Without xs ys from n x
        go true b =
            let l = leb-true (u + 1024) (length heads) b in
            told l (ltb-false from ((get_or heads (u + spot_of x) 0 + 1) % 65536) (sym (have_long l) ∙ e))
        go false b = absurd (not_both (may_have heads from x) (have_short (leb-false (u + 1024) (length heads) b)) e)
