-- Tables of pairs: the entry e is the pair of the numbers that the lists xs and ys have at e. 65535 stands for no entry.
--   hereb xs ys x y e          the entry e is the pair x, y
--   seek xs ys x y from m      the largest of the m entries from `from` on that is the pair x, y, or 65535
--   bucket m x y               which of m buckets the pair lies in
--   latest m xs ys b n         the largest entry below n that lies in the bucket b of m, or 65535
--   Keys xs ys heads links n   the table is in order, with n entries; callers hand it on and look at no field
--   Room xs ys links n         one entry more has room
--   Clear heads                no bucket has an entry; clear_new: 65535 throughout
--   Added xs ys n x y ..       what adding the pair x, y as the entry n leaves
--   Found xs ys x y from m e   e is one of the m entries from `from` on, and it is the pair x, y
-- Laws of seek: seek_found, seek_none, seek_set (a store behind the entries), seek_same and seek_other (with one entry more).
use Rattle.std.proofs.Math.Path.{◌≡◌, refl}
use Rattle.std.proofs.Common.{sym, ◌∙◌, get_or-set_other}
use Rattle.std.specs.Prelude.{Bool, ◌&&◌, cond, List, length, set, replicate}
use Rattle.std.proofs.Math.Bool.{true, false}
use Prim.Native.Nat.{ℕ, zero, suc, ◌+◌, ◌-◌, ◌*◌, ◌%◌, ◌≤◌, ◌<◌}
use native.Mathlib.Omega.{arith}
use Rattle.std.proofs.Math.Dec.{eqb}
use Rattle.std.proofs.Math.ListN.{get_or}
use Rattle.std.proofs.lemmas.List.{length-replicate, get_or-replicate}
use Rattle.std.proofs.Math.Seq.{get_or-set_same}
use borrow.Author.Tests.{eqb-true, eq-eqb, ne_eqb}
use Rattle.spots.specs.Spots.{buckets_of, buckets_inside, Spots, spots_none}

unfoldable pub hereb : List ℕ → List ℕ → ℕ → ℕ → ℕ → Bool
hereb xs ys x y e = eqb (get_or xs e 0) x && eqb (get_or ys e 0) y

unfoldable pub seek : List ℕ → List ℕ → ℕ → ℕ → ℕ → ℕ → ℕ
unfolding hereb
seek xs ys x y from zero = 65535
seek xs ys x y from (suc m) = cond (hereb xs ys x y (from + m)) (from + m) (seek xs ys x y from m)

-- any function would do; this one spreads corner pairs, faces and cells
unfoldable pub bucket : ℕ → ℕ → ℕ → ℕ
bucket m x y = (x * 2531 + y) % m

unfoldable pub latest : ℕ → List ℕ → List ℕ → ℕ → ℕ → ℕ
unfolding bucket
latest m xs ys b zero = 65535
latest m xs ys b (suc n) = cond (eqb (bucket m (get_or xs n 0) (get_or ys n 0)) b) n (latest m xs ys b n)

pub record Keys (xs ys heads links : List ℕ) (n : ℕ) : Type 0 where
  pub small : n ≤ 65535
  pub in_xs : n ≤ length xs
  pub in_ys : n ≤ length ys
  pub in_links : n ≤ length links
  pub in_heads : 1024 ≤ length heads
  pub heads_right : (b : ℕ) → b < buckets_of (length heads) → get_or heads b 0 ≡ latest (buckets_of (length heads)) xs ys b n
  pub links_right : (e : ℕ) → e < n → get_or links e 0
      ≡ latest (buckets_of (length heads)) xs ys (bucket (buckets_of (length heads)) (get_or xs e 0) (get_or ys e 0)) e
  pub spots : Spots xs ys heads n

pub record Room (xs ys links : List ℕ) (n : ℕ) : Type 0 where
  pub small : n < 65535
  pub in_xs : n < length xs
  pub in_ys : n < length ys
  pub in_links : n < length links

pub record Clear (heads : List ℕ) : Type 0 where
  pub empty : (xs ys links : List ℕ) → Keys xs ys heads links 0

pub clear_new : (k : ℕ) → 1024 ≤ k → Clear (replicate k 65535)
unfolding latest
clear_new k h =
    let l : length {A = ℕ} (replicate k 65535) ≡ k = length-replicate {A = ℕ} k 65535 in
    record {
      empty = λ xs ys links.
          record {
            small = omega arith;
            in_xs = omega arith;
            in_ys = omega arith;
            in_links = omega arith;
            in_heads = omega arith;
            heads_right = λ b m. get_or-replicate k b 65535 0 (omega (arith, rw l at m, buckets_inside k h));
            links_right = λ e m. absurd (omega arith);
            spots = spots_none xs ys k;
          };
    }

pub record Added (xs ys : List ℕ) (n x y : ℕ) (xs' ys' heads' links' : List ℕ) : Type 0 where
  pub xs_is : xs' ≡ set xs n x
  pub ys_is : ys' ≡ set ys n y
  pub keys : Keys xs' ys' heads' links' (n + 1)

-- Whether an entry is the pair.
module _ (xs ys : List ℕ) (x y e : ℕ) where
  here_eq : get_or xs e 0 ≡ x → get_or ys e 0 ≡ y → hereb xs ys x y e ≡ true
  unfolding hereb
  here_eq p q = rw (eq-eqb (get_or xs e 0) x p, eq-eqb (get_or ys e 0) y q)

  pub here_x : hereb xs ys x y e ≡ true → get_or xs e 0 ≡ x
  unfolding hereb
  here_x t = go (eqb (get_or xs e 0) x) refl t
    where
      go : (s : Bool) → eqb (get_or xs e 0) x ≡ s → s && eqb (get_or ys e 0) y ≡ true → get_or xs e 0 ≡ x
      go true p t = eqb-true (get_or xs e 0) x p
      go false p t = eqb-true (get_or xs e 0) x (p ∙ t)

  pub here_y : hereb xs ys x y e ≡ true → get_or ys e 0 ≡ y
  unfolding hereb
  here_y t = go (eqb (get_or xs e 0) x) t
    where
      go : (s : Bool) → s && eqb (get_or ys e 0) y ≡ true → get_or ys e 0 ≡ y
      go true t = eqb-true (get_or ys e 0) y t
      go false t = let z : ◌≡◌ {A = ℕ} 0 1 = cc in absurd (omega arith)

-- two pairs that differ
other : (v x w y : ℕ) → (v ≡ x → w ≡ y → ⊥) → eqb v x && eqb w y ≡ false
other v x w y ne = go (eqb v x) refl
  where
    go : (t : Bool) → eqb v x ≡ t → t && eqb w y ≡ false
    go true t = ne_eqb w y (ne (eqb-true v x t))
    go false t = refl

-- Laws of seek.
pub record Found (xs ys : List ℕ) (x y from m e : ℕ) : Type 0 where
  pub above : from ≤ e
  pub below : e < from + m
  pub x_is : get_or xs e 0 ≡ x
  pub y_is : get_or ys e 0 ≡ y

module _ (xs ys : List ℕ) (x y from : ℕ) where
  pub seek_here : (m : ℕ) → hereb xs ys x y (from + m) ≡ true → seek xs ys x y from (suc m) ≡ from + m
  unfolding seek
  seek_here m t = rw t

  pub seek_past : (m : ℕ) → hereb xs ys x y (from + m) ≡ false → seek xs ys x y from (suc m) ≡ seek xs ys x y from m
  unfolding seek
  seek_past m t = rw t

  pub seek_found : (m : ℕ) → (seek xs ys x y from m ≡ 65535 → ⊥) → Found xs ys x y from m (seek xs ys x y from m)
  unfolding seek
  seek_found zero ne = absurd (ne refl)
  seek_found (suc m) ne = go (hereb xs ys x y (from + m)) refl (seek_found m)
    where
      go : (t : Bool) → hereb xs ys x y (from + m) ≡ t
          → ((seek xs ys x y from m ≡ 65535 → ⊥) → Found xs ys x y from m (seek xs ys x y from m))
          → Found xs ys x y from (suc m) (seek xs ys x y from (suc m))
      go true t less =
          rw (seek_here m t)
          (record { above = omega arith; below = omega arith; x_is = here_x xs ys x y (from + m) t; y_is = here_y xs ys x y (from + m) t })
      go false t less =
          let f = less (λ q. ne (seek_past m t ∙ q)) in
          rw (seek_past m t) (record { above = f.above; below = omega (arith, f.below); x_is = f.x_is; y_is = f.y_is })

  module _ (e : ℕ) (above : from ≤ e) (p : get_or xs e 0 ≡ x) (q : get_or ys e 0 ≡ y) where
    pub seek_none : (m : ℕ) → from + m ≤ 65535 → seek xs ys x y from m ≡ 65535 → e < from + m → ⊥
    seek_none zero h none below = omega arith
    seek_none (suc m) h none below = go (hereb xs ys x y (from + m)) refl (seek_none m)
      where
        go : (t : Bool) → hereb xs ys x y (from + m) ≡ t → (from + m ≤ 65535 → seek xs ys x y from m ≡ 65535 → e < from + m → ⊥) → ⊥
        go true t less = omega (arith, none, seek_here m t)
        go false t less =
            let w : e ≡ from + m → ⊥ = λ i. let z : ◌≡◌ {A = ℕ} 0 1 = cc (here_eq xs ys x y e p q) in omega arith in
            less (omega arith) (sym (seek_past m t) ∙ none) (omega arith)

-- the entries below a store are as they were
here-set : (xs ys : List ℕ) (x y n v w e : ℕ) → e < n → hereb (set xs n v) (set ys n w) x y e ≡ hereb xs ys x y e
unfolding hereb
here-set xs ys x y n v w e h = let ne : e ≡ n → ⊥ = λ i. omega arith in rw (get_or-set_other xs n e v 0 ne, get_or-set_other ys n e w 0 ne)

module _ (xs ys : List ℕ) (x y from n v w : ℕ) where
  seek_set : (m : ℕ) → from + m ≤ n → seek (set xs n v) (set ys n w) x y from m ≡ seek xs ys x y from m
  unfolding seek
  seek_set zero h = refl
  seek_set (suc m) h = rw (here-set xs ys x y n v w (from + m) (omega arith), seek_set m (omega arith))

module _ (xs ys : List ℕ) (n : ℕ) (in_xs : n < length xs) (in_ys : n < length ys) (x y from : ℕ) (up : from ≤ n) where
  pub seek_same : seek (set xs n x) (set ys n y) x y from (n + 1 - from) ≡ n
  seek_same =
      let e : n + 1 - from ≡ suc (n - from) = omega arith in
      let k : from + (n - from) ≡ n = omega arith in
      let t : hereb (set xs n x) (set ys n y) x y n ≡ true = here_eq (set xs n x) (set ys n y) x y n (get_or-set_same xs n x 0 in_xs)
      (get_or-set_same ys n y 0 in_ys) in
      rw e (seek_here (set xs n x) (set ys n y) x y from (n - from) (rw k t) ∙ k)

  pub seek_other : (v w : ℕ) → (v ≡ x → w ≡ y → ⊥) → seek (set xs n v) (set ys n w) x y from (n + 1 - from) ≡ seek xs ys x y from (n - from)
  unfolding hereb
  seek_other v w ne =
      let e : n + 1 - from ≡ suc (n - from) = omega arith in
      let k : from + (n - from) ≡ n = omega arith in
      let t : hereb (set xs n v) (set ys n w) x y n ≡ false = rw (get_or-set_same xs n v 0 in_xs, get_or-set_same ys n w 0 in_ys)
      (other v x w y ne) in
      rw e (seek_past (set xs n v) (set ys n w) x y from (n - from) (rw k t) ∙ seek_set xs ys x y from n v w (n - from) (omega arith))
