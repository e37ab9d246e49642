-- Spots of single numbers. The entry e of a table is the pair of the numbers that the lists xs and ys have at e; 65535 stands for no entry.
--   buckets_of k              how many buckets heads of length k have; buckets_short, buckets_long, buckets_inside
--   spot_of x                 which of the 1024 spots behind the buckets the number x lies in
--   last_with xs ys s m       the largest entry below m of which one number lies in the spot s, or 65535
--   noted heads n x y        heads in which n is the last entry at the spots of x and y; short ones have no spots
--   may_have heads from x     an entry from `from` on may have the number x
--   Spots xs ys heads n      the spots are in order, with n entries; spots_none: where there is none
--   Without xs ys from n x   no entry from `from` to n has the number x
use Rattle.std.specs.Prelude.{◌≡◌, refl, Bool, true, false, ◌||◌, cond, List, ℕ, zero, suc, ◌+◌, ◌%◌, ◌≤◌, ◌<◌, eqb, leb, ltb, length, get_or, set, replicate}
use Rattle.std.proofs.Common.{arith, leb-true, leb-false, le-leb}
use Rattle.std.proofs.lemmas.List.{length-replicate, get_or-replicate}
use Rattle.std.proofs.lemmas.Bool.{lt-leb}

-- short heads serve small tables, which are made anew for each call
unfoldable pub buckets_of : ℕ → ℕ
buckets_of k = elim (leb 4096 k) [ true ↦ 4096 | false ↦ 1024 ]

pub buckets_long : (k : ℕ) → 4096 ≤ k → buckets_of k ≡ 4096
unfolding buckets_of
buckets_long k h = rw (le-leb 4096 k h, buckets_of)

pub buckets_short : (k : ℕ) → k < 4096 → buckets_of k ≡ 1024
unfolding buckets_of
buckets_short k h = rw (lt-leb 4096 k h, buckets_of)

pub buckets_inside : (k : ℕ) → 1024 ≤ k → (1024 ≤ buckets_of k) × (buckets_of k ≤ k)
buckets_inside k h = go (leb 4096 k) refl
  where
    go : (b : Bool) → leb 4096 k ≡ b → (1024 ≤ buckets_of k) × (buckets_of k ≤ k)
    go true b = (omega (arith, buckets_long k (leb-true 4096 k b)), omega (arith, buckets_long k (leb-true 4096 k b), leb-true 4096 k b))
    go false b = (omega (arith, buckets_short k (leb-false 4096 k b)), omega (arith, buckets_short k (leb-false 4096 k b)))

-- any function would do
unfoldable pub spot_of : ℕ → ℕ
spot_of x = x % 1024

unfoldable pub last_with : List ℕ → List ℕ → ℕ → ℕ → ℕ
unfolding spot_of
last_with xs ys s zero = 65535
last_with xs ys s (suc m) = cond (eqb (spot_of (get_or xs m 0)) s || eqb (spot_of (get_or ys m 0)) s) m (last_with xs ys s m)

unfoldable pub noted : List ℕ → ℕ → ℕ → ℕ → List ℕ
unfolding buckets_of spot_of
noted heads n x y = elim (leb (buckets_of (length heads) + 1024) (length heads)) [
  | true ↦ set (set heads (buckets_of (length heads) + spot_of x) n) (buckets_of (length heads) + spot_of y) n
  | false ↦ heads
]

unfoldable pub may_have : List ℕ → ℕ → ℕ → Bool
unfolding buckets_of spot_of
may_have heads from x = elim (leb (buckets_of (length heads) + 1024) (length heads)) [
  | true ↦ ltb from ((get_or heads (buckets_of (length heads) + spot_of x) 0 + 1) % 65536)
  | false ↦ true
]

abbrev pub Spots : List ℕ → List ℕ → List ℕ → ℕ → Type 0
Spots xs ys heads n = buckets_of (length heads) + 1024 ≤ length heads → (s : ℕ) → s < 1024
    → get_or heads (buckets_of (length heads) + s) 0 ≡ last_with xs ys s n

pub record Without (xs ys : List ℕ) (from n x : ℕ) : Type 0 where
  pub first : (e : ℕ) → from ≤ e → e < n → get_or xs e 0 ≡ x → ⊥
  pub second : (e : ℕ) → from ≤ e → e < n → get_or ys e 0 ≡ x → ⊥

pub spots_none : (xs ys : List ℕ) (k : ℕ) → Spots xs ys (replicate k 65535) 0
unfolding last_with
spots_none xs ys k =
    let l : length {A = ℕ} (replicate k 65535) ≡ k = length-replicate {A = ℕ} k 65535 in
    λ j s m. get_or-replicate k (buckets_of (length {A = ℕ} (replicate k 65535)) + s) 65535 0 (omega arith)
