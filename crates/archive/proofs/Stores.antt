-- Runs of stores.
--   then_sets       stores behind stores are one run
--   corner_stores, cell_stores, mark_stores   the records
--   corners_flat, cells_flat   the records of flat tables, from arrays of three and four
--   records_turn    one record more
-- Assumes nothing.
use mathlib.Core.Path.{◌≡◌, refl, sym, ◌∙◌, ap}
use mathlib.Core.List.{List, [], ◌∷◌, ◌++◌, append_assoc, flat_map}
use Prim.Native.Nat.{ℕ, zero, suc, ◌+◌, ◌*◌, ◌/◌, ◌≤◌, ◌<◌}
use native.Mathlib.Numerals.{add-one}
use native.Mathlib.Omega.{arith}
use lib.IntN.{ℤ, pos}
use lib.ListN.{length, get_or, take, drop, set, length-append, length-drop}
use native.Mathlib.Nat.{suc-mul, mul-suc}
use Rattle.std.specs.Simd.{first_chunks}
use lib.Seq.{sets, sets-eq, length-sets, take-suc, take_all, length-take-le, drop-drop}
use borrow.Rule.Slice.PartMut.{put_mid}
use Rattle.archive.specs.Job.{bytes, word, corner_bytes, cell_bytes, mark_bytes}
use Rattle.archive.specs.Measure.{corner-length, cell-length}
use Rattle.base.specs.Append.{sets_append, flat_snoc}

pub then_sets : (l : List ℕ) (i : ℕ) {t : List ℕ} {j : ℕ} (u v : List ℕ) → t ≡ sets l i u → j ≡ i + length u
    → sets t j v ≡ sets l i (u ++ v)
then_sets l i u v e q = rw (e, q) (sym (sets_append u v l i))

pub sets_length : (l : List ℕ) (i : ℕ) {t : List ℕ} (u : List ℕ) → t ≡ sets l i u → length t ≡ length l
sets_length l i u e = rw e (length-sets l i u)

bytes-length : (k x : ℕ) → length (bytes k x) ≡ k
unfolding bytes
bytes-length zero x = refl
bytes-length (suc k) x = ap suc (bytes-length k (x / 256))

both-length : (k m x y : ℕ) → length (bytes k x ++ bytes m y) ≡ k + m
both-length k m x y = omega (arith, length-append (bytes k x) (bytes m y), bytes-length k x, bytes-length m y)

module _ (l : List ℕ) (at : ℕ) where
  -- a letter and a field
  first : (c k x : ℕ) {s : List ℕ} → s ≡ sets (set l at c) (at + 1) (bytes k x) → s ≡ sets l at (c ∷ bytes k x)
  first c k x e = e ∙ rw (add-one at)

  pub corner_stores : (x y z : ℤ) (a b c : ℕ) {s t u : List ℕ} → a ≡ word x → b ≡ word y → c ≡ word z
      → s ≡ sets (set l at 86) (at + 1) (bytes 4 a) → t ≡ sets s (at + 5) (bytes 4 b) → u ≡ sets t (at + 9) (bytes 4 c)
      → u ≡ sets l at (corner_bytes (x ∷ y ∷ z ∷ []))
  unfolding corner_bytes
  corner_stores x y z a b c p q r e f g =
      let f' = f ∙ then_sets l at (86 ∷ bytes 4 a) (bytes 4 b) (first 86 4 a e) (omega (arith, bytes-length 4 a)) in
      let g' = g ∙ then_sets l at (86 ∷ (bytes 4 a ++ bytes 4 b)) (bytes 4 c) f' (omega (arith, both-length 4 4 a b)) in
      g' ∙ rw (p, q, r)

  pub cell_stores : (a b c d : ℕ) {s t u v : List ℕ} → s ≡ sets (set l at 84) (at + 1) (bytes 2 a) → t ≡ sets s (at + 3) (bytes 2 b)
      → u ≡ sets t (at + 5) (bytes 2 c) → v ≡ sets u (at + 7) (bytes 2 d) → v ≡ sets l at (cell_bytes (a ∷ b ∷ c ∷ d ∷ []))
  unfolding cell_bytes
  cell_stores a b c d e f g h =
      let f' = f ∙ then_sets l at (84 ∷ bytes 2 a) (bytes 2 b) (first 84 2 a e) (omega (arith, bytes-length 2 a)) in
      let g' = g ∙ then_sets l at (84 ∷ (bytes 2 a ++ bytes 2 b)) (bytes 2 c) f' (omega (arith, both-length 2 2 a b)) in
      let h' =
      h
      ∙ then_sets l at (84 ∷ (bytes 2 a ++ bytes 2 b ++ bytes 2 c)) (bytes 2 d) g'
      (omega (arith, length-append (bytes 2 a ++ bytes 2 b) (bytes 2 c), both-length 2 2 a b, bytes-length 2 c)) in
      h'

  pub mark_stores : (c m : ℕ) {s : List ℕ} → s ≡ sets (set l at 77) (at + 1) (bytes 2 c) → set s (at + 3) m ≡ sets l at (mark_bytes (c, m))
  unfolding mark_bytes
  mark_stores c m e =
      then_sets l at (77 ∷ bytes 2 c) (m ∷ []) (first 77 2 c e) (omega (arith, bytes-length 2 c))

-- arrays of n elements
pub chunk_length : {A : Type 0} (n k : ℕ) (xs : List A) → k * n ≤ length xs → (j : ℕ) → j < k → length (get_or (first_chunks n k xs) j []) ≡ n
chunk_length n zero xs h j i = absurd (omega arith)
chunk_length n (suc k) xs h zero i = let e : suc k * n ≡ k * n + n = suc-mul k n in length-take-le n xs (omega arith)
chunk_length n (suc k) xs h (suc j) i =
    let e : suc k * n ≡ k * n + n = suc-mul k n in
    chunk_length n k (drop n xs) (omega (arith, length-drop n xs)) j (omega arith)

pub corners_flat : (ps : List ℤ) → flat_map corner_bytes (first_chunks 3 (length ps / 3) ps) ≡ corner_bytes ps
unfolding corner_bytes flat_map
corners_flat [] = refl
corners_flat (x ∷ []) = refl
corners_flat (x ∷ y ∷ []) = refl
corners_flat (x ∷ y ∷ z ∷ ps) =
    let e : length (x ∷ y ∷ z ∷ ps) / 3 ≡ suc (length ps / 3) = omega arith in
    rw (e, corners_flat ps)

pub cells_flat : (ts : List ℕ) → flat_map cell_bytes (first_chunks 4 (length ts / 4) ts) ≡ cell_bytes ts
unfolding cell_bytes flat_map
cells_flat [] = refl
cells_flat (a ∷ []) = refl
cells_flat (a ∷ b ∷ []) = refl
cells_flat (a ∷ b ∷ c ∷ []) = refl
cells_flat (a ∷ b ∷ c ∷ d ∷ ts) =
    let e : length (a ∷ b ∷ c ∷ d ∷ ts) / 4 ≡ suc (length ts / 4) = omega arith in
    rw (e, cells_flat ts)

pub three_points : (q : List ℤ) → length q ≡ 3 → get_or q 0 (pos 0) ∷ get_or q 1 (pos 0) ∷ get_or q 2 (pos 0) ∷ [] ≡ q
three_points [] e = absurd (omega arith)
three_points (a ∷ []) e = absurd (omega arith)
three_points (a ∷ b ∷ []) e = absurd (omega arith)
three_points (a ∷ b ∷ c ∷ []) e = refl
three_points (a ∷ b ∷ c ∷ x ∷ l) e = absurd (omega arith)

pub corner-size : (q : List ℤ) → length q ≡ 3 → length (corner_bytes q) ≡ 13
corner-size q e = omega (arith, corner-length q (omega arith))

pub cell-size : (q : List ℕ) → length q ≡ 4 → length (cell_bytes q) ≡ 9
cell-size q e = omega (arith, cell-length q (omega arith))

-- Records of k bytes each, stored one behind the other.
module _ {A : Type 0} (f : A → List ℕ) (k : ℕ) (d : A) (qs : List A) (from : ℕ) (l : List ℕ) where
  -- the first i are stored
  pub record RecordsTo (t : List ℕ) (i : ℕ) : Type 0 where
    pub within : i ≤ length qs
    pub size : length (flat_map f (take i qs)) ≡ k * i
    pub table : t ≡ sets l from (flat_map f (take i qs))

  pub records_start : RecordsTo l 0
  unfolding flat_map
  records_start = record { within = omega arith; size = omega arith; table = refl }

  module _ {t : List ℕ} {i : ℕ} (c : RecordsTo t i) where
    pub records-length : length t ≡ length l
    records-length = sets_length l from (flat_map f (take i qs)) c.table

    next : i < length qs → flat_map f (take (i + 1) qs) ≡ flat_map f (take i qs) ++ f (get_or qs i d)
    next h = rw (add-one i, take-suc qs i d h) (flat_snoc f (take i qs) (get_or qs i d))

    pub records_turn : i < length qs → length (f (get_or qs i d)) ≡ k → {u : List ℕ} → u ≡ sets t (from + k * i) (f (get_or qs i d)) → RecordsTo u (i + 1)
    records_turn h z e =
        let m : k * (i + 1) ≡ k * i + k = rw (add-one i) (mul-suc k i ∙ omega arith) in
        record {
          within = omega arith;
          size = rw (next h) (omega (arith, length-append (flat_map f (take i qs)) (f (get_or qs i d)), c.size));
          table = e ∙ then_sets l from (flat_map f (take i qs)) (f (get_or qs i d)) c.table (omega (arith, c.size)) ∙ rw (next h);
        }

    pub records_all : length qs ≤ i → t ≡ sets l from (flat_map f qs)
    records_all h = c.table ∙ rw (take_all i qs h)

-- a part of the bytes that is copied into
pub put_is : (xs ys : List ℕ) (a k : ℕ) → k ≡ length ys → a + length ys ≤ length xs → put_mid a k xs ys ≡ sets xs a ys
put_is xs ys a k e h =
    rw (e, drop-drop (length ys) a xs) (sym (sets-eq ys xs a h ∙ append_assoc (take a xs) ys (drop (a + length ys) xs)))
