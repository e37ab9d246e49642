-- The new children of a cell that was not red and will be.
-- Assumes nothing.
use mathlib.Core.Path.{◌≡◌, refl, sym, ◌∙◌, ap}
use mathlib.Core.Bool.{Bool, true, false}
use mathlib.Core.List.{List, [], ◌∷◌, map, flat_map}
use Prim.Native.Nat.{ℕ, zero, suc, ◌+◌, ◌*◌, ◌-◌, ◌≤◌, ◌<◌}
use mir.Val.{bool_byte}
use native.Mathlib.Omega.{arith}
use lib.Dec.{T, eqb}
use Rattle.std.proofs.Common.{eqb→eq, get_or-take, get_or-drop}
use lib.ListN.{length, get_or, take, drop, set, replicate, length-map}
use Rattle.base.specs.Bools.{one_if, one_most}
use Rattle.base.specs.Each.{map_same}
use Rattle.base.specs.Every.{All, all_at, all_of, all_from, get_d_map}
use Rattle.base.specs.Lists.{allb, memberb, filterb}
use Rattle.base.specs.Range.{range, length-range, range_at}
use Rattle.cutting.specs.Rule.{split}
use Rattle.cutting.specs.Answer.{cut_of}
use Rattle.digits.specs.Ends.{low_end, high_end, ends_below, six_same}
use Rattle.mesh.specs.Cells.{bits_of}
use Rattle.mesh.specs.Laws.{bits_small}
use Rattle.mesh.specs.Layout.{edge_numbers}
use Rattle.mesh.specs.Table.{size_of}
use Rattle.rows.specs.Numbered.{part}
use Rattle.rows.specs.Laws.{length_part}
use Rattle.rows.specs.Sizes.{red_eight}
use Rattle.growth.specs.Written.{written}
use Rattle.kept.specs.Families as families
use Rattle.kept.specs.Kept.{digit_pair, held_pairs, fresh_of}
use Rattle.writing.specs.Held.{pair_at, EndsBelow, bits_at, Noted}
use Rattle.writing.proofs.Front.{anew_more, anew_all}

-- numbers from 0 on
below_all : (P : ℕ → Type 0) (n : ℕ) → ((i : ℕ) → i < n → P i) → All P (range 0 n)
below_all P n each = all_from P 0 (range 0 n) at
  where
    at : (k : ℕ) → k < length (range 0 n) → P (get_or (range 0 n) k 0)
    at k h =
        let l : k < n = rw (length-range 0 n) at h in
        let z : get_or (range 0 n) k 0 ≡ k = range_at 0 n k 0 l ∙ omega arith in
        rw z (each k l)

flat_none : (g : ℕ → List ℕ) (l : List ℕ) → All (λ x. g x ≡ []) l → flat_map g l ≡ []
unfolding flat_map
flat_none g [] a = refl
flat_none g (x ∷ l) a = rw a.0 (flat_none g l a.1)

-- a flag as a number
pub byte_is : (b : Bool) → bool_byte b ≡ one_if b
unfolding one_if
byte_is true = refl
byte_is false = refl

-- a status from its edges from y on
module _ (held : List Bool) (ds : List ℕ) (i : ℕ) where
  abbrev pub bits_from : ℕ → ℕ
  bits_from y = bits_of (map (λ y. get_or held (pair_at ds i y) false) (drop y edge_numbers))

  pub bits_none : 0 ≡ bits_from 6
  unfolding bits_of
  bits_none = refl

  pub bits_next : (y : ℕ) → 0 < y → y ≤ 6 → 2 * bits_from y + one_if (get_or held (pair_at ds i (y - 1)) false) ≡ bits_from (y - 1)
  unfolding bits_of
  bits_next zero g h = absurd (omega arith)
  bits_next (suc zero) g h = omega arith
  bits_next (suc (suc zero)) g h = omega arith
  bits_next (suc (suc (suc zero))) g h = omega arith
  bits_next (suc (suc (suc (suc zero)))) g h = omega arith
  bits_next (suc (suc (suc (suc (suc zero))))) g h = omega arith
  bits_next (suc (suc (suc (suc (suc (suc zero)))))) g h = omega arith
  bits_next (suc (suc (suc (suc (suc (suc (suc y))))))) g h = absurd (omega arith)

  pub bits_few : (y : ℕ) → 0 < y → y ≤ 6 → bits_from y ≤ 31
  unfolding bits_of
  bits_few zero g h = absurd (omega arith)
  bits_few (suc zero) g h = omega (arith, one_most)
  bits_few (suc (suc zero)) g h = omega (arith, one_most)
  bits_few (suc (suc (suc zero))) g h = omega (arith, one_most)
  bits_few (suc (suc (suc (suc zero)))) g h = omega (arith, one_most)
  bits_few (suc (suc (suc (suc (suc zero))))) g h = omega (arith, one_most)
  bits_few (suc (suc (suc (suc (suc (suc zero)))))) g h = omega arith
  bits_few (suc (suc (suc (suc (suc (suc (suc y))))))) g h = absurd (omega arith)

  pub bits_all : bits_from 0 ≡ bits_at held ds i
  unfolding bits_at
  bits_all = refl

-- the red family
module _ (i : ℕ) (h : i < 8) where
  pub red_ends : EndsBelow (cut_of 63).digits i
  red_ends y m = ends_below 63 (omega arith) i (omega (arith, red_eight)) y m

  red_pair : (y : ℕ) → y < 6 → pair_at (cut_of 63).digits i y ≡ digit_pair 63 i y
  red_pair y m = rw (low_end 63 (omega arith) i (omega (arith, red_eight)) y m, high_end 63 (omega arith) i (omega (arith, red_eight)) y m)

  red_small : (y : ℕ) → y < 6 → pair_at (cut_of 63).digits i y < 100
  red_small y m = let e = red_ends y m in omega (arith, e.0, e.1)

-- eight in a row
eight_long : (f : ℕ → ℕ) → length (map f (range 0 8)) ≡ 8
eight_long f = length-map (range 0 8) f ∙ length-range 0 8

module _ (held : List Bool) where
  abbrev pub row : List ℕ
  row = map (bits_at held (cut_of 63).digits) (range 0 8)

  pub row_more : {ds l : List ℕ} {i v : ℕ} → ds ≡ (cut_of 63).digits → l ≡ written (replicate 8 0) 0 (take i row) → i < 8
      → v ≡ bits_at held ds i → set l i v ≡ written (replicate 8 0) 0 (take (i + 1) row)
  unfolding range
  row_more {ds} {l} {i} {v} d e h b =
      let f : ℕ → ℕ = bits_at held (cut_of 63).digits in
      let a : get_or row i 0 ≡ f i = get_d_map f (range 0 8) i 0 0 h ∙ ap f (range_at 0 8 i 0 h ∙ omega arith) in
      anew_more (replicate 8 0) row (eight_long f) i v l e h (b ∙ ap (λ (x : List ℕ). bits_at held x i) d ∙ sym a)

  pub row_all : {l : List ℕ} {i : ℕ} → l ≡ written (replicate 8 0) 0 (take i row) → 8 ≤ i → l ≡ row
  row_all {l} {i} e h =
      let n : length row ≡ 8 = eight_long (bits_at held (cut_of 63).digits) in
      anew_all (replicate 8 0) row n i l e (omega arith)

module _ (s : ℕ) (ks : List ℕ) (f : ℕ) where
  module _ (held : List Bool) (d : Noted held (held_pairs s ks f)) where
    fresh_at : (i : ℕ) → i < 8
        → bits_at held (cut_of 63).digits i ≡ bits_of (map (λ y. memberb (digit_pair 63 i y) (held_pairs s ks f)) edge_numbers)
    unfolding bits_at
    fresh_at i h = ap bits_of (six_same _ _ (λ y m.
        d (pair_at (cut_of 63).digits i y) (red_small i h y m)
        ∙ ap (λ (v : ℕ). memberb v (held_pairs s ks f)) (red_pair i h y m)))

    pub fresh_is : map (bits_at held (cut_of 63).digits) (range 0 8) ≡ fresh_of s ks f
    unfolding fresh_of
    fresh_is =
        let g : ℕ → ℕ = λ i. bits_of (map (λ y. memberb (digit_pair 63 i y) (held_pairs s ks f)) edge_numbers) in
        map_same (bits_at held (cut_of 63).digits) g (range 0 8) (below_all (λ i. bits_at held (cut_of 63).digits i ≡ g i) 8 fresh_at)

  -- where the old children keep nothing
  module _ (n : ℕ) (size : n ≡ size_of s) (room : f + n ≤ length ks) (none : allb (λ k. eqb k 0) (part ks f n) ≡ true) where
    keeps_none : (j : ℕ) → j < n → get_or ks (f + j) 0 ≡ 0
    keeps_none j h =
        let t : T (allb (λ k. eqb k 0) (part ks f n)) = rw none tt in
        let each = all_of (λ k. k ≡ 0) (λ k. eqb k 0) (λ k u. eqb→eq k 0 u) (part ks f n) t in
        sym (get_or-take n (drop f ks) j 0 h ∙ get_or-drop f ks j 0)
        ∙ all_at (λ k. k ≡ 0) 0 (part ks f n) each j (omega (arith, length_part ks f n room))

    held_none : held_pairs s ks f ≡ []
    unfolding held_pairs split filterb
    held_none = flat_none _ (range 0 (size_of s)) (below_all _ (size_of s) (λ j h. rw (keeps_none j (omega arith))))

    pub fresh_none : replicate 8 0 ≡ fresh_of s ks f
    unfolding fresh_of memberb bits_of range one_if
    fresh_none = sym (ap (λ (l : List ℕ). map (λ i. bits_of (map (λ y. memberb (digit_pair 63 i y) l) edge_numbers)) (range 0 8)) held_none)

-- a leaf has no children
pub fresh_leaf : (ks : List ℕ) (f : ℕ) → replicate 8 0 ≡ fresh_of 0 ks f
unfolding fresh_of held_pairs size_of range flat_map memberb bits_of one_if
fresh_leaf ks f = refl

pub fresh_small : (s : ℕ) (ks : List ℕ) (f : ℕ) → All (λ x. x ≤ 64) (fresh_of s ks f)
fresh_small s ks f =
    all_from (λ x. x ≤ 64) 0 (fresh_of s ks f) (λ i h.
    rw (families.fresh_at s ks f i (omega (arith, families.length-fresh s ks f)))
    (bits_few (λ y. memberb (digit_pair 63 i y) (held_pairs s ks f))))
  where
    bits_few : (g : ℕ → Bool) → bits_of (map g edge_numbers) ≤ 64
    bits_few g = omega (arith, bits_small (g 0) (g 1) (g 2) (g 3) (g 4) (g 5))
