-- The corners of coarse cells, gathered from the stores.
use mathlib.Core.Path.{◌≡◌, refl, sym, ◌∙◌, ap, ap₂}
use mathlib.Core.Bool.{Bool, true, false}
use mathlib.Core.List.{List, [], ◌∷◌, ◌++◌, map, map-append, append_assoc}
use Prim.Native.Nat.{ℕ, suc, ◌+◌, ◌-◌, ◌*◌, ◌%◌, ◌≤◌, ◌<◌}
use native.Mathlib.Omega.{arith}
use lib.Dec.{T}
use lib.ListN.{length, get_or, take, drop, length-append, length-drop, length-map}
use lib.Seq.{drop-cons, length-take-le, take_at}
use Rattle.base.specs.Bools.{is_true, not_both, and_both}
use Rattle.base.specs.Every.{get_d_map}
use Rattle.base.specs.Fours.{fours}
use Rattle.base.specs.Limits.{full_coarse, most_coarse_cells, most_parts}
use Rattle.base.specs.Lists.{allb, anyb, allb_at}
use Rattle.base.specs.Range.{range, length-range, range_at, range_snoc}
use Rattle.base.specs.Append.{allb_append}
use Rattle.mesh.specs.Coarse.{cellb, cellsb}
use Rattle.store.specs.Fields.{full, CORNER}
use Rattle.store.specs.Stores.{store_in, stores_by, store_long, field_in}
use Rattle.merge.specs.Merge.{ownsb, corners_among, merge_cells}
use Rattle.merge.specs.Steps.{OwnedAt, Gathered, Ungathered}
use borrow.Rule.Slice.PartMut.{put_mid}

four_at_lem : (l : List ℕ) (k : ℕ) → k + 4 ≤ length l
    → take 4 (drop k l) ≡ get_or l k 0 ∷ get_or l (k + 1) 0 ∷ get_or l (k + 2) 0 ∷ get_or l (k + 3) 0 ∷ []
four_at_lem l k h =
    let a : k + 1 ≡ suc k = omega arith in
    let b : k + 2 ≡ suc (suc k) = omega arith in
    let c : k + 3 ≡ suc (suc (suc k)) = omega arith in
    rw (
      a,
      b,
      c,
      drop-cons l k 0 (omega arith),
      drop-cons l (suc k) 0 (omega arith),
      drop-cons l (suc (suc k)) 0 (omega arith),
      drop-cons l (suc (suc (suc k))) 0 (omega arith),
    )

pub corners_read : (b : List ℕ) (j i : ℕ) → most_parts * full ≤ length b → j < most_parts → i < most_coarse_cells
    → get_or b (full * j + (CORNER + 4 * i)) 0 ∷ get_or b (full * j + (CORNER + 4 * i) + 1) 0 ∷ get_or b (full * j + (CORNER + 4 * i) + 2) 0
    ∷ get_or b (full * j + (CORNER + 4 * i) + 3) 0 ∷ [] ≡ take 4 (drop (CORNER + 4 * i) (store_in b j))
corners_read b j i h g f =
    let k : ℕ = CORNER + 4 * i in
    let at : (n : ℕ) → n < 4 → get_or b (full * j + k + n) 0 ≡ get_or (store_in b j) (k + n) 0 =
    λ n l. (let z : full * j + k + n ≡ full * j + (k + n) = omega arith in ap (λ (v : ℕ). get_or b v 0) z ∙ sym
    (field_in b j (k + n) (omega arith))) in
    let zero_at : get_or b (full * j + k) 0 ≡ get_or (store_in b j) k 0 = sym (field_in b j k (omega arith)) in
    rw (zero_at, at 1 (omega arith), at 2 (omega arith), at 3 (omega arith))
    (sym (four_at_lem (store_in b j) k (omega (arith, store_long b j h g))))

-- lists of fours
fours_more : (l q : List ℕ) → length l % 4 ≡ 0 → length q ≡ 4 → fours (l ++ q) ≡ fours l ++ (q ∷ [])
unfolding fours
fours_more [] [] h g = absurd (omega arith)
fours_more [] (a ∷ []) h g = absurd (omega arith)
fours_more [] (a ∷ b ∷ []) h g = absurd (omega arith)
fours_more [] (a ∷ b ∷ c ∷ []) h g = absurd (omega arith)
fours_more [] (a ∷ b ∷ c ∷ d ∷ []) h g = refl
fours_more [] (a ∷ b ∷ c ∷ d ∷ e ∷ q) h g = absurd (omega arith)
fours_more (a ∷ []) q h g = absurd (omega arith)
fours_more (a ∷ b ∷ []) q h g = absurd (omega arith)
fours_more (a ∷ b ∷ c ∷ []) q h g = absurd (omega arith)
fours_more (a ∷ b ∷ c ∷ d ∷ l) q h g =
    ap (λ (k : List (List ℕ)). (a ∷ b ∷ c ∷ d ∷ []) ∷ k) (fours_more l q (omega arith) g)

module _ (b : List ℕ) (P n m : ℕ) where
  abbrev xs : List (List ℕ)
  xs = stores_by b P

  abbrev ownedb : ℕ → Bool
  ownedb i = anyb (ownsb i) xs

  pub record Gathering (mesh : List ℕ) (i : ℕ) : Type 0 where
    pub owned : T (allb ownedb (range 0 i))
    pub cells : T (allb (cellb n) (map (corners_among xs) (range 0 i)))
    pub mesh_is : fours (take (4 * i) mesh) ≡ map (corners_among xs) (range 0 i)

  pub gathering_start : (mesh : List ℕ) → Gathering mesh 0
  unfolding allb range fours
  gathering_start mesh = record { owned = tt; cells = tt; mesh_is = refl }

  pub gathering_none : (i : ℕ) → i < m → anyb (ownsb i) xs ≡ false → Ungathered b P n m
  gathering_none i h o =
      record {
        failed = λ s t.
            let u = allb_at ownedb 0 (range 0 m) s i (omega (arith, length-range 0 m)) in
            let w : get_or (range 0 m) i 0 ≡ i = range_at 0 m i 0 h ∙ (let z : 0 + i ≡ i = omega arith in z) in
            let v : T (ownedb i) = rw w at u in
            not_both (ownedb i) (is_true (ownedb i) v) o;
      }

  module _ (i j : ℕ) (h : i < m) (o : OwnedAt b P i j) (q : List ℕ) (e : q ≡ take 4 (drop (CORNER + 4 * i) (store_in b j))) where
    corners : corners_among xs i ≡ q
    corners = o.corners ∙ sym e

    pub gathering_low : cellb n q ≡ false → Ungathered b P n m
    unfolding merge_cells cellsb
    gathering_low t =
        record {
          failed = λ u v.
              let a = allb_at (cellb n) [] (map (corners_among xs) (range 0 m)) v i (omega (
                arith,
                length-map (range 0 m) (corners_among xs),
                length-range 0 m,
              )) in
              let w : get_or (map (corners_among xs) (range 0 m)) i [] ≡ corners_among xs i =
              get_d_map (corners_among xs) (range 0 m) i 0 [] (omega (arith, length-range 0 m))
              ∙ ap (corners_among xs) (range_at 0 m i 0 h ∙ (let z : 0 + i ≡ i = omega arith in z)) in
              let c : T (cellb n (corners_among xs i)) = rw w at a in
              not_both (cellb n (corners_among xs i)) (is_true (cellb n (corners_among xs i)) c) (ap (cellb n) corners ∙ t);
        }

    module _ (mesh : List ℕ) (s : Gathering mesh i) (few : m ≤ most_coarse_cells) (long : length mesh ≡ full_coarse)
        (room : most_parts * full ≤ length b) (parts : P ≤ most_parts) (q' : List ℕ) (same : q' ≡ q) where
      abbrev mesh' : List ℕ
      mesh' = put_mid (4 * i) (4 * i + 4 - 4 * i) mesh q'

      four : length q ≡ 4
      four =
          ap length e ∙ length-take-le 4 (drop (CORNER + 4 * i) (store_in b j))
          (omega (arith, length-drop (CORNER + 4 * i) (store_in b j), store_long b j room (omega (arith, o.below))))

      front : length (take (4 * i) mesh) ≡ 4 * i
      front = length-take-le (4 * i) mesh (omega arith)

      front_is : take (4 * suc i) mesh' ≡ take (4 * i) mesh ++ q
      front_is =
          let w : 4 * suc i ≡ 4 * i + 4 = omega arith in
          let l : length (take (4 * i) mesh ++ q) ≡ 4 * i + 4 = length-append (take (4 * i) mesh) q ∙ omega (arith, front, four) in
          ap₂ take w (ap (λ (v : List ℕ). put_mid (4 * i) (4 * i + 4 - 4 * i) mesh v) same
          ∙ sym (append_assoc (take (4 * i) mesh) q (drop (4 * i + 4 - 4 * i) (drop (4 * i) mesh))))
          ∙ take_at (take (4 * i) mesh ++ q) (drop (4 * i + 4 - 4 * i) (drop (4 * i) mesh)) (4 * i + 4) l

      all_corners : map (corners_among xs) (range 0 (suc i)) ≡ map (corners_among xs) (range 0 i) ++ (corners_among xs i ∷ [])
      all_corners =
          let z : 0 + i ≡ i = omega arith in
          let r : range 0 (suc i) ≡ range 0 i ++ (i ∷ []) = rw z at (range_snoc 0 i) in
          ap (map (corners_among xs)) r ∙ map-append (corners_among xs) (range 0 i) (i ∷ [])

      pub gathering_on : cellb n q ≡ true → Gathering mesh' (suc i)
      unfolding allb
      gathering_on t =
          let z : 0 + i ≡ i = omega arith in
          let c : cellb n (corners_among xs i) ≡ true = ap (cellb n) corners ∙ t in
          record {
            owned = rw (range_snoc 0 i, z) (allb_append ownedb (range 0 i) (i ∷ []) s.owned
                (and_both (ownedb i) true (rw o.some tt) tt));
            cells = rw all_corners (allb_append (cellb n) (map (corners_among xs) (range 0 i)) (corners_among xs i ∷ []) s.cells
                (and_both (cellb n (corners_among xs i)) true (rw c tt) tt));
            mesh_is =
                ap fours front_is
                ∙ fours_more (take (4 * i) mesh) q (omega (arith, front)) four
                ∙ ap₂ (λ (u : List (List ℕ)) (v : List ℕ). u ++ (v ∷ [])) s.mesh_is (sym corners)
                ∙ sym all_corners;
          }

  pub gathering_out : (mesh : List ℕ) (i : ℕ) → i ≡ m → Gathering mesh i → Gathered b P n m mesh
  unfolding merge_cells cellsb
  gathering_out mesh i z s = record { owned = rw z at s.owned; cells = rw z at s.cells; mesh = rw z at s.mesh_is }
