-- Where the numbers of corners and cells stand in the bytes.
--   corner_place, cell_place   where the number k stands
--   corner_at_lem, cell_at_lem, cell_from   it stands there
--   corner_inside, cell_inside      within the bytes
-- Assumes nothing.
use mathlib.Core.Path.{◌≡◌, refl, sym, ◌∙◌}
use mathlib.Core.Bool.{Bool, true, false}
use mathlib.Core.List.{List, ◌∷◌}
use Prim.Native.Nat.{ℕ, zero, suc, ◌+◌, ◌*◌, ◌/◌, ◌%◌, ◌≤◌, ◌<◌}
use native.Mathlib.Omega.{arith}
use lib.IntN.{ℤ, pos}
use lib.ListN.{length, get_or, drop, length-drop}
use lib.Seq.{drop-drop}
use Rattle.archive.specs.Form.{whole, i32_at, u16_at, startsb, corner_records, cell_records}
use Rattle.archive.specs.Writing.{corners_first, cell_records_first}
use Rattle.archive.specs.Records.{records_fit, corners_none, cells_none, corners_many, cells_many}

abbrev corner_place : ℕ → ℕ
corner_place k = 13 * (k / 3) + 4 * (k % 3) + 1

abbrev cell_place : ℕ → ℕ
cell_place k = 9 * (k / 4) + 2 * (k % 4) + 1

module _ (bs : List ℕ) (x y z : ℤ) (ps : List ℤ)
    (a : x ≡ i32_at bs 1) (b : y ≡ i32_at bs 5) (c : z ≡ i32_at bs 9)
    (i : (k : ℕ) → k < length ps → get_or ps k (pos 0) ≡ i32_at (drop 13 bs) (corner_place k)) where
  three_at : (k : ℕ) → k < length (x ∷ y ∷ z ∷ ps) → get_or (x ∷ y ∷ z ∷ ps) k (pos 0) ≡ i32_at bs (corner_place k)
  three_at zero h = a
  three_at (suc zero) h = b
  three_at (suc (suc zero)) h = c
  three_at (suc (suc (suc k))) h =
      let e : 13 + corner_place k ≡ corner_place (suc (suc (suc k))) = omega arith in
      i k (omega arith) ∙ rw (drop-drop (corner_place k) 13 bs, e)

pub corner_at_lem : (f : ℕ) (bs : List ℕ) (k : ℕ) → k < length (corner_records f bs).0 → get_or (corner_records f bs).0 k (pos 0) ≡ i32_at bs
    (corner_place k)
unfolding corner_records
corner_at_lem zero bs k h = absurd (omega arith)
corner_at_lem (suc f) bs k h = go (startsb 86 13 bs) refl k h (corner_at_lem f (drop 13 bs))
  where
    go : (b : Bool) → startsb 86 13 bs ≡ b → (k : ℕ) → k < length (corner_records (suc f) bs).0
        → ((k : ℕ) → k < length (corner_records f (drop 13 bs)).0 → get_or (corner_records f (drop 13 bs)).0 k (pos 0) ≡ i32_at (drop 13 bs)
        (corner_place k))
        → get_or (corner_records (suc f) bs).0 k (pos 0) ≡ i32_at bs (corner_place k)
    go true t k h i =
        let e = corners_first f bs t in
        rw e (three_at bs (i32_at bs 1) (i32_at bs 5) (i32_at bs 9) (corner_records f (drop 13 bs)).0 refl refl refl i k (rw e at h))
    go false t k h i = absurd (omega (arith, rw (corners_none f bs t) at h))

module _ (bs : List ℕ) (w x y z : ℕ) (ts : List ℕ)
    (a : w ≡ u16_at bs 1) (b : x ≡ u16_at bs 3) (c : y ≡ u16_at bs 5) (d : z ≡ u16_at bs 7)
    (i : (k : ℕ) → k < length ts → get_or ts k 0 ≡ u16_at (drop 9 bs) (cell_place k)) where
  four_at_lem : (k : ℕ) → k < length (w ∷ x ∷ y ∷ z ∷ ts) → get_or (w ∷ x ∷ y ∷ z ∷ ts) k 0 ≡ u16_at bs (cell_place k)
  four_at_lem zero h = a
  four_at_lem (suc zero) h = b
  four_at_lem (suc (suc zero)) h = c
  four_at_lem (suc (suc (suc zero))) h = d
  four_at_lem (suc (suc (suc (suc k)))) h =
      let e : 9 + cell_place k ≡ cell_place (suc (suc (suc (suc k)))) = omega arith in
      i k (omega arith) ∙ rw (drop-drop (cell_place k) 9 bs, e)

cell_at_lem : (f : ℕ) (bs : List ℕ) (k : ℕ) → k < length (cell_records f bs).0 → get_or (cell_records f bs).0 k 0 ≡ u16_at bs (cell_place k)
unfolding cell_records
cell_at_lem zero bs k h = absurd (omega arith)
cell_at_lem (suc f) bs k h = go (startsb 84 9 bs) refl k h (cell_at_lem f (drop 9 bs))
  where
    go : (b : Bool) → startsb 84 9 bs ≡ b → (k : ℕ) → k < length (cell_records (suc f) bs).0
        → ((k : ℕ) → k < length (cell_records f (drop 9 bs)).0 → get_or (cell_records f (drop 9 bs)).0 k 0 ≡ u16_at (drop 9 bs) (cell_place k))
        → get_or (cell_records (suc f) bs).0 k 0 ≡ u16_at bs (cell_place k)
    go true t k h i =
        let e = cell_records_first f bs t in
        rw e (four_at_lem bs (u16_at bs 1) (u16_at bs 3) (u16_at bs 5) (u16_at bs 7) (cell_records f (drop 9 bs)).0 refl refl refl refl i k
        (rw e at h))
    go false t k h i = absurd (omega (arith, rw (cells_none f bs t) at h))

pub corner_inside : (bs : List ℕ) (k : ℕ) → k < length (corner_records (length bs) bs).0 → corner_place k + 4 ≤ length bs
corner_inside bs k h = omega (arith, corners_many (length bs) bs, records_fit 86 13 (length bs) bs)

module _ (bs : List ℕ) (from k : ℕ) (g : from ≤ length bs) (h : k < length (cell_records (length bs) (drop from bs)).0) where
  pub cell_inside : from + 9 * (k / 4) + 2 * (k % 4) + 1 + 2 ≤ length bs
  cell_inside = omega (arith, cells_many (length bs) (drop from bs), records_fit 84 9 (length bs) (drop from bs), length-drop from bs)

  pub cell_from : whole 2 (drop (from + 9 * (k / 4) + 2 * (k % 4) + 1) bs) ≡ get_or (cell_records (length bs) (drop from bs)).0 k 0
  cell_from =
      let e : from + cell_place k ≡ from + 9 * (k / 4) + 2 * (k % 4) + 1 = omega arith in
      sym (cell_at_lem (length bs) (drop from bs) k h ∙ rw (drop-drop (cell_place k) from bs, e))
