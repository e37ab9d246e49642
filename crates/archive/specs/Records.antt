-- How many records of one kind the bytes start with.
--   records_in l k f bs   the records of k bytes with the letter l that bs starts with, at most f
--   records_none, records_more   none where none starts; one more where one starts
--   records_fit          they lie in the bytes
--   corners_many, corners_behind, cells_many, cells_behind   corner_records and cell_records by that number
use Rattle.std.specs.Prelude.{◌≡◌, Bool, true, false, List, [], eqb, leb, length, drop}
use Rattle.std.proofs.Math.Path.{refl}
use Rattle.std.proofs.Common.{◌∙◌, mul-suc, arith, length-drop, drop-drop}
use Prim.Native.Nat.{ℕ, zero, suc, ◌+◌, ◌*◌, ◌≤◌}
use Rattle.std.proofs.Math.Dec.{leb→le}
use Rattle.base.specs.Bools.{and_right}
use Rattle.archive.specs.Form.{startsb, letter, corner_records, cell_records}

-- Rule 10.3: how many records of one letter stand in front.
unfoldable pub records_in : ℕ → ℕ → ℕ → List ℕ → ℕ
unfolding startsb
records_in l k zero bs = 0
records_in l k (suc f) bs = elim (startsb l k bs) [ true ↦ suc (records_in l k f (drop k bs)) | false ↦ 0 ]

module _ (l k : ℕ) (bs : List ℕ) where
  pub starts_long : startsb l k bs ≡ true → k ≤ length bs
  unfolding startsb
  starts_long t = leb→le k (length bs) (and_right (eqb (letter bs) l) (leb k (length bs)) (rw t tt))

  pub records_none : (f : ℕ) → startsb l k bs ≡ false → records_in l k f bs ≡ 0
  unfolding records_in
  records_none zero t = refl
  records_none (suc f) t = rw (t, records_in)

  pub records_more : (f : ℕ) → startsb l k bs ≡ true → records_in l k (suc f) bs ≡ suc (records_in l k f (drop k bs))
  unfolding records_in
  records_more f t = rw (t, records_in)

pub records_fit : (l k f : ℕ) (bs : List ℕ) → k * records_in l k f bs ≤ length bs
unfolding records_in
records_fit l k zero bs = omega arith
records_fit l k (suc f) bs = go (startsb l k bs) refl (records_fit l k f (drop k bs))
  where
    go : (b : Bool) → startsb l k bs ≡ b → k * records_in l k f (drop k bs) ≤ length (drop k bs) → k * records_in l k (suc f) bs ≤ length bs
    go true e i = rw (records_more l k bs f e, mul-suc k (records_in l k f (drop k bs)))
        (omega (arith, length-drop k bs, starts_long l k bs e))
    go false e i = rw (records_none l k bs (suc f) e) (omega arith)

module _ (f : ℕ) (bs : List ℕ) where
  pub corners_none : startsb 86 13 bs ≡ false → corner_records (suc f) bs ≡ ([], bs)
  unfolding corner_records
  corners_none t = rw (t, corner_records)

  pub cells_none : startsb 84 9 bs ≡ false → cell_records (suc f) bs ≡ ([], bs)
  unfolding cell_records
  cells_none t = rw (t, cell_records)

  corners_next : startsb 86 13 bs ≡ true → (corner_records (suc f) bs).1 ≡ (corner_records f (drop 13 bs)).1
  unfolding corner_records
  corners_next t = rw (t, corner_records)

  corners_longer : startsb 86 13 bs ≡ true
      → length (corner_records (suc f) bs).0 ≡ suc (suc (suc (length (corner_records f (drop 13 bs)).0)))
  unfolding corner_records
  corners_longer t = rw (t, corner_records)

  cell_records_next : startsb 84 9 bs ≡ true → (cell_records (suc f) bs).1 ≡ (cell_records f (drop 9 bs)).1
  unfolding cell_records
  cell_records_next t = rw (t, cell_records)

  cells_longer : startsb 84 9 bs ≡ true → length (cell_records (suc f) bs).0 ≡ suc (suc (suc (suc (length (cell_records f (drop 9 bs)).0))))
  unfolding cell_records
  cells_longer t = rw (t, cell_records)

onward : (k n : ℕ) (bs : List ℕ) → drop (k * n) (drop k bs) ≡ drop (k * suc n) bs
onward k n bs = drop-drop (k * n) k bs ∙ (let w : k + k * n ≡ k * suc n = omega (arith, mul-suc k n) in rw w)

pub corners_behind : (f : ℕ) (bs : List ℕ) → (corner_records f bs).1 ≡ drop (13 * records_in 86 13 f bs) bs
unfolding corner_records records_in
corners_behind zero bs = refl
corners_behind (suc f) bs = go (startsb 86 13 bs) refl (corners_behind f (drop 13 bs))
  where
    go : (b : Bool) → startsb 86 13 bs ≡ b → (corner_records f (drop 13 bs)).1 ≡ drop (13 * records_in 86 13 f (drop 13 bs)) (drop 13 bs)
        → (corner_records (suc f) bs).1 ≡ drop (13 * records_in 86 13 (suc f) bs) bs
    go true e i = rw (records_more 86 13 bs f e) (corners_next f bs e ∙ i ∙ onward 13 (records_in 86 13 f (drop 13 bs)) bs)
    go false e i = rw (records_none 86 13 bs (suc f) e, corners_none f bs e)

pub corners_many : (f : ℕ) (bs : List ℕ) → length (corner_records f bs).0 ≡ 3 * records_in 86 13 f bs
unfolding corner_records records_in
corners_many zero bs = refl
corners_many (suc f) bs = go (startsb 86 13 bs) refl (corners_many f (drop 13 bs))
  where
    go : (b : Bool) → startsb 86 13 bs ≡ b → length (corner_records f (drop 13 bs)).0 ≡ 3 * records_in 86 13 f (drop 13 bs)
        → length (corner_records (suc f) bs).0 ≡ 3 * records_in 86 13 (suc f) bs
    go true e i = rw (records_more 86 13 bs f e, corners_longer f bs e) (omega arith)
    go false e i = rw (records_none 86 13 bs (suc f) e, corners_none f bs e)

pub cells_behind : (f : ℕ) (bs : List ℕ) → (cell_records f bs).1 ≡ drop (9 * records_in 84 9 f bs) bs
unfolding cell_records records_in
cells_behind zero bs = refl
cells_behind (suc f) bs = go (startsb 84 9 bs) refl (cells_behind f (drop 9 bs))
  where
    go : (b : Bool) → startsb 84 9 bs ≡ b → (cell_records f (drop 9 bs)).1 ≡ drop (9 * records_in 84 9 f (drop 9 bs)) (drop 9 bs)
        → (cell_records (suc f) bs).1 ≡ drop (9 * records_in 84 9 (suc f) bs) bs
    go true e i = rw (records_more 84 9 bs f e) (cell_records_next f bs e ∙ i ∙ onward 9 (records_in 84 9 f (drop 9 bs)) bs)
    go false e i = rw (records_none 84 9 bs (suc f) e, cells_none f bs e)

pub cells_many : (f : ℕ) (bs : List ℕ) → length (cell_records f bs).0 ≡ 4 * records_in 84 9 f bs
unfolding cell_records records_in
cells_many zero bs = refl
cells_many (suc f) bs = go (startsb 84 9 bs) refl (cells_many f (drop 9 bs))
  where
    go : (b : Bool) → startsb 84 9 bs ≡ b → length (cell_records f (drop 9 bs)).0 ≡ 4 * records_in 84 9 f (drop 9 bs)
        → length (cell_records (suc f) bs).0 ≡ 4 * records_in 84 9 (suc f) bs
    go true e i = rw (records_more 84 9 bs f e, cells_longer f bs e) (omega arith)
    go false e i = rw (records_none 84 9 bs (suc f) e, cells_none f bs e)
