-- What is read is written back.
--   piece, word_piece     a field and what stands behind it
--   CornersRead bs r, Cells bs r   the corners or cells r .0 can be written, and with r.1 behind them are bs
--   corners_written, cells_written   so it is with those that are read
use Rattle.std.specs.Prelude.{◌≡◌, refl, Bool, true, false, ℕ, zero, suc, ◌+◌, ◌≤◌, ◌<◌, eqb, leb, ℤ, drop}
use Rattle.std.proofs.Common.{sym, ap, arith, length-drop, take-append-drop, drop-drop, eqb-true}
use mathlib.Core.List.{List, [], ◌∷◌, ◌++◌, append_assoc}
use Rattle.std.proofs.Math.ListN.{length}
use Rattle.std.proofs.Math.Seq.{drop-cons}
use Rattle.base.specs.Bools.{is_true, and_left}
use Rattle.base.specs.Every.{All}
use Rattle.archive.specs.Job.{bytes, word, corner_bytes, cell_bytes, mark_bytes}
use Rattle.archive.specs.Form.{whole, letter, i32_at, u16_at, startsb, corner_records, cell_records}
use Rattle.archive.specs.Records.{starts_long, corners_none, cells_none}
use Rattle.archive.specs.Scan.{mark_in}
use Rattle.archive.specs.Bytes.{Octets, octets_drop, over, whole_below, bytes_back, Word, signed_word, signed_back}
use Rattle.archive.specs.Writable.{TwoBytes}

pub starts_letter : (l k : ℕ) (bs : List ℕ) → startsb l k bs ≡ true → letter bs ≡ l
unfolding startsb
starts_letter l k bs t =
    eqb-true (letter bs) l (is_true (eqb (letter bs) l) (and_left (eqb (letter bs) l) (leb k (length bs)) (rw t tt)))

-- a record's letter and what stands behind it
pub head_is : (l : ℕ) (bs : List ℕ) → 1 ≤ length bs → letter bs ≡ l → l ∷ drop 1 bs ≡ bs
head_is l [] h e = absurd (omega arith)
head_is l (b ∷ bs) h e = ap (λ (x : ℕ). x ∷ bs) (sym e)

module _ {bs : List ℕ} (o : Octets bs) where
  piece : (k i : ℕ) → i + k ≤ length bs → bytes k (whole k (drop i bs)) ++ drop (i + k) bs ≡ drop i bs
  piece k i h =
      rw (bytes_back k (drop i bs) (omega (arith, length-drop i bs)) (octets_drop o i), ← drop-drop k i bs)
      (take-append-drop k (drop i bs))

  four_below : (i : ℕ) → whole 4 (drop i bs) < 4294967296
  unfolding over
  four_below i = omega (arith, whole_below 4 (drop i bs) (octets_drop o i))

  pub two_below : (i : ℕ) → TwoBytes (u16_at bs i)
  unfolding over
  two_below i = omega (arith, whole_below 2 (drop i bs) (octets_drop o i))

  word_piece : (i : ℕ) → i + 4 ≤ length bs → bytes 4 (word (i32_at bs i)) ++ drop (i + 4) bs ≡ drop i bs
  word_piece i h = rw (signed_back (whole 4 (drop i bs)) (four_below i)) (piece 4 i h)

  corner_written : startsb 86 13 bs ≡ true → (ps : List ℤ) (l : List ℕ) → corner_bytes ps ++ l ≡ drop 13 bs
      → corner_bytes (i32_at bs 1 ∷ i32_at bs 5 ∷ i32_at bs 9 ∷ ps) ++ l ≡ bs
  unfolding corner_bytes
  corner_written t ps l i =
      let n : 13 ≤ length bs = starts_long 86 13 bs t in
      simp append_assoc
      (rw (i, word_piece 9 (omega arith), word_piece 5 (omega arith), word_piece 1 (omega arith))
      (head_is 86 bs (omega arith) (starts_letter 86 13 bs t)))

  cell_written : startsb 84 9 bs ≡ true → (ts : List ℕ) (l : List ℕ) → cell_bytes ts ++ l ≡ drop 9 bs
      → cell_bytes (u16_at bs 1 ∷ u16_at bs 3 ∷ u16_at bs 5 ∷ u16_at bs 7 ∷ ts) ++ l ≡ bs
  unfolding cell_bytes
  cell_written t ts l i =
      let n : 9 ≤ length bs = starts_long 84 9 bs t in
      simp append_assoc
      (rw (i, piece 2 7 (omega arith), piece 2 5 (omega arith), piece 2 3 (omega arith), piece 2 1 (omega arith))
      (head_is 84 bs (omega arith) (starts_letter 84 9 bs t)))

  pub mark_written : startsb 77 4 bs ≡ true → mark_bytes (mark_in bs) ++ drop 4 bs ≡ bs
  unfolding mark_bytes
  mark_written t =
      let n : 4 ≤ length bs = starts_long 77 4 bs t in
      simp append_assoc
      (rw (← drop-cons bs 3 0 (omega arith), piece 2 1 (omega arith))
      (head_is 77 bs (omega arith) (starts_letter 77 4 bs t)))

module _ (f : ℕ) (bs : List ℕ) where
  pub corners_first : startsb 86 13 bs ≡ true
      → corner_records (suc f) bs ≡ (i32_at bs 1 ∷ i32_at bs 5 ∷ i32_at bs 9 ∷ (corner_records f (drop 13 bs)).0, (corner_records f (drop 13 bs)).1)
  unfolding corner_records
  corners_first t = rw (t, corner_records)

  pub cell_records_first : startsb 84 9 bs ≡ true
      → cell_records (suc f) bs ≡ (
        u16_at bs 1 ∷ u16_at bs 3 ∷ u16_at bs 5 ∷ u16_at bs 7 ∷ (cell_records f (drop 9 bs)).0,
        (cell_records f
            (drop 9 bs)).1,
      )
  unfolding cell_records
  cell_records_first t = rw (t, cell_records)

-- the list r .0 can be written, and with the rest r .1 behind it is bs
pub record CornersRead (bs : List ℕ) (r : List ℤ × List ℕ) : Type 0 where
  pub written : corner_bytes r.0 ++ r.1 ≡ bs
  pub words : All Word r.0

pub record Cells (bs : List ℕ) (r : List ℕ × List ℕ) : Type 0 where
  pub written : cell_bytes r.0 ++ r.1 ≡ bs
  pub numbers : All TwoBytes r.0

pub corners_written : (f : ℕ) (bs : List ℕ) → Octets bs → CornersRead bs (corner_records f bs)
unfolding corner_records corner_bytes
corners_written zero bs o = record { written = refl; words = tt }
corners_written (suc f) bs o = go (startsb 86 13 bs) refl (corners_written f (drop 13 bs) (octets_drop o 13))
  where
    go : (b : Bool) → startsb 86 13 bs ≡ b → CornersRead (drop 13 bs) (corner_records f (drop 13 bs))
        → CornersRead bs (corner_records (suc f) bs)
    go true t i =
        rw (corners_first f bs t)
        (record {
          written = corner_written o t (corner_records f (drop 13 bs)).0 (corner_records f (drop 13 bs)).1 i.written;
          words = (signed_word _ (four_below o 1), (signed_word _ (four_below o 5), (signed_word _ (four_below o 9), i.words)));
        })
    go false t i = rw (corners_none f bs t) (record { written = refl; words = tt })

pub cells_written : (f : ℕ) (bs : List ℕ) → Octets bs → Cells bs (cell_records f bs)
unfolding cell_records cell_bytes
cells_written zero bs o = record { written = refl; numbers = tt }
cells_written (suc f) bs o = go (startsb 84 9 bs) refl (cells_written f (drop 9 bs) (octets_drop o 9))
  where
    go : (b : Bool) → startsb 84 9 bs ≡ b → Cells (drop 9 bs) (cell_records f (drop 9 bs)) → Cells bs (cell_records (suc f) bs)
    go true t i =
        rw (cell_records_first f bs t)
        (record {
          written = cell_written o t (cell_records f (drop 9 bs)).0 (cell_records f (drop 9 bs)).1 i.written;
          numbers = (two_below o 1, (two_below o 3, (two_below o 5, (two_below o 7, i.numbers))));
        })
    go false t i = rw (cells_none f bs t) (record { written = refl; numbers = tt })
