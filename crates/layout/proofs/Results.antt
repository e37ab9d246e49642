-- What a table that is opened gives its layout.
-- Laws: layout_short, layout_long, lent_long (the lent tables, the answer), laid_refused (a refusal leaves them), fits_few, fits_corners,
-- fits_ends, fits_small, fits_counted (what writing asks for), table_after, ends_after_lem, sums_after_lem (what it leaves).
-- Assumes nothing.
use Rattle.std.proofs.Common.{Result, Err}
use mathlib.Core.Path.{◌≡◌, sym, ◌∙◌}
use mathlib.Core.Bool.{true, false}
use mathlib.Core.List.{List, ◌++◌}
use Prim.Native.Nat.{ℕ, ◌+◌, ◌*◌, ◌≤◌}
use native.Mathlib.Omega.{arith}
use lib.Dec.{T, leb→le}
use lib.IntN.{ℤ}
use lib.ListN.{length, take, drop}
use lib.Seq.{length-take-le}
use Rattle.base.specs.Bools.{is_true, and_left, and_right}
use Rattle.base.specs.Fours.{fours}
use Rattle.base.specs.Limits.{full_ends, full_rows, full_sums}
use Rattle.base.specs.Answer.{Refused}
use Rattle.base.specs.Refuse.{number_of, held_after}
use Rattle.base.specs.declared.Refusal.{Refusal}
use Rattle.mesh.specs.Coarse.{coarse_corner_count}
use Rattle.mesh.specs.Table.{soundb}
use Rattle.mesh.specs.Layout.{cell_table, end_table, sum_table}
use Rattle.mesh.specs.Answers.{cells_in, corners_in, table_answer}
use Rattle.corners.specs.Ends.{Ends, end_numbers, coarse_ends, length-coarse_ends, length-add_ends}
use Rattle.corners.specs.Sums.{Smalls, sum_numbers, coarse_sums, length-coarse_sums, length-add_sums, positions_small}
use Rattle.corners.specs.Tables.{CornersNumbered, ends_are, sums_are}
use Rattle.counting.specs.Sound.{sound_counted}
use Rattle.counting.specs.Whole.{end_right}
use Rattle.opening.specs.Opened.{Fits}
use Rattle.layout.specs.Calls.{lentb, layout_answer, LaysOut}
use Rattle.layout.specs.declared.Sizes.{Sizes}
use Rattle.layout.proofs.Numbering.{corner_count, ends, numbered}

pub record Lent (table ends : List ℕ) (sums : List ℤ) : Type 0 where
  pub long_table : full_rows ≤ length table
  pub long_ends : full_ends ≤ length ends
  pub long_sums : full_sums ≤ length sums

pub layout_short : (ps : List ℤ) (ts ss table ends : List ℕ) (sums : List ℤ) → lentb table ends sums ≡ false
    → layout_answer ps ts ss table ends sums ≡ Refused 15
unfolding layout_answer
layout_short ps ts ss table ends sums e = rw e

pub layout_long : (ps : List ℤ) (ts ss table ends : List ℕ) (sums : List ℤ) → lentb table ends sums ≡ true
    → layout_answer ps ts ss table ends sums ≡ table_answer ps ts ss
unfolding layout_answer
layout_long ps ts ss table ends sums e = rw e

pub laid_refused : (ps : List ℤ) (ts ss table es : List ℕ) (sums : List ℤ) (r : Result Sizes Refusal) (e : Refusal) → lentb table es sums ≡ true
    → r ≡ Err e → Refused (number_of e) ≡ table_answer ps ts ss → LaysOut ps ts ss table es sums r table es sums
unfolding held_after
laid_refused ps ts ss table es sums r e l i a =
    let b = a ∙ sym (layout_long ps ts ss table es sums l) in
    rw i (record { answer = b; sizes = tt; table_is = rw (sym b); ends_are = rw (sym b); sums_are = rw (sym b) })

pub lent_long : (table ends : List ℕ) (sums : List ℤ) → lentb table ends sums ≡ true → Lent table ends sums
unfolding lentb
lent_long table ends sums e = go (rw e tt)
  where
    go : T (lentb table ends sums) → Lent table ends sums
    go t = search (and_left, and_right, leb→le)

-- a table with its front written, where what is written has another name
written : {A : Type 0} (old new a b : List A) (k : ℕ) → new ≡ a ++ drop k old → a ≡ b → length a ≡ k → new ≡ b ++ drop (length b) old
written old new a b k e f l = e ∙ rw (← f, l)

module _ (ps : List ℤ) (ts ss rows xs ys : List ℕ) (cells levels m : ℕ) (f : Fits ps ts ss rows xs ys cells levels m) where
  pub fits_few : coarse_corner_count ps + m ≤ 4608
  fits_few = omega (arith, f.sound.most, f.sound.few, f.mesh.corners)

  pub fits_corners : length (corners_in ps ts ss) ≡ coarse_corner_count ps + m
  fits_corners = corner_count (coarse_corner_count ps) (corners_in ps ts ss) xs ys m f.sound.corners

  pub fits_ends : m ≤ length xs → m ≤ length ys → Ends (coarse_corner_count ps) xs ys m
  fits_ends = ends (coarse_corner_count ps) (corners_in ps ts ss) xs ys m f.sound.corners

  pub fits_small : Smalls 500000 ps
  fits_small = positions_small ps f.positions

  -- a sound table has a cell for each status, so that tables with room for its statuses have room for its cells
  pub fits_counted : cells ≡ length ss
  fits_counted =
      let s = is_true (soundb (coarse_corner_count ps) (fours ts) ss) f.table in
      sym f.sound.counted ∙ end_right (coarse_corner_count ps) (fours ts) ss ∙ (sound_counted (coarse_corner_count ps) (fours ts) ss s).whole

  -- what a layout leaves
  module _ (in_rows : 8 * cells ≤ length rows) (in_xs : m ≤ length xs) (in_ys : m ≤ length ys) where
    fits_numbered : CornersNumbered (coarse_corner_count ps) xs ys m (corners_in ps ts ss)
    fits_numbered = numbered (coarse_corner_count ps) (corners_in ps ts ss) xs ys m f.sound.corners in_xs in_ys

    pub table_after : (old new : List ℕ) → new ≡ take (8 * cells) rows ++ drop (8 * cells) old
        → new ≡ cell_table (corners_in ps ts ss) (cells_in ps ts ss) ++ drop (length (cell_table (corners_in ps ts ss) (cells_in ps ts ss))) old
    table_after old new e = written old new _ _ (8 * cells) e f.sound.table (length-take-le (8 * cells) rows in_rows)

    pub ends_after_lem : (old new : List ℕ) → new ≡ end_numbers (coarse_corner_count ps) xs ys m ++ drop (2 * (coarse_corner_count ps + m)) old
        → new ≡ end_table (corners_in ps ts ss) ++ drop (length (end_table (corners_in ps ts ss))) old
    unfolding end_numbers
    ends_after_lem old new e =
        written old new _ _ (2 * (coarse_corner_count ps + m)) e (sym (ends_are (coarse_corner_count ps) xs ys m (corners_in ps ts ss) fits_numbered))
        (length-add_ends (coarse_ends (coarse_corner_count ps)) xs ys m ∙ rw (length-coarse_ends (coarse_corner_count ps)) (omega arith))

    pub sums_after_lem : (old new : List ℤ) → new ≡ sum_numbers ps (coarse_corner_count ps) xs ys m ++ drop (3 * (coarse_corner_count ps + m)) old
        → new ≡ sum_table ps (corners_in ps ts ss) ++ drop (length (sum_table ps (corners_in ps ts ss))) old
    unfolding sum_numbers
    sums_after_lem old new e =
        written old new _ _ (3 * (coarse_corner_count ps + m)) e (sym (sums_are (coarse_corner_count ps) xs ys m (corners_in ps ts ss) fits_numbered ps))
        (length-add_sums (coarse_sums ps (coarse_corner_count ps)) xs ys m ∙ rw (length-coarse_sums ps (coarse_corner_count ps)) (omega arith))
