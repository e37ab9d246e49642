-- What a table that is opened gives the calls.
-- Laws: fits_upward, fits_climb (a cell's way up), fits_levels, number_after, counts_after (counts).
-- Assumes nothing.
use mathlib.Core.Path.{◌≡◌, sym, ◌∙◌}
use mathlib.Core.List.{List, ◌++◌}
use Prim.Native.Nat.{ℕ, ◌+◌, ◌*◌, ◌/◌, ◌≤◌, ◌<◌}
use native.Mathlib.Omega.{arith}
use lib.IntN.{ℤ}
use lib.ListN.{length, get_or, take, drop}
use Rattle.base.specs.Bools.{is_true}
use Rattle.base.specs.Fours.{fours, length-fours}
use Rattle.mesh.specs.Cells.{none, no_cell}
use Rattle.mesh.specs.Coarse.{coarse_corner_count}
use Rattle.mesh.specs.Table.{soundb}
use Rattle.mesh.specs.Layout.{cell_table}
use Rattle.mesh.specs.Counts.{count_table}
use Rattle.mesh.specs.Answers.{levels_in, cells_in, corners_in}
use Rattle.lattice.specs.Levels.{fours_four}
use Rattle.ancestors.specs.Climb.{Upward, climb_from}
use Rattle.ancestors.specs.Linked.{ancestor_of}
use Rattle.ancestors.specs.Table.{table_upward, table_climb}
use Rattle.counting.specs.Levels.{Levels, level_number, level_counts, counts-length}
use Rattle.counting.specs.Sound.{sound_counted}
use Rattle.counting.specs.Whole.{counts_right, number_right}
use Rattle.opening.specs.Opened.{Fits}

module _ (ps : List ℤ) (ts ss rows xs ys : List ℕ) (cells levels m : ℕ) (f : Fits ps ts ss rows xs ys cells levels m) where
  -- a cell's way up
  module _ (c : ℕ) (h : c < cells) where
    all_rows : take (8 * length (cells_in ps ts ss)) rows ≡ cell_table (corners_in ps ts ss) (cells_in ps ts ss)
    all_rows = rw f.sound.counted f.sound.table

    there : c < length (cells_in ps ts ss)
    there = rw f.sound.counted h

    small : length (cells_in ps ts ss) ≤ none
    small = omega (arith, f.sound.counted, f.sound.few)

    pub fits_upward : Upward rows (c + 1)
    fits_upward = table_upward (coarse_corner_count ps) (fours ts) ss (fours_four ts) small (corners_in ps ts ss) rows all_rows c there

    pub fits_climb : climb_from rows c c ≡ ancestor_of (get_or (cells_in ps ts ss) c no_cell)
    fits_climb = table_climb (coarse_corner_count ps) (fours ts) ss (fours_four ts) small (corners_in ps ts ss) rows all_rows c there no_cell

  -- counts
  pub fits_levels : Levels ss (length ts / 4)
  fits_levels = rw (length-fours ts) at
      (sound_counted (coarse_corner_count ps) (fours ts) ss (is_true (soundb (coarse_corner_count ps) (fours ts) ss) f.table))

  pub number_after : (r : ℕ) → r ≡ level_number 12 0 (length ts / 4) ss → r ≡ length (levels_in ps ts ss)
  number_after r e = e ∙ rw (← length-fours ts) (sym (number_right (coarse_corner_count ps) (fours ts) ss))

  pub counts_after : (old new : List ℕ) (r : ℕ) → r ≡ level_number 12 0 (length ts / 4) ss
      → new ≡ level_counts 12 0 (length ts / 4) ss ++ drop (4 * r) old
      → new ≡ count_table (levels_in ps ts ss) ++ drop (length (count_table (levels_in ps ts ss))) old
  counts_after old new r e g =
      let c : level_counts 12 0 (length ts / 4) ss ≡ count_table (levels_in ps ts ss) = rw (← length-fours ts)
      (sym (counts_right (coarse_corner_count ps) (fours ts) ss)) in
      g ∙ rw (← c, counts-length 12 0 (length ts / 4) ss, ← e)
