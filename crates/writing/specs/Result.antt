-- The new table from what the old cells keep, and what writing it leaves.
--   written_levels m ss ks   the statuses of the new table, level by level, as far as its limits are looked for
--   TableWritten ..         the new table with its number of cells
--   Unwritten ..            why there is none: a level above 10 would arise, or more than 4,096 cells
-- Assumes nothing.
use Rattle.std.specs.Prelude.{◌≡◌, ◌⊎◌, ℕ, ◌≤◌, ◌<◌, length, take}
use mathlib.Core.List.{List, flatten}
use Rattle.base.specs.Limits.{most_cells, most_levels}
use Rattle.base.specs.declared.Refusal.{Refusal}
use Rattle.base.specs.declared.Refusal.TheVariants.{TooHigh, TooMany}
use Rattle.lineage.specs.Olds.{up_to}
use Rattle.kept.specs.Kept.{write_by}

-- Rules 7.7, 7.8.
abbrev pub written_levels : ℕ → List ℕ → List ℕ → List (List ℕ)
written_levels m ss ks = write_by m ss ks 12 (take m ks) (up_to m)

-- Rules 7.7, 7.8: the new table.
pub record TableWritten (m : ℕ) (ss ks table : List ℕ) (cells : ℕ) : Type 0 where
  pub low : length (written_levels m ss ks) ≤ most_levels
  pub counted : length (flatten (written_levels m ss ks)) ≡ cells
  pub table_is : take cells table ≡ flatten (written_levels m ss ks)
  pub few : cells ≤ most_cells

-- Rule 7.8: a level above 10, or more than 4,096 cells.
pub record Unwritten (m : ℕ) (ss ks : List ℕ) (r : Refusal) : Type 0 where
  pub one : (r ≡ TooHigh) ⊎ (r ≡ TooMany)
  pub high : r ≡ TooHigh → length (written_levels m ss ks) ≡ 12
  pub many : r ≡ TooMany → most_cells < length (flatten (written_levels m ss ks))
