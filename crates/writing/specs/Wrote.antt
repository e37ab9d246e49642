-- Statuses and old numbers, written side by side into two tables of 4,096.
--   RoomAbove table old first last    there is room for the children of the cells from first to last, behind these
--   Wrote table old at ts os ..       the statuses ts and the old numbers os stand from `at` on
-- Assumes nothing.
use Rattle.std.specs.Prelude.{◌≡◌, List, ℕ, ◌+◌, ◌-◌, ◌≤◌, ◌<◌, length, get_or}
use Rattle.base.specs.Limits.{most_cells}
use Rattle.mesh.specs.Table.{sizes}
use Rattle.rows.specs.Numbered.{part}
use Rattle.growth.specs.Written.{written}

pub record RoomAbove (table old : List ℕ) (first last : ℕ) : Type 0 where
  pub in_table : length table ≡ most_cells
  pub in_old : length old ≡ most_cells
  pub rise : first ≤ last
  pub small : (c : ℕ) → first ≤ c → c < last → get_or table c 0 ≤ 64
  pub enough : last + sizes (part table first (last - first)) ≤ most_cells

pub record Wrote (table old : List ℕ) (at : ℕ) (ts os table' old' : List ℕ) : Type 0 where
  pub statuses : table' ≡ written table at ts
  pub olds : old' ≡ written old at os
