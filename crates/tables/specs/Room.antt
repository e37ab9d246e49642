-- Room in the lent tables, by the number of statuses.
--   TableRoom ss rows m   for the rows, and for the new corners in a table of m
use Rattle.std.specs.Prelude.{List, ℕ, ◌*◌, ◌≤◌, length}

-- Rules 1.1, 9.2, 9.3: a row for each coarse cell and each status, and a new corner for each status.
pub record TableRoom (ss rows : List ℕ) (m : ℕ) : Type 0 where
  pub in_coarse : 2048 ≤ length rows
  pub in_rows : 8 * length ss ≤ length rows
  pub in_mids : length ss ≤ m
