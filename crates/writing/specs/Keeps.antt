-- What the new table is written from: what the cells of the old table keep.
--   Keeps m ss kids ks   ss is a table of statuses over m coarse cells, kids has the first child of each cell, ks what each keeps
-- Assumes nothing.
use Rattle.std.specs.Prelude.{◌≡◌, true, List, ℕ, ◌≤◌, ◌<◌, leb, length, get_or}
use Rattle.base.specs.Limits.{most_cells}
use Rattle.base.specs.Lists.{allb}
use Rattle.lineage.specs.Firsts.{Firsts}

-- Rules 1.1, 3.2, 3.4, 4.1.
pub record Keeps (m : ℕ) (ss kids ks : List ℕ) : Type 0 where
  pub some : 0 < m
  pub coarse : m ≤ 256
  pub few : length ss ≤ most_cells
  pub fit : allb (λ s. leb s 64) ss ≡ true
  pub firsts : Firsts m ss kids
  pub in_kids : length ss < length kids
  pub in_kept : length ss ≤ length ks
  pub kept : (c : ℕ) → c < length ss → get_or ks c 0 ≤ 64
