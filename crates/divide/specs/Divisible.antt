-- What a table that is split is: accepted, laid out, with owners that fit.
--   Divisible ..     all that the work asks for
use Rattle.std.specs.Prelude.{◌≡◌, List, ℕ, suc, ◌*◌, ◌≤◌, T, length, take}
use Rattle.base.specs.Fours.{fours}
use Rattle.base.specs.Limits.{most_parts}
use Rattle.mesh.specs.Table.{levels_of, soundb}
use Rattle.mesh.specs.Layout.{cell_table}
use Rattle.tables.specs.Sound.{Mesh, table_cells, examined_corners}
use Rattle.lineage.specs.Firsts.{first_children}
use Rattle.store.specs.Fields.{full}

-- Rule 15.5.
pub record Divisible (n : ℕ) (ts ss rows ks os : List ℕ) (P levels : ℕ) (b : List ℕ) : Type 0 where
  pub mesh : Mesh n ts
  pub sound : T (soundb n (fours ts) ss)
  pub table : take (8 * length (table_cells n (fours ts) ss)) rows ≡ cell_table (examined_corners n (fours ts) ss) (table_cells n (fours
      ts) ss)
  pub kids : take (suc (length ss)) ks ≡ first_children (length (fours ts)) ss
  pub owners : length os ≡ length ss
  pub parts : P ≤ most_parts
  pub high : levels ≡ length (levels_of n (fours ts) ss)
  pub room : most_parts * full ≤ length b
