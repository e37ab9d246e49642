-- What opening a table leaves.
--   Fits ..       an accepted mesh and a sound table: the rows of its cells, and the ends of its new corners
use Rattle.std.specs.Prelude.{◌≡◌, List, ℕ, T, ℤ}
use Rattle.base.specs.Fours.{fours}
use Rattle.mesh.specs.Coarse.{coarse_corner_count, positionsb}
use Rattle.tables.specs.Sound.{Mesh, LaidSound}
use Rattle.mesh.specs.Table.{soundb}

-- Rules 6.1 to 6.4, 9.2, 9.3: a sound table, its rows and the ends of its new corners.
pub record Fits (ps : List ℤ) (ts ss rows xs ys : List ℕ) (cells levels m : ℕ) : Type 0 where
  pub mesh : Mesh (coarse_corner_count ps) ts
  pub positions : T (positionsb ps)
  pub table : T (soundb (coarse_corner_count ps) (fours ts) ss)
  pub sound : LaidSound (coarse_corner_count ps) (fours ts) ss rows xs ys cells levels m
