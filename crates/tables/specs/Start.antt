-- Where the building of a table starts.
--   coarse_row q     the row of a coarse cell
--   Coarse mesh     whole cells, not too many
use Rattle.std.specs.Prelude.{◌≡◌, List, ◌∷◌, ℕ, ◌%◌, ◌≤◌, length}
use Rattle.mesh.specs.Cells.{none}

-- Rule 9.2: the row of a coarse cell.
unfoldable pub coarse_row : List ℕ → List ℕ
coarse_row q = 0 ∷ none ∷ 0 ∷ 1 ∷ q

-- Rules 1.1, 9.2: whole cells, and room for their rows.
pub record Coarse (mesh : List ℕ) : Type 0 where
  pub whole : length mesh % 4 ≡ 0
  pub few : length mesh ≤ 1024
