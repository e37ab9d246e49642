-- Climbs computed by the definition.
--   forest       rows by hand: cells 2 and 3 are children of the coarse cells 0 and 1, cell 4 of 3, cell 5 of 4; their levels are all wrong
--   C            case C over mesh A (rule 14.3), laid out: the turns of its 25 cells
use Rattle.std.specs.Prelude.{◌≡◌, refl, ℕ, replicate}
use mathlib.Core.List.{List, [], ◌∷◌, ◌++◌, map, flat_map}
use Rattle.base.specs.Range.{range}
use Rattle.cutting.specs.Rule.{family}
use Rattle.mesh.specs.Cells.{none}
use Rattle.mesh.specs.Table.{levels_of, cells_of}
use Rattle.mesh.specs.Layout.{corners_of, cell_table}
use Rattle.ancestors.specs.declared.Ancestor.{Ancestor}
use Rattle.ancestors.specs.Climb.{ancestor, climb_from}

-- Rule 9.2: a row with the parent p; 9 is no cell's level here.
row_under : ℕ → List ℕ
row_under p = 9 ∷ p ∷ replicate 6 0

forest : List ℕ
unfolding row_under flat_map
forest = flat_map row_under (none ∷ none ∷ 0 ∷ 1 ∷ 3 ∷ 4 ∷ [])

abbrev climbs_in : List ℕ → ℕ → List Ancestor
climbs_in t m = map (λ c. climb_from t c c) (range 0 m)

forest_climbs : climbs_in forest 6 ≡ ancestor 0 0 ∷ ancestor 1 0 ∷ ancestor 0 1 ∷ ancestor 1 1 ∷ ancestor 1 2 ∷ ancestor 1 3 ∷ []
unfolding forest row_under flat_map range climb_from
forest_climbs = refl

A : List (List ℕ)
A = (0 ∷ 1 ∷ 2 ∷ 3 ∷ []) ∷ []

C : List ℕ
C = 64 ∷ 64 ∷ 11 ∷ 1 ∷ 0 ∷ 1 ∷ 0 ∷ 0 ∷ 0 ∷ replicate 16 0

rows_c : List ℕ
unfolding A C cell_table corners_of levels_of cells_of
rows_c = let cs = cells_of (levels_of 4 A C) in cell_table (corners_of 4 cs C) cs

c_climbs : climbs_in rows_c 25 ≡ ancestor 0 0 ∷ replicate 8 (ancestor 0 1) ++ replicate 16 (ancestor 0 2)
unfolding rows_c A C family cell_table corners_of levels_of cells_of range climb_from
c_climbs = refl
