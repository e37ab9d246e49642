-- In the table of rows that laying a status table out gives, the way from a cell leads to its coarse ancestor, and its turns are the level.
-- Laws: table_size, table_upward, table_climb, table_turns.
use Rattle.std.specs.Prelude.{◌≡◌, refl, ℕ, ◌+◌, ◌*◌, ◌≤◌, ◌<◌, length, get_or}
use Rattle.std.proofs.Common.{◌∙◌, arith}
use Rattle.std.proofs.Math.Path.{ap}
use mathlib.Core.List.{List, [], ◌∷◌, ◌++◌, map, flat_map}
use Rattle.std.proofs.Math.ListN.{take, length-map, get_or-map}
use Rattle.mesh.specs.Cells.{Cell, none, no_cell, Four}
use Rattle.mesh.specs.Weights.{Point}
use Rattle.mesh.specs.Table.{levels_of, cells_of}
use Rattle.mesh.specs.Layout.{Corner, row_of, map_cell, number_in, cell_table}
use Rattle.base.specs.Every.{All}
use Rattle.ancestors.specs.Climb.{level_in, Upward, upward_to, climb_from}
use Rattle.ancestors.specs.Linked.{Linked, ancestor_of}
use Rattle.ancestors.specs.Ways.{upward, climb_right, turns_level}
use Rattle.ancestors.specs.Levels.{cells_linked, map_linked}
use Rattle.ancestors.specs.Points.{cells_four, map-four}
use Rattle.base.specs.Each.{default_free}
use Rattle.rows.specs.Laws.{rows_size}

rows-map : (ks : List Corner) (cs : List (Cell Point)) → cell_table ks cs ≡ flat_map row_of (map (map_cell (number_in ks)) cs)
unfolding cell_table flat_map
rows-map ks [] = refl
rows-map ks (c ∷ cs) = ap (λ (l : List ℕ). row_of (map_cell (number_in ks) c) ++ l) (rows-map ks cs)

-- a row has eight numbers
rows_number : (ks : List Corner) (cs : List (Cell Point)) → All Four cs → length (cell_table ks cs) ≡ 8 * length cs
rows_number ks cs four =
    let m : List (Cell ℕ) = map (map_cell (number_in ks)) cs in
    ap length (rows-map ks cs) ∙ rows_size m (map-four (number_in ks) cs four)
    ∙ ap (λ (n : ℕ). 8 * n) (length-map cs (map_cell (number_in ks)))

pub table_size : (n : ℕ) (qs : List (List ℕ)) (ss : List ℕ) → All (λ q. length q ≡ 4) qs → (ks : List Corner)
    → length (cell_table ks (cells_of (levels_of n qs ss))) ≡ 8 * length (cells_of (levels_of n qs ss))
table_size n qs ss four ks = rows_number ks (cells_of (levels_of n qs ss)) (cells_four n qs ss four)

-- the rows of linked cells, over the numbers of their corners
module _ (ks : List Corner) (cs : List (Cell Point)) (few : length cs ≤ none) (l : Linked cs) (four : All Four cs) (t : List ℕ)
    (rows : take (8 * length cs) t ≡ cell_table ks cs) where
  numbered : List (Cell ℕ)
  numbered = map (map_cell (number_in ks)) cs

  size : length numbered ≡ length cs
  unfolding numbered
  size = length-map cs (map_cell (number_in ks))

  numbers_few : length numbered ≤ none
  numbers_few = omega (arith, size, few)

  held : take (8 * length numbered) t ≡ flat_map row_of numbered
  unfolding numbered
  held = ap (λ (m : ℕ). take (8 * m) t) size ∙ rows ∙ rows-map ks cs

  rows_upward : (c : ℕ) → c < length cs → Upward t (c + 1)
  unfolding numbered
  rows_upward c h =
      upward_to (upward numbered numbers_few (map_linked (number_in ks) cs l) (map-four (number_in ks) cs four) t held) c
      (omega (arith, size))

  rows_climb : (c : ℕ) → c < length cs → (d : Cell Point) → climb_from t c c ≡ ancestor_of (get_or cs c d)
  unfolding numbered map_cell
  rows_climb c h d =
      climb_right numbered numbers_few (map_linked (number_in ks) cs l) (map-four (number_in ks) cs four) t held c (omega (arith, size))
      ∙ ap ancestor_of (get_or-map (map_cell (number_in ks)) cs c no_cell) ∙ ap ancestor_of (default_free cs c no_cell d h)

  rows_turns : (c : ℕ) → c < length cs → (climb_from t c c).level ≡ level_in t c
  unfolding numbered
  rows_turns c h =
      turns_level numbered numbers_few (map_linked (number_in ks) cs l) (map-four (number_in ks) cs four) t held c (omega (arith, size))

-- the table that a status table over cells of four corners is laid out as
module _ (n : ℕ) (qs : List (List ℕ)) (ss : List ℕ) (four : All (λ q. length q ≡ 4) qs) (few : length (cells_of (levels_of n qs ss)) ≤ none)
    (ks : List Corner) (t : List ℕ)
    (rows : take (8 * length (cells_of (levels_of n qs ss))) t ≡ cell_table ks (cells_of (levels_of n qs ss))) (c : ℕ)
    (h : c < length (cells_of (levels_of n qs ss))) where
  pub table_upward : Upward t (c + 1)
  table_upward = rows_upward ks (cells_of (levels_of n qs ss)) few (cells_linked n qs ss) (cells_four n qs ss four) t rows c h

  -- Rule 3.5: the way ends at the cell's coarse cell, after as many turns as the cell's level.
  pub table_climb : (d : Cell Point) → climb_from t c c ≡ ancestor_of (get_or (cells_of (levels_of n qs ss)) c d)
  table_climb = rows_climb ks (cells_of (levels_of n qs ss)) few (cells_linked n qs ss) (cells_four n qs ss four) t rows c h

  -- Rules 3.5, 9.2: the turns are the level in the cell's row.
  pub table_turns : (climb_from t c c).level ≡ level_in t c
  table_turns = rows_turns ks (cells_of (levels_of n qs ss)) few (cells_linked n qs ss) (cells_four n qs ss four) t rows c h
