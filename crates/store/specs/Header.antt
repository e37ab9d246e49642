-- The numbers of a store that have a range: 16 is answered where one lies outside of it.
--   stageb x       the stage fits the round and the result
--   headerb x      so do the part, the parts and the counts of the table that was split
use Rattle.std.specs.Prelude.{Bool, true, false, ◌&&◌, ◌||◌, List, ℕ, ◌+◌, ◌*◌, eqb, leb}
use Rattle.base.specs.Limits.{most_coarse_corners, most_coarse_cells, most_cells, most_levels, most_parts}
use Rattle.store.specs.Fields.{field, STAGE, PART, PARTS, CORNERS, COARSE, CELLS, LEVELS, ROUND, RESULT, ENTRIES}

-- Rule 15.16.
unfoldable pub stageb : List ℕ → Bool
stageb x =
    elim (eqb (field x STAGE) 0) [
      | true ↦ eqb (field x ROUND) 0 && eqb (field x RESULT) 0
      | false ↦ elim (eqb (field x STAGE) 1) [
        | true ↦ leb (field x ROUND) (2 * field x LEVELS) && eqb (field x RESULT) 0
        | false ↦ eqb (field x STAGE) 2 && (eqb (field x ROUND) (2 * field x LEVELS + 1)
            && (eqb (field x RESULT) 0 || (eqb (field x RESULT) 8 || eqb (field x RESULT) 9)))
      ]
    ]

-- Rule 15.16.
unfoldable pub headerb : List ℕ → Bool
unfolding stageb
headerb x =
    leb 1 (field x PARTS) && (leb (field x PARTS) most_parts && (leb 1 (field x PART) && (leb (field x PART) (field x PARTS)
    && (leb 4 (field x CORNERS) && (leb (field x CORNERS) most_coarse_corners
    && (leb 1 (field x COARSE) && (leb (field x COARSE) most_coarse_cells
    && (leb (field x COARSE) (field x CELLS) && (leb (field x CELLS) most_cells
    && (leb 1 (field x LEVELS) && (leb (field x LEVELS) most_levels
    && (leb (field x ENTRIES) most_cells && stageb x))))))))))))
