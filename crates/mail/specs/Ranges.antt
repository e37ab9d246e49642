-- The ranges of a header (rule 15.16), by parts: those of the part and the parts, and those of the counts.
-- Law: header_parts (with those of the stage they are all).
use Rattle.std.specs.Prelude.{◌≡◌, refl, Bool, true, false, ◌&&◌, List, ℕ, leb}
use Rattle.base.specs.Limits.{most_coarse_corners, most_coarse_cells, most_cells, most_levels, most_parts}
use Rattle.store.specs.Fields.{field, PART, PARTS, CORNERS, COARSE, CELLS, LEVELS, ENTRIES}
use Rattle.store.specs.Header.{stageb, headerb}

-- Rule 15.16.
unfoldable pub partsb : List ℕ → Bool
partsb x = leb 1 (field x PARTS) && (leb (field x PARTS) most_parts && (leb 1 (field x PART) && leb (field x PART) (field x PARTS)))

-- Rule 15.16.
unfoldable pub countsb : List ℕ → Bool
countsb x =
    leb 4 (field x CORNERS) && (leb (field x CORNERS) most_coarse_corners
    && (leb 1 (field x COARSE) && (leb (field x COARSE) most_coarse_cells
    && (leb (field x COARSE) (field x CELLS) && (leb (field x CELLS) most_cells
    && (leb 1 (field x LEVELS) && (leb (field x LEVELS) most_levels && leb (field x ENTRIES) most_cells)))))))

joined : (a b c : Bool) → ((a && b) && c) ≡ (a && (b && c))
joined true b c = refl
joined false b c = refl

pub header_parts : (x : List ℕ) → headerb x ≡ (partsb x && (countsb x && stageb x))
unfolding headerb partsb countsb
header_parts x = simp joined refl
