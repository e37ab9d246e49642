-- Coarse meshes (docs/METHOD.md, section 1) and their refusals 1 to 5. A mesh is two flat lists: three numbers a corner,
-- four corner numbers a cell.
--   countsb ps ts        refusal 1: whole corners and cells, and how many
--   positionsb ps        refusal 2: each number of a position
--   cellsb n qs          refusal 3: each cell's corner numbers, of n corners
--   determinant ps q     of the three edge vectors of the cell q, from its first corner
--   solidb ps qs         refusal 4: no cell is flat
--   singleb qs           refusal 5: no two cells with the same corners, no face in three cells
--   mesh_answer ps ts     the answer to a mesh: accepted, or 1 to 5
use Rattle.std.specs.Prelude.{Bool, false, ◌&&◌, ◌||◌, not, ℕ, ◌+◌, ◌*◌, ◌/◌, ◌%◌, eqb, leb, ltb, length, get_or, ℤ, pos, nat_abs, ◌+ℤ◌, ◌-ℤ◌, ◌*ℤ◌}
use mathlib.Core.List.{List, [], ◌∷◌, flat_map}
use Rattle.base.specs.Lists.{allb, anyb, sameb}
use Rattle.base.specs.Fours.{fours, faces, holders}
use Rattle.base.specs.Refuse.{refuse}
use Rattle.base.specs.Answer.{Answer}
use Rattle.base.specs.Answer.{Accepted}
use Rattle.base.specs.Limits.{most_coarse_corners, most_coarse_cells}
use Rattle.cutting.specs.Rule.{zerob}

-- Rule 1.1: three numbers a corner.
abbrev pub coarse_corner_count : List ℤ → ℕ
coarse_corner_count ps = length ps / 3

-- Rule 1.1: four numbers a cell.
abbrev pub cell_count : List ℕ → ℕ
cell_count ts = length ts / 4

-- Rule 1.2: whole corners and cells, 4 to 512 and 1 to 256 of them.
unfoldable pub countsb : List ℤ → List ℕ → Bool
countsb ps ts =
    (eqb (length ps % 3) 0 && eqb (length ts % 4) 0)
    && ((leb 4 (coarse_corner_count ps) && leb (coarse_corner_count ps) most_coarse_corners) && (leb 1 (cell_count ts) && leb (cell_count ts) most_coarse_cells))

-- Rule 1.3: every coordinate within 500,000 of 0.
unfoldable pub positionsb : List ℤ → Bool
unfolding allb
positionsb ps = allb (λ z. leb (nat_abs z) 500000) ps

-- Rule 1.4: four ascending numbers of corners that are there.
unfoldable pub cellb : ℕ → List ℕ → Bool
cellb n q = (ltb (get_or q 0 0) (get_or q 1 0) && ltb (get_or q 1 0) (get_or q 2 0)) && (ltb (get_or q 2 0) (get_or q 3 0) && ltb (get_or q 3 0) n)

-- Rule 1.4, of all cells.
unfoldable pub cellsb : ℕ → List (List ℕ) → Bool
unfolding allb cellb
cellsb n qs = allb (cellb n) qs

-- Rule 1.1: coordinate k of corner i.
unfoldable pub coordinate_at : List ℤ → ℕ → ℕ → ℤ
coordinate_at ps i k = get_or ps (3 * i + k) (pos 0)

-- Rule 1.5: the determinant of the vectors from the first corner to the others.
unfoldable pub determinant : List ℤ → List ℕ → ℤ
unfolding coordinate_at
determinant ps q =
    let ax = coordinate_at ps (get_or q 0 0) 0 in let ay = coordinate_at ps (get_or q 0 0) 1 in let az = coordinate_at ps (get_or q 0 0) 2 in
    let bx = coordinate_at ps (get_or q 1 0) 0 -ℤ ax in let by = coordinate_at ps (get_or q 1 0) 1 -ℤ ay in
    let bz = coordinate_at ps (get_or q 1 0) 2 -ℤ az in
    let cx = coordinate_at ps (get_or q 2 0) 0 -ℤ ax in let cy = coordinate_at ps (get_or q 2 0) 1 -ℤ ay in
    let cz = coordinate_at ps (get_or q 2 0) 2 -ℤ az in
    let dx = coordinate_at ps (get_or q 3 0) 0 -ℤ ax in let dy = coordinate_at ps (get_or q 3 0) 1 -ℤ ay in
    let dz = coordinate_at ps (get_or q 3 0) 2 -ℤ az in
    bx *ℤ (cy *ℤ dz -ℤ cz *ℤ dy) -ℤ by *ℤ (cx *ℤ dz -ℤ cz *ℤ dx) +ℤ bz *ℤ (cx *ℤ dy -ℤ cy *ℤ dx)

-- Rule 1.5: it is 0 for no cell, whatever its sign.
unfoldable pub solidb : List ℤ → List (List ℕ) → Bool
unfolding allb determinant zerob
solidb ps qs = allb (λ q. not (zerob (determinant ps q))) qs

-- Rule 1.6: the same four corners again.
unfoldable pub twiceb : List (List ℕ) → Bool
unfolding anyb sameb
twiceb [] = false
twiceb (q ∷ qs) = anyb (sameb q) qs || twiceb qs

-- Rule 1.6: no cell twice, no face in three cells or more.
unfoldable pub singleb : List (List ℕ) → Bool
unfolding twiceb anyb holders faces flat_map
singleb qs = not (twiceb qs) && not (anyb (λ t. leb 3 (holders qs t)) (flat_map faces qs))

-- Rule 12.5: 1 to 5, each on the whole mesh before the next.
unfoldable pub mesh_answer : List ℤ → List ℕ → Answer
unfolding refuse countsb positionsb cellsb solidb singleb fours
mesh_answer ps ts =
    refuse 1 (countsb ps ts)
    (refuse 2 (positionsb ps)
    (refuse 3 (cellsb (coarse_corner_count ps) (fours ts))
    (refuse 4 (solidb ps (fours ts))
    (refuse 5 (singleb (fours ts)) Accepted))))
