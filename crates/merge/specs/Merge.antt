-- Merging all stores of a split: they are examined, and their masters put in the order of a table.
--   stores_in b            the stores that a lent table has, as many as the first says there are parts
--   alikeb x y            y is done, and of the same parts, corners, coarse cells and result as x
--   everyb xs             each part is among the stores
--   ownsb i x             the store has the coarse cell i as master; corners_among xs i its corners, from the first that does
--   merge_cells xs         the corners of all coarse cells; merge_entries xs the masters and ghosts of all stores
--   merge_table xs         the table that they make
--   mergeb xs             the stores merge; merge_answer b t: 15, then 16
use Rattle.std.specs.Prelude.{Bool, true, false, ◌&&◌, ℕ, ◌+◌, ◌*◌, eqb, leb, length, take, drop}
use mathlib.Core.List.{List, [], ◌∷◌, map, flat_map, flatten}
use Rattle.base.specs.Limits.{most_cells, most_parts}
use Rattle.base.specs.Lists.{allb, anyb}
use Rattle.base.specs.Range.{range}
use Rattle.base.specs.Refuse.{refuse}
use Rattle.base.specs.Answer.{Answer}
use Rattle.base.specs.Answer.{Accepted}
use Rattle.mesh.specs.Coarse.{cellsb}
use Rattle.mesh.specs.Table.{soundb}
use Rattle.parts.specs.Held.{Entry}
use Rattle.parts.specs.Merge.{merged, completeb}
use Rattle.store.specs.Fields.{field, full, STAGE, PART, PARTS, CORNERS, COARSE, RESULT, OWNER, CORNER}
use Rattle.store.specs.Header.{headerb}
use Rattle.store.specs.Stores.{store_in, stores_by}
use Rattle.held.specs.Held.{held_in}

-- Rule 15.12.
unfoldable pub stores_in : List ℕ → List (List ℕ)
unfolding store_in range
stores_in b = stores_by b (field b PARTS)

-- Rule 15.16.
unfoldable pub alikeb : List ℕ → List ℕ → Bool
unfolding headerb
alikeb x y =
    headerb y && (eqb (field y STAGE) 2 && (eqb (field y PARTS) (field x PARTS) && (eqb (field y CORNERS) (field x CORNERS)
    && (eqb (field y COARSE) (field x COARSE) && eqb (field y RESULT) (field x RESULT)))))

-- Rule 15.16: as many stores as parts: where each part is among them, it is so once
unfoldable pub everyb : List (List ℕ) → Bool
unfolding allb anyb range
everyb xs = allb (λ p. anyb (λ x. eqb (field x PART) p) xs) (range 1 (length xs))

-- Rule 15.2.
unfoldable pub ownsb : ℕ → List ℕ → Bool
ownsb i x = eqb (field x (OWNER + i)) (field x PART)

-- Rule 15.12.
unfoldable pub corners_among : List (List ℕ) → ℕ → List ℕ
unfolding ownsb
corners_among [] i = []
corners_among (x ∷ xs) i = elim (ownsb i x) [ true ↦ take 4 (drop (CORNER + 4 * i) x) | false ↦ corners_among xs i ]

-- Rule 15.12.
unfoldable pub merge_cells : List (List ℕ) → ℕ → List (List ℕ)
unfolding corners_among range
merge_cells xs m = map (corners_among xs) (range 0 m)

-- Rule 15.12.
unfoldable pub merge_entries : List (List ℕ) → List Entry
unfolding held_in flat_map
merge_entries xs = flat_map held_in xs

-- Rule 15.12.
unfoldable pub merge_table : List (List ℕ) → ℕ → List ℕ
unfolding merged merge_entries flatten
merge_table xs m = flatten (merged (merge_entries xs) m)

-- Rule 15.16: n coarse corners, m coarse cells: each coarse cell has a master with corners in order, each place that the table asks for has
-- one and nothing else has, and the table is sound
unfoldable pub meshesb : ℕ → ℕ → List (List ℕ) → Bool
unfolding allb anyb ownsb cellsb completeb soundb merge_cells merge_entries merge_table range
meshesb n m xs =
    (allb (λ i. anyb (ownsb i) xs) (range 0 m) && cellsb n (merge_cells xs m))
    && (completeb (merge_entries xs) m && soundb n (merge_cells xs m) (merge_table xs m))

-- Rule 15.16: the first store says how many parts, corners and coarse cells there are
unfoldable pub mergeb : List ℕ → Bool
unfolding headerb alikeb everyb meshesb stores_in
mergeb b =
    headerb b && (allb (alikeb b) (stores_in b) && (everyb (stores_in b)
    && meshesb (field b CORNERS) (field b COARSE) (stores_in b)))

-- Rules 15.12, 15.16.
unfoldable pub merge_answer : List ℕ → List ℕ → Answer
unfolding refuse mergeb
merge_answer b t = refuse 15 (leb (most_parts * full) (length b) && leb most_cells (length t)) (refuse 16 (mergeb b) Accepted)
