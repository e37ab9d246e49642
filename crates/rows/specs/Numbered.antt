-- The mesh over corner numbers: what the program holds. Cells are those of `mesh` over numbers; new corners are named by the
-- pairs of their ends' numbers, in the order of first appearance, and numbered from n on, the number of coarse corners.
--   cell_at t k           the cell k of a table of rows (its path is not in the table)
--   cells_at t k m        the m cells from k on
--   part l k m           the m elements of l from k on
--   ends_from es cs ss    the ends of the corners, with those that the cells cs with statuses ss add
--   point_at n es c d     the number of the point d of c
--   next_of n es k cs ss  the cells one level up of cs, numbered from k, with statuses ss
--   child_rows l k r f i ds  the rows of children on level l of the cell k, from child number i on
--   rows_of l k s f       the rows of the whole family, where f gives the point of a digit
use Rattle.std.specs.Prelude.{Bool, true, false, List, [], ◌∷◌, ◌++◌, map, ℕ, zero, suc, ◌+◌, ◌*◌, eqb, get_or, take, drop}
use Rattle.base.specs.Bools.{one_if}
use Rattle.base.specs.Places.{place_in}
use Rattle.cutting.specs.Rule.{low, high, family}
use Rattle.mesh.specs.Cells.{Cell, corner, redb, pattern_of, children}
use Rattle.mesh.specs.Layout.{split_edges}
use Rattle.edges.specs.Pairs.{Pair, sorted, isb, add_pairs}

-- Rule 9.2: the cell of a row.
unfoldable pub cell_at : List ℕ → ℕ → Cell ℕ
cell_at t k =
    record {
      path = [];
      parent = get_or t (8 * k + 1) 0;
      regular = eqb (get_or t (8 * k + 3) 0) 1;
      points = get_or t (8 * k + 4) 0 ∷ get_or t (8 * k + 5) 0 ∷ get_or t (8 * k + 6) 0 ∷ get_or t (8 * k + 7) 0 ∷ [];
    }

-- Rule 9.2: of consecutive rows.
unfoldable pub cells_at : List ℕ → ℕ → ℕ → List (Cell ℕ)
unfolding cell_at
cells_at t k zero = []
cells_at t k (suc m) = cells_at t k m ++ (cell_at t (k + m) ∷ [])

abbrev pub part : {A : Type 0} → List A → ℕ → ℕ → List A
part l k m = take m (drop k l)

-- Rule 5.5, by the ends' numbers: pairs by first appearance.
unfoldable pub ends_from : List Pair → List (Cell ℕ) → List ℕ → List Pair
unfolding add_pairs split_edges
ends_from es [] ss = es
ends_from es (c ∷ cs) [] = es
ends_from es (c ∷ cs) (s ∷ ss) = ends_from (add_pairs es (split_edges 0 c s)) cs ss

-- Rule 5.5: a midpoint's number, found by its ends.
unfoldable pub point_at : ℕ → List Pair → Cell ℕ → ℕ → ℕ
unfolding low high place_in isb sorted
point_at n es c d =
    elim (eqb (low d) (high d)) [
      | true ↦ corner 0 c (low d)
      | false ↦ n + place_in isb es (sorted (corner 0 c (low d), corner 0 c (high d)))
    ]

-- Rules 3.2, 4.4: one level up, over numbers.
unfoldable pub next_of : ℕ → List Pair → ℕ → List (Cell ℕ) → List ℕ → List (Cell ℕ)
unfolding children point_at
next_of n es k [] ss = []
next_of n es k (c ∷ cs) [] = []
next_of n es k (c ∷ cs) (s ∷ ss) = children k c s (point_at n es c) ++ next_of n es (suc k) cs ss

-- Rule 9.2: the rows of a family from child i on.
unfoldable pub child_rows : ℕ → ℕ → Bool → (ℕ → ℕ) → ℕ → List (List ℕ) → List ℕ
unfolding one_if
child_rows l k r f i [] = []
child_rows l k r f i (d ∷ ds) = (l ∷ k ∷ i ∷ one_if r ∷ map f d) ++ child_rows l k r f (suc i) ds

-- Rules 4.1, 9.2: the rows of a cell's family; a leaf has none.
unfoldable pub rows_of : ℕ → ℕ → ℕ → (ℕ → ℕ) → List ℕ
unfolding child_rows pattern_of
rows_of l k s f = elim (eqb s 0) [ true ↦ [] | false ↦ child_rows l k (redb s) f 0 (family (pattern_of s)) ]
