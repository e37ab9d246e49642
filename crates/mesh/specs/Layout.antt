-- The numbers of corners, and what laying a table out gives (docs/METHOD.md, sections 5, 8 and 9).
--   Corner               a corner: its weights, and the numbers of its two ends, the lower first (a coarse corner is both)
--   weights_of ks         the weights of the corners
--   number_in ks p        the number of the corner with the weights p
--   coarse_corners n      the coarse corners
--   split_edges c s       the edges of c that its status splits, in edge order
--   add_corner ks e       the list with the midpoint of the edge e behind it, where it is not in it
--   corners_of n cs ss    the corners of a table with cells cs, in the order of their numbers
--   row_of ks c           the row of the cell c: level, parent, child number, 1 where it is regular, four corner numbers
--   weighted_sum ps k p   the weighted whole sum of coordinate k
--   cell_table, end_table, sum_table   what the lent tables of a layout hold: rows of eight, two, three numbers
use Rattle.std.specs.Prelude.{true, false, ℕ, zero, suc, ◌+◌, ◌*◌, pred, min, max, length, ℤ, pos, ◌+ℤ◌, ◌*ℤ◌}
use mathlib.Core.List.{List, [], ◌∷◌, ◌++◌, map, flat_map}
use Rattle.base.specs.Lists.{filterb, sameb}
use Rattle.base.specs.Bools.{one_if}
use Rattle.base.specs.Places.{hasb, place_in}
use Rattle.cutting.specs.Rule.{split}
use Rattle.mesh.specs.Cells.{Cell, edge, pattern_of}
use Rattle.mesh.specs.Weights.{Point, coarse, mid}
use Rattle.mesh.specs.Coarse.{coordinate_at}

-- Rules 5.1, 9.3: a corner's weights and ends.
pub record Corner : Type 0 where
  pub weights : Point
  pub low : ℕ
  pub high : ℕ

-- Rule 5.1.
abbrev pub weights_of : List Corner → List Point
weights_of ks = map (λ k. k.weights) ks

-- Rules 5.3, 5.5: a corner's number is its place; equal weights have one.
unfoldable pub number_in : List Corner → Point → ℕ
unfolding place_in sameb
number_in ks p = place_in sameb (weights_of ks) p

-- Rule 9.3: a coarse corner is both its own ends.
unfoldable pub coarse_corners_to : ℕ → ℕ → List Corner
unfolding coarse
coarse_corners_to n zero = []
coarse_corners_to n (suc i) = coarse_corners_to n i ++ (record { weights = coarse n i; low = i; high = i } ∷ [])

-- Rule 5.5: they come first.
unfoldable pub coarse_corners : ℕ → List Corner
unfolding coarse_corners_to
coarse_corners n = coarse_corners_to n n

-- Rule 2.1: the six edges.
abbrev pub edge_numbers : List ℕ
edge_numbers = 0 ∷ 1 ∷ 2 ∷ 3 ∷ 4 ∷ 5 ∷ []

module _ {A : Type 0} (o : A) where
  -- Rules 4.1, 5.5: all six of a red cell, those of its pattern of a green one.
  unfoldable pub split_edges : Cell A → ℕ → List (A × A)
  unfolding edge filterb split pattern_of
  split_edges c s = map (edge o c) (filterb (split (pattern_of s)) edge_numbers)

-- Rule 5.5: a midpoint that is not there yet comes next.
unfoldable pub add_corner : List Corner → Point × Point → List Corner
unfolding hasb sameb number_in mid
add_corner ks e =
    let m = mid e.0 e.1 in
    let a = number_in ks e.0 in
    let b = number_in ks e.1 in
    elim (hasb sameb (weights_of ks) m) [ true ↦ ks | false ↦ ks ++ (record { weights = m; low = min a b; high = max a b } ∷ []) ]

-- Rule 5.5, edge by edge.
unfoldable pub add_corners : List Corner → List (Point × Point) → List Corner
unfolding add_corner
add_corners ks [] = ks
add_corners ks (e ∷ es) = add_corners (add_corner ks e) es

-- Rule 5.5, cell by cell.
unfoldable pub corners_from : List Corner → List (Cell Point) → List ℕ → List Corner
unfolding add_corners split_edges
corners_from ks [] ss = ks
corners_from ks (c ∷ cs) [] = ks
corners_from ks (c ∷ cs) (s ∷ ss) = corners_from (add_corners ks (split_edges [] c s)) cs ss

-- Rule 5.5: the coarse corners, then midpoints by first appearance.
unfoldable pub corners_of : ℕ → List (Cell Point) → List ℕ → List Corner
unfolding corners_from coarse_corners
corners_of n cs ss = corners_from (coarse_corners n) cs ss

-- Rule 9.2: the last number of a path; a coarse cell has none, and 0 stands for it.
unfoldable pub child_number : List ℕ → ℕ
child_number [] = 0
child_number (i ∷ []) = 0
child_number (i ∷ j ∷ []) = j
child_number (i ∷ j ∷ k ∷ l) = child_number (j ∷ k ∷ l)

-- Rule 9.2: the row of a cell over the numbers of its corners.
unfoldable pub row_of : Cell ℕ → List ℕ
unfolding child_number one_if
row_of c = pred (length c.path) ∷ c.parent ∷ child_number c.path ∷ one_if c.regular ∷ c.points

-- The same cell over other points.
unfoldable pub map_cell : {A B : Type 0} → (A → B) → Cell A → Cell B
map_cell f c = record { path = c.path; parent = c.parent; regular = c.regular; points = map f c.points }

-- Rule 9.2: the rows of all cells.
unfoldable pub cell_table : List Corner → List (Cell Point) → List ℕ
unfolding row_of map_cell number_in flat_map
cell_table ks cs = flat_map (λ c. row_of (map_cell (number_in ks) c)) cs

-- Rule 9.3: the ends of all corners.
unfoldable pub end_table : List Corner → List ℕ
unfolding flat_map
end_table ks = flat_map (λ k. k.low ∷ k.high ∷ []) ks

-- Rule 8.1: weight times coordinate, from the coarse corner i on.
unfoldable pub weighted_from : List ℤ → ℕ → ℕ → Point → ℤ
unfolding coordinate_at
weighted_from ps k i [] = pos 0
weighted_from ps k i (w ∷ ws) = pos w *ℤ coordinate_at ps i k +ℤ weighted_from ps k (suc i) ws

-- Rule 8.1: the whole sum.
unfoldable pub weighted_sum : List ℤ → ℕ → Point → ℤ
unfolding weighted_from
weighted_sum ps k p = weighted_from ps k 0 p

-- Rule 9.4: three sums a corner.
unfoldable pub sum_table : List ℤ → List Corner → List ℤ
unfolding weighted_sum flat_map
sum_table ps ks = flat_map (λ k. weighted_sum ps 0 k.weights ∷ weighted_sum ps 1 k.weights ∷ weighted_sum ps 2 k.weights ∷ []) ks
