-- From rows back to cells: what a table of rows holds of each cell, its path aside.
-- Assumes nothing.
use Rattle.std.specs.Prelude.{◌≡◌, refl, true, false, ℕ, zero, suc, ◌+◌, ◌*◌, ◌<◌, eqb, length, take}
use Rattle.std.proofs.Common.{sym, ◌∙◌, ap, ap₂, add-zero, arith, length-append, get_or-take, get_or-append-add}
use mathlib.Core.List.{List, [], ◌∷◌, ◌++◌, map, flat_map}
use Rattle.std.proofs.Math.ListN.{get_or}
use Rattle.base.specs.Bools.{eqb_one}
use Rattle.mesh.specs.Cells.{Cell, redb, edges, edge, red_edges, closed_from, status_of, pattern, no_cell, Four}
use Rattle.mesh.specs.Layout.{row_of, split_edges}
use Rattle.edges.specs.Pairs.{Pair, add_pairs}
use Rattle.rows.specs.Numbered.{cell_at, cells_at, ends_from}
use Rattle.base.specs.Every.{All}
use Rattle.base.specs.Fours.{four_points}
use Rattle.rows.specs.Laws.{cells_cons, row_at}

-- a cell without its path
abbrev pub strip : Cell ℕ → Cell ℕ
strip c = record { path = []; parent = c.parent; regular = c.regular; points = c.points }

all_at : (zs : List (Cell ℕ)) → All Four zs → (i : ℕ) → i < length zs → Four (get_or zs i no_cell)
all_at [] f i h = absurd (omega arith)
all_at (z ∷ zs) f zero h = f.0
all_at (z ∷ zs) f (suc i) h = all_at zs f.1 i (omega arith)

-- the table's first rows are those of the cells zs
module _ (t : List ℕ) (zs : List (Cell ℕ)) (f : All Four zs) (e : take (8 * length zs) t ≡ flat_map row_of zs) where
  number : (i r : ℕ) → i < length zs → r < 8 → get_or t (8 * i + r) 0 ≡ get_or (row_of (get_or zs i no_cell)) r 0
  number i r h k = sym (get_or-take (8 * length zs) t (8 * i + r) 0 (omega arith)) ∙ ap (λ (l : List ℕ). get_or l (8 * i + r) 0) e
      ∙ row_at zs f i r h k

  pub cell_at_lem : (i : ℕ) → i < length zs → cell_at t i ≡ strip (get_or zs i no_cell)
  unfolding cell_at row_of
  cell_at_lem i h =
      let z = get_or zs i no_cell in
      rw (
        number i 1 h (omega arith),
        number i 3 h (omega arith),
        number i 4 h (omega arith),
        number i 5 h (omega arith),
        number i 6 h (omega arith),
        number i 7 h (omega arith),
        eqb_one z.regular,
        four_points z.points (all_at zs f i h),
      )

get_d_middle : (xs ys : List (Cell ℕ)) (i : ℕ) → get_or (xs ++ ys) (length xs + i) no_cell ≡ get_or ys i no_cell
get_d_middle xs ys i = get_or-append-add xs ys i no_cell

from_cells : (t : List ℕ) (k : ℕ) (ys : List (Cell ℕ)) → ((i : ℕ) → i < length ys → cell_at t (k + i) ≡ strip (get_or ys i no_cell))
    → cells_at t k (length ys) ≡ map strip ys
unfolding cells_at
from_cells t k [] h = refl
from_cells t k (y ∷ ys) h =
    cells_cons t k (length ys)
    ∙ ap₂ ◌∷◌ (rw (add-zero k) at (h 0 (omega arith)))
    (from_cells t (suc k) ys (λ i l. let w : k + suc i ≡ suc k + i = omega arith in rw w at (h (suc i) (omega arith))))

-- the cells of a range
pub cells_at_lem : (t : List ℕ) (xs ys : List (Cell ℕ)) → All Four (xs ++ ys) → take (8 * length (xs ++ ys)) t ≡ flat_map row_of (xs ++ ys)
    → cells_at t (length xs) (length ys) ≡ map strip ys
cells_at_lem t xs ys f e =
    from_cells t (length xs) ys (λ i l. cell_at_lem t (xs ++ ys) f e (length xs + i) (omega (arith, length-append xs ys))
    ∙ ap strip (get_d_middle xs ys i))

-- Paths count for nothing in red edges, statuses and ends.
pub red_strip : (cs : List (Cell ℕ)) (ss : List ℕ) → red_edges 0 (map strip cs) ss ≡ red_edges 0 cs ss
unfolding red_edges edges edge
red_strip [] ss = refl
red_strip (c ∷ cs) [] = refl
red_strip (c ∷ cs) (s ∷ ss) = ap (λ (l : List Pair). elim (redb s) [ true ↦ edges 0 c ++ l | false ↦ l ]) (red_strip cs ss)

pub closed_strip : (es : List Pair) (cs : List (Cell ℕ)) (ss : List ℕ) → closed_from 0 eqb es (map strip cs) ss ≡ closed_from 0 eqb es cs ss
unfolding closed_from status_of pattern edges edge
closed_strip es [] [] = refl
closed_strip es [] (s ∷ ss) = refl
closed_strip es (c ∷ cs) [] = refl
closed_strip es (c ∷ cs) (s ∷ ss) = rw (closed_strip es cs ss)

pub ends_strip : (es : List Pair) (cs : List (Cell ℕ)) (ss : List ℕ) → ends_from es (map strip cs) ss ≡ ends_from es cs ss
unfolding ends_from split_edges edge
ends_strip es [] ss = refl
ends_strip es (c ∷ cs) [] = refl
ends_strip es (c ∷ cs) (s ∷ ss) = ends_strip (add_pairs es (split_edges 0 c s)) cs ss

pub points_strip : (cs : List (Cell ℕ)) → map (λ c. c.points) (map strip cs) ≡ map (λ c. c.points) cs
points_strip [] = refl
points_strip (c ∷ cs) = ap (λ (l : List (List ℕ)). c.points ∷ l) (points_strip cs)
