-- Corners by their weights on coarse corners (docs/METHOD.md, section 5).
--   Point              a corner's weights, one for each coarse corner
--   coarse n i         coarse corner i of n
--   mid p q            the midpoint of p and q
--   point c d          the point with digit d of the cell c
--   coarse_cells n qs   the coarse cells
use Rattle.std.specs.Prelude.{true, ℕ, suc, ◌+◌, ◌/◌, replicate, set}
use mathlib.Core.List.{List, [], ◌∷◌, map, zip_with}
use Rattle.cutting.specs.Rule.{low, high}
use Rattle.mesh.specs.Cells.{Cell, none, corner}

-- Rule 5.1: one weight for each coarse corner.
abbrev pub Point : Type 0
Point = List ℕ

-- Rule 5.1: a coarse corner has all 1,024 on itself.
unfoldable pub coarse : ℕ → ℕ → Point
coarse n i = set (replicate n 0) i 1024

-- Rule 5.2: half the sum, at each coarse corner.
unfoldable pub mid : Point → Point → Point
unfolding zip_with
mid p q = zip_with (λ x y. (x + y) / 2) p q

-- Rules 2.3, 5.2: the point of a digit. A corner is the midpoint of itself and itself.
unfoldable pub point : Cell Point → ℕ → Point
unfolding mid low high
point c d = mid (corner [] c (low d)) (corner [] c (high d))

-- Rules 3.1, 4.2: the coarse cells from number i on, all regular.
unfoldable pub coarse_from : ℕ → ℕ → List (List ℕ) → List (Cell Point)
unfolding coarse
coarse_from n i [] = []
coarse_from n i (q ∷ qs) =
    record { path = i ∷ []; parent = none; regular = true; points = map (coarse n) q } ∷ coarse_from n (suc i) qs

-- Rule 3.1: level 0.
unfoldable pub coarse_cells : ℕ → List (List ℕ) → List (Cell Point)
unfolding coarse_from
coarse_cells n qs = coarse_from n 0 qs
