-- The coarse cells over corner numbers: their points are the numbers that the mesh is given by.
--   coarse_numbers qs   the coarse cells over corner numbers
-- Laws: coarse_placed (their points are corners), coarse_numbers_lem (they are the coarse cells of `mesh`).
use Rattle.std.specs.Prelude.{◌≡◌, true, ℕ, suc, ◌<◌, T, length, get_or}
use Rattle.std.proofs.Math.Path.{refl, ap₂}
use Rattle.std.proofs.Common.{◌∙◌, ap, arith, ltb→lt}
use mathlib.Core.List.{List, [], ◌∷◌, map}
use Rattle.std.proofs.Math.ListN.{length-map}
use Rattle.base.specs.Lists.{allb}
use Rattle.base.specs.Bools.{and_left, and_right}
use Rattle.mesh.specs.Cells.{Cell, none}
use Rattle.mesh.specs.Weights.{coarse, coarse_from, coarse_cells}
use Rattle.mesh.specs.Coarse.{cellb, cellsb}
use Rattle.mesh.specs.Layout.{Corner, number_in, map_cell}
use Rattle.edges.specs.Pairs.{Pair}
use Rattle.base.specs.Every.{All, all_from, below_at}
use Rattle.numbering.specs.Corners.{Has, NumberedCorners, has_corner, weights_coarse, number_coarse}
use Rattle.numbering.specs.Tests.{numbered_cells, Placed}

-- Rule 3.1, over numbers, from cell i on.
unfoldable pub coarse_numbers_from : ℕ → List (List ℕ) → List (Cell ℕ)
coarse_numbers_from i [] = []
coarse_numbers_from i (q ∷ qs) = record { path = i ∷ []; parent = none; regular = true; points = q } ∷ coarse_numbers_from (suc i) qs

-- Rule 3.1, over numbers.
unfoldable pub coarse_numbers : List (List ℕ) → List (Cell ℕ)
unfolding coarse_numbers_from
coarse_numbers qs = coarse_numbers_from 0 qs

rising : (n : ℕ) (q : List ℕ) → T (cellb n q) → (get_or q 0 0 < get_or q 1 0) × (get_or q 1 0 < get_or q 2 0) × (get_or q 2 0 < get_or q 3 0)
    × (get_or q 3 0 < n)
unfolding cellb
rising n q t = search (and_left, and_right, ltb→lt)

cell_below : (n : ℕ) (q : List ℕ) → length q ≡ 4 → T (cellb n q) → All (λ i. i < n) q
cell_below n q e t =
    let (a, b, c, d) = rising n q t in
    all_from (λ i. i < n) 0 q (λ k h. below_at (λ k. get_or q k 0 < n) 4 (omega arith) k (omega arith))

module _ (n : ℕ) (ks : List Corner) (es : List Pair) (c : NumberedCorners n ks es) where
  coarse_has : (q : List ℕ) → All (λ i. i < n) q → All (Has ks) (map (coarse n) q)
  coarse_has [] h = tt
  coarse_has (i ∷ q) h = (rw (weights_coarse n ks es c i h.0) at (has_corner ks i (omega (arith, h.0, c.count))), coarse_has q h.1)

  coarse_numbered : (q : List ℕ) → All (λ i. i < n) q → map (number_in ks) (map (coarse n) q) ≡ q
  coarse_numbered [] h = refl
  coarse_numbered (i ∷ q) h = ap₂ ◌∷◌ (number_coarse n ks es c i h.0) (coarse_numbered q h.1)

  coarse_placed_from : (i : ℕ) (qs : List (List ℕ)) → All (λ q. length q ≡ 4) qs → T (cellsb n qs) → All (Placed ks) (coarse_from n i qs)
  unfolding coarse_from cellsb allb
  coarse_placed_from i [] e t = tt
  coarse_placed_from i (q ∷ qs) e t = (
    record {
      four = length-map q (coarse n) ∙ e.0;
      each = coarse_has q (cell_below n q e.0 (and_left (cellb n q) (allb (cellb n) qs) t));
    },
    coarse_placed_from (suc i) qs e.1 (and_right (cellb n q) (allb (cellb n) qs) t),
  )

  coarse_numbers_from_lem : (i : ℕ) (qs : List (List ℕ)) → All (λ q. length q ≡ 4) qs → T (cellsb n qs)
      → numbered_cells ks (coarse_from n i qs) ≡ coarse_numbers_from i qs
  unfolding coarse_from coarse_numbers_from cellsb allb map_cell
  coarse_numbers_from_lem i [] e t = refl
  coarse_numbers_from_lem i (q ∷ qs) e t =
      ap₂ ◌∷◌
      (ap {A = List ℕ} {B = Cell ℕ} (λ l. record { path = i ∷ []; parent = none; regular = true; points = l })
      (coarse_numbered q (cell_below n q e.0 (and_left (cellb n q) (allb (cellb n) qs) t))))
      (coarse_numbers_from_lem (suc i) qs e.1 (and_right (cellb n q) (allb (cellb n) qs) t))

  module _ (qs : List (List ℕ)) (e : All (λ q. length q ≡ 4) qs) (t : T (cellsb n qs)) where
    pub coarse_placed : All (Placed ks) (coarse_cells n qs)
    unfolding coarse_cells
    coarse_placed = coarse_placed_from 0 qs e t

    pub coarse_numbers_lem : numbered_cells ks (coarse_cells n qs) ≡ coarse_numbers qs
    unfolding coarse_cells coarse_numbers
    coarse_numbers_lem = coarse_numbers_from_lem 0 qs e t
