-- The corners of a row, and the digits of the midpoints.
-- Assumes nothing.
use mathlib.Core.Path.{◌≡◌}
use mathlib.Core.List.{List, [], ◌∷◌}
use Prim.Native.Nat.{ℕ, ◌+◌, ◌*◌, ◌<◌}
use native.Mathlib.Omega.{arith}
use lib.Dec.{ltb, ltb→lt}
use lib.ListN.{get_or}
use Rattle.base.specs.Lists.{belowb, belowb_at}
use Rattle.rows.specs.Numbered.{cell_at}
use Rattle.growth.specs.Places.{middle_edge}
use Rattle.growth.specs.Points.{low_corners}

pub middle_below : (e : ℕ) → e < 6 → middle_edge e < 10
unfolding middle_edge belowb
middle_below e h = ltb→lt (middle_edge e) 10 (belowb_at (λ e. ltb (middle_edge e) 10) 6 tt e h)

module _ (t : List ℕ) (c : ℕ) where
  pub corners_read : (p q r s : ℕ) → p ≡ get_or t (8 * c + 4) 0 → q ≡ get_or t (8 * c + 4 + 1) 0 → r ≡ get_or t (8 * c + 4 + 2) 0
      → s ≡ get_or t (8 * c + 4 + 3) 0
      → ◌≡◌ {A = List ℕ} (p ∷ p ∷ p ∷ p ∷ q ∷ q ∷ q ∷ r ∷ r ∷ s ∷ []) (low_corners (cell_at t c))
  unfolding low_corners cell_at
  corners_read p q r s ep eq er es =
      let e : 8 * c + 4 + 1 ≡ 8 * c + 5 = omega arith in
      let f : 8 * c + 4 + 2 ≡ 8 * c + 6 = omega arith in
      let g : 8 * c + 4 + 3 ≡ 8 * c + 7 = omega arith in
      rw (ep, eq, er, es, e, f, g)
