-- The two corners of an edge in a table of rows.
-- Assumes nothing.
use mathlib.Core.Path.{◌≡◌, ap₂}
use mathlib.Core.List.{List}
use Prim.Native.Nat.{ℕ, zero, suc, ◌+◌, ◌*◌, ◌<◌}
use native.Mathlib.Omega.{arith}
use lib.ListN.{get_or}
use Rattle.mesh.specs.Cells.{edge}
use Rattle.rows.specs.Numbered.{cell_at}
use Rattle.rows.specs.EdgeEnds.{lows, highs}
use Rattle.edges.specs.Pairs.{Pair}

module _ (t : List ℕ) (k : ℕ) where
  at0 : get_or t (8 * k + 4 + 0) 0 ≡ get_or t (8 * k + 4) 0
  at0 = let e : 8 * k + 4 + 0 ≡ 8 * k + 4 = omega arith in rw e

  at1 : get_or t (8 * k + 4 + 1) 0 ≡ get_or t (8 * k + 5) 0
  at1 = let e : 8 * k + 4 + 1 ≡ 8 * k + 5 = omega arith in rw e

  at2 : get_or t (8 * k + 4 + 2) 0 ≡ get_or t (8 * k + 6) 0
  at2 = let e : 8 * k + 4 + 2 ≡ 8 * k + 6 = omega arith in rw e

  at3 : get_or t (8 * k + 4 + 3) 0 ≡ get_or t (8 * k + 7) 0
  at3 = let e : 8 * k + 4 + 3 ≡ 8 * k + 7 = omega arith in rw e

  pub ends_at : (e : ℕ) → e < 6 → ◌≡◌ {A = Pair} (get_or t (8 * k + 4 + get_or lows e 0) 0, get_or t (8 * k + 4 + get_or highs e 0) 0)
      (edge 0 (cell_at t k) e)
  unfolding edge cell_at
  ends_at zero h = ap₂ (λ (a b : ℕ). (a, b)) at0 at1
  ends_at (suc zero) h = ap₂ (λ (a b : ℕ). (a, b)) at0 at2
  ends_at (suc (suc zero)) h = ap₂ (λ (a b : ℕ). (a, b)) at0 at3
  ends_at (suc (suc (suc zero))) h = ap₂ (λ (a b : ℕ). (a, b)) at1 at2
  ends_at (suc (suc (suc (suc zero)))) h = ap₂ (λ (a b : ℕ). (a, b)) at1 at3
  ends_at (suc (suc (suc (suc (suc zero))))) h = ap₂ (λ (a b : ℕ). (a, b)) at2 at3
  ends_at (suc (suc (suc (suc (suc (suc e)))))) h = absurd (omega arith)
