-- The counts of edges are no more than the cells: each part's own count of a slot is a tally over a level's cells by owner.
--   cells_down J i    how many cells the level i below the highest has
--   SlotsOnce J      each slot stands once among those of its level
-- Laws: range_once (numbers in a row stand once); and in proofs/Sums tallies_few (the tallies of all parts together are no more than the
-- cells), own_few (the own count of a slot), sum_few (what a part knows of a slot of a level, whatever it has taken), own_sum (in a round of
-- counts all that is known of a slot of its level is the own count).
use Rattle.std.specs.Prelude.{◌≡◌, eqb}
use Rattle.std.proofs.Math.Path.{refl, ap}
use Rattle.std.proofs.Common.{eq-eqb, ne_eqb}
use mathlib.Core.List.{[], ◌∷◌}
use Prim.Native.Nat.{ℕ, zero, suc, ◌-◌, ◌≤◌, ◌<◌}
use native.Mathlib.Omega.{arith}
use Rattle.std.proofs.Math.Decide.{ℕ_discrete}
use Rattle.std.proofs.Math.ListN.{length}
use Rattle.base.specs.Lists.{filterb}
use Rattle.base.specs.Range.{range}
use Rattle.rounds.specs.Task.{Task}

-- a number stands at most once among numbers in a row
range_after : (k m x : ℕ) → x < k → filterb (eqb x) (range k m) ≡ []
unfolding filterb range
range_after k zero x h = refl
range_after k (suc m) x h = rw (ne_eqb x k (λ e. absurd (omega (arith, e))), filterb) (range_after (suc k) m x (omega arith))

pub range_once : (k m x : ℕ) → length (filterb (eqb x) (range k m)) ≤ 1
unfolding filterb range
range_once k zero x = omega arith
range_once k (suc m) x = go (ℕ_discrete x k) (range_once (suc k) m x)
  where
    go : Dec (x ≡ k) → length (filterb (eqb x) (range (suc k) m)) ≤ 1 → length (filterb (eqb x) (k ∷ range (suc k) m)) ≤ 1
    go (yes e) r = rw (eq-eqb x k e, filterb) (omega (arith, ap length (range_after (suc k) m x (omega arith))))
    go (no n) r = rw (ne_eqb x k n, filterb) r

abbrev pub cells_down : {Part : Type 0} → Task Part → ℕ → ℕ
cells_down J i = length (J.cells (J.top - i))

abbrev pub SlotsOnce : {Part : Type 0} → Task Part → Type 0
SlotsOnce J = (k x : ℕ) → k ≤ J.top → length (filterb (eqb x) (J.slots k)) ≤ 1
