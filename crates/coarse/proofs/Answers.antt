-- What the earlier tests grant the last.
-- Assumes nothing.
use mathlib.Core.Path.{◌≡◌, refl}
use mathlib.Core.Bool.{true, ◌&&◌}
use mathlib.Core.List.{List, [], ◌∷◌}
use Prim.Native.Nat.{ℕ, zero, suc, ◌/◌, ◌≤◌, ◌<◌}
use native.Mathlib.Omega.{arith}
use lib.Dec.{T, ltb, ltb→lt, lt→ltb}
use lib.IntN.{ℤ}
use lib.ListN.{length, get_or}
use mir.Facts.{yes_and}
use Rattle.base.specs.Lists.{allb}
use Rattle.base.specs.Bools.{is_true, and_left, and_right}
use Rattle.base.specs.Fours.{fours, length-fours}
use Rattle.mesh.specs.Coarse.{coarse_corner_count, countsb, cellb, cellsb}
use Rattle.mesh.specs.Laws.{mesh_counts}
use Rattle.coarse.specs.Cells.{Ranked}

-- at most 512 corners
cell_mono : (n : ℕ) → n ≤ 512 → (q : List ℕ) → T (cellb n q) → T (cellb 512 q)
unfolding cellb
cell_mono n h q t =
    let a = get_or q 0 0 in
    let b = get_or q 1 0 in
    let c = get_or q 2 0 in
    let d = get_or q 3 0 in
    let l : T (ltb c d && ltb d n) = and_right (ltb a b && ltb b c) (ltb c d && ltb d n) t in
    let e : d < 512 = omega (arith, ltb→lt d n (and_right (ltb c d) (ltb d n) l)) in
    yes_and (ltb a b && ltb b c) (ltb c d && ltb d 512) (and_left (ltb a b && ltb b c) (ltb c d && ltb d n) t)
    (yes_and (ltb c d) (ltb d 512) (and_left (ltb c d) (ltb d n) l) (lt→ltb d 512 e))

cells_mono : (n : ℕ) → n ≤ 512 → (qs : List (List ℕ)) → T (cellsb n qs) → T (cellsb 512 qs)
unfolding cellsb allb
cells_mono n h [] t = tt
cells_mono n h (q ∷ qs) t =
    yes_and (cellb 512 q) (allb (cellb 512) qs) (cell_mono n h q (and_left (cellb n q) (allb (cellb n) qs) t))
    (cells_mono n h qs (and_right (cellb n q) (allb (cellb n) qs) t))

four_each : (ts : List ℕ) (k : ℕ) → k < length (fours ts) → length (get_or (fours ts) k []) ≡ 4
unfolding fours
four_each [] k h = absurd (omega arith)
four_each (a ∷ []) k h = absurd (omega arith)
four_each (a ∷ b ∷ []) k h = absurd (omega arith)
four_each (a ∷ b ∷ c ∷ []) k h = absurd (omega arith)
four_each (a ∷ b ∷ c ∷ d ∷ ts) zero h = refl
four_each (a ∷ b ∷ c ∷ d ∷ ts) (suc k) h = four_each ts k (omega arith)

pub ranked : (ps : List ℤ) (ts : List ℕ) → countsb ps ts ≡ true → cellsb (coarse_corner_count ps) (fours ts) ≡ true → Ranked (fours ts)
ranked ps ts a c =
    let k = mesh_counts ps ts (rw a tt) in
    record {
      four = four_each ts;
      few = omega (arith, k.few, length-fours ts);
      cells = is_true (cellsb 512 (fours ts)) (cells_mono (length ps / 3) k.corners_few (fours ts) (rw c tt));
    }
