-- The rows of the coarse cells.
-- Assumes nothing.
use mathlib.Core.Path.{◌≡◌, refl, sym, ◌∙◌}
use mathlib.Core.List.{List, [], ◌∷◌, ◌++◌, flat_map, append-nil, append_assoc}
use Prim.Native.Nat.{ℕ, zero, suc, ◌+◌, ◌*◌, ◌≤◌}
use native.Mathlib.Omega.{arith}
use lib.ListN.{length, get_or, take}
use lib.Seq.{take-suc}
use Rattle.base.specs.Fours.{fours, length-fours}
use Rattle.growth.specs.Written.{written, take-written}
use Rattle.tables.specs.Start.{coarse_row}

four_at_lem : (l : List ℕ) (c : ℕ) → 4 * c + 4 ≤ length l
    → get_or (fours l) c [] ≡ get_or l (4 * c) 0 ∷ get_or l (4 * c + 1) 0 ∷ get_or l (4 * c + 2) 0 ∷ get_or l (4 * c + 3) 0 ∷ []
unfolding fours
four_at_lem [] c h = absurd (omega arith)
four_at_lem (a ∷ []) c h = absurd (omega arith)
four_at_lem (a ∷ b ∷ []) c h = absurd (omega arith)
four_at_lem (a ∷ b ∷ c ∷ []) k h = absurd (omega arith)
four_at_lem (a ∷ b ∷ c ∷ d ∷ l) zero h = refl
four_at_lem (a ∷ b ∷ c ∷ d ∷ l) (suc k) h =
    let e : 4 * suc k ≡ suc (suc (suc (suc (4 * k)))) = omega arith in
    let e1 : 4 * suc k + 1 ≡ suc (suc (suc (suc (4 * k + 1)))) = omega arith in
    let e2 : 4 * suc k + 2 ≡ suc (suc (suc (suc (4 * k + 2)))) = omega arith in
    let e3 : 4 * suc k + 3 ≡ suc (suc (suc (suc (4 * k + 3)))) = omega arith in
    rw (e1, e2, e3, e) (four_at_lem l k (omega arith))

flat_snoc : (l : List (List ℕ)) (q : List ℕ) → flat_map coarse_row (l ++ (q ∷ [])) ≡ flat_map coarse_row l ++ coarse_row q
unfolding flat_map
flat_snoc [] q = append-nil (coarse_row q)
flat_snoc (x ∷ l) q = rw (flat_snoc l q) (sym (append_assoc (coarse_row x) (flat_map coarse_row l) (coarse_row q)))

-- one row more
pub row_more : (mesh rows : List ℕ) (c : ℕ) → 4 * c + 4 ≤ length mesh → 8 * c + 8 ≤ length rows
    → take (8 * c) rows ≡ flat_map coarse_row (take c (fours mesh))
    → take (8 * (c + 1)) (written rows (8 * c) (0 ∷ 65535 ∷ 0 ∷ 1 ∷ get_or mesh (4 * c) 0 ∷ get_or mesh (4 * c + 1) 0 ∷ get_or mesh (4 * c + 2)
    0 ∷ get_or mesh (4 * c + 3) 0 ∷ []))
    ≡ flat_map coarse_row (take (c + 1) (fours mesh))
unfolding coarse_row
row_more mesh rows c h g e =
    let w : 8 * (c + 1) ≡ 8 * c + 8 = omega arith in
    let k : c + 1 ≡ suc c = omega arith in
    rw (w, k, take-suc (fours mesh) c [] (omega (arith, length-fours mesh)), four_at_lem mesh c h)
    (take-written rows (8 * c) (0 ∷ 65535 ∷ 0 ∷ 1 ∷ get_or mesh (4 * c) 0 ∷ get_or mesh (4 * c + 1) 0 ∷ get_or mesh (4 * c + 2) 0 ∷ get_or mesh
    (4 * c + 3) 0 ∷ []) g
    ∙ rw e (sym (flat_snoc (take c (fours mesh)) (get_or mesh (4 * c) 0 ∷ get_or mesh (4 * c + 1) 0 ∷ get_or mesh (4 * c + 2) 0 ∷ get_or mesh
    (4 * c + 3) 0 ∷ []))))
