-- Faces by their numbers: face j of cell k is the face 4 k + j.
-- Assumes nothing.
use Rattle.std.proofs.Common.{◌≡◌, refl, arith}
use mathlib.Core.List.{List, [], ◌∷◌, flat_map}
use Prim.Native.Nat.{ℕ, zero, suc, ◌+◌, ◌*◌, ◌<◌}
use lib.ListN.{length, get_or}
use Rattle.base.specs.Fours.{faces}

pub length-faces : (qs : List (List ℕ)) → length (flat_map faces qs) ≡ 4 * length qs
unfolding flat_map faces
length-faces [] = refl
length-faces (q ∷ qs) = omega (arith, length-faces qs)

pub face_at : (qs : List (List ℕ)) (k j : ℕ) → k < length qs → j < 4 → get_or (faces (get_or qs k [])) j [] ≡ get_or (flat_map faces qs) (4 * k + j) []
unfolding flat_map faces
face_at [] k j h l = absurd (omega arith)
face_at (q ∷ qs) zero zero h l = refl
face_at (q ∷ qs) zero (suc zero) h l = refl
face_at (q ∷ qs) zero (suc (suc zero)) h l = refl
face_at (q ∷ qs) zero (suc (suc (suc zero))) h l = refl
face_at (q ∷ qs) zero (suc (suc (suc (suc j)))) h l = absurd (omega arith)
face_at (q ∷ qs) (suc k) j h l =
    let e : 4 * suc k + j ≡ suc (suc (suc (suc (4 * k + j)))) = omega arith in
    rw e (face_at qs k j (omega arith) l)
