-- Flat lists of fours, and the faces of a four.
--   fours l       the elements of l, four by four; what is left over at its end counts for nothing
--   faces q       the four faces of q, three elements each; face n leaves out the element n (both counted from 0)
--   holders l t   how many of the fours of l have the face t
use Rattle.std.specs.Prelude.{List, [], ◌∷◌, ℕ, ◌/◌, length, get_or, ◌≡◌, refl}
use Rattle.base.specs.Lists.{filterb, anyb, sameb}
use Rattle.std.proofs.Common.{arith}

-- Rule 1.1: cells stand by fours in a flat table.
unfoldable pub fours : List ℕ → List (List ℕ)
fours [] = []
fours (a ∷ []) = []
fours (a ∷ b ∷ []) = []
fours (a ∷ b ∷ c ∷ []) = []
fours (a ∷ b ∷ c ∷ d ∷ l) = (a ∷ b ∷ c ∷ d ∷ []) ∷ fours l

-- Rules 2.1, 1.6: a face leaves out one corner.
unfoldable pub faces : List ℕ → List (List ℕ)
faces q =
    let a = get_or q 0 0 in let b = get_or q 1 0 in let c = get_or q 2 0 in let d = get_or q 3 0 in
    (b ∷ c ∷ d ∷ []) ∷ (a ∷ c ∷ d ∷ []) ∷ (a ∷ b ∷ d ∷ []) ∷ (a ∷ b ∷ c ∷ []) ∷ []

-- Rules 1.6, 5.8: in how many cells a face is.
unfoldable pub holders : List (List ℕ) → List ℕ → ℕ
unfolding faces filterb anyb sameb
holders l t = length (filterb (λ q. anyb (sameb t) (faces q)) l)

pub length-fours : (ts : List ℕ) → length (fours ts) ≡ length ts / 4
unfolding fours
length-fours [] = refl
length-fours (a ∷ []) = refl
length-fours (a ∷ b ∷ []) = refl
length-fours (a ∷ b ∷ c ∷ []) = refl
length-fours (a ∷ b ∷ c ∷ d ∷ ts) = omega (arith, length-fours ts)

pub four_points : (l : List ℕ) → length l ≡ 4 → get_or l 0 0 ∷ get_or l 1 0 ∷ get_or l 2 0 ∷ get_or l 3 0 ∷ [] ≡ l
four_points [] e = absurd (omega arith)
four_points (a ∷ []) e = absurd (omega arith)
four_points (a ∷ b ∷ []) e = absurd (omega arith)
four_points (a ∷ b ∷ c ∷ []) e = absurd (omega arith)
four_points (a ∷ b ∷ c ∷ d ∷ []) e = refl
four_points (a ∷ b ∷ c ∷ d ∷ x ∷ l) e = absurd (omega arith)
