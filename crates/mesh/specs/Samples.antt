-- Two tables over mesh A (rule 14.3): case C, and one that breaks the third condition of soundness (rule 6.4) alone. They show what
-- the conditions ask for, and hold the definitions fast.
--   C        level 1 is 64 11 1 0 1 0 0 0, and sixteen leaves lie above it
--   near_c    C with cell 12 red and its level closed: cell 2 stays green, though a red cell has an edge of its children
use Rattle.std.specs.Prelude.{◌≡◌, refl, true, false, List, [], ◌∷◌, ◌++◌, ℕ, replicate}
use Rattle.cutting.specs.Rule.{family}
use Rattle.mesh.specs.Table.{soundb}

A : List (List ℕ)
A = (0 ∷ 1 ∷ 2 ∷ 3 ∷ []) ∷ []

front : List ℕ
front = 64 ∷ 64 ∷ 11 ∷ 1 ∷ 0 ∷ 1 ∷ 0 ∷ 0 ∷ 0 ∷ []

C : List ℕ
unfolding front
C = front ++ replicate 16 0

near_c : List ℕ
unfolding front
near_c = front ++ (0 ∷ 4 ∷ 38 ∷ 64 ∷ 0 ∷ 8 ∷ replicate 26 0)

c_sound : soundb 4 A C ≡ true
unfolding family A C soundb
c_sound = refl

near_c_unsound : soundb 4 A near_c ≡ false
unfolding family A near_c soundb
near_c_unsound = refl
