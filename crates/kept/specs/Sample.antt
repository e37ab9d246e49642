-- The definitions of `Kept` computed: case C (rule 14.3) with cell 12 marked 1. It holds edges of the children of the green cells 2 and 3,
-- which turn red; five of their new children are closed at once.
use Rattle.std.specs.Prelude.{◌≡◌, refl, ℕ, get_or, replicate}
use mathlib.Core.List.{List, [], ◌∷◌, ◌++◌, flatten}
use Rattle.cutting.specs.Rule.{family}
use Rattle.kept.specs.Kept.{kept_table, write_by}

A : List (List ℕ)
A = (0 ∷ 1 ∷ 2 ∷ 3 ∷ []) ∷ []

-- Rule 14.3.
C : List ℕ
C = 64 ∷ 64 ∷ 11 ∷ 1 ∷ 0 ∷ 1 ∷ 0 ∷ 0 ∷ 0 ∷ replicate 16 0

-- the statuses of the coarse cell and of its children after the step, and those of the children of cell 1
low : List ℕ
low = 64 ∷ 64 ∷ 64 ∷ 64 ∷ 38 ∷ 11 ∷ 11 ∷ 1 ∷ 1 ∷ []

first : List ℕ
first = 0 ∷ 4 ∷ 38 ∷ 64 ∷ 0 ∷ 8 ∷ 0 ∷ 0 ∷ []

-- what the cells of C keep
K : List ℕ
unfolding low first
K = low ++ (first ++ (11 ∷ 1 ∷ 0 ∷ 0 ∷ 1 ∷ 0 ∷ 0 ∷ 0 ∷ []))

kept_is : kept_table 4 A C (replicate 12 0 ++ (1 ∷ replicate 12 0)) ≡ K
unfolding kept_table family flatten A C K
kept_is = refl

-- Rule 7.7: level 2 after the step.
written_is : get_or (write_by 1 C K 12 (64 ∷ []) (0 ∷ [])) 2 [] ≡ first ++ (11 ∷ 1 ∷ 1 ∷ 0 ∷ 0 ∷ 0 ∷ 0 ∷ 0 ∷ 1 ∷ replicate 23 0)
unfolding write_by family flatten C K first
written_is = refl
