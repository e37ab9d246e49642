-- The corners of the six edges in edge order (rule 2.1), counted from 0.
--   lows, highs   the first and the second corner of each edge
use Rattle.std.specs.Prelude.{List, [], ◌∷◌, ℕ}

-- Rule 2.1: the lower corner of each edge.
abbrev pub lows : List ℕ
lows = 0 ∷ 0 ∷ 0 ∷ 1 ∷ 1 ∷ 2 ∷ []

-- Rule 2.1: the higher.
abbrev pub highs : List ℕ
highs = 1 ∷ 2 ∷ 3 ∷ 2 ∷ 3 ∷ 3 ∷ []
