-- Computed samples that hold openb and meetb fast: what they take, and for each edge and each face of a cell one that they reject by
-- that edge or face alone.
--   pair             two cells with a common face
--   half_refined      the first of them red, the second still a leaf; whole: both red; closed: the second green, as it should be
--   split_beside      cells that have one edge in common with the cell 0 1 2 3, its six edges in turn
--   crowded          three cells with a common face, which leaves out the first corner of each; then the second, third, fourth
-- Laws: takes_open, takes_meets (the pair), each_edge, each_face.
use Rattle.std.specs.Prelude.{◌≡◌, refl, true, false, List, [], ◌∷◌, map, ℕ, replicate}
use Rattle.base.specs.Lists.{memberb}
use Rattle.cutting.specs.Rule.{family}
use Rattle.conformity.specs.Leaves.{openb, meetb}

abbrev quad : ℕ → ℕ → ℕ → ℕ → List ℕ
quad a b c d = a ∷ b ∷ c ∷ d ∷ []

abbrev pair : List (List ℕ)
pair = quad 0 1 2 3 ∷ quad 1 2 3 4 ∷ []

abbrev half_refined : List ℕ
half_refined = 64 ∷ 0 ∷ replicate 8 0

abbrev whole : List ℕ
whole = 64 ∷ 64 ∷ replicate 16 0

abbrev closed : List ℕ
closed = 64 ∷ 11 ∷ replicate 12 0

takes_open : map (openb 5 pair) ((0 ∷ 0 ∷ []) ∷ whole ∷ closed ∷ half_refined ∷ []) ≡ true ∷ true ∷ true ∷ false ∷ []
unfolding openb family
takes_open = refl

takes_meets : map (meetb 5 pair) ((0 ∷ 0 ∷ []) ∷ whole ∷ closed ∷ half_refined ∷ []) ≡ true ∷ true ∷ true ∷ false ∷ []
unfolding meetb family
takes_meets = refl

-- The second cell is cut at its edge 12, which is edge 12, 13, 14, 23, 24, 34 of the first one, a leaf.
abbrev split_beside : List (List ℕ)
split_beside = quad 0 1 4 5 ∷ quad 0 2 4 5 ∷ quad 0 3 4 5 ∷ quad 1 2 4 5 ∷ quad 1 3 4 5 ∷ quad 2 3 4 5 ∷ []

each_edge : map (λ q. openb 6 (quad 0 1 2 3 ∷ q ∷ []) (0 ∷ 1 ∷ 0 ∷ 0 ∷ [])) split_beside ≡ replicate 6 false
unfolding openb family
each_edge = refl

-- Only the common face is in three leaves; each other one is in one, and on the boundary.
abbrev crowded : List (List (List ℕ))
crowded =
    (quad 0 3 4 5 ∷ quad 1 3 4 5 ∷ quad 2 3 4 5 ∷ [])
    ∷ (quad 0 1 4 5 ∷ quad 0 2 4 5 ∷ quad 0 3 4 5 ∷ [])
    ∷ (quad 0 1 2 5 ∷ quad 0 1 3 5 ∷ quad 0 1 4 5 ∷ [])
    ∷ (quad 0 1 2 3 ∷ quad 0 1 2 4 ∷ quad 0 1 2 5 ∷ [])
    ∷ []

each_face : map (λ qs. meetb 6 qs (0 ∷ 0 ∷ 0 ∷ [])) crowded ≡ replicate 4 false
unfolding meetb memberb
each_face = refl
