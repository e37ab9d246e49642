-- What the tests of one level say, where the edges of its red cells are listed.
--   listed_pattern, listed_status, listed_closed, listed_apart   the tests of `mesh` where the red cells' edges are listed
use Rattle.std.specs.Prelude.{Bool, true, false, ◌&&◌, ◌||◌, not, List, [], ◌∷◌, map, ℕ, eqb}
use Rattle.base.specs.Lists.{allb}
use Rattle.base.specs.Places.{hasb}
use Rattle.mesh.specs.Cells.{Cell, redb, edges, bits_of, heldb}
use Rattle.rows.specs.Numbered.{cell_at}
use Rattle.edges.specs.Pairs.{Pair, sorted, isb}

-- Rule 6.2, where the edges es of a level's red cells are listed.
unfoldable pub listed_pattern : List Pair → Cell ℕ → ℕ
unfolding hasb isb sorted bits_of edges
listed_pattern es c = bits_of (map (λ e. hasb isb es (sorted e)) (edges 0 c))

-- Rules 6.2, 6.3, so.
unfoldable pub listed_status : List Pair → Bool → Cell ℕ → ℕ
unfolding listed_pattern
listed_status es r c = elim c.regular [ true ↦ elim r [ true ↦ 64 | false ↦ listed_pattern es c ] | false ↦ 0 ]

-- Rules 6.2, 6.3, so, of all cells.
unfoldable pub listed_closed : List Pair → List (Cell ℕ) → List ℕ → Bool
unfolding listed_status
listed_closed es [] [] = true
listed_closed es [] (s ∷ ss) = false
listed_closed es (c ∷ cs) [] = false
listed_closed es (c ∷ cs) (s ∷ ss) = eqb s (listed_status es (redb s) c) && listed_closed es cs ss

-- Rule 6.4 at one cell, where the edges es of all red cells are listed.
unfoldable pub listed_apart : List Pair → List ℕ → Cell ℕ → Bool
unfolding allb heldb hasb isb sorted edges cell_at
listed_apart es t c = c.regular || allb (λ e. heldb eqb (edges 0 (cell_at t c.parent)) e || not (hasb isb es (sorted e))) (edges 0 c)
