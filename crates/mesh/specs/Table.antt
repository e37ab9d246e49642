-- Status tables over a coarse mesh: the cells that a table means, and which tables are sound.
--   Level               the cells of a level with their statuses, and the number of the first
--   next k cs ss        the cells one level up of the cells cs, numbered from k, with statuses ss
--   levels n k cs ss    at most n levels of a table, from the cells cs numbered from k on, where ss is the rest of the table
--   levels_of n qs ss    the levels of a table; one more than the highest that is allowed
--   cells_of ls          all cells of the levels, in cell order
--   closedb l           each cell of the level has the status that its red cells ask for
--   apartb cs ss        the third condition (rule 6.4)
--   soundb n qs ss      the table is sound
use Rattle.std.specs.Prelude.{Bool, true, false, ◌&&◌, ◌||◌, not, ℕ, zero, suc, ◌+◌, eqb, leb, length, get_or, take, drop}
use mathlib.Core.List.{List, [], ◌∷◌, ◌++◌, flat_map}
use Rattle.base.specs.Lists.{allb, sameb}
use Rattle.base.specs.Limits.{most_levels, most_cells}
use Rattle.mesh.specs.Cells.{Cell, edges, heldb, red_edges, closed_from, children, pattern_of}
use Rattle.mesh.specs.Weights.{Point, point, coarse_cells}
use Rattle.cutting.specs.Rule.{family}

-- Rules 3.2, 4.4: one level up, by parent and then by place in the family.
unfoldable pub next : ℕ → List (Cell Point) → List ℕ → List (Cell Point)
unfolding children point
next k [] ss = []
next k (c ∷ cs) [] = []
next k (c ∷ cs) (s ∷ ss) = children k c s (point c) ++ next (suc k) cs ss

-- Rules 3.1, 4.1: a level's cells and statuses.
pub record Level : Type 0 where
  pub first : ℕ
  pub cells : List (Cell Point)
  pub statuses : List ℕ

-- Rule 4.4: level after level, to the first without cells.
unfoldable pub levels : ℕ → ℕ → List (Cell Point) → List ℕ → List Level
unfolding next
levels zero k cs ss = []
levels (suc n) k [] ss = []
levels (suc n) k (c ∷ cs) ss =
    let m = length (c ∷ cs) in
    let own = take m ss in
    record { first = k; cells = c ∷ cs; statuses = own } ∷ levels n (k + m) (next k (c ∷ cs) own) (drop m ss)

-- Rules 3.4, 4.4: 11 levels are allowed; the twelfth is looked for so that it can be refused.
unfoldable pub levels_of : ℕ → List (List ℕ) → List ℕ → List Level
unfolding levels coarse_cells
levels_of n qs ss = levels 12 0 (coarse_cells n qs) ss

-- Rule 3.2: in the order of cell numbers.
unfoldable pub cells_of : List Level → List (Cell Point)
unfolding flat_map
cells_of ls = flat_map (λ l. l.cells) ls

-- Rules 6.2, 6.3: the first two conditions, on one level.
unfoldable pub closedb : Level → Bool
unfolding closed_from red_edges sameb
closedb l = closed_from [] sameb (red_edges [] l.cells l.statuses) l.cells l.statuses

-- Rule 6.4: the third condition. A cell that is not regular is a green cell's child.
unfoldable pub apartb : List (Cell Point) → List ℕ → Bool
unfolding allb edges heldb red_edges sameb
apartb cs ss =
    let reds = red_edges [] cs ss in
    allb (λ c. c.regular
    || allb (λ e. heldb sameb (edges [] (get_or cs c.parent c)) e || not (heldb sameb reds e)) (edges [] c)) cs

-- Rules 6.1 to 6.4: sound tables.
unfoldable pub soundb : ℕ → List (List ℕ) → List ℕ → Bool
unfolding levels_of cells_of closedb apartb allb
soundb n qs ss =
    let ls = levels_of n qs ss in
    let cs = cells_of ls in
    (eqb (length ss) (length cs) && (leb (length ls) most_levels && leb (length cs) most_cells)) && (allb closedb ls && apartb cs ss)

-- Rule 4.1: how many children a status gives.
unfoldable pub size_of : ℕ → ℕ
unfolding pattern_of
size_of s = elim (eqb s 0) [ true ↦ 0 | false ↦ length (family (pattern_of s)) ]

-- Rule 4.4: how many cells a level's statuses give one level up.
unfoldable pub sizes : List ℕ → ℕ
unfolding size_of
sizes [] = 0
sizes (s ∷ ss) = size_of s + sizes ss
