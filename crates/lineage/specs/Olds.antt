-- The step by cell numbers of the old table, as a program takes it: which old cells will be red, and which cell of the old table
-- each new cell is.
--   flag_of b                a cell's flag: 64 where it will be red, else 0
--   flags ls ms             the flags of the cells, level by level; flag_table n qs ss ms of a whole table, in cell order
--   first_child m ss o       the number of the first child of the cell o, in a table ss over m coarse cells
--   old_child m ss o i       the old number of the child i of the cell o; none where the cell was not red
--   olds_next m ss ts os     the old numbers one level up of cells with new statuses ts and old numbers os
--   reds_by fs os            the flags of cells with old numbers os, where fs are the flags of the old table
--   closed_by es cs rs       the statuses of the cells cs with flags rs, where es are the edges of the red ones
--   grow_by m ss fs h k cs os   at most h levels of statuses, from the cells cs numbered from k on, with old numbers os
--   step_by n qs ss ms       the step's table, level by level
use Rattle.std.specs.Prelude.{Bool, true, false, ℕ, zero, suc, ◌+◌, length, get_or, take}
use mathlib.Core.List.{List, [], ◌∷◌, ◌++◌, map, flatten}
use Rattle.base.specs.Lists.{sameb}
use Rattle.mesh.specs.Cells.{Cell, none, redb, red_edges, status_of}
use Rattle.mesh.specs.Weights.{Point, coarse_cells}
use Rattle.mesh.specs.Table.{Level, levels_of, next, size_of, sizes}
use Rattle.mesh.specs.Step.{Row, rows, rows_up, edges_up, new_redb, new_reds, red_afterb}

-- Rule 7.2: a cell's flag.
unfoldable pub flag_of : Bool → ℕ
flag_of true = 64
flag_of false = 0

-- Rules 7.3 to 7.6, of a level's rows.
unfoldable pub flags_of : List Level → List ℕ → List Row → List ℕ
unfolding flag_of red_afterb rows_up edges_up new_reds
flags_of ls ms rs = map (λ r. flag_of (new_redb (rows_up ls ms) (edges_up (new_reds ls ms)) r)) rs

-- Rule 7.2, level by level.
unfoldable pub flags : List Level → List ℕ → List (List ℕ)
unfolding flags_of rows
flags [] ms = []
flags (l ∷ ls) ms = flags_of ls ms (rows l ms) ∷ flags ls ms

-- Rule 7.2: which old cells will be red, by cell number.
unfoldable pub flag_table : ℕ → List (List ℕ) → List ℕ → List ℕ → List ℕ
unfolding flags levels_of
flag_table n qs ss ms = flatten (flags (levels_of n qs ss) ms)

-- Rule 3.2: families stand one behind the other.
unfoldable pub first_child : ℕ → List ℕ → ℕ → ℕ
unfolding sizes
first_child m ss o = m + sizes (take o ss)

-- Rules 3.3, 4.2: children of red cells may be found again.
unfoldable pub old_child : ℕ → List ℕ → ℕ → ℕ → ℕ
unfolding first_child
old_child m ss o i = elim (redb (get_or ss o 0)) [ true ↦ first_child m ss o + i | false ↦ none ]

unfoldable pub up_to : ℕ → List ℕ
up_to zero = []
up_to (suc n) = up_to n ++ (n ∷ [])

-- Rule 3.3: a family's old numbers, where it was red and is so again.
unfoldable pub olds_of : ℕ → List ℕ → ℕ → ℕ → List ℕ
unfolding old_child size_of up_to
olds_of m ss t o = map (λ i. elim (redb t) [ true ↦ old_child m ss o i | false ↦ none ]) (up_to (size_of t))

-- Rule 3.3, of a level.
unfoldable pub olds_next : ℕ → List ℕ → List ℕ → List ℕ → List ℕ
unfolding olds_of
olds_next m ss [] os = []
olds_next m ss (t ∷ ts) [] = []
olds_next m ss (t ∷ ts) (o ∷ os) = olds_of m ss t o ++ olds_next m ss ts os

-- Rule 7.7: a new cell is red where its old one has a flag. `none` is above every number of a cell, so that its flag is 0.
unfoldable pub reds_by : List ℕ → List ℕ → List ℕ
unfolding flag_of
reds_by fs os = map (λ o. flag_of (redb (get_or fs o 0))) os

-- Rule 7.7: statuses from flags and red edges.
unfoldable pub closed_by : List (Point × Point) → List (Cell Point) → List ℕ → List ℕ
unfolding status_of sameb
closed_by es [] rs = []
closed_by es (c ∷ cs) [] = []
closed_by es (c ∷ cs) (r ∷ rs) = status_of [] sameb es (redb r) c ∷ closed_by es cs rs

-- Rule 7.7: the statuses of a level.
unfoldable pub statuses_by : List ℕ → List (Cell Point) → List ℕ → List ℕ
unfolding closed_by reds_by red_edges
statuses_by fs cs os = closed_by (red_edges [] cs (reds_by fs os)) cs (reds_by fs os)

-- Rule 7.7, by old numbers.
unfoldable pub grow_by : ℕ → List ℕ → List ℕ → ℕ → ℕ → List (Cell Point) → List ℕ → List (List ℕ)
unfolding statuses_by olds_next next
grow_by m ss fs zero k cs os = []
grow_by m ss fs (suc h) k [] os = []
grow_by m ss fs (suc h) k (c ∷ cs) os =
    let ts = statuses_by fs (c ∷ cs) os in
    ts ∷ grow_by m ss fs h (k + length (c ∷ cs)) (next k (c ∷ cs) ts) (olds_next m ss ts os)

-- Rules 7.2, 7.7, by old numbers. Twelve levels: one more than is allowed.
unfoldable pub step_by : ℕ → List (List ℕ) → List ℕ → List ℕ → List (List ℕ)
unfolding grow_by flag_table up_to coarse_cells
step_by n qs ss ms = grow_by (length qs) ss (flag_table n qs ss ms) 12 0 (coarse_cells n qs) (up_to (length qs))
