-- One step (docs/METHOD.md, section 7).
--   Row                    a cell of the old table with its number, status and mark
--   rows l ms              the rows of a level, where ms are the marks of the whole table
--   kids up k              the rows one level up whose parent is the cell k
--   red_afterb s m ..       a cell is a new red one, by its status, mark, edges and children
--   new_redb up es r        the row r is a new red cell, where es are the edges of the new red cells one level up
--   new_reds ls ms          the new red cells of each level
--   grow reds k cs         the statuses level by level, from the cells cs numbered from k on, where reds are the red cells of
--                          each level
--   step_table n qs ss ms   the table that the rules give, without the limits, level by level
use Rattle.std.specs.Prelude.{Bool, true, false, ◌&&◌, ◌||◌, not, ℕ, suc, ◌+◌, eqb, length, get_or}
use mathlib.Core.List.{List, [], ◌∷◌, ◌++◌, map, flat_map}
use Rattle.base.specs.Lists.{allb, anyb, filterb, sameb}
use Rattle.mesh.specs.Cells.{Cell, redb, edges, heldb, status_of}
use Rattle.mesh.specs.Weights.{Point, coarse_cells}
use Rattle.mesh.specs.Table.{Level, levels_of, next}

-- Rules 4.1, 7.1: an old cell with its number, status and mark.
pub record Row : Type 0 where
  pub number : ℕ
  pub cell : Cell Point
  pub status : ℕ
  pub mark : ℕ

-- Rule 7.1: one mark a cell, by cell number.
unfoldable pub rows_from : ℕ → List (Cell Point) → List ℕ → List ℕ → List Row
rows_from k [] ss ms = []
rows_from k (c ∷ cs) [] ms = []
rows_from k (c ∷ cs) (s ∷ ss) ms = record { number = k; cell = c; status = s; mark = get_or ms k 0 } ∷ rows_from (suc k) cs ss ms

-- Rule 7.1, of a level.
unfoldable pub rows : Level → List ℕ → List Row
unfolding rows_from
rows l ms = rows_from l.first l.cells l.statuses ms

-- Rule 3.2: children know their parent's number.
unfoldable pub kids : List Row → ℕ → List Row
unfolding filterb
kids up k = filterb (λ r. eqb r.cell.parent k) up

-- Rule 7.3: all are leaves marked 2, and no new red cell of their level has an edge of theirs.
unfoldable pub deletedb : List Row → List (Point × Point) → Bool
unfolding allb heldb sameb edges
deletedb family es =
    allb (λ r. (eqb r.status 0 && eqb r.mark 2) && allb (λ e. not (heldb sameb es e)) (edges [] r.cell)) family

-- Rule 7.5: a child is marked 1, or has an edge that is not the green cell's own and that a new red cell of the child's level has.
unfoldable pub turnedb : List (Point × Point) → List Row → List (Point × Point) → Bool
unfolding anyb heldb sameb edges
turnedb own family es =
    anyb (λ r. eqb r.mark 1 || anyb (λ e. not (heldb sameb own e) && heldb sameb es e) (edges [] r.cell)) family

-- Rules 7.3 to 7.6, by what a part knows of a cell: its status, mark and own edges, whether it is regular, its children, and the edges
-- of the new red cells one level up.
unfoldable pub red_afterb : ℕ → ℕ → Bool → List (Point × Point) → List Row → List (Point × Point) → Bool
unfolding deletedb turnedb
red_afterb s m regular own family es =
    elim (redb s) [
      | true ↦ not (deletedb family es)
      | false ↦ elim (eqb s 0) [
        -- regular leaves marked 1
        | true ↦ regular && eqb m 1
        | false ↦ turnedb own family es
      ]
    ]

-- Rules 7.3 to 7.6: whether an old cell will be red.
abbrev pub new_redb : List Row → List (Point × Point) → Row → Bool
new_redb up es r = red_afterb r.status r.mark r.cell.regular (edges [] r.cell) (kids up r.number) es

-- Rules 3.1, 7.2: the rows one level up, none above the highest.
unfoldable pub rows_up : List Level → List ℕ → List Row
unfolding rows
rows_up [] ms = []
rows_up (l ∷ ls) ms = rows l ms

-- Rule 7.2: the edges of the new red cells one level up.
unfoldable pub edges_up : List (List Row) → List (Point × Point)
unfolding edges flat_map
edges_up [] = []
edges_up (rs ∷ rss) = flat_map (λ r. edges [] r.cell) rs

-- Rule 7.2: the highest level is treated first.
unfoldable pub new_reds : List Level → List ℕ → List (List Row)
unfolding rows rows_up edges_up red_afterb kids edges filterb
new_reds [] ms = []
new_reds (l ∷ ls) ms =
    let above = new_reds ls ms in
    filterb (new_redb (rows_up ls ms) (edges_up above)) (rows l ms) ∷ above

-- Rules 3.3, 7.7: regular, and the same as one that will be red.
unfoldable pub amongb : List Row → Cell Point → Bool
unfolding anyb sameb
amongb reds c = c.regular && anyb (λ r. sameb r.cell.path c.path) reds

-- Rule 7.7: the red edges of a new level.
unfoldable pub red_cells : List Row → List (Cell Point) → List (Point × Point)
unfolding amongb edges
red_cells reds [] = []
red_cells reds (c ∷ cs) = elim (amongb reds c) [ true ↦ edges [] c ++ red_cells reds cs | false ↦ red_cells reds cs ]

-- Rule 7.7: the new table, from level 0 up.
unfoldable pub grow : List (List Row) → ℕ → List (Cell Point) → List (List ℕ)
unfolding red_cells amongb status_of sameb next
grow [] k cs = []
grow (reds ∷ rest) k [] = []
grow (reds ∷ rest) k (c ∷ cs) =
    let es = red_cells reds (c ∷ cs) in
    let ss = map (λ c. status_of [] sameb es (amongb reds c) c) (c ∷ cs) in
    ss ∷ grow rest (k + length (c ∷ cs)) (next k (c ∷ cs) ss)

-- Rules 7.2, 7.7: the whole step without its limits. It has at most one level more than the old table, and no red cell there.
unfoldable pub step_table : ℕ → List (List ℕ) → List ℕ → List ℕ → List (List ℕ)
unfolding levels_of new_reds grow coarse_cells
step_table n qs ss ms = grow (new_reds (levels_of n qs ss) ms ++ ([] ∷ [])) 0 (coarse_cells n qs)
