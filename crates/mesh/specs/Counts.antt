-- What is told of a table: a cell's coarse ancestor and level, and the counts of every level.
--   coarse_of c, level_of c   the coarse cell that c lies under, and its level
--   greenb s                a status that is green
--   count_if f ss            how many statuses pass f
--   counts_of l              of a level: cells, red, green, leaves
--   count_table ls           the counts of every level, four numbers each
use Rattle.std.specs.Prelude.{Bool, ◌&&◌, not, ℕ, pred, eqb, ltb, length, get_or}
use mathlib.Core.List.{List, [], ◌∷◌, flat_map}
use Rattle.base.specs.Lists.{filterb}
use Rattle.mesh.specs.Cells.{Cell, redb}
use Rattle.mesh.specs.Table.{Level}

-- Rule 3.3: a path begins with the coarse cell.
abbrev pub coarse_of : {A : Type 0} → Cell A → ℕ
coarse_of c = get_or c.path 0 0

-- Rule 3.3: a path has one number a level.
abbrev pub level_of : {A : Type 0} → Cell A → ℕ
level_of c = pred (length c.path)

-- Rule 4.1: 1 to 63.
unfoldable pub greenb : ℕ → Bool
greenb s = not (eqb s 0) && ltb s 64

-- Rule 9.5.
unfoldable pub count_if : (ℕ → Bool) → List ℕ → ℕ
unfolding filterb
count_if f ss = length (filterb f ss)

-- Rule 9.5: the row of a level.
unfoldable pub counts_of : Level → List ℕ
unfolding count_if greenb
counts_of l =
    length l.cells ∷ count_if redb l.statuses ∷ count_if greenb l.statuses ∷ count_if (λ s. eqb s 0) l.statuses ∷ []

-- Rule 9.5: all rows.
unfoldable pub count_table : List Level → List ℕ
unfolding counts_of flat_map
count_table ls = flat_map counts_of ls
