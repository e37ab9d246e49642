-- What the third condition of soundness looks at.
--   Parents t last       the parent of each irregular cell below `last` is below it too
--   apart_all es t last   the condition holds at each of the cells below `last`
use Rattle.std.specs.Prelude.{◌≡◌, Bool, false, List, ℕ, ◌+◌, ◌*◌, ◌<◌, get_or}
use Rattle.base.specs.Lists.{allb}
use Rattle.rows.specs.Numbered.{cell_at, cells_at}
use Rattle.edges.specs.Pairs.{Pair}
use Rattle.closure.specs.Listed.{listed_apart}

-- Rule 3.2: the parent of a cell that is not regular comes before it.
pub record Parents (t : List ℕ) (last : ℕ) : Type 0 where
  pub below : (k : ℕ) → k < last → (cell_at t k).regular ≡ false → get_or t (8 * k + 1) 0 < last

-- Rule 6.4 at each of the cells below `last`.
unfoldable pub apart_all : List Pair → List ℕ → ℕ → Bool
unfolding allb listed_apart cells_at
apart_all es t last = allb (listed_apart es t) (cells_at t 0 last)
