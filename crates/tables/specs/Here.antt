-- How far the building of a table has come: levels and corners by weights beside the program's tables.
--   Child n c   an irregular cell has one of the first n cells as parent
--   Laying ..   the levels below j are closed and laid out; the cells of level j are the rows from first to last
--   Here ..     beside it, the red edges of the levels below j are listed
--   Roof ..     level j is closed too, and it is the highest
--   Top ..      beside it, all red edges are listed
use Rattle.std.specs.Prelude.{◌≡◌, false, ◌&&◌, ℕ, suc, ◌+◌, ◌*◌, ◌≤◌, ◌<◌, T, eqb, length, take}
use mathlib.Core.List.{List, ◌++◌, flat_map}
use Rattle.base.specs.Limits.{most_cells}
use Rattle.base.specs.Lists.{allb}
use Rattle.mesh.specs.Cells.{Cell, red_edges}
use Rattle.mesh.specs.Weights.{Point}
use Rattle.mesh.specs.Table.{cells_of, levels_of, soundb, apartb}
use Rattle.mesh.specs.Layout.{Corner, coarse_corners, corners_from, row_of}
use Rattle.pairs.specs.declared.PairTable.{PairTable}
use Rattle.edges.specs.Table.{entries, listed}
use Rattle.base.specs.Every.{All}
use Rattle.numbering.specs.Corners.{NumberedCorners}
use Rattle.numbering.specs.Tests.{Placed, numbered_cells}
use Rattle.numbering.specs.Stages.{Stage}
use Rattle.closure.specs.Closed.{Lists}
use Rattle.tables.specs.Levels.{Reached}
use Rattle.growth.specs.Points.{Mids}

-- the parent of an irregular cell is one of the first n cells
abbrev pub Child : {A : Type 0} → ℕ → Cell A → Type 0
Child n c = c.regular ≡ false → c.parent < n

-- the levels below j are closed and laid out
module _ (n : ℕ) (qs : List (List ℕ)) (ss : List ℕ) (j first last : ℕ) (rows : List ℕ) {M K : ℕ} (mids : PairTable M K) where
  pub record Laying : Type 0 where
    pub cells : List (Cell Point)
    pub corners : List Corner
    pub reached : Reached n qs ss j first cells
    pub stage : Stage n j corners (entries mids) cells
    pub low : j ≤ 10
    pub some : 0 < length cells
    pub end : last ≡ first + length cells
    pub few : last ≤ most_cells
    pub placed : All (Placed corners) (cells_of reached.done)
    pub named : corners_from (coarse_corners n) (cells_of reached.done) (take first ss) ≡ corners
    pub deep : T (allb (λ c. eqb (length c.path) (suc j)) cells)
    pub children : All (Child last) (cells_of reached.done ++ cells)
    pub table : take (8 * last) rows ≡ flat_map row_of (numbered_cells corners (cells_of reached.done ++ cells))
    pub new : Mids mids
    pub few_new : mids.n ≤ last

-- The highest level is closed, and nothing stands above it.
module _ (n : ℕ) (qs : List (List ℕ)) (ss : List ℕ) (j last : ℕ) (rows : List ℕ) {M K : ℕ} (mids : PairTable M K) where
  pub record Roof : Type 0 where
    pub all : List (Cell Point)
    pub corners : List Corner
    pub cells : cells_of (levels_of n qs ss) ≡ all
    pub levels : length (levels_of n qs ss) ≡ suc j
    pub low : j ≤ 10
    pub sound : soundb n qs ss ≡ (eqb (length ss) last && apartb all ss)
    pub counted : length all ≡ last
    pub few : last ≤ most_cells
    pub placed : All (Placed corners) all
    pub named : corners_from (coarse_corners n) all (take last ss) ≡ corners
    pub numbered : NumberedCorners n corners (entries mids)
    pub children : All (Child last) all
    pub table : take (8 * last) rows ≡ flat_map row_of (numbered_cells corners all)
    pub new : Mids mids
    pub few_new : mids.n ≤ last

-- The same beside the table of red edges.
module _ (n : ℕ) (qs : List (List ℕ)) (ss : List ℕ) (j first last : ℕ) (rows : List ℕ) {N H M K : ℕ} where
  pub record Here (red : PairTable N H) (mids : PairTable M K) : Type 0 where
    pub laying : Laying n qs ss j first last rows mids
    pub reds : Lists (listed red.xs red.ys 0 red.n)
        (red_edges 0 (numbered_cells laying.corners (cells_of laying.reached.done)) (take first ss))
    pub few : 4 * red.n ≤ 3 * last

module _ (n : ℕ) (qs : List (List ℕ)) (ss : List ℕ) (j last : ℕ) (rows : List ℕ) {N H M K : ℕ} where
  pub record Top (red : PairTable N H) (mids : PairTable M K) : Type 0 where
    pub roof : Roof n qs ss j last rows mids
    pub reds : Lists (listed red.xs red.ys 0 red.n) (red_edges 0 (numbered_cells roof.corners roof.all) (take last ss))
