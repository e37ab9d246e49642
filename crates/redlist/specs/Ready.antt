-- What inserting the edges of a level's red cells asks for and leaves.
--   red_of s c            the edges of the cell c where its status s is red
--   red_count ss          how many statuses are red; count_one_lem: of one status
--   Ready ..             the cells below `last` have rows, and the edge table is in order with room for k entries more
--   Range ..             the cells from first to last have statuses
use Rattle.std.specs.Prelude.{◌≡◌, true, false, List, [], ◌∷◌, ℕ, ◌+◌, ◌*◌, ◌≤◌, length}
use Rattle.std.proofs.Common.{arith}
use Rattle.base.specs.Bools.{one_if}
use Rattle.mesh.specs.Cells.{Cell, redb, edges}
use Rattle.edges.specs.Pairs.{Pair}
use Rattle.pairs.specs.declared.PairTable.{PairTable}
use Rattle.edges.specs.Table.{Edges, Space}

-- Rule 6.2: what a cell of this status holds as a red one.
unfoldable pub red_of : ℕ → Cell ℕ → List Pair
red_of s c = elim (redb s) [ true ↦ edges 0 c | false ↦ [] ]

-- Rule 4.1: how many statuses of a list are red.
unfoldable pub red_count : List ℕ → ℕ
unfolding one_if
red_count [] = 0
red_count (s ∷ ss) = one_if (redb s) + red_count ss

-- the cells below `last` have rows, and k edges more fit into the table
pub record Ready {N H : ℕ} (cells : List ℕ) (last : ℕ) (t : PairTable N H) (k : ℕ) : Type 0 where
  pub rows : 8 * last ≤ length cells
  pub edges : Edges t
  pub space : Space t k

-- a range of cells whose statuses stand in a list
pub record Range (status : List ℕ) (first last : ℕ) : Type 0 where
  pub up : first ≤ last
  pub inside : last ≤ length status

pub count_one_lem : (s : ℕ) → red_count (s ∷ []) ≡ one_if (redb s)
unfolding red_count
count_one_lem s = omega arith
