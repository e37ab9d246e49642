-- What refining one cell, and a whole level of cells, asks of the tables and leaves in them.
--   Laid ..       the family of the cell c with status s is written from row `at` on, on level l, and the edges that s splits
--                 are in the table of edges
--   Roomy ..      the tables have room for the families of the cells `first` to `last` - 1, from row `at` on
--   Grows ..      what Laid says, of the k cells from `first` on in turn; all numbers are those of the last list of ends
use Rattle.std.specs.Prelude.{◌≡◌, List, ℕ, ◌+◌, ◌*◌, ◌-◌, ◌≤◌, ◌<◌, length, get_or, take}
use Rattle.base.specs.Limits.{most_cells}
use Rattle.mesh.specs.Layout.{split_edges}
use Rattle.pairs.specs.declared.PairTable.{PairTable}
use Rattle.edges.specs.Table.{entries, Grown}
use Rattle.rows.specs.Numbered.{cell_at, cells_at, part, ends_from, point_at, rows_of}
use Rattle.mesh.specs.Table.{size_of, sizes}
use Rattle.growth.specs.Written.{written}
use Rattle.growth.specs.Rows.{rows_all}
use Rattle.growth.specs.Points.{Mids}

module _ {N H : ℕ} where
  -- Rules 5.5, 9.2: a family's rows and its new corners.
  pub record Laid (cells : List ℕ) (t : PairTable N H) (c s l at n : ℕ) (cells' : List ℕ) (t' : PairTable N H) (at' : ℕ) : Type 0 where
    pub table : Grown t (split_edges 0 (cell_at cells c) s) t'
    pub rows : cells' ≡ written cells (8 * at) (rows_of l c s (point_at n (entries t') (cell_at cells c)))
    pub next : at' ≡ at + size_of s

  pub record Roomy (cells : List ℕ) (t : PairTable N H) (ss : List ℕ) (first last at n : ℕ) : Type 0 where
    pub rise : first ≤ last
    pub done : last ≤ at
    pub statuses : last ≤ length ss
    pub small : (c : ℕ) → first ≤ c → c < last → get_or ss c 0 ≤ 64
    pub in_cells : 8 * (at + sizes (part ss first (last - first))) ≤ length cells
    pub most : at + sizes (part ss first (last - first)) ≤ most_cells
    pub coarse : n ≤ 512
    pub few : t.n ≤ at
    pub mids : Mids t
    pub in_mids : at + sizes (part ss first (last - first)) ≤ N

  pub record Grows (cells : List ℕ) (t : PairTable N H) (ss : List ℕ) (first k l at n : ℕ) (cells' : List ℕ) (t' : PairTable N H) (at' : ℕ)
      : Type 0 where
    pub mids : Mids t'
    pub list : entries t' ≡ ends_from (entries t) (cells_at cells first k) (part ss first k)
    pub more : t.n ≤ t'.n
    pub kept_xs : take t.n t'.xs ≡ take t.n t.xs
    pub kept_ys : take t.n t'.ys ≡ take t.n t.ys
    pub rows : cells' ≡ written cells (8 * at) (rows_all l n (entries t') first (cells_at cells first k) (part ss first k))
    pub next : at' ≡ at + sizes (part ss first k)
    pub few : t'.n ≤ at'
