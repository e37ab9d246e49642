-- What checking one level tells, over corner numbers.
--   Listed t es t'   behind the entries of t, which are kept, the edges es stand in t', each once
--   Torn ..          the level from first to last is not closed, or there are too few statuses for its cells or for those above it
--   Closed ..        it is closed, the edges of its red cells are listed, and `size` cells lie above it
use Rattle.std.specs.Prelude.{◌≡◌, ◌⊎◌, Bool, true, false, List, [], ℕ, ◌+◌, ◌*◌, ◌-◌, ◌≤◌, ◌<◌, eqb, leb, length, take}
use Rattle.base.specs.Limits.{most_cells}
use Rattle.base.specs.Lists.{allb}
use Rattle.mesh.specs.Cells.{Cell, red_edges, closed_from}
use Rattle.pairs.specs.declared.PairTable.{PairTable}
use Rattle.edges.specs.Pairs.{Pair, add_pairs}
use Rattle.edges.specs.Table.{listed}
use Rattle.rows.specs.Numbered.{cells_at, part}
use Rattle.mesh.specs.Table.{sizes}

-- Rules 3.4, 4.1: a status table that is short enough, of statuses.
pub record Statuses (ss : List ℕ) : Type 0 where
  pub few : length ss ≤ most_cells
  pub fit : allb (λ s. leb s 64) ss ≡ true

pub record Listed {N H : ℕ} (t : PairTable N H) (es : List Pair) (t' : PairTable N H) : Type 0 where
  pub list : listed t'.xs t'.ys t.n t'.n ≡ add_pairs [] es
  pub more : t.n ≤ t'.n
  pub kept_xs : take t.n t'.xs ≡ take t.n t.xs
  pub kept_ys : take t.n t'.ys ≡ take t.n t.ys

module _ (rows ss : List ℕ) (first last : ℕ) where
  abbrev pub own_cells : List (Cell ℕ)
  own_cells = cells_at rows first (last - first)

  abbrev pub own_statuses : List ℕ
  own_statuses = part ss first (last - first)

  abbrev pub own_reds : List (ℕ × ℕ)
  own_reds = red_edges 0 own_cells own_statuses

  abbrev pub own_closed : Bool
  own_closed = closed_from 0 eqb own_reds own_cells own_statuses

  -- Rules 6.2, 6.3: what a level fails by.
  abbrev pub Torn : Type 0
  Torn = (length ss < last) ⊎ (((last ≤ length ss) × (length ss < last + sizes own_statuses)) ⊎ (own_closed ≡ false))

  -- Rules 6.2, 6.3: a level that passes. A red cell has six edges, and eight children.
  pub record Closed {N H : ℕ} (t t' : PairTable N H) (size : ℕ) : Type 0 where
    pub inside : last ≤ length ss
    pub fit : last + sizes own_statuses ≤ length ss
    pub closed : own_closed ≡ true
    pub many : size ≡ sizes own_statuses
    pub reds : Listed t own_reds t'
    pub few : 4 * t'.n ≤ 3 * (last + size)
