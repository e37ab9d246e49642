-- The numbers of a cell's ten points (rules 2.3, 5.5), as they are found edge by edge.
--   split_at p c e            the edge e of c where the pattern splits it, else nothing
--   low_corners c             for each of the ten points the number of its lower corner: a corner's own
--   marked n es c p e ps     the numbers ps with that of the midpoint of the edge e set, where the pattern splits it
--   PointsSet n es c p ps       each point that is present has its number in ps
--   four_at ds j              the four digits of ds from the place j on
--   Mids t                         t is a table of new corners: all its entries are looked at, and they are different edges
--   ReadyToGrow cells t c s n      the tables have room for the edges of the cell c that the status s splits
use Rattle.std.specs.Prelude.{◌≡◌, true, false, List, [], ◌∷◌, map, ℕ, ◌+◌, ◌*◌, ◌≤◌, ◌<◌, T, length, get_or, set}
use Rattle.std.proofs.Common.{◌∙◌}
use Rattle.base.specs.Lists.{filterb, memberb}
use Rattle.base.specs.Places.{place_in}
use Rattle.cutting.specs.Rule.{low, points, split, present}
use Rattle.mesh.specs.Cells.{Cell, corner, edge}
use Rattle.mesh.specs.Layout.{split_edges}
use Rattle.edges.specs.Pairs.{Pair, sorted, isb}
use Rattle.pairs.specs.declared.PairTable.{PairTable}
use Rattle.edges.specs.Table.{Edges, Space, Grown}
use Rattle.rows.specs.Numbered.{cell_at, point_at}
use Rattle.growth.specs.Places.{middle_edge}

-- Rule 2.2: the edge where the pattern splits it.
unfoldable pub split_at : ℕ → Cell ℕ → ℕ → List Pair
unfolding edge filterb split
split_at p c e = map (edge 0 c) (filterb (split p) (e ∷ []))

-- Rule 2.3: the lower corner of each of the ten points.
unfoldable pub low_corners : Cell ℕ → List ℕ
unfolding low
low_corners c = map (λ d. corner 0 c (low d)) points

unfoldable pub marked : ℕ → List Pair → Cell ℕ → ℕ → ℕ → List ℕ → List ℕ
unfolding middle_edge edge split place_in isb sorted
marked n es c p e ps = elim (split p e) [ true ↦ set ps (middle_edge e) (n + place_in isb es (sorted (edge 0 c e))) | false ↦ ps ]

-- Rules 2.4, 5.5: each present point has its number.
pub record PointsSet (n : ℕ) (es : List Pair) (c : Cell ℕ) (p : ℕ) (ps : List ℕ) : Type 0 where
  pub at : (d : ℕ) → T (memberb d (present p)) → get_or ps d 0 ≡ point_at n es c d

unfoldable pub four_at : List ℕ → ℕ → List ℕ
four_at ds j = get_or ds j 0 ∷ get_or ds (j + 1) 0 ∷ get_or ds (j + 2) 0 ∷ get_or ds (j + 3) 0 ∷ []

module _ {N H : ℕ} where
  -- Rule 5.5: the corners behind the coarse ones, by the edges that they halve.
  pub record Mids (t : PairTable N H) : Type 0 where
    pub all : t.from ≡ 0
    pub distinct : Edges t

  pub mids_grown : {t : PairTable N H} {es : List Pair} {t' : PairTable N H} → Mids t → Grown t es t' → Mids t'
  mids_grown m g = record { all = g.same_from ∙ m.all; distinct = g.distinct }

  pub record ReadyToGrow (cells : List ℕ) (t : PairTable N H) (c s n : ℕ) : Type 0 where
    pub inside : 8 * c + 8 ≤ length cells
    pub mids : Mids t
    pub space : Space t (length (split_edges 0 (cell_at cells c) s))
    pub small : n + t.n + length (split_edges 0 (cell_at cells c) s) < 65536
