-- Tests over corner numbers give what they give over weights, for cells whose points are all among the corners ks.
--   numbered_cells ks cs   the cells cs over the numbers of their points
--   edge_in ks e     the numbers of the ends of e
--   Placed ks c     c has four points, each of them a corner
--   EndsPlaced ks e   both ends of e are corners
-- Laws: same_number (numbers), held_numbers, closed_numbers, apart_numbers (tests).
use Rattle.std.specs.Prelude.{◌≡◌, ℕ}
use Rattle.std.proofs.Common.{ap, eqb-true, eq-eqb}
use mathlib.Core.List.{List, [], map}
use Rattle.std.proofs.Math.Dec.{eqb}
use Rattle.base.specs.Lists.{sameb}
use Rattle.base.specs.Places.{same_list}
use Rattle.mesh.specs.Cells.{Cell, heldb, closed_from, red_edges}
use Rattle.mesh.specs.Weights.{Point}
use Rattle.mesh.specs.Table.{apartb}
use Rattle.mesh.specs.Layout.{Corner, number_in, map_cell}
use Rattle.edges.specs.Pairs.{Pair, test_ext}
use Rattle.base.specs.Every.{All}
use Rattle.numbering.specs.Corners.{Has, number_injective}
use Rattle.numbering.specs.Renamed.{map_edge, Points, EndsIn, held-map, closed-map, red_edges_in, red_edges-map, apart_of}
use Rattle.numbering.specs.Renamed.{apart-map}

abbrev pub numbered_cells : List Corner → List (Cell Point) → List (Cell ℕ)
numbered_cells ks cs = map (map_cell (number_in ks)) cs

abbrev pub edge_in : List Corner → Point × Point → Pair
edge_in ks e = map_edge (number_in ks) e

abbrev pub Placed : List Corner → Cell Point → Type 0
Placed ks c = Points (Has ks) c

abbrev pub EndsPlaced : List Corner → Point × Point → Type 0
EndsPlaced ks e = EndsIn (Has ks) e

module _ (ks : List Corner) where
  -- numbers are the same where weights are
  same_number : (p q : Point) → Has ks p → Has ks q → eqb (number_in ks p) (number_in ks q) ≡ sameb p q
  same_number p q hp hq =
      test_ext (eqb (number_in ks p) (number_in ks q)) (sameb p q)
      (λ t. rw (number_injective ks p q hp hq (eqb-true (number_in ks p) (number_in ks q) t)) (same_list.self q))
      (λ t. eq-eqb (number_in ks p) (number_in ks q) (ap (number_in ks) (same_list.sound p q t)))

  pub held_numbers : (es : List (Point × Point)) (e : Point × Point) → All (EndsPlaced ks) es → EndsPlaced ks e
      → heldb eqb (map (edge_in ks) es) (edge_in ks e) ≡ heldb sameb es e
  held_numbers = held-map [] 0 sameb eqb (number_in ks) (Has ks) same_number

  module _ (cs : List (Cell Point)) (ss : List ℕ) (p : All (Placed ks) cs) where
    pub red_edges_numbers : red_edges 0 (numbered_cells ks cs) ss ≡ map (edge_in ks) (red_edges [] cs ss)
    red_edges_numbers = red_edges-map [] 0 (number_in ks) (Has ks) cs ss p

    pub closed_numbers : closed_from 0 eqb (red_edges 0 (numbered_cells ks cs) ss) (numbered_cells ks cs) ss ≡ closed_from [] sameb
        (red_edges [] cs ss) cs ss
    closed_numbers = rw red_edges_numbers (closed-map [] 0 sameb eqb (number_in ks) (Has ks) same_number (red_edges [] cs ss) cs ss
        (red_edges_in [] 0 (number_in ks) (Has ks) cs ss p) p)

    pub apart_numbers : apart_of 0 eqb (numbered_cells ks cs) ss ≡ apartb cs ss
    unfolding apart_of apartb
    apart_numbers = apart-map [] 0 sameb eqb (number_in ks) (Has ks) same_number cs ss p
