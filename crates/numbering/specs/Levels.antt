-- A whole level: the corners that its cells add are those whose pairs the program adds.
--   SplitIn ks c s   the midpoints of the edges of c that its status s splits are corners
-- Laws: placed_kept, cells_kept (cells among more corners), level_corners, level_kept, level_split (what the cells of a level
-- add).
use Rattle.std.specs.Prelude.{◌≡◌, Bool, ℕ, ◌<◌}
use Rattle.std.proofs.Math.Path.{refl, ap}
use Rattle.std.proofs.Common.{ap₂, eqb-true}
use Rattle.std.proofs.Math.Bool.{true, false}
use mathlib.Core.List.{List, [], ◌∷◌, map}
use Rattle.std.proofs.Math.Dec.{eqb}
use Rattle.std.proofs.lemmas.Bool.{eqb-false}
use Rattle.mesh.specs.Cells.{Cell, edge}
use Rattle.mesh.specs.Weights.{Point, mid}
use Rattle.mesh.specs.Layout.{Corner, number_in, map_cell, split_edges, add_corner, add_corners, corners_from}
use Rattle.edges.specs.Pairs.{Pair, add_pair, add_pairs}
use Rattle.rows.specs.Numbered.{ends_from}
use Rattle.base.specs.Every.{All, all_more}
use Rattle.lattice.specs.Regular.{Regular}
use Rattle.lattice.specs.Levels.{IfRegular}
use Rattle.base.specs.Each.{all_mapped, map_same}
use Rattle.numbering.specs.Ends.{Splittable, edge_splittable}
use Rattle.numbering.specs.Corners.{Has, Kept, NumberedCorners, kept_same, kept_both, kept_has, kept_number}
use Rattle.numbering.specs.Midpoints.{added_kept, added_has, corners_add}
use Rattle.numbering.specs.Renamed.{split_numbers, split_numbers_lem, split_edges_in, split_edges-map}
use Rattle.numbering.specs.Tests.{numbered_cells, edge_in, Placed, EndsPlaced}
use Rattle.numbering.specs.Refined.{Both, Follows, Refined}

-- What has its points among the corners keeps them, and their numbers, among more corners.
module _ (ks ks' : List Corner) (k : Kept ks ks') where
  ends_kept : (e : Point × Point) → EndsPlaced ks e → EndsPlaced ks' e
  ends_kept e p = (kept_has ks ks' k e.0 p.0, kept_has ks ks' k e.1 p.1)

  pub placed_kept : (c : Cell Point) → Placed ks c → Placed ks' c
  placed_kept c p = record { four = p.four; each = all_more (Has ks) (Has ks') (kept_has ks ks' k) c.points p.each }

  edges_kept : (l : List (Point × Point)) → All (EndsPlaced ks) l → map (edge_in ks') l ≡ map (edge_in ks) l
  edges_kept l p =
      map_same (edge_in ks') (edge_in ks) l
      (all_more (EndsPlaced ks) (λ e. edge_in ks' e ≡ edge_in ks e)
      (λ e q. ap₂ (λ (x y : ℕ). (x, y)) (kept_number ks ks' k e.0 q.0) (kept_number ks ks' k e.1 q.1)) l p)

  cell_kept : (c : Cell Point) → Placed ks c → map_cell (number_in ks') c ≡ map_cell (number_in ks) c
  unfolding map_cell
  cell_kept c p =
      ap {A = List ℕ} {B = Cell ℕ} (λ l. record { path = c.path; parent = c.parent; regular = c.regular; points = l })
      (map_same (number_in ks') (number_in ks) c.points
      (all_more (Has ks) (λ q. number_in ks' q ≡ number_in ks q) (kept_number ks ks' k) c.points p.each))

  pub cells_kept : (cs : List (Cell Point)) → All (Placed ks) cs → numbered_cells ks' cs ≡ numbered_cells ks cs
  cells_kept cs p =
      map_same (map_cell (number_in ks')) (map_cell (number_in ks)) cs
      (all_more (Placed ks) (λ c. map_cell (number_in ks') c ≡ map_cell (number_in ks) c) cell_kept cs p)

-- One edge after another.
edges_added : (ks : List Corner) (l : List (Point × Point)) → Kept ks (add_corners ks l)
unfolding add_corners
edges_added ks [] = kept_same ks
edges_added ks (e ∷ l) = kept_both ks (add_corner ks e) (add_corners (add_corner ks e) l) (added_kept ks e) (edges_added (add_corner ks e) l)

edges_has : (ks : List Corner) (l : List (Point × Point)) → All (λ e. Has (add_corners ks l) (mid e.0 e.1)) l
unfolding add_corners
edges_has ks [] = tt
edges_has ks (e ∷ l) = (
  kept_has (add_corner ks e) (add_corners (add_corner ks e) l) (edges_added (add_corner ks e) l) (mid e.0 e.1)
      (added_has ks e.0 e.1),
  edges_has (add_corner ks e) l,
)

edges_corners : (n : ℕ) (ks : List Corner) (es : List Pair) (l : List (Point × Point)) → NumberedCorners n ks es
    → All (λ e. Splittable n e.0 e.1) l
    → All (EndsPlaced ks) l → NumberedCorners n (add_corners ks l) (add_pairs es (map (edge_in ks) l))
unfolding add_corners add_pairs
edges_corners n ks es [] c s p = c
edges_corners n ks es (e ∷ l) c s p =
    let k = added_kept ks e in
    rw (edges_kept ks (add_corner ks e) k l p.1) at (edges_corners n (add_corner ks e) (add_pair es (edge_in ks e)) l
    (corners_add n ks es c e.0 e.1 s.0 p.0.0 p.0.1) s.1
    (all_more (EndsPlaced ks) (EndsPlaced (add_corner ks e)) (ends_kept ks (add_corner ks e) k) l p.1))

-- One cell: its split edges.
split_none : {A : Type 0} (o : A) (c : Cell A) → split_edges o c 0 ≡ []
unfolding split_edges
split_none o c = refl

split_splittable : (n k : ℕ) → k < 10 → (c : Cell Point) → Regular n k c → (s : ℕ)
    → All (λ e. Splittable n e.0 e.1) (split_edges [] c s)
unfolding split_edges
split_splittable n k h c r s =
    all_mapped (λ (e : Point × Point). Splittable n e.0 e.1) (edge [] c) (split_numbers s)
    (all_more (λ e. e < 6) (λ e. Splittable n (edge [] c e).0 (edge [] c e).1) (edge_splittable n k c h r) (split_numbers s)
    (split_numbers_lem s))

module _ (n k : ℕ) (h : k < 10) where
  cell_corners : (ks : List Corner) (es : List Pair) (c : Cell Point) (s : ℕ) → NumberedCorners n ks es → Placed ks c → IfRegular n k c
      → Follows c s
      → NumberedCorners n (add_corners ks (split_edges [] c s)) (add_pairs es (split_edges 0 (map_cell (number_in ks) c) s))
  unfolding add_corners add_pairs
  cell_corners ks es c s w p r f = go (eqb s 0) refl
    where
      go : (b : Bool) → eqb s 0 ≡ b → NumberedCorners n (add_corners ks (split_edges [] c s))
          (add_pairs es (split_edges 0 (map_cell (number_in ks) c) s))
      go true e = rw (eqb-true s 0 e, split_none [] c, split_none 0 (map_cell (number_in ks) c)) w
      go false e =
          rw (split_edges-map [] 0 (number_in ks) (Has ks) c p s)
          (edges_corners n ks es (split_edges [] c s) w (split_splittable n k h c (r (f.regular (eqb-false s 0 e))) s)
          (split_edges_in [] 0 (number_in ks) (Has ks) c p s))

  -- The cells of a level, one after another.
  pub level_corners : (ks : List Corner) (es : List Pair) (cs : List (Cell Point)) (ss : List ℕ) → NumberedCorners n ks es
      → All (Placed ks) cs → All (IfRegular n k) cs → Refined cs ss
      → NumberedCorners n (corners_from ks cs ss) (ends_from es (numbered_cells ks cs) ss)
  unfolding corners_from ends_from
  level_corners ks es [] ss w p r f = w
  level_corners ks es (c ∷ cs) [] w p r f = w
  level_corners ks es (c ∷ cs) (s ∷ ss) w p r f =
      let ks₁ = add_corners ks (split_edges [] c s) in
      let k₁ = edges_added ks (split_edges [] c s) in
      rw (cells_kept ks ks₁ k₁ cs p.1) at (level_corners ks₁ (add_pairs es (split_edges 0 (map_cell (number_in ks) c) s)) cs ss
      (cell_corners ks es c s w p.0 r.0 f.0) (all_more (Placed ks) (Placed ks₁) (placed_kept ks ks₁ k₁) cs p.1) r.1 f.1)

pub level_kept : (ks : List Corner) (cs : List (Cell Point)) (ss : List ℕ) → Kept ks (corners_from ks cs ss)
unfolding corners_from
level_kept ks [] ss = kept_same ks
level_kept ks (c ∷ cs) [] = kept_same ks
level_kept ks (c ∷ cs) (s ∷ ss) =
    let ks₁ = add_corners ks (split_edges [] c s) in
    kept_both ks ks₁ (corners_from ks₁ cs ss) (edges_added ks (split_edges [] c s)) (level_kept ks₁ cs ss)

abbrev pub SplitIn : List Corner → Cell Point → ℕ → Type 0
SplitIn ks c s = All (λ e. Has ks (mid e.0 e.1)) (split_edges [] c s)

pub level_split : (ks : List Corner) (cs : List (Cell Point)) (ss : List ℕ) → Both (SplitIn (corners_from ks cs ss)) cs ss
unfolding corners_from
level_split ks [] ss = tt
level_split ks (c ∷ cs) [] = tt
level_split ks (c ∷ cs) (s ∷ ss) =
    let l = split_edges [] c s in
    let ks₁ = add_corners ks l in (
      all_more (λ e. Has ks₁ (mid e.0 e.1)) (λ e. Has (corners_from ks₁ cs ss) (mid e.0 e.1))
          (λ e. kept_has ks₁ (corners_from ks₁ cs ss) (level_kept ks₁ cs ss) (mid e.0 e.1)) l (edges_has ks l),
      level_split ks₁ cs ss,
    )
