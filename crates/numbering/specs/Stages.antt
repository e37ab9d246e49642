-- The mesh level by level, as a program builds it: the corners so far, their ends, and the cells of the level.
--   Stage n k ks es cs   cs are the cells of level k, and their points are among the corners ks with the ends es
--   NextStage n k j ks es cs ss ks' es'   what a level with statuses ss leaves, where its first cell has the number j
-- Laws: stage_start (the coarse level), stage_next (one level up), stage_leaves (the same on the highest level, where there are
-- leaves alone).
use Rattle.std.specs.Prelude.{◌≡◌, refl, List, [], ℕ, suc, ◌<◌, T, length}
use Rattle.std.proofs.Common.{◌∙◌}
use Rattle.mesh.specs.Cells.{Cell}
use Rattle.mesh.specs.Weights.{Point, coarse_cells}
use Rattle.mesh.specs.Coarse.{cellsb}
use Rattle.mesh.specs.Table.{next}
use Rattle.mesh.specs.Layout.{Corner, coarse_corners, corners_from}
use Rattle.edges.specs.Pairs.{Pair}
use Rattle.rows.specs.Numbered.{ends_from, next_of}
use Rattle.base.specs.Every.{All, all_more}
use Rattle.lattice.specs.Regular.{Regular}
use Rattle.lattice.specs.Levels.{IfRegular, next_regular, coarse_cells_regular}
use Rattle.numbering.specs.Corners.{Kept, NumberedCorners, corners_start}
use Rattle.numbering.specs.Tests.{numbered_cells, Placed}
use Rattle.numbering.specs.Refined.{Refined, refined_red}
use Rattle.numbering.specs.Levels.{level_corners, level_kept, level_split}
use Rattle.numbering.specs.Children.{next_placed, next_numbers}
use Rattle.numbering.specs.Coarse.{coarse_placed}
use Rattle.numbering.specs.Leaves.{Leaves, leaf_corners, leaf_ends, leaf_next, leaf_numbers}

pub record Stage (n k : ℕ) (ks : List Corner) (es : List Pair) (cs : List (Cell Point)) : Type 0 where
  pub corners : NumberedCorners n ks es
  pub placed : All (Placed ks) cs
  pub regular : All (IfRegular n k) cs

pub stage_start : (n : ℕ) (qs : List (List ℕ)) → All (λ q. length q ≡ 4) qs → T (cellsb n qs)
    → Stage n 0 (coarse_corners n) [] (coarse_cells n qs)
stage_start n qs e t =
    record {
      corners = corners_start n;
      placed = coarse_placed n (coarse_corners n) [] (corners_start n) qs e t;
      regular = all_more (Regular n 0) (IfRegular n 0) (λ c r u. r) (coarse_cells n qs) (coarse_cells_regular n qs e t);
    }

-- One level up.
pub record NextStage (n k j : ℕ) (ks : List Corner) (es : List Pair) (cs : List (Cell Point)) (ss : List ℕ) (ks' : List Corner)
    (es' : List Pair) : Type 0 where
  pub stage : Stage n (suc k) ks' es' (next j cs ss)
  pub kept : Kept ks ks'
  pub cells : next_of n es' j (numbered_cells ks cs) ss ≡ numbered_cells ks' (next j cs ss)

pub stage_next : (n k j : ℕ) (ks : List Corner) (es : List Pair) (cs : List (Cell Point)) (ss : List ℕ) → Stage n k ks es cs → k < 10
    → Refined cs ss
    → NextStage n k j ks es cs ss (corners_from ks cs ss) (ends_from es (numbered_cells ks cs) ss)
stage_next n k j ks es cs ss s h f =
    let ks' = corners_from ks cs ss in
    let es' = ends_from es (numbered_cells ks cs) ss in
    let w = level_corners n k h ks es cs ss s.corners s.placed s.regular f in
    let kept = level_kept ks cs ss in
    record {
      stage =
          record {
            corners = w;
            placed = next_placed n k h ks ks' es' w kept j cs ss s.placed s.regular f (level_split ks cs ss);
            regular = next_regular n k j cs ss h s.regular (refined_red cs ss f);
          };
      kept = kept;
      cells = next_numbers n k h ks ks' es' w kept j cs ss s.placed s.regular f (level_split ks cs ss);
    }

pub stage_leaves : (n k j : ℕ) (ks : List Corner) (es : List Pair) (cs : List (Cell Point)) (ss : List ℕ) → Stage n k ks es cs
    → Leaves cs ss
    → NextStage n k j ks es cs ss (corners_from ks cs ss) (ends_from es (numbered_cells ks cs) ss)
stage_leaves n k j ks es cs ss s l =
    let x = leaf_corners ks es cs ss l in
    let y = leaf_ends ks es cs ss l in
    let z = leaf_next j cs ss l in
    record {
      stage = rw (x, y, z) (record { corners = s.corners; placed = tt; regular = tt });
      kept = level_kept ks cs ss;
      cells = leaf_numbers n j ks (ends_from es (numbered_cells ks cs) ss) cs ss l ∙ rw z refl;
    }
