-- Whole tables: the levels that a program builds over corner numbers are those of rule 4.4, under the numbers of the layout. (A
-- program that works level by level uses Stages.)
--   number_levels n m j es cs ss   at most m levels over numbers, from the cells cs numbered from j on, where es are the ends of
--                                 the corners so far and ss is the rest of the table
--   Numbers n ks es ls ns         ns are the levels ls over the numbers of ks, and es are the ends of ks
--   Onward n ks es ss ls ns       the same above a level: ks and es are the corners and ends so far, ss is the rest of the table
--   table_corners n qs ss          the corners of a table, and table_ends n qs ss their ends
-- Laws: table_numbers (closed levels, at most eleven), sound_numbers (a sound table).
use Rattle.std.specs.Prelude.{◌≡◌, ℕ, zero, suc, ◌+◌, ◌≤◌, length, take, drop}
use Rattle.std.proofs.Math.Path.{refl}
use Rattle.std.proofs.Common.{sym, ◌∙◌, ap₂, arith}
use mathlib.Core.List.{List, [], ◌∷◌, ◌++◌, map, map-append}
use Rattle.std.proofs.Math.Decide.{dec_lt}
use Rattle.std.proofs.lemmas.List.{length-map}
use Rattle.mesh.specs.Cells.{Cell}
use Rattle.mesh.specs.Weights.{Point}
use Rattle.mesh.specs.Table.{Level, next, levels, levels_of, cells_of}
use Rattle.mesh.specs.Layout.{Corner, number_in, map_cell, split_edges, add_corners, corners_from, corners_of}
use Rattle.edges.specs.Pairs.{Pair, add_pairs}
use Rattle.rows.specs.Numbered.{ends_from, next_of}
use Rattle.base.specs.Every.{All, all_more, all_append}
use Rattle.numbering.specs.Corners.{Kept, kept_both, NumberedCorners}
use Rattle.numbering.specs.Tests.{numbered_cells, Placed}
use Rattle.numbering.specs.Refined.{Refined}
use Rattle.numbering.specs.Levels.{placed_kept, cells_kept, level_kept}
use Rattle.numbering.specs.Leaves.{next_leaves}
use Rattle.numbering.specs.Stages.{Stage, NextStage, stage_next, stage_leaves}

-- Rule 4.4, over numbers.
unfoldable pub number_levels : ℕ → ℕ → ℕ → List Pair → List (Cell ℕ) → List ℕ → List (List (Cell ℕ))
unfolding ends_from next_of
number_levels n zero j es cs ss = []
number_levels n (suc m) j es [] ss = []
number_levels n (suc m) j es (c ∷ cs) ss =
    let l = length (c ∷ cs) in
    let own = take l ss in
    let es' = ends_from es (c ∷ cs) own in
    (c ∷ cs) ∷ number_levels n m (j + l) es' (next_of n es' j (c ∷ cs) own) (drop l ss)

-- Rules 4.4, 5.5: levels over the numbers of their corners.
pub record Numbers (n : ℕ) (ks : List Corner) (es : List Pair) (ls : List Level) (ns : List (List (Cell ℕ))) : Type 0 where
  pub cells : ns ≡ map (λ l. numbered_cells ks l.cells) ls
  pub corners : NumberedCorners n ks es
  pub placed : All (Placed ks) (cells_of ls)

-- A level and what is above it, in one list.
pub corners_append : (ks : List Corner) (cs ds : List (Cell Point)) (ss : List ℕ)
    → corners_from ks (cs ++ ds) ss ≡ corners_from (corners_from ks cs (take (length cs) ss)) ds (drop (length cs) ss)
unfolding corners_from
corners_append ks [] ds ss = refl
corners_append ks (c ∷ cs) [] [] = refl
corners_append ks (c ∷ cs) (d ∷ ds) [] = refl
corners_append ks (c ∷ cs) ds (s ∷ ss) = corners_append (add_corners ks (split_edges [] c s)) cs ds ss

ends_append : (es : List Pair) (cs ds : List (Cell ℕ)) (ss : List ℕ)
    → ends_from es (cs ++ ds) ss ≡ ends_from (ends_from es cs (take (length cs) ss)) ds (drop (length cs) ss)
unfolding ends_from
ends_append es [] ds ss = refl
ends_append es (c ∷ cs) [] [] = refl
ends_append es (c ∷ cs) (d ∷ ds) [] = refl
ends_append es (c ∷ cs) ds (s ∷ ss) = ends_append (add_pairs es (split_edges 0 c s)) cs ds ss

ends_up : (ks ks' : List Corner) (es : List Pair) (cs ds : List (Cell Point)) (ss : List ℕ) → numbered_cells ks' cs ≡ numbered_cells ks cs
    → ends_from es (numbered_cells ks' (cs ++ ds)) ss ≡ ends_from (ends_from es (numbered_cells ks cs) (take (length cs) ss))
    (numbered_cells ks' ds) (drop (length cs) ss)
ends_up ks ks' es cs ds ss e =
    rw (map-append (map_cell (number_in ks')) cs ds, e) (ends_append es (numbered_cells ks cs) (numbered_cells ks' ds) ss
    ∙ rw (length-map cs (map_cell (number_in ks))))

abbrev pub Onward : ℕ → List Corner → List Pair → List ℕ → List Level → List (List (Cell ℕ)) → Type 0
Onward n ks es ss ls ns =
    let last = corners_from ks (cells_of ls) ss in
    Numbers n last (ends_from es (numbered_cells last (cells_of ls)) ss) ls ns

pub onward_none : (n : ℕ) (ks : List Corner) (es : List Pair) (ss : List ℕ) (ns : List (List (Cell ℕ))) → NumberedCorners n ks es → ns ≡ []
    → Onward n ks es ss [] ns
unfolding cells_of corners_from ends_from
onward_none n ks es ss ns c e = record { cells = e; corners = c; placed = tt }

pub onward_more : (n : ℕ) (ks : List Corner) (es : List Pair) (ss : List ℕ) (l : Level) (ls : List Level) (ns ns' : List (List (Cell ℕ)))
    → All (Placed ks) l.cells → ns' ≡ numbered_cells ks l.cells ∷ ns
    → Onward n (corners_from ks l.cells (take (length l.cells) ss))
    (ends_from es (numbered_cells ks l.cells) (take (length l.cells) ss))
    (drop (length l.cells) ss) ls ns
    → Onward n ks es ss (l ∷ ls) ns'
unfolding cells_of
onward_more n ks es ss l ls ns ns' p f w =
    let cs = l.cells in
    let own = take (length cs) ss in
    let rest = drop (length cs) ss in
    let ks₁ = corners_from ks cs own in
    let last = corners_from ks₁ (cells_of ls) rest in
    let kept : Kept ks last = kept_both ks ks₁ last (level_kept ks cs own) (level_kept ks₁ (cells_of ls) rest) in
    let e : numbered_cells last cs ≡ numbered_cells ks cs = cells_kept ks last kept cs p in
    rw (corners_append ks cs (cells_of ls) ss, ends_up ks last es cs (cells_of ls) ss e)
    (record {
      cells = f ∙ ap₂ ◌∷◌ (sym e) w.cells;
      corners = w.corners;
      placed = all_append (Placed last) cs (cells_of ls) (all_more (Placed ks) (Placed last) (placed_kept ks last kept) cs p) w.placed;
    })

-- Level after level. On level 10 there are leaves alone, since a twelfth level is looked for and not there.
levels_none : (m j : ℕ) (cs : List (Cell Point)) (ss : List ℕ) → length (levels (suc m) j cs ss) ≡ 0 → length cs ≡ 0
unfolding levels
levels_none m j [] ss e = refl
levels_none m j (c ∷ cs) ss e = absurd (omega arith)

pub stage_up : (n k m j : ℕ) (ks : List Corner) (es : List Pair) (cs : List (Cell Point)) (own rest : List ℕ) → k + suc m ≡ 12
    → Stage n k ks es cs → Refined cs own
    → (i : ℕ) → k + suc (length (levels m i (next j cs own) rest)) ≤ 11 → NextStage n k j ks es cs own (corners_from ks cs own)
    (ends_from es (numbered_cells ks cs) own)
stage_up n k zero j ks es cs own rest h s f i l = absurd (omega arith)
stage_up n k (suc m) j ks es cs own rest h s f i l =
    elim (dec_lt k 10) [
      | yes u ↦ stage_next n k j ks es cs own s u f
      | no u ↦ stage_leaves n k j ks es cs own s (next_leaves j cs own f (levels_none m i (next j cs own) rest (omega arith)))
    ]

-- A table whose levels are closed, at most eleven; so a sound table.
abbrev pub table_corners : ℕ → List (List ℕ) → List ℕ → List Corner
table_corners n qs ss = corners_of n (cells_of (levels_of n qs ss)) ss

-- Rules 5.5, 9.3: by first appearance.
abbrev pub table_ends : ℕ → List (List ℕ) → List ℕ → List Pair
table_ends n qs ss = ends_from [] (numbered_cells (table_corners n qs ss) (cells_of (levels_of n qs ss))) ss
