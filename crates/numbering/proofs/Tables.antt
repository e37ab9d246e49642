-- The numbers of a sound table, level after level, are those of its cells by weights.
use Rattle.std.specs.Prelude.{◌≡◌, ℕ, zero, suc, ◌+◌, ◌≤◌, T, length, take, drop}
use Rattle.std.proofs.Math.Path.{refl}
use Rattle.std.proofs.Common.{◌∙◌, ap, arith}
use mathlib.Core.List.{List, [], ◌∷◌}
use Rattle.std.proofs.lemmas.List.{length-map}
use Rattle.base.specs.Lists.{allb}
use Rattle.mesh.specs.Cells.{Cell}
use Rattle.mesh.specs.Weights.{Point, coarse_cells}
use Rattle.mesh.specs.Coarse.{cellsb}
use Rattle.mesh.specs.Table.{Level, next, levels, levels_of, closedb, soundb}
use Rattle.mesh.specs.Layout.{Corner, number_in, map_cell, coarse_corners, corners_from, corners_of}
use Rattle.edges.specs.Pairs.{Pair}
use Rattle.rows.specs.Numbered.{ends_from, next_of}
use Rattle.base.specs.Every.{All, all_of}
use Rattle.lattice.specs.Levels.{sound_levels}
use Rattle.numbering.specs.Corners.{corners_start}
use Rattle.numbering.specs.Tests.{numbered_cells}
use Rattle.numbering.specs.Refined.{Refined, closed_refined}
use Rattle.numbering.specs.Coarse.{coarse_numbers, coarse_numbers_lem}
use Rattle.numbering.specs.Stages.{Stage, NextStage, stage_start}
use Rattle.numbering.specs.Tables.{number_levels, Numbers, Onward, onward_none, onward_more, stage_up, table_corners, table_ends}

number_levels_lem : (n m j : ℕ) (es : List Pair) (c : Cell ℕ) (cs ds : List (Cell ℕ)) (ss : List ℕ) (k : ℕ) → length (c ∷ cs) ≡ k
    → next_of n (ends_from es (c ∷ cs) (take k ss)) j (c ∷ cs) (take k ss) ≡ ds
    → number_levels n (suc m) j es (c ∷ cs) ss ≡ (c ∷ cs) ∷ number_levels n m (j + k) (ends_from es (c ∷ cs) (take k ss)) ds (drop k ss)
unfolding number_levels
number_levels_lem n m j es c cs ds ss k e f =
    ap (λ (k : ℕ). (c ∷ cs) ∷ number_levels n m (j + k) (ends_from es (c ∷ cs) (take k ss))
    (next_of n (ends_from es (c ∷ cs) (take k ss)) j (c ∷ cs) (take k ss)) (drop k ss)) e
    ∙ ap (λ (d : List (Cell ℕ)). (c ∷ cs) ∷ number_levels n m (j + k) (ends_from es (c ∷ cs) (take k ss)) d (drop k ss)) f

-- what is to be shown of m levels
abbrev Claim : ℕ → ℕ → Type 0
Claim n m =
    (k j : ℕ) (ks : List Corner) (es : List Pair) (cs : List (Cell Point)) (ss : List ℕ) → k + m ≡ 12 → Stage n k ks es cs
    → All (λ l. Refined l.cells l.statuses) (levels m j cs ss) → k + length (levels m j cs ss) ≤ 11
    → Onward n ks es ss (levels m j cs ss) (number_levels n m j es (numbered_cells ks cs) ss)

claim_none : (n : ℕ) → Claim n 0
unfolding levels number_levels
claim_none n k j ks es cs ss h s f l = onward_none n ks es ss [] s.corners refl

no_cells : (n m j : ℕ) (es : List Pair) (ss : List ℕ) → number_levels n (suc m) j es [] ss ≡ []
unfolding number_levels
no_cells n m j es ss = refl

claim_more : (n m : ℕ) → Claim n m → Claim n (suc m)
unfolding levels
claim_more n m i k j ks es [] ss h s f l = onward_none n ks es ss (number_levels n (suc m) j es [] ss) s.corners (no_cells n m j es ss)
claim_more n m i k j ks es (c ∷ cs) ss h s f l =
    let a = length (c ∷ cs) in
    let own = take a ss in
    let rest = drop a ss in
    let up = next j (c ∷ cs) own in
    let ks₁ = corners_from ks (c ∷ cs) own in
    let es₁ = ends_from es (numbered_cells ks (c ∷ cs)) own in
    let x : NextStage n k j ks es (c ∷ cs) own ks₁ es₁ = stage_up n k m j ks es (c ∷ cs) own rest h s f.0 (j + a) l in
    onward_more n ks es ss (record { first = j; cells = c ∷ cs; statuses = own }) (levels m (j + a) up rest)
    (number_levels n m (j + a) es₁ (numbered_cells ks₁ up) rest)
    (number_levels n (suc m) j es (numbered_cells ks (c ∷ cs)) ss) s.placed
    (number_levels_lem n m j es (map_cell (number_in ks) c) (numbered_cells ks cs) (numbered_cells ks₁ up) ss a
    (ap suc (length-map cs (map_cell (number_in ks)))) x.cells)
    (i (suc k) (j + a) ks₁ es₁ up rest (omega arith) x.stage f.1 (omega arith))

levels_numbers : (n m : ℕ) → Claim n m
levels_numbers n zero = claim_none n
levels_numbers n (suc m) = claim_more n m (levels_numbers n m)

module _ (n : ℕ) (qs : List (List ℕ)) (ss : List ℕ) (e : All (λ q. length q ≡ 4) qs) (t : T (cellsb n qs)) where
  table_numbers : T (allb closedb (levels_of n qs ss)) → length (levels_of n qs ss) ≤ 11
      → Numbers n (table_corners n qs ss) (table_ends n qs ss) (levels_of n qs ss) (number_levels n 12 0 [] (coarse_numbers qs) ss)
  unfolding levels_of corners_of
  table_numbers u l =
      rw (coarse_numbers_lem n (coarse_corners n) [] (corners_start n) qs e t) at
      (levels_numbers n 12 0 0 (coarse_corners n) [] (coarse_cells n qs) ss refl
      (stage_start n qs e t) (all_of (λ (l : Level). Refined l.cells l.statuses) closedb closed_refined
      (levels 12 0 (coarse_cells n qs) ss) u) (omega arith))

  pub sound_numbers : T (soundb n qs ss) → Numbers n (table_corners n qs ss) (table_ends n qs ss) (levels_of n qs ss)
      (number_levels n 12 0 [] (coarse_numbers qs) ss)
  sound_numbers u = let (l, c) = sound_levels n qs ss u in table_numbers c l
