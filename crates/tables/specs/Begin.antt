-- The building starts with the coarse cells.
-- Assumes nothing.
use Rattle.std.specs.Prelude.{◌≡◌, ℕ, suc, ◌*◌, length, take}
use Rattle.std.proofs.Math.Path.{refl, sym}
use Rattle.std.proofs.Common.{◌∙◌, ap}
use mathlib.Core.List.{List, [], ◌∷◌, ◌++◌, flat_map}
use native.Mathlib.Omega.{arith}
use Rattle.base.specs.Bools.{one_if}
use Rattle.base.specs.Places.{hasb}
use Rattle.base.specs.Fours.{fours, length-fours}
use Rattle.mesh.specs.Laws.{length-coarse}
use Rattle.mesh.specs.Cells.{none, red_edges}
use Rattle.mesh.specs.Weights.{coarse_cells}
use Rattle.mesh.specs.Table.{cells_of}
use Rattle.mesh.specs.Layout.{coarse_corners, corners_from, row_of, child_number}
use Rattle.pairs.specs.declared.PairTable.{PairTable}
use Rattle.edges.specs.Pairs.{pairs_of}
use Rattle.edges.specs.Table.{entries}
use Rattle.edges.specs.Seek.{none_listed}
use Rattle.lattice.specs.Levels.{fours_four}
use Rattle.numbering.specs.Corners.{corners_start}
use Rattle.numbering.specs.Coarse.{coarse_numbers_from, coarse_numbers, coarse_numbers_lem}
use Rattle.numbering.specs.Stages.{stage_start}
use Rattle.tables.specs.Levels.{reached_start}
use Rattle.tables.specs.Here.{Laying, Here}
use Rattle.tables.specs.Start.{coarse_row}
use Rattle.tables.specs.Sound.{Mesh}
use Rattle.tables.specs.Rising.{deep_coarse, child_coarse}

rows_from_lem : (i : ℕ) (qs : List (List ℕ)) → flat_map row_of (coarse_numbers_from i qs) ≡ flat_map coarse_row qs
unfolding flat_map coarse_numbers_from row_of coarse_row child_number one_if
rows_from_lem i [] = refl
rows_from_lem i (q ∷ qs) = ap (λ (l : List ℕ). 0 ∷ none ∷ 0 ∷ 1 ∷ (q ++ l)) (rows_from_lem (suc i) qs)

rows_coarse : (qs : List (List ℕ)) → flat_map row_of (coarse_numbers qs) ≡ flat_map coarse_row qs
unfolding coarse_numbers
rows_coarse qs = rows_from_lem 0 qs

module _ (n : ℕ) (mesh ss : List ℕ) (s : Mesh n mesh) {M K : ℕ} (mids : PairTable M K) (all : mids.from ≡ 0) (empty : mids.n ≡ 0) where
  abbrev fs : List (List ℕ)
  fs = fours mesh

  no_entries : entries mids ≡ []
  unfolding pairs_of
  no_entries = rw (all, empty)

  module _ (rows : List ℕ) (count : ℕ) (c : count ≡ length fs) (t : take (8 * count) rows ≡ flat_map coarse_row fs) where
    pub laying_start : Laying n fs ss 0 0 count rows mids
    unfolding reached_start cells_of flat_map corners_from coarse_cells
    laying_start =
        let q = fours_four mesh in
        record {
          cells = coarse_cells n fs;
          corners = coarse_corners n;
          reached = reached_start n fs ss;
          stage = rw no_entries (stage_start n fs q s.cells);
          low = omega arith;
          some = omega (arith, length-coarse n fs, length-fours mesh, s.some, s.whole);
          end = omega (arith, length-coarse n fs);
          few = omega (arith, length-fours mesh, s.few);
          placed = tt;
          named = refl;
          deep = deep_coarse n 0 fs;
          children = child_coarse n count 0 fs;
          table = t ∙ sym (ap (flat_map row_of) (coarse_numbers_lem n (coarse_corners n) [] (corners_start n) fs q s.cells) ∙ rows_coarse fs);
          new = record { all = all; distinct = none_listed mids (all ∙ sym empty) };
          few_new = omega arith;
        }

    pub here_start : {N H : ℕ} (red : PairTable N H) → red.n ≡ 0 → Here n fs ss 0 0 count rows red mids
    unfolding laying_start reached_start cells_of flat_map red_edges hasb pairs_of
    here_start red none =
        record {
          laying = laying_start;
          reds = rw none (record { has = λ p. refl });
          few = omega arith;
        }
