-- What an old cell keeps, by its level and place.
--   kept_at n qs ss ms k t   what the cell t of level k keeps
-- Laws: keeps_many and keeps_at (of a level), kept-length (one number for each cell), kept_at_lem (the number of a cell).
use Rattle.std.specs.Prelude.{◌≡◌, T, take, drop}
use Rattle.std.proofs.Math.Path.{refl, sym, ap}
use Rattle.std.proofs.Common.{◌∙◌, drop-drop, get_or-drop}
use mathlib.Core.List.{List, [], ◌∷◌, flat_map, flatten}
use Prim.Native.Nat.{ℕ, zero, suc, ◌+◌, ◌<◌}
use native.Mathlib.Omega.{arith}
use Rattle.std.proofs.Math.ListN.{length, get_or, length-append, get_or-append}
use Rattle.std.proofs.lemmas.List.{length-map}
use Rattle.std.proofs.Math.Seq.{drop_at}
use Rattle.base.specs.Lists.{sameb}
use Rattle.base.specs.Every.{get_d_map}
use Rattle.mesh.specs.Cells.{Cell, no_cell}
use Rattle.mesh.specs.Weights.{Point, coarse_cells}
use Rattle.mesh.specs.Table.{Level, next, levels, levels_of, cells_of, soundb}
use Rattle.mesh.specs.Step.{Row, rows, rows_up, edges_up, new_redb, new_reds}
use Rattle.lattice.specs.Levels.{no_level}
use Rattle.lineage.specs.Olds.{flag_table}
use Rattle.kept.specs.Kept.{kept_of, kept_rows, kept_levels, kept_table}
use Rattle.lineage.specs.Levels.{here}
use Rattle.lineage.specs.Flags.{no_row, new_red_at, length-rows, rows_at}
use Rattle.lineage.specs.Rest.{Rest, rest_start, rest_next, rest_flagged}

-- Rule 7.7, of an old cell by its place among levels.
abbrev kept_in : List ℕ → List Level → ℕ → ℕ → ℕ
kept_in ms ls k t =
    let l = get_or ls k no_level in
    kept_of [] sameb (edges_up (new_reds (drop k ls) ms)) (new_red_at ms (drop (suc k) ls) l t) (get_or l.cells t no_cell)

abbrev pub kept_at : ℕ → List (List ℕ) → List ℕ → List ℕ → ℕ → ℕ → ℕ
kept_at n qs ss ms k t = kept_in ms (levels_of n qs ss) k t

-- a level's rows
length-kept_rows : (ls : List Level) (ms : List ℕ) (es : List (Point × Point)) (rs : List Row)
    → length (kept_rows ls ms es rs) ≡ length rs
unfolding kept_rows
length-kept_rows ls ms es rs =
    length-map rs (λ r. kept_of [] sameb es (new_redb (rows_up ls ms) (edges_up (new_reds ls ms)) r) r.cell)

-- the levels from one on
module _ (m : ℕ) (ss fs ms : List ℕ) where
  module _ (h k : ℕ) (c : Cell Point) (cs : List (Cell Point)) (rs : List ℕ) (r : Rest m ss fs ms (suc h) k (c ∷ cs) rs) where
    abbrev own : List ℕ
    own = take (length (c ∷ cs)) rs

    abbrev upper : List Level
    upper = levels h (k + length (c ∷ cs)) (next k (c ∷ cs) own) (drop (length (c ∷ cs)) rs)

    abbrev level : Level
    level = here k (c ∷ cs) rs

    abbrev keeps : List ℕ
    keeps = kept_rows upper ms (edges_up (new_reds (level ∷ upper) ms)) (rows level ms)

    pub keeps_many : length keeps ≡ length (c ∷ cs)
    keeps_many =
        length-kept_rows upper ms (edges_up (new_reds (level ∷ upper) ms)) (rows level ms)
        ∙ length-rows level ms (rest_flagged m ss fs ms h k c cs rs r).known

    pub keeps_at : (t : ℕ) → t < length (c ∷ cs) → get_or keeps t 0 ≡ kept_in ms (level ∷ upper) 0 t
    unfolding kept_rows
    keeps_at t g =
        let known = (rest_flagged m ss fs ms h k c cs rs r).known in
        get_d_map (λ r. kept_of [] sameb (edges_up (new_reds (level ∷ upper) ms)) (new_redb (rows_up upper ms) (edges_up (new_reds upper ms)) r)
        r.cell) (rows level ms) t no_row 0 (omega (arith, length-rows level ms known))
        ∙ ap (λ (r : Row). kept_of [] sameb (edges_up (new_reds (level ∷ upper) ms)) (new_redb (rows_up upper ms) (edges_up (new_reds upper ms)) r)
        r.cell) (rows_at level ms known t g)

  kept_many : (h k : ℕ) (cs : List (Cell Point)) (rs : List ℕ) → Rest m ss fs ms h k cs rs
      → length (flatten (kept_levels (levels h k cs rs) ms)) ≡ length (cells_of (levels h k cs rs))
  unfolding levels kept_levels cells_of flat_map flatten
  kept_many zero k cs rs r = absurd (omega (arith, r.high))
  kept_many (suc h) k [] rs r = refl
  kept_many (suc h) k (c ∷ cs) rs r =
      omega (
        arith,
        length-append (keeps h k c cs rs r) (flatten (kept_levels (upper h k c cs rs r) ms)),
        length-append (c ∷ cs) (cells_of (upper h k c cs rs r)),
        keeps_many h k c cs rs r,
        kept_many h (k + length (c ∷ cs)) (next k (c ∷ cs) (own h k c cs rs r)) (drop (length (c ∷ cs)) rs)
            (rest_next m ss fs ms h k c cs rs r),
      )

  kept_from : (h k : ℕ) (cs : List (Cell Point)) (rs : List ℕ) → Rest m ss fs ms h k cs rs → (ks : List ℕ)
      → drop k ks ≡ flatten (kept_levels (levels h k cs rs) ms) → (j t : ℕ) → t < length (get_or (levels h k cs rs) j no_level).cells
      → get_or ks ((get_or (levels h k cs rs) j no_level).first + t) 0 ≡ kept_in ms (levels h k cs rs) j t
  unfolding levels kept_levels flat_map flatten
  kept_from zero k cs rs r ks e j t g = absurd (omega (arith, r.high))
  kept_from (suc h) k [] rs r ks e j t g = absurd (omega arith)
  kept_from (suc h) k (c ∷ cs) rs r ks e zero t g =
      sym (get_or-drop k ks t 0) ∙ ap (λ (x : List ℕ). get_or x t 0) e
      ∙ get_or-append (keeps h k c cs rs r) (flatten (kept_levels (upper h k c cs rs r) ms)) 0 t
      (omega (arith, keeps_many h k c cs rs r))
      ∙ keeps_at h k c cs rs r t g
  kept_from (suc h) k (c ∷ cs) rs r ks e (suc j) t g =
      kept_from h (k + length (c ∷ cs)) (next k (c ∷ cs) (own h k c cs rs r)) (drop (length (c ∷ cs)) rs)
      (rest_next m ss fs ms h k c cs rs r) ks
      (sym (drop-drop (length (c ∷ cs)) k ks) ∙ ap (drop (length (c ∷ cs))) e
      ∙ drop_at (keeps h k c cs rs r) (flatten (kept_levels (upper h k c cs rs r) ms)) (length (c ∷ cs)) (keeps_many h k c cs rs r)) j t g

module _ (n : ℕ) (qs : List (List ℕ)) (ss ms : List ℕ) (s : T (soundb n qs ss)) where
  pub kept-length : length (kept_table n qs ss ms) ≡ length (cells_of (levels_of n qs ss))
  unfolding kept_table levels_of
  kept-length = kept_many (length qs) ss (flag_table n qs ss ms) ms 12 0 (coarse_cells n qs) ss (rest_start n qs ss ms s)

  pub kept_at_lem : (k t : ℕ) → t < length (get_or (levels_of n qs ss) k no_level).cells
      → get_or (kept_table n qs ss ms) ((get_or (levels_of n qs ss) k no_level).first + t) 0 ≡ kept_at n qs ss ms k t
  unfolding kept_table levels_of
  kept_at_lem = kept_from (length qs) ss (flag_table n qs ss ms) ms 12 0 (coarse_cells n qs) ss (rest_start n qs ss ms s)
      (kept_table n qs ss ms) refl
