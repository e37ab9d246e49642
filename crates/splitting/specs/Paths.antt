-- The paths of the cells of a table, and of the step's.
-- Laws: level_below (there are at most twelve levels), path-length (a path is one longer than its level), level_paths and one_place (paths
-- tell cells apart), new_lv (the levels of the step's table), new-length and new_one_place (the same of its paths).
use Rattle.std.specs.Prelude.{◌≡◌, ℕ, zero, suc, ◌+◌, ◌≤◌, ◌<◌, length, get_or, take, drop}
use Rattle.std.proofs.Common.{sym, ◌∙◌, ap, subst, arith, length-append}
use mathlib.Core.List.{List, [], ◌∷◌, flatten}
use Rattle.mesh.specs.Cells.{Cell}
use Rattle.mesh.specs.Weights.{Point, coarse_cells}
use Rattle.mesh.specs.Table.{Level, next, levels, levels_of}
use Rattle.mesh.specs.Laws.{length-coarse}
use Rattle.lattice.specs.Levels.{no_level}
use Rattle.lineage.specs.Olds.{step_by}
use Rattle.lineage.specs.Paths.{path_at, Paths, paths_next, paths_coarse, coarse_at}
use Rattle.lineage.specs.Levels.{new_levels_lem}
use Rattle.lineage.specs.Met.{old_coarse, new_at}
use Rattle.soundness.specs.Family.{born_of}
use Rattle.soundness.specs.Sound.{lv, level_next, level_there}

levels_few : (h k : ℕ) (cs : List (Cell Point)) (rs : List ℕ) → length (levels h k cs rs) ≤ h
unfolding levels
levels_few zero k cs rs = omega arith
levels_few (suc h) k [] rs = omega arith
levels_few (suc h) k (c ∷ cs) rs =
    omega (arith, levels_few h (k + length (c ∷ cs)) (next k (c ∷ cs) (take (length (c ∷ cs)) rs)) (drop (length (c ∷ cs)) rs))

module _ (n : ℕ) (qs : List (List ℕ)) (ss : List ℕ) where
  abbrev cells_at : ℕ → List (Cell Point)
  cells_at k = (lv n qs ss k).cells

  few : length (levels_of n qs ss) ≤ 12
  unfolding levels_of
  few = levels_few 12 0 (coarse_cells n qs) ss

  pub level_below : (k t : ℕ) → t < length (cells_at k) → k < 12
  level_below k t h = omega (arith, level_there n qs ss k t h, few)

  pub path-length : (k t : ℕ) → t < length (cells_at k) → length (path_at (cells_at k) t) ≡ suc k
  path-length zero t h =
      let e : cells_at 0 ≡ coarse_cells n qs = old_coarse n qs ss [] in
      ap (λ (cs : List (Cell Point)). length (path_at cs t)) e
      ∙ ap (λ (c : Cell Point). length c.path) (coarse_at n qs t (omega (arith, ap length e, length-coarse n qs)))
  path-length (suc k) t h =
      let g = level_below (suc k) t h in
      let b = born_of (lv n qs ss k) (lv n qs ss (suc k)) (level_next n qs ss k (omega arith)) t h in
      ap (λ (c : Cell Point). length c.path) b.is ∙ length-append (path_at (cells_at k) b.p) (b.i ∷ [])
      ∙ omega (arith, path-length k b.p b.below)

  paths_below : (k : ℕ) → k < 12 → Paths (cells_at k)
  paths_below zero h = subst Paths (sym (old_coarse n qs ss [])) (paths_coarse n qs)
  paths_below (suc k) h =
      subst Paths (sym (level_next n qs ss k (omega arith)))
      (paths_next (lv n qs ss k).first (cells_at k) (lv n qs ss k).statuses (paths_below k (omega arith)))

  level_paths : (k : ℕ) → Paths (cells_at k)
  level_paths k t u ht hu e = paths_below k (level_below k t ht) t u ht hu e

  pub one_place : (j t k u : ℕ) → t < length (cells_at j) → u < length (cells_at k) → path_at (cells_at j) t ≡ path_at (cells_at k) u
      → (j ≡ k) × (t ≡ u)
  one_place j t k u ht hu e =
      let q : suc j ≡ suc k = sym (path-length j t ht) ∙ ap length e ∙ path-length k u hu in
      let z : j ≡ k = omega arith in
      let h : t < length (cells_at k) = subst (λ (x : ℕ). t < length (cells_at x)) z ht in
      (z, level_paths k t u h hu (subst (λ (x : ℕ). path_at (cells_at x) t ≡ path_at (cells_at k) u) z e))

module _ (n : ℕ) (qs : List (List ℕ)) (ss ms : List ℕ) where
  abbrev ts : List ℕ
  ts = flatten (step_by n qs ss ms)

  abbrev new : ℕ → List (Cell Point)
  new k = (new_at n qs ss ms k).cells

  pub new_lv : (k : ℕ) → lv n qs ts k ≡ new_at n qs ss ms k
  new_lv k = ap (λ (ls : List Level). get_or ls k no_level) (new_levels_lem n qs ss ms)

  pub new-length : (k i : ℕ) → i < length (new k) → length (path_at (new k) i) ≡ suc k
  new-length k i =
      subst (λ (l : Level). i < length l.cells → length (path_at l.cells i) ≡ suc k) (new_lv k) (path-length n qs ts k i)

  pub new_one_place : (j t k u : ℕ) → t < length (new j) → u < length (new k) → path_at (new j) t ≡ path_at (new k) u → (j ≡ k) × (t ≡ u)
  new_one_place j t k u ht =
      subst (λ (l : Level). u < length l.cells → path_at (new j) t ≡ path_at l.cells u → (j ≡ k) × (t ≡ u)) (new_lv k)
      (subst (λ (l : Level). t < length l.cells → u < length (lv n qs ts k).cells → path_at l.cells t ≡ path_at (lv n qs ts k).cells u
      → (j ≡ k) × (t ≡ u)) (new_lv j) (one_place n qs ts j t k u) ht)
