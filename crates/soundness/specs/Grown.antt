-- The step's levels: each is closed, and each has one status for each cell.
-- Laws: grow_closed, grow_many (how many statuses and cells), grow_high (how many levels), new_closed, new_many, new_high (the
-- step's table).
use Rattle.std.specs.Prelude.{◌≡◌, T}
use Rattle.std.proofs.Math.Path.{refl, sym, ap, ap₂}
use Rattle.std.proofs.Common.{◌∙◌, arith}
use mathlib.Core.List.{List, [], ◌∷◌, flat_map, flatten}
use Prim.Native.Nat.{ℕ, zero, suc, ◌+◌, ◌≤◌}
use Rattle.std.proofs.Math.ListN.{length, length-append}
use Rattle.std.proofs.lemmas.List.{length-map}
use Rattle.base.specs.Lists.{allb}
use Rattle.mesh.specs.Cells.{Cell}
use Rattle.mesh.specs.Weights.{Point, coarse_cells}
use Rattle.mesh.specs.Table.{Level, next, levels_of, cells_of, closedb, soundb}
use Rattle.mesh.specs.Laws.{length-coarse}
use Rattle.lineage.specs.Olds.{flag_table, up_to, olds_next, statuses_by, grow_by, step_by}
use Rattle.lineage.specs.Paths.{length_upto}
use Rattle.lineage.specs.Levels.{grow_levels, length-statuses, length_up, grow_statuses, new_levels_lem}
use Rattle.lineage.specs.Closed.{Owned, owned_start, owned_next, closed_by_lem}
use Rattle.lineage.specs.Met.{flagged}

module _ (m : ℕ) (ss fs : List ℕ) where
  grow_closed : length fs ≤ 65535 → (h k : ℕ) (cs : List (Cell Point)) (os : List ℕ) → Owned cs os
      → T (allb closedb (grow_levels m ss fs h k cs os))
  unfolding grow_levels allb closedb
  grow_closed small zero k cs os w = tt
  grow_closed small (suc h) k [] os w = tt
  grow_closed small (suc h) k (c ∷ cs) os w =
      let us = statuses_by fs (c ∷ cs) os in
      rw (closed_by_lem fs small (c ∷ cs) os w) (grow_closed small h (k + length (c ∷ cs)) (next k (c ∷ cs) us) (olds_next m ss us os)
      (owned_next m ss k (c ∷ cs) us os w))

  grow_many : (h k : ℕ) (cs : List (Cell Point)) (os : List ℕ) → length os ≡ length cs
      → length (flatten (grow_by m ss fs h k cs os)) ≡ length (cells_of (grow_levels m ss fs h k cs os))
  unfolding grow_levels grow_by cells_of flat_map flatten
  grow_many zero k cs os e = refl
  grow_many (suc h) k [] os e = refl
  grow_many (suc h) k (c ∷ cs) os e =
      let us = statuses_by fs (c ∷ cs) os in
      let up = grow_by m ss fs h (k + length (c ∷ cs)) (next k (c ∷ cs) us) (olds_next m ss us os) in
      let ls = grow_levels m ss fs h (k + length (c ∷ cs)) (next k (c ∷ cs) us) (olds_next m ss us os) in
      length-append us (flatten up)
      ∙ ap₂ ◌+◌ (length-statuses fs (c ∷ cs) os e)
      (grow_many h (k + length (c ∷ cs)) (next k (c ∷ cs) us) (olds_next m ss us os) (length_up m ss fs k (c ∷ cs) os e))
      ∙ sym (length-append (c ∷ cs) (cells_of ls))

  pub grow_high : (h k : ℕ) (cs : List (Cell Point)) (os : List ℕ)
      → length (grow_levels m ss fs h k cs os) ≡ length (grow_by m ss fs h k cs os)
  grow_high h k cs os = sym (length-map (grow_levels m ss fs h k cs os) (λ (l : Level). l.statuses))
      ∙ ap length (grow_statuses m ss fs h k cs os)

module _ (n : ℕ) (qs : List (List ℕ)) (ss ms : List ℕ) where
  pub new_closed : T (soundb n qs ss) → T (allb closedb (levels_of n qs (flatten (step_by n qs ss ms))))
  new_closed t =
      rw (new_levels_lem n qs ss ms)
      (grow_closed (length qs) ss (flag_table n qs ss ms) (omega (arith, (flagged n qs ss ms t 0).small)) 12 0 (coarse_cells n qs)
      (up_to (length qs)) (owned_start n qs))

  pub new_many : length (flatten (step_by n qs ss ms)) ≡ length (cells_of (levels_of n qs (flatten (step_by n qs ss ms))))
  unfolding step_by
  new_many =
      grow_many (length qs) ss (flag_table n qs ss ms) 12 0 (coarse_cells n qs) (up_to (length qs))
      (length_upto (length qs) ∙ sym (length-coarse n qs))
      ∙ ap (λ (ls : List Level). length (cells_of ls)) (sym (new_levels_lem n qs ss ms))

  pub new_high : length (levels_of n qs (flatten (step_by n qs ss ms))) ≡ length (step_by n qs ss ms)
  unfolding step_by
  new_high = ap length (new_levels_lem n qs ss ms) ∙ grow_high (length qs) ss (flag_table n qs ss ms) 12 0 (coarse_cells n qs) (up_to (length qs))
