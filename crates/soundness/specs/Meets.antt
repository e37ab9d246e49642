-- New cells and old ones, for any list of new levels that is the step's.
--   Meets n qs ss ms ls   the laws of crate `lineage` on the new levels ls
-- Laws: meets_step (the step's table), point_same, edge_same, edges_alike (cells with the same points).
use Rattle.std.specs.Prelude.{◌≡◌, ◌⊎◌, false, ℕ, suc, ◌<◌, T, length, get_or}
use Rattle.std.proofs.Math.Path.{refl, ap}
use Rattle.std.proofs.Common.{sym, subst}
use mathlib.Core.List.{List, [], flatten}
use Rattle.cutting.specs.Rule.{low, high}
use Rattle.mesh.specs.Cells.{Cell, redb, edge, edges, no_cell}
use Rattle.mesh.specs.Weights.{Point, point, mid}
use Rattle.mesh.specs.Table.{Level, levels_of, soundb}
use Rattle.lattice.specs.Levels.{no_level}
use Rattle.lineage.specs.Olds.{step_by}
use Rattle.lineage.specs.Same.{Fresh}
use Rattle.lineage.specs.Levels.{new_levels_lem}
use Rattle.lineage.specs.Met.{Matched, Fostered, old_at, old_above, met, met_coarse, fostered}

pub record Meets (n : ℕ) (qs : List (List ℕ)) (ss ms : List ℕ) (ls : List Level) : Type 0 where
  pub each : (j i : ℕ) → i < length (get_or ls j no_level).cells → T (get_or (get_or ls j no_level).cells i no_cell).regular
      → Matched ms (old_above n qs ss j) (old_at n qs ss j) (get_or (get_or ls j no_level).cells i no_cell)
      (get_or (get_or ls j no_level).statuses i 0)
      ⊎ ((redb (get_or (get_or ls j no_level).statuses i 0) ≡ false) × Fresh (old_at n qs ss j) (get_or (get_or ls j no_level).cells i no_cell))
  pub first : (i : ℕ) → i < length (get_or ls 0 no_level).cells → Fresh (old_at n qs ss 0) (get_or (get_or ls 0 no_level).cells i no_cell) → ⊥
  pub parent : (j i : ℕ) → i < length (get_or ls (suc j) no_level).cells → T (get_or (get_or ls (suc j) no_level).cells i no_cell).regular
      → Fresh (old_at n qs ss (suc j)) (get_or (get_or ls (suc j) no_level).cells i no_cell)
      → Fostered (old_at n qs ss j) (get_or ls j no_level) (get_or (get_or ls (suc j) no_level).cells i no_cell)

pub meets_step : (n : ℕ) (qs : List (List ℕ)) (ss ms : List ℕ) → T (soundb n qs ss)
    → Meets n qs ss ms (levels_of n qs (flatten (step_by n qs ss ms)))
meets_step n qs ss ms t =
    subst (Meets n qs ss ms) (sym (new_levels_lem n qs ss ms))
    (record { each = met n qs ss ms t; first = met_coarse n qs ss ms t; parent = fostered n qs ss ms t })

module _ (c g : Cell Point) (e : c.points ≡ g.points) where
  pub point_same : (d : ℕ) → point c d ≡ point g d
  unfolding point
  point_same d = ap (λ (ps : List Point). mid (get_or ps (low d) []) (get_or ps (high d) [])) e

  pub edge_same : (y : ℕ) → edge [] c y ≡ edge [] g y
  unfolding edge
  edge_same y = rw e refl

  pub edges_alike : edges [] c ≡ edges [] g
  unfolding edges
  edges_alike = rw e refl
