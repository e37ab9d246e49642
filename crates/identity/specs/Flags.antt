-- Without marks the new red cells of a sound table are the old ones.
--   Unmarked ms   each mark is 0
-- Laws: flags_own (the flags, level by level), in proofs/Flags.
use Rattle.std.specs.Prelude.{◌≡◌}
use Rattle.std.proofs.Math.Bool.{true}
use mathlib.Core.List.{List, [], flat_map}
use Prim.Native.Nat.{ℕ}
use Rattle.std.proofs.Math.ListN.{get_or}
use Rattle.base.specs.Lists.{sameb}
use Rattle.mesh.specs.Cells.{heldb, red_edges}
use Rattle.mesh.specs.Weights.{Point}
use Rattle.mesh.specs.Table.{Level}

-- Rule 7.10: each mark is 0.
abbrev pub Unmarked : List ℕ → Type 0
Unmarked ms = (i : ℕ) → get_or ms i 0 ≡ 0

-- The edges of the red cells of some levels.
abbrev pub red_levels : List Level → List (Point × Point)
red_levels ls = flat_map (λ (l : Level). red_edges [] l.cells l.statuses) ls

abbrev pub Within : List (Point × Point) → List (Point × Point) → Type 0
Within es fs = (e : Point × Point) → heldb sameb es e ≡ true → heldb sameb fs e ≡ true
