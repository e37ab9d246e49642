-- The entries of all parts, by part, in whatever order of the parts.
--   Order P l          l has the parts 1 to P, each once, in whatever order
--   Joint n qs ss P f  the parts' entries f have the masters of the table ss, each once, and no others, in whatever order
-- Laws are in proofs/Joint.
use Rattle.std.specs.Prelude.{ℕ, ◌≤◌}
use mathlib.Core.List.{List, flat_map}
use Rattle.base.specs.Member.{Member}
use Rattle.parts.specs.Held.{Entry}
use Rattle.base.specs.Distinct.{NoDup}
use Rattle.merging.specs.Merge.{Covers}
use Rattle.merging.specs.Complete.{master_paths}

-- Rule 15.12.
pub record Order (P : ℕ) (l : List ℕ) : Type 0 where
  pub these : (p : ℕ) → (Member p l → (1 ≤ p) × (p ≤ P)) × (1 ≤ p → p ≤ P → Member p l)
  pub once : NoDup l

pub record Joint (n : ℕ) (qs : List (List ℕ)) (ss : List ℕ) (P : ℕ) (es : ℕ → List Entry) : Type 0 where
  pub cover : (l : List ℕ) → Order P l → Covers n qs ss (flat_map es l)
  pub apart : (l : List ℕ) → Order P l → NoDup (master_paths (flat_map es l))
