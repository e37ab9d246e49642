-- What of a mesh's cells is known once its first tests have passed, and the second half of refusal 5.
--   Ranked qs                  at most 256 cells, each four rising corner numbers below 512
--   crowdedb qs                a face is in three of the cells qs
use Rattle.std.specs.Prelude.{◌≡◌, Bool, true, ℕ, ◌≤◌, ◌<◌, leb, length, get_or}
use mathlib.Core.List.{List, [], flat_map}
use Rattle.base.specs.Lists.{anyb}
use Rattle.base.specs.Fours.{faces, holders}
use Rattle.mesh.specs.Coarse.{cellsb}

-- Rules 1.2, 1.4: what refusals 1 and 3 leave.
pub record Ranked (qs : List (List ℕ)) : Type 0 where
  pub four : (k : ℕ) → k < length qs → length (get_or qs k []) ≡ 4
  pub few : length qs ≤ 256
  pub cells : cellsb 512 qs ≡ true

-- Rule 1.6: a face in three cells.
unfoldable pub crowdedb : List (List ℕ) → Bool
unfolding anyb holders faces flat_map
crowdedb qs = anyb (λ t. leb 3 (holders qs t)) (flat_map faces qs)
