-- The store beside a result: the old masters and ghosts are written again where the step came to 8 or 9.
--   restored x r    the store beside the result r, before it is written down
use Rattle.std.specs.Prelude.{◌≡◌, refl, true, false, List, ℕ, eqb, set}
use Rattle.store.specs.Fields.{STAGE, RESULT}
use Rattle.partstep.specs.Step.{end_number, old_places, finished}

-- Rule 15.10.
unfoldable pub restored : List ℕ → ℕ → List ℕ
unfolding old_places
restored x r = elim (eqb r 0) [ true ↦ x | false ↦ old_places x ]

pub finished_is : (x : List ℕ) → finished x ≡ set (set (restored x (end_number x)) RESULT (end_number x)) STAGE 2
unfolding finished restored
finished_is x = refl
