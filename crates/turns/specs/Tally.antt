-- How many masters of a level that will be red have each slot (rule 15.4): on entering a round of counts this is added to the sums.
--   add_edge c x e    the store with one more at the slot of the edge e of the cell c
--   tally_one x c     the store with the edges of c added, if it is a master that will be red
use Rattle.std.specs.Prelude.{Bool, true, false, ◌&&◌, List, ℕ, ◌+◌, ◌%◌, eqb, ltb, set}
use Rattle.base.specs.Limits.{most_slots}
use Rattle.store.specs.Fields.{field, PART, OWNER, RED, SUM}
use Rattle.turns.specs.Loops.{each_from}
use Rattle.turns.specs.Decide.{slot_at}

unfoldable pub add_one : List ℕ → ℕ → List ℕ
add_one x s = elim (ltb s most_slots) [ true ↦ set x (SUM + s) ((field x (SUM + s) + 1) % 65536) | false ↦ x ]

unfoldable pub add_edge : ℕ → List ℕ → ℕ → List ℕ
unfolding add_one
add_edge c x e = add_one x (slot_at x c e)

-- Rule 15.4.
unfoldable pub talliedb : List ℕ → ℕ → Bool
talliedb x c = eqb (field x (OWNER + c)) (field x PART) && eqb (field x (RED + c)) 1

-- Rule 15.4.
unfoldable pub tally_one : List ℕ → ℕ → List ℕ
unfolding each_from add_edge talliedb
tally_one x c = elim (talliedb x c) [ true ↦ each_from (add_edge c) 6 0 x | false ↦ x ]
