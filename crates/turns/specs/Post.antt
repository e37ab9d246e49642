-- Entries that a part writes on entering a round, behind those that it has written.
--   posted x k v m    the store with the entry of code k and value v for the receivers m, if there are any and there is room
--   besides x m       m without the own part
--   others_of x        all parts but the own one
--   mark_one x c       the mark of the cell c for its master, if it is a ghost
--   count_one x s      the count of the slot s for the other holders, if it is not 0
--   post_end x         the end of the round, for all others
use Rattle.std.specs.Prelude.{Bool, true, false, ◌&&◌, not, List, ℕ, ◌+◌, ◌-◌, ◌^◌, eqb, ltb, leb, set}
use Rattle.base.specs.Limits.{most_parts}
use Rattle.store.specs.Fields.{field, PART, PARTS, WRITTEN, OWNER, FAMILY, RED, HOLDERS, SUM, CODE, VALUE, RECEIVERS}
use Rattle.store.specs.Fields.{count_code, most_entries}
use Rattle.store.specs.Fetch.{bitb}

unfoldable pub entered : List ℕ → ℕ → ℕ → ℕ → List ℕ
entered x k v m =
    set (set (set (set x (CODE + field x WRITTEN) k) (VALUE + field x WRITTEN) v) (RECEIVERS + field x WRITTEN) m) WRITTEN
    (field x WRITTEN + 1)

-- Rule 15.4.
unfoldable pub posted : List ℕ → ℕ → ℕ → ℕ → List ℕ
unfolding entered
posted x k v m = elim (not (eqb m 0) && ltb (field x WRITTEN) most_entries) [ true ↦ entered x k v m | false ↦ x ]

-- Rule 15.4.
unfoldable pub besides : List ℕ → ℕ → ℕ
unfolding bitb
besides x m = elim (bitb m (field x PART - 1)) [ true ↦ m - 2 ^ (field x PART - 1) | false ↦ m ]

-- Rule 15.4.
unfoldable pub others_of : List ℕ → ℕ
others_of x = 2 ^ field x PARTS - 1 - 2 ^ (field x PART - 1)

-- Rule 15.2: the family is here, and another part has the cell
unfoldable pub ghost_at : List ℕ → ℕ → Bool
ghost_at x c =
    eqb (field x (FAMILY + c)) (field x PART)
    && (not (eqb (field x (OWNER + c)) (field x PART)) && (leb 1 (field x (OWNER + c)) && leb (field x (OWNER + c)) most_parts))

-- Rule 15.4.
unfoldable pub mark_one : List ℕ → ℕ → List ℕ
unfolding ghost_at posted
mark_one x c = elim (ghost_at x c) [ true ↦ posted x c (field x (RED + c)) (2 ^ (field x (OWNER + c) - 1)) | false ↦ x ]

-- Rule 15.4.
unfoldable pub count_one : List ℕ → ℕ → List ℕ
unfolding besides posted
count_one x s =
    elim (eqb (field x (SUM + s)) 0) [ true ↦ x | false ↦ posted x (count_code + s) (field x (SUM + s)) (besides x (field x (HOLDERS + s))) ]

-- Rule 15.4.
unfoldable pub post_end : List ℕ → List ℕ
unfolding posted others_of
post_end x = posted x 65535 0 (others_of x)
