-- The masters and ghosts of a part after the step (rule 15.11), written one behind the other.
--   place_at x c           the place of the cell c of the table that was split
--   put x p s             the store with an entry more: the place p and the status s, while there is room
--   put_master x p s       the same for a master, which also counts for the totals
--   put_leaves p n x       with the n children of the cell at p, all leaves
--   put_child p f x i      with the new child i of the cell at p, whose status is f i, and its children
--   place_master, place_ghost, place_family x c    what the cell c gives: itself as master or ghost, and its new family
--   place_cell x c         all of these
--   place_old x c          the cell as it was
use Rattle.std.specs.Prelude.{true, false, ◌&&◌, not, List, ℕ, ◌+◌, ◌%◌, min, max, eqb, ltb, set}
use Rattle.base.specs.Limits.{most_cells, too_many}
use Rattle.mesh.specs.Table.{size_of}
use Rattle.store.specs.Fields.{field, PART, ENTRIES, TOTAL, HIGH, OWNER, FAMILY, STATUS, HEAD, DIGITS, MORE}
use Rattle.store.specs.Fields.{PLACE_HEAD, PLACE_DIGITS, PLACE_MORE, PLACE_STATUS}
use Rattle.store.specs.declared.Place.{Place}
use Rattle.store.specs.Places.{place_level, child_place}
use Rattle.turns.specs.Loops.{each_from}
use Rattle.places.specs.Status.{new_status, lastsb, remadeb, fresh_bits}

-- Rule 3.3.
abbrev pub place_at : List ℕ → ℕ → Place
place_at x c = record { head = field x (HEAD + c); digits = field x (DIGITS + c); more = field x (MORE + c) }

-- the entry with the number j
unfoldable pub entry_set : List ℕ → ℕ → Place → ℕ → List ℕ
entry_set x j p s =
    set (set (set (set x (PLACE_HEAD + j) p.head) (PLACE_DIGITS + j) p.digits) (PLACE_MORE + j) p.more) (PLACE_STATUS + j) s

unfoldable pub put : List ℕ → Place → ℕ → List ℕ
unfolding entry_set
put x p s =
    elim (ltb (field x ENTRIES) most_cells) [ true ↦ set (entry_set x (field x ENTRIES) p s) ENTRIES (field x ENTRIES + 1) | false ↦ x ]

-- Rule 15.4: totals are cut at 4,097, which stands for more
unfoldable pub put_master : List ℕ → Place → ℕ → List ℕ
unfolding put
put_master x p s = put (set (set x TOTAL (min (field x TOTAL + 1) too_many)) HIGH (max (field x HIGH) (place_level p))) p s

-- Rule 15.2.
unfoldable pub put_leaf : Place → List ℕ → ℕ → List ℕ
unfolding put_master child_place
put_leaf p x i = put_master x (child_place p i) 0

abbrev pub put_leaves : Place → ℕ → List ℕ → List ℕ
put_leaves p n x = each_from (put_leaf p) n 0 x

-- Rule 15.2.
unfoldable pub place_master : List ℕ → ℕ → List ℕ
unfolding lastsb put_master new_status
place_master x c = elim (eqb (field x (OWNER + c)) (field x PART) && lastsb x c) [
  | true ↦ put_master x (place_at x c) (new_status x c)
  | false ↦ x
]

-- Rule 15.2: 128 more for a ghost
unfoldable pub place_ghost : List ℕ → ℕ → List ℕ
unfolding put new_status
place_ghost x c =
    elim (not (eqb (field x (OWNER + c)) (field x PART)) && (eqb (field x (FAMILY + c)) (field x PART) && not (eqb (new_status x c) 0))) [
      | true ↦ put x (place_at x c) (128 + new_status x c)
      | false ↦ x
    ]

-- Rule 7.7: the new child i of the cell at p, with the status f i, and its children where it is refined at once
unfoldable pub put_child : Place → (ℕ → ℕ) → List ℕ → ℕ → List ℕ
unfolding put_master child_place put_leaf each_from size_of
put_child p f x i = put_leaves (child_place p i) (size_of (f i)) (put_master x (child_place p i) (f i))

-- Rule 15.13: beside a green cell, and under a leaf that will be red, all new children are leaves
unfoldable pub place_family : List ℕ → ℕ → List ℕ
unfolding remadeb new_status each_from put_leaf put_child fresh_bits size_of
place_family x c =
    elim (remadeb x c) [
      | true ↦ elim (eqb (new_status x c) 64 && not (eqb (field x (STATUS + c)) 0)) [
        | true ↦ each_from (put_child (place_at x c) (fresh_bits x c)) 8 0 x
        | false ↦ put_leaves (place_at x c) (size_of (new_status x c)) x
      ]
      | false ↦ x
    ]

-- Rule 15.11.
unfoldable pub place_cell : List ℕ → ℕ → List ℕ
unfolding place_master place_ghost place_family
place_cell x c = place_family (place_ghost (place_master x c) c) c

-- Rule 15.10.
unfoldable pub place_old : List ℕ → ℕ → List ℕ
unfolding put
place_old x c =
    elim (eqb (field x (OWNER + c)) (field x PART)) [
      | true ↦ put x (place_at x c) (field x (STATUS + c))
      | false ↦ elim (eqb (field x (FAMILY + c)) (field x PART)) [
        | true ↦ put x (place_at x c) ((128 + field x (STATUS + c)) % 65536)
        | false ↦ x
      ]
    ]
