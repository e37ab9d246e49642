-- Which cells of a level will be red, from one store alone (rules 7.3 to 7.5).
--   slot_at x c e      the slot of an edge of a cell
--   hitb x s          a cell one level up that will be red has the slot
--   hit_of x c e       the edge is hit; pull_of x c e and is not also the parent's
--   idle_kid x d         a leaf that is marked for deletion, and no edge of it is hit
--   pulled_kid x d       a green cell's child that is marked, or an own edge of it is hit
--   kid_count x c      how many children c has; they stand one after the other from CHILD on
--   ruleb x c         c will be red
--   decide_one x c     the store with the flag of c set, if its family is here and it will be red
use Rattle.std.specs.Prelude.{Bool, true, false, ◌&&◌, ◌||◌, not, List, ℕ, ◌+◌, ◌-◌, ◌*◌, min, eqb, ltb, leb, set}
use Rattle.base.specs.Limits.{most_slots}
use Rattle.mesh.specs.Table.{size_of}
use Rattle.store.specs.Fields.{field, PART, CELLS, FAMILY, STATUS, REGULAR, CHILD, INNER, MARK, RED, SLOT, SUM}
use Rattle.store.specs.Fetch.{bitb}
use Rattle.turns.specs.Loops.{some_from}

abbrev pub slot_at : List ℕ → ℕ → ℕ → ℕ
slot_at x c e = field x (SLOT + (6 * c + e))

-- Rule 7.2.
unfoldable pub hitb : List ℕ → ℕ → Bool
hitb x s = ltb s most_slots && not (eqb (field x (SUM + s)) 0)

-- Rule 7.2.
unfoldable pub hit_of : List ℕ → ℕ → ℕ → Bool
unfolding hitb
hit_of x c e = hitb x (slot_at x c e)

-- Rule 7.5.
unfoldable pub pull_of : List ℕ → ℕ → ℕ → Bool
unfolding hit_of bitb
pull_of x c e = bitb (field x (INNER + c)) e && hit_of x c e

-- Rule 7.3.
unfoldable pub idle_kid : List ℕ → ℕ → Bool
unfolding some_from hit_of
idle_kid x d = eqb (field x (STATUS + d)) 0 && (eqb (field x (MARK + d)) 2 && not (some_from (hit_of x d) 6 0))

-- Rule 7.5.
unfoldable pub pulled_kid : List ℕ → ℕ → Bool
unfolding some_from pull_of
pulled_kid x d = eqb (field x (MARK + d)) 1 || some_from (pull_of x d) 6 0

-- Rule 3.1: as many as its status says, and none beyond the number of cells
unfoldable pub kid_count : List ℕ → ℕ → ℕ
unfolding size_of
kid_count x c =
    min (elim (leb (field x (STATUS + c)) 64) [ true ↦ size_of (field x (STATUS + c)) | false ↦ 0 ])
    (field x CELLS - field x (CHILD + c))

-- Rule 7.3.
unfoldable pub busyb : List ℕ → ℕ → Bool
unfolding idle_kid
busyb x d = not (idle_kid x d)

-- Rules 7.3, 7.4, 7.5: a red cell stays red unless all its children are idle; a regular leaf turns red by its mark; a green cell by a child
-- that is pulled
unfoldable pub ruleb : List ℕ → ℕ → Bool
unfolding some_from kid_count busyb pulled_kid
ruleb x c =
    elim (eqb (field x (STATUS + c)) 64) [
      | true ↦ some_from (busyb x) (kid_count x c) (field x (CHILD + c))
      | false ↦ elim (eqb (field x (STATUS + c)) 0) [
        | true ↦ eqb (field x (REGULAR + c)) 1 && eqb (field x (MARK + c)) 1
        | false ↦ some_from (pulled_kid x) (kid_count x c) (field x (CHILD + c))
      ]
    ]

-- Rule 15.7.
unfoldable pub decide_one : List ℕ → ℕ → List ℕ
unfolding ruleb
decide_one x c = elim (eqb (field x (FAMILY + c)) (field x PART) && ruleb x c) [ true ↦ set x (RED + c) 1 | false ↦ x ]
