-- Handing a message over (rules 15.9, 15.15).
--   length_of k        the length of a message of the kind k, 0 where there is no such kind
--   wellb x m         the message is one for this store: 12 where it is not
--   hand_answer x m    15, 16, 12, 13 (taken before), 14 (too early) in this order
--   absorbed x m      the store with what the message says; counted x m with one message more
--   hand_after x m     the store after the call
use Rattle.std.specs.Prelude.{Bool, true, false, ◌&&◌, not, List, ◌≡◌, ℕ, suc, ◌+◌, ◌*◌, ◌%◌, ◌≤◌, ◌<◌, min, max, eqb, ltb, leb, length, get_or, set}
use Rattle.base.specs.Limits.{most_cells, most_levels, most_slots, too_many, most_parts}
use Rattle.base.specs.Refuse.{refuse}
use Rattle.base.specs.Answer.{Answer}
use Rattle.base.specs.Answer.{Accepted, Refused}
use Rattle.store.specs.Fields.{field, full, STAGE, PART, PARTS, CELLS, ROUND, TOTAL, HIGH, TAKEN, ENDED, OWNER, RED, HOLDERS, SUM}
use Rattle.store.specs.Header.{headerb}

abbrev pub number_at : List ℕ → ℕ → ℕ
number_at m i = get_or m i 0 + 256 * get_or m (suc i) 0

-- Rule 15.4.
unfoldable pub length_of : ℕ → ℕ
length_of k =
    elim (eqb k 1) [
      | true ↦ 8
      | false ↦ elim (eqb k 2) [
        | true ↦ 9
        | false ↦ elim (eqb k 3) [
          | true ↦ 8
          | false ↦ elim (eqb k 4) [ true ↦ 5 | false ↦ 0 ]
        ]
      ]
    ]

-- Rule 15.15: a known kind and its length
unfoldable pub shapeb : List ℕ → Bool
unfolding length_of
shapeb m = not (eqb (length m) 0) && eqb (length m) (length_of (get_or m 0 0))

-- Rule 15.15: from another part to this one
unfoldable pub routeb : List ℕ → List ℕ → Bool
routeb x m = leb 1 (get_or m 1 0) && (leb (get_or m 1 0) (field x PARTS)
    && (not (eqb (get_or m 1 0) (field x PART)) && eqb (get_or m 2 0) (field x PART)))

-- Rule 15.15: a cell or slot that this part holds, and a value in the range of its kind
unfoldable pub ghost_markb : List ℕ → List ℕ → Bool
ghost_markb x m = ltb (number_at m 5) (field x CELLS) && (not (eqb (field x (OWNER + number_at m 5)) 0) && leb (get_or m 7 0) 1)

-- Rule 15.15.
unfoldable pub edge_countb : List ℕ → List ℕ → Bool
edge_countb x m = ltb (number_at m 5) most_slots && (not (eqb (field x (HOLDERS + number_at m 5)) 0)
    && (leb 1 (number_at m 7) && leb (number_at m 7) most_cells))

-- Rule 15.15.
unfoldable pub cell_totalb : List ℕ → Bool
cell_totalb m = leb (number_at m 5) too_many && leb (get_or m 7 0) most_levels

-- Rule 15.15.
unfoldable pub contentb : List ℕ → List ℕ → Bool
unfolding ghost_markb edge_countb cell_totalb
contentb x m =
    elim (eqb (get_or m 0 0) 1) [
      | true ↦ ghost_markb x m
      | false ↦ elim (eqb (get_or m 0 0) 2) [
        | true ↦ edge_countb x m
        | false ↦ elim (eqb (get_or m 0 0) 3) [ true ↦ cell_totalb m | false ↦ true ]
      ]
    ]

-- Rule 15.15.
unfoldable pub wellb : List ℕ → List ℕ → Bool
unfolding shapeb routeb contentb
wellb x m = shapeb m && (routeb x m && contentb x m)

abbrev pub taken_at : List ℕ → List ℕ → ℕ
taken_at x m = field x (TAKEN + get_or m 1 0)

abbrev pub ended_at : List ℕ → List ℕ → ℕ
ended_at x m = field x (ENDED + get_or m 1 0)

-- Rules 15.15, 15.16.
unfoldable pub hand_answer : List ℕ → List ℕ → Answer
unfolding refuse headerb wellb
hand_answer x m =
    refuse 15 (leb full (length x)) (
    refuse 16 (headerb x && not (eqb (field x STAGE) 0)) (
    refuse 12 (wellb x m) (
    refuse 13 (leb (taken_at x m) (number_at m 3)) (
    refuse 14 (leb (number_at m 3) (taken_at x m) && (eqb (field x STAGE) 1 && leb (ended_at x m) (field x ROUND))) Accepted))))

-- where a well-formed message leads
pub record Ranges (m : List ℕ) : Type 0 where
  pub least : 5 ≤ length m
  pub from_least : 1 ≤ get_or m 1 0
  pub from_most : get_or m 1 0 ≤ most_parts
  pub mark : get_or m 0 0 ≡ 1 → (8 ≤ length m) × (number_at m 5 < most_cells)
  pub count : get_or m 0 0 ≡ 2 → (9 ≤ length m) × (number_at m 5 < most_slots)
  pub total : get_or m 0 0 ≡ 3 → 8 ≤ length m

-- Rule 15.9: what is taken: a mark is an "or", a count is added; totals add up to 4,097, which stands for more
unfoldable pub absorbed : List ℕ → List ℕ → List ℕ
absorbed x m =
    elim (eqb (get_or m 0 0) 1) [
      | true ↦ elim (eqb (get_or m 7 0) 1) [ true ↦ set x (RED + number_at m 5) 1 | false ↦ x ]
      | false ↦ elim (eqb (get_or m 0 0) 2) [
        | true ↦ set x (SUM + number_at m 5) ((field x (SUM + number_at m 5) + number_at m 7) % 65536)
        | false ↦ elim (eqb (get_or m 0 0) 3) [
          | true ↦
              set (set x TOTAL (min (field x TOTAL + number_at m 5) too_many)) HIGH (max (field x HIGH) (get_or m 7 0))
          | false ↦ set x (ENDED + get_or m 1 0) ((field x (ENDED + get_or m 1 0) + 1) % 65536)
        ]
      ]
    ]

-- Rule 15.4.
unfoldable pub counted : List ℕ → List ℕ → List ℕ
counted x m = set x (TAKEN + get_or m 1 0) ((taken_at x m + 1) % 65536)

-- Rule 15.9: a refused call changes nothing
unfoldable pub taken_in : Answer → List ℕ → List ℕ → List ℕ
unfolding absorbed counted
taken_in Accepted x m = absorbed (counted x m) m
taken_in (Refused k) x m = x

-- Rule 15.9.
unfoldable pub hand_after : List ℕ → List ℕ → List ℕ
unfolding taken_in hand_answer
hand_after x m = taken_in (hand_answer x m) x m
