-- The step of a part.
--   waits_for x q        the end of the round from the part q, from 1, is not taken yet; readyb x no other part is waited for
--   part_answer x        15, then 16: the header, the stage, or a message of the round is missing
--   enter_totals x       on entering the round of totals: masters and ghosts after the step, the own totals and the end written
--   end_number x         the result from the totals of all parts: 8, 9, or 0
--   finished x          the store when done: beside 8 or 9 it holds the old masters and ghosts
--   part_stepped x       the store with the work of the next round; part_after x after the call
use Rattle.std.specs.Prelude.{Bool, true, false, ◌&&◌, ◌||◌, not, List, ℕ, ◌+◌, ◌-◌, ◌*◌, ◌/◌, ◌%◌, eqb, ltb, leb, length, set}
use Rattle.base.specs.Limits.{most_cells, most_levels}
use Rattle.base.specs.Refuse.{refuse}
use Rattle.base.specs.Answer.{Answer}
use Rattle.base.specs.Answer.{Accepted, Refused}
use Rattle.store.specs.Fields.{field, full, STAGE, PART, PARTS, CELLS, LEVELS, ROUND, RESULT, ENTRIES, TOTAL, HIGH, ENDED, totals_code}
use Rattle.store.specs.Header.{headerb}
use Rattle.turns.specs.Loops.{some_from, each_from}
use Rattle.turns.specs.Post.{posted, others_of, post_end}
use Rattle.turns.specs.Start.{enter_marks}
use Rattle.turns.specs.Step.{enter_counts}
use Rattle.places.specs.Put.{place_cell, place_old}

-- Rule 15.7.
unfoldable pub waits_for : List ℕ → ℕ → Bool
waits_for x q = not (eqb q (field x PART) || eqb (field x (ENDED + q)) (field x ROUND + 1))

-- Rule 15.7.
unfoldable pub readyb : List ℕ → Bool
unfolding some_from waits_for
readyb x = not (some_from (waits_for x) (field x PARTS) 1)

-- Rule 15.16.
unfoldable pub part_answer : List ℕ → Answer
unfolding refuse headerb readyb
part_answer x = refuse 15 (leb full (length x)) (refuse 16 (headerb x && (eqb (field x STAGE) 1 && readyb x)) Accepted)

unfoldable pub cleared : List ℕ → List ℕ
cleared x = set (set (set x ENTRIES 0) TOTAL 0) HIGH 0

-- Rule 15.4.
unfoldable pub post_totals : List ℕ → List ℕ
unfolding posted others_of
post_totals x = posted x ((totals_code + field x HIGH) % 65536) (field x TOTAL) (others_of x)

-- Rule 15.7.
unfoldable pub enter_totals : List ℕ → List ℕ
unfolding cleared each_from place_cell post_totals post_end
enter_totals x = post_end (post_totals (each_from place_cell (field x CELLS) 0 (cleared x)))

-- Rules 7.8, 15.10.
unfoldable pub end_number : List ℕ → ℕ
end_number x =
    elim (leb most_levels (field x HIGH)) [ true ↦ 8 | false ↦ elim (leb (field x TOTAL) most_cells) [ true ↦ 0 | false ↦ 9 ] ]

-- Rule 15.10.
unfoldable pub old_places : List ℕ → List ℕ
unfolding each_from place_old
old_places x = each_from place_old (field x CELLS) 0 (set x ENTRIES 0)

-- Rules 15.10, 15.11.
unfoldable pub finished : List ℕ → List ℕ
unfolding end_number old_places
finished x = set (set (elim (eqb (end_number x) 0) [ true ↦ x | false ↦ old_places x ]) RESULT (end_number x)) STAGE 2

-- Rule 15.7: rounds 2 i and 2 i + 1 are those of the marks and counts of the level i below the highest; then come the totals
unfoldable pub round_entered : List ℕ → List ℕ
unfolding enter_marks enter_counts enter_totals finished
round_entered x =
    elim (ltb (field x ROUND) (2 * field x LEVELS)) [
      | false ↦ finished x
      | true ↦ elim (eqb (field x ROUND % 2) 0) [
        | true ↦ enter_counts x (field x LEVELS - 1 - field x ROUND / 2)
        | false ↦ elim (ltb (field x ROUND + 1) (2 * field x LEVELS)) [
          | true ↦ enter_marks x (field x LEVELS - 2 - field x ROUND / 2)
          | false ↦ enter_totals x
        ]
      ]
    ]

-- Rule 15.7.
unfoldable pub part_stepped : List ℕ → List ℕ
unfolding round_entered
part_stepped x = set (round_entered x) ROUND (field x ROUND + 1)

-- Rule 15.7: a refused call changes nothing
unfoldable pub turned_in : Answer → List ℕ → List ℕ
unfolding part_stepped
turned_in Accepted x = part_stepped x
turned_in (Refused k) x = x

-- Rule 15.7.
unfoldable pub part_after : List ℕ → List ℕ
unfolding turned_in part_answer
part_after x = turned_in (part_answer x) x
