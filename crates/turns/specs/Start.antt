-- Starting a part.
--   ownb x c              the part has the cell as master
--   marks_due x ms n c j  the marks from j on are one for each master among n cells from c on, 0 to 2, and 0 on a refined cell
--   marked_from x ms n c j    the store with these marks
--   level_from x k         the first cell of a level, at most the number of cells
--   enter_marks x k        on entering the round of marks of the level k: flags decided, the ghosts' marks and the end written
--   start_answer x ms      15, 16, 7 in this order
--   start_after x ms       the store after the call
use Rattle.std.specs.Prelude.{Bool, true, false, ◌&&◌, ◌||◌, List, ℕ, zero, suc, ◌+◌, ◌-◌, min, eqb, ltb, leb, length, get_or, set}
use Rattle.base.specs.Refuse.{refuse}
use Rattle.base.specs.Answer.{Answer}
use Rattle.base.specs.Answer.{Accepted, Refused}
use Rattle.store.specs.Fields.{field, full, STAGE, PART, CELLS, LEVELS, FIRST_CELL, OWNER, STATUS, MARK}
use Rattle.store.specs.Header.{headerb}
use Rattle.turns.specs.Loops.{each_from}
use Rattle.turns.specs.Decide.{decide_one}
use Rattle.turns.specs.Post.{mark_one, post_end}

-- Rule 15.2.
unfoldable pub ownb : List ℕ → ℕ → Bool
ownb x c = eqb (field x (OWNER + c)) (field x PART)

-- Rule 7.1.
unfoldable pub mark_ok : List ℕ → ℕ → ℕ → Bool
mark_ok x c m = leb m 2 && (eqb m 0 || eqb (field x (STATUS + c)) 0)

-- Rule 15.6.
unfoldable pub mark_at : List ℕ → List ℕ → ℕ → ℕ → Bool
unfolding ownb mark_ok
mark_at x ms c j = elim (ownb x c) [ true ↦ ltb j (length ms) && mark_ok x c (get_or ms j 0) | false ↦ true ]

-- Rule 15.6.
unfoldable pub next_mark : List ℕ → ℕ → ℕ → ℕ
unfolding ownb
next_mark x c j = elim (ownb x c) [ true ↦ suc j | false ↦ j ]

-- Rule 15.6.
unfoldable pub marks_due : List ℕ → List ℕ → ℕ → ℕ → ℕ → Bool
unfolding mark_at next_mark
marks_due x ms zero c j = eqb (length ms) j
marks_due x ms (suc n) c j = mark_at x ms c j && marks_due x ms n (suc c) (next_mark x c j)

-- Rule 15.6.
unfoldable pub mark_set : List ℕ → List ℕ → ℕ → ℕ → List ℕ
unfolding ownb
mark_set x ms c j = elim (ownb x c && ltb j (length ms)) [ true ↦ set x (MARK + c) (get_or ms j 0) | false ↦ x ]

-- Rule 15.6.
unfoldable pub marked_from : List ℕ → List ℕ → ℕ → ℕ → ℕ → List ℕ
unfolding mark_set next_mark
marked_from x ms zero c j = x
marked_from x ms (suc n) c j = marked_from (mark_set x ms c j) ms n (suc c) (next_mark x c j)

-- Rule 3.2.
unfoldable pub level_from : List ℕ → ℕ → ℕ
level_from x k = min (field x (FIRST_CELL + k)) (field x CELLS)

-- Rule 15.7.
unfoldable pub enter_marks : List ℕ → ℕ → List ℕ
unfolding level_from each_from decide_one mark_one post_end
enter_marks x k =
    post_end (each_from mark_one (level_from x (k + 1) - level_from x k) (level_from x k)
    (each_from decide_one (level_from x (k + 1) - level_from x k) (level_from x k) x))

-- Rules 15.6, 15.16.
unfoldable pub start_answer : List ℕ → List ℕ → Answer
unfolding refuse headerb marks_due
start_answer x ms =
    refuse 15 (leb full (length x)) (
    refuse 16 (headerb x && eqb (field x STAGE) 0) (
    refuse 7 (marks_due x ms (field x CELLS) 0 0) Accepted))

-- Rule 15.6.
unfoldable pub started_store : List ℕ → List ℕ → List ℕ
unfolding marked_from enter_marks
started_store x ms = enter_marks (set (marked_from x ms (field x CELLS) 0 0) STAGE 1) (field x LEVELS - 1)

-- Rule 15.6: a refused call changes nothing
unfoldable pub started_in : Answer → List ℕ → List ℕ → List ℕ
unfolding started_store
started_in Accepted x ms = started_store x ms
started_in (Refused k) x ms = x

-- Rule 15.6.
unfoldable pub start_after : List ℕ → List ℕ → List ℕ
unfolding started_in start_answer
start_after x ms = started_in (start_answer x ms) x ms
