-- What a done store holds: its masters and ghosts with place and status, read from this store alone.
--   entry_in x j      the master or ghost with the number j; held_in x all of them
--   entry_row e       an entry as fourteen numbers: 1 for a ghost, status, level, coarse cell, ten child numbers with zeros behind them
--   held_answer ..    15, then 16: the header, or a store that is not done; held_rows x what the lent table then holds in front
--   stage_answer x    15, then 16: the header, or a store that was not started
--   stage_of x        running with its round, done, or done with 8 or 9
--   progress_of, listed_of    what `stage` and `held` answer
use Rattle.std.specs.Prelude.{true, false, ◌&&◌, not, ℕ, ◌+◌, ◌-◌, ◌*◌, ◌%◌, pred, eqb, leb, length, replicate}
use mathlib.Core.List.{List, ◌∷◌, ◌++◌, map, flat_map}
use Rattle.base.specs.Bools.{one_if}
use Rattle.base.specs.Limits.{most_levels, most_cells}
use Rattle.base.specs.Range.{range}
use Rattle.base.specs.Refuse.{refuse}
use Rattle.base.specs.Answer.{Answer}
use Rattle.base.specs.Answer.{Accepted, Refused}
use Rattle.parts.specs.Held.{Entry}
use Rattle.store.specs.Fields.{field, full, STAGE, ENTRIES, PLACE_HEAD, PLACE_DIGITS, PLACE_MORE, PLACE_STATUS}
use Rattle.store.specs.Fields.{ROUND, RESULT}
use Rattle.store.specs.Header.{headerb}
use Rattle.store.specs.Places.{path_of}
use Rattle.held.specs.Progress.{Progress}
use Rattle.held.specs.Progress as progress
use Rattle.held.specs.Listed.{Listed}
use Rattle.held.specs.Listed as listed

-- Rule 15.11: a ghost's status has 128 more
unfoldable pub entry_in : List ℕ → ℕ → Entry
unfolding path_of
entry_in x j =
    record {
      path = path_of (record { head = field x (PLACE_HEAD + j); digits = field x (PLACE_DIGITS + j); more = field x (PLACE_MORE + j) });
      status = field x (PLACE_STATUS + j) % 128;
      ghost = leb 128 (field x (PLACE_STATUS + j));
    }

-- Rule 15.11.
unfoldable pub held_in : List ℕ → List Entry
unfolding entry_in range
held_in x = map (entry_in x) (range 0 (field x ENTRIES))

-- Rule 15.11: a path has the coarse cell and at most ten child numbers
unfoldable pub entry_row : Entry → List ℕ
unfolding one_if
entry_row e = (one_if e.ghost ∷ e.status ∷ pred (length e.path) ∷ e.path) ++ replicate (most_levels - length e.path) 0

-- Rule 15.11.
unfoldable pub held_rows : List ℕ → List ℕ
unfolding held_in entry_row flat_map
held_rows x = flat_map entry_row (held_in x)

-- fourteen numbers for each of 4,096
abbrev pub full_held : ℕ
full_held = 14 * most_cells

-- Rule 15.16.
unfoldable pub held_answer : List ℕ → List ℕ → Answer
unfolding refuse headerb
held_answer x rows =
    refuse 15 (leb full (length x) && leb full_held (length rows)) (refuse 16 (headerb x && eqb (field x STAGE) 2) Accepted)

-- Rule 15.16.
unfoldable pub stage_answer : List ℕ → Answer
unfolding refuse headerb
stage_answer x = refuse 15 (leb full (length x)) (refuse 16 (headerb x && not (eqb (field x STAGE) 0)) Accepted)

-- Rules 15.10, 15.11.
unfoldable pub stage_of : List ℕ → Progress
stage_of x =
    elim (eqb (field x STAGE) 1) [
      | true ↦ progress.Running (field x ROUND)
      | false ↦ elim (eqb (field x RESULT) 0) [ true ↦ progress.Done | false ↦ progress.Ended (field x RESULT) ]
    ]

-- Rule 15.11: what `stage` answers
unfoldable pub progress_of : Answer → Progress → Progress
progress_of Accepted p = p
progress_of (Refused k) p = progress.Refused k

-- Rule 15.11: what `held` answers: how many rows
unfoldable pub listed_of : Answer → ℕ → Listed
listed_of Accepted n = listed.Rows n
listed_of (Refused k) n = listed.Refused k
