-- A part's store (rule 15.3): numbers at fixed offsets, by their names. docs/PARTS.md has them with their ranges.
--   field x i     the number at the place i of the store x
--   full          how many numbers a store has
use Rattle.std.specs.Prelude.{List, ℕ, ◌+◌, ◌-◌, ◌*◌, get_or}
use Rattle.base.specs.Limits.{most_cells, most_slots, most_levels}

-- Rule 15.16.
abbrev pub full : ℕ
full = 226488

-- Rule 15.3.
abbrev pub field : List ℕ → ℕ → ℕ
field x i = get_or x i 0

-- the header: numbers with a range
abbrev pub STAGE : ℕ
STAGE = 0  -- 0 split, 1 running, 2 done

abbrev pub PART : ℕ
PART = 1  -- the part, from 1

abbrev pub PARTS : ℕ
PARTS = 2  -- how many parts

abbrev pub CORNERS : ℕ
CORNERS = 3  -- coarse corners

abbrev pub COARSE : ℕ
COARSE = 4  -- coarse cells

abbrev pub CELLS : ℕ
CELLS = 5  -- cells of the table that was split

abbrev pub LEVELS : ℕ
LEVELS = 6  -- its levels

abbrev pub ROUND : ℕ
ROUND = 7

abbrev pub RESULT : ℕ
RESULT = 8  -- 0, 8 or 9

abbrev pub ENTRIES : ℕ
ENTRIES = 9  -- masters and ghosts of a done store

-- numbers that may be anything
abbrev pub TOTAL : ℕ
TOTAL = 10  -- masters of the parts that have told, cut at 4,097

abbrev pub HIGH : ℕ
HIGH = 11  -- their top level

abbrev pub CURSOR : ℕ
CURSOR = 12  -- the next entry to give

abbrev pub BIT : ℕ
BIT = 13  -- the first receiver of it, from 0, that is not given yet

abbrev pub WRITTEN : ℕ
WRITTEN = 14  -- how many entries there are; read as at most 28,696

-- a number for each level
abbrev pub FIRST_CELL : ℕ
FIRST_CELL = 16  -- of each level, and behind the last

abbrev pub FIRST_SLOT : ℕ
FIRST_SLOT = 28

-- first cells or slots: of each level, and behind the last
abbrev pub firsts_length : ℕ
firsts_length = most_levels + 1

abbrev pub FREE : ℕ
FREE = 40  -- free numbers, up to those for each part

-- a number for each part
abbrev pub TAKEN : ℕ
TAKEN = 63  -- of each part, from 1: messages taken from it

abbrev pub FIRST_TAKEN : ℕ
FIRST_TAKEN = 64  -- that of part 1

abbrev pub ENDED : ℕ
ENDED = 79  -- ends taken from it

abbrev pub FIRST_ENDED : ℕ
FIRST_ENDED = 80  -- that of part 1

abbrev pub GIVEN : ℕ
GIVEN = 96  -- of each part, from 0: messages given for it

-- a number for each cell of the table that was split
abbrev pub OWNER : ℕ
OWNER = 112  -- of each cell: 0 where it is not held, else its part

-- from FREE to here: free numbers, taken, ended, given, which a split leaves zero
abbrev pub free_length : ℕ
free_length = OWNER - FREE

abbrev pub FAMILY : ℕ
FAMILY = 4208  -- the part of its children; of a leaf its own

abbrev pub STATUS : ℕ
STATUS = 8304

abbrev pub REGULAR : ℕ
REGULAR = 12400

abbrev pub CHILD : ℕ
CHILD = 16496  -- of each held cell: its first child, or where that would stand

abbrev pub PARENT : ℕ
PARENT = 20592  -- its parent; 65,535 of a coarse cell

abbrev pub HEAD : ℕ
HEAD = 24688  -- 256 times the level, and the coarse cell

abbrev pub DIGITS : ℕ
DIGITS = 28784  -- child numbers 1 to 5, base 8

abbrev pub MORE : ℕ
MORE = 32880  -- child numbers 6 to 10

abbrev pub INNER : ℕ
INNER = 36976  -- six bits: the edges that are not also the parent's; 0 of a coarse cell

-- the ten columns from OWNER to INNER, one behind the other
abbrev pub columns_length : ℕ
columns_length = 10 * most_cells

abbrev pub MARK : ℕ
MARK = 41072

abbrev pub RED : ℕ
RED = 45168  -- 1 where it will be red

-- MARK and RED, which a split leaves zero
abbrev pub flags_length : ℕ
flags_length = 2 * most_cells

-- corners of coarse cells, slots of edges
abbrev pub CORNER : ℕ
CORNER = 49264  -- four of each coarse master

abbrev pub SLOT : ℕ
SLOT = 50288  -- six of each cell: the slots of its edges

-- a number for each slot
abbrev pub HOLDERS : ℕ
HOLDERS = 74864  -- of each slot: sixteen bits, the parts that hold it; 0 where this one does not

abbrev pub SUM : ℕ
SUM = 99440  -- masters that will be red and have it, of the parts that have told

-- Rule 15.5: how many numbers a split writes; all that stands behind is as it was.
abbrev pub FRONT : ℕ
FRONT = SUM + most_slots

-- a number for each entry: what the part has written, in that order
-- Rule 15.8: at most a mark for each cell, a count for each slot, the totals, and an end for each of 23 rounds.
abbrev pub most_entries : ℕ
most_entries = most_cells + most_slots + 24

abbrev pub CODE : ℕ
CODE = 124016  -- of each entry

abbrev pub VALUE : ℕ
VALUE = 152712

abbrev pub RECEIVERS : ℕ
RECEIVERS = 181408  -- sixteen bits

-- What CODE tells (rule 15.4): below count_code the cell of a mark.
abbrev pub count_code : ℕ
count_code = most_cells  -- and the slot: a count

abbrev pub totals_code : ℕ
totals_code = most_cells + most_slots  -- and the top level: totals

abbrev pub end_code : ℕ
end_code = totals_code + 256  -- and all above: the end of a round

-- a number for each master and ghost of a done store
abbrev pub PLACE_HEAD : ℕ
PLACE_HEAD = 210104  -- of each master and ghost of a done store: its place

abbrev pub PLACE_DIGITS : ℕ
PLACE_DIGITS = 214200

abbrev pub PLACE_MORE : ℕ
PLACE_MORE = 218296

abbrev pub PLACE_STATUS : ℕ
PLACE_STATUS = 222392  -- its status, and 128 more for a ghost
