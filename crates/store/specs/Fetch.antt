-- Fetching (rule 15.8). A part keeps what it has written as entries, each a code, a value and its receivers as sixteen bits, in the order
-- of writing. The cursor is an entry and a receiver: those before it are given.
--   entry_count x                  how many entries there are
--   bitb m b, bit_from k m b       bit b of m; the first bit set from b on, 16 where there is none
--   seek_from x k j b              the first entry and receiver from the entry j and the receiver b on, over k entries
--   next_to_give x                  the next entry and receiver; the receiver is 16 where none is left
--   given x s, passed_by x s       the message that an entry is for a receiver; the store with the cursor behind it
--   fetch_answer, fetch_bytes, fetch_after    the answer, and what bytes and store hold after it
use Rattle.std.specs.Prelude.{Bool, true, false, ◌&&◌, not, List, ℕ, zero, suc, ◌+◌, ◌-◌, ◌/◌, ◌%◌, ◌^◌, eqb, ltb, leb, length, set}
use Rattle.std.proofs.lemmas.List.Edits.{sets}
use Rattle.store.specs.Fields.{field, full, STAGE, PART, CURSOR, BIT, WRITTEN, GIVEN, CODE, VALUE, RECEIVERS, most_entries}
use Rattle.store.specs.Header.{headerb}
use Rattle.store.specs.Message.{message_of}
use Rattle.store.specs.declared.Spot.{Spot}
use Rattle.store.specs.Fetched.{Fetched}
use Rattle.store.specs.Fetched.{Message, Nothing, Refused}

unfoldable pub entry_count : List ℕ → ℕ
entry_count x = elim (ltb (field x WRITTEN) most_entries) [ true ↦ field x WRITTEN | false ↦ most_entries ]

abbrev pub code_at : List ℕ → ℕ → ℕ
code_at x j = field x (CODE + j)

abbrev pub value_at : List ℕ → ℕ → ℕ
value_at x j = field x (VALUE + j)

abbrev pub receivers_at : List ℕ → ℕ → ℕ
receivers_at x j = field x (RECEIVERS + j)

unfoldable pub bitb : ℕ → ℕ → Bool
bitb m b = eqb (m / 2 ^ b % 2) 1

unfoldable pub bit_from : ℕ → ℕ → ℕ → ℕ
unfolding bitb
bit_from zero m b = 16
bit_from (suc k) m b = elim (bitb m b) [ true ↦ b | false ↦ bit_from k m (suc b) ]

abbrev pub spot_at : ℕ → ℕ → Spot
spot_at j b = record { entry = j; bit = b }

-- Rule 15.8: in the order in which they were written
unfoldable pub seek_from : List ℕ → ℕ → ℕ → ℕ → Spot
unfolding bit_from
seek_from x zero j b = spot_at j 16
seek_from x (suc k) j b = elim (ltb (bit_from (16 - b) (receivers_at x j) b) 16) [
  | true ↦ spot_at j (bit_from (16 - b) (receivers_at x j) b)
  | false ↦
      seek_from x k (suc j) 0
]

-- Rule 15.8.
unfoldable pub next_to_give : List ℕ → Spot
unfolding seek_from entry_count
next_to_give x = seek_from x (entry_count x - field x CURSOR) (field x CURSOR) (field x BIT)

-- Rule 15.4: the message that an entry is for a receiver
unfoldable pub given : List ℕ → Spot → List ℕ
unfolding message_of
given x s = message_of (field x PART) (s.bit + 1) (field x (GIVEN + s.bit)) (code_at x s.entry) (value_at x s.entry)

-- Rule 15.8.
unfoldable pub passed_by : List ℕ → Spot → List ℕ
passed_by x s = set (set (set x CURSOR s.entry) BIT (s.bit + 1)) (GIVEN + s.bit) ((field x (GIVEN + s.bit) + 1) % 65536)

-- Rule 15.16: 15 for what is lent too short, 16 for a header out of range or a part that has not started
unfoldable pub fetch_refusal : List ℕ → List ℕ → ℕ
unfolding headerb
fetch_refusal x out =
    elim (leb full (length x) && leb 9 (length out)) [
      | false ↦ 15
      | true ↦ elim (headerb x && not (eqb (field x STAGE) 0)) [ true ↦ 0 | false ↦ 16 ]
    ]

-- Rule 15.8.
unfoldable pub found_of : List ℕ → Spot → Fetched
unfolding given
found_of x s = elim (ltb s.bit 16) [ true ↦ Message (length (given x s)) | false ↦ Nothing ]

-- Rule 15.8.
unfoldable pub fetch_answer : List ℕ → List ℕ → Fetched
unfolding fetch_refusal found_of next_to_give
fetch_answer x out = elim (eqb (fetch_refusal x out) 0) [ true ↦ found_of x (next_to_give x) | false ↦ Refused (fetch_refusal x out) ]

-- Rule 15.8.
unfoldable pub givesb : List ℕ → List ℕ → Bool
unfolding fetch_refusal next_to_give
givesb x out = eqb (fetch_refusal x out) 0 && ltb (next_to_give x).bit 16

-- Rule 15.8.
unfoldable pub fetch_bytes : List ℕ → List ℕ → List ℕ
unfolding givesb given next_to_give
fetch_bytes x out = elim (givesb x out) [ true ↦ sets out 0 (given x (next_to_give x)) | false ↦ out ]

-- Rule 15.8.
unfoldable pub fetch_after : List ℕ → List ℕ → List ℕ
unfolding givesb passed_by next_to_give
fetch_after x out = elim (givesb x out) [ true ↦ passed_by x (next_to_give x) | false ↦ x ]
