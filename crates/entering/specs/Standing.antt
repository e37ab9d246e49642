-- A store that stands at a place of the exchange, with all that no call changes.
--   Spent f x          how many entries a part may have written in the phase f: one for each cell and slot of the levels that are done,
--                      one for each round, and its totals
--   result_of n h       the result from the totals: 8, 9, or 0
--   olds p m           the masters and ghosts of the table that was split, of m cells
--   Holding f s x      masters and ghosts that the store holds, in the last two phases
--   Standing p l x     the store x stands at the place l
--   Idle p x           the store x is one of a part that has not started
use Rattle.std.specs.Prelude.{◌≡◌, ◌≢◌, Bool, leb}
use Rattle.std.proofs.Math.Bool.{true, false}
use mathlib.Core.List.{List, [], ◌∷◌, flat_map}
use Prim.Native.Nat.{ℕ, suc, ◌+◌, ◌-◌, ◌≤◌, ◌<◌, Fin}
use Rattle.std.proofs.Math.ListN.{take}
use Rattle.base.specs.Limits.{most_cells, most_levels, top_level}
use Rattle.base.specs.Range.{range}
use Rattle.exchange.specs.Finite.{parts}
use Rattle.rounds.specs.Task.{Task}
use Rattle.rounds.specs.Rounds.{Phase, marks, counts, totals, over, phase, State, is_part, told, added}
use Rattle.parts.specs.Held.{Entry}
use Rattle.shares.specs.Grow.{entry_by, entries}
use Rattle.merging.specs.Totals.{grown_of}
use Rattle.store.specs.Fields.{field, STAGE, CELLS, RESULT, WRITTEN, CURSOR, BIT, FIRST_CELL, FIRST_SLOT, OWNER, RED}
use Rattle.store.specs.Fields.{SUM, FIRST_TAKEN}
use Rattle.store.specs.Header.{headerb}
use Rattle.standing.specs.Busy.{L, Busy, HoldsCell, HoldsSlot}
use Rattle.turns.specs.Start.{marks_due}
use Rattle.held.specs.Held.{held_in}
use Rattle.entering.specs.Columns.{Columns, MarksIn, count_before}
use Rattle.entering.specs.Fits.{of_marksb, of_countsb}

-- Rule 7.8.
unfoldable pub result_of : ℕ → ℕ → ℕ
result_of n h = elim (leb most_levels h) [ true ↦ 8 | false ↦ elim (leb n most_cells) [ true ↦ 0 | false ↦ 9 ] ]

module _ (P : ℕ) (J : Task (Fin P)) where
  unfoldable pub Spent : Phase → List ℕ → Type 0
  Spent (marks i) x =
      field x WRITTEN + field x (FIRST_CELL + (J.top - i)) + field x (FIRST_SLOT + suc (J.top - i))
      ≤ field x CELLS + field x (FIRST_SLOT + suc J.top) + suc (i + i)
  Spent (counts i) x =
      field x WRITTEN + field x (FIRST_CELL + (J.top - i)) + field x (FIRST_SLOT + (J.top - i))
      ≤ field x CELLS + field x (FIRST_SLOT + suc J.top) + suc (suc (i + i))
  Spent totals x = Unit {0}
  Spent over x = Unit {0}

  module _ (p : Fin P) where
    -- Rule 15.10.
    unfoldable pub old_entry : ℕ → List Entry
    unfolding is_part
    old_entry c =
        elim (is_part (parts P) (J.owner c) p) [
          | true ↦ entry_by (J.path c) (J.status c) false ∷ []
          | false ↦ elim (is_part (parts P) (J.family c) p) [ true ↦ entry_by (J.path c) (J.status c) true ∷ [] | false ↦ [] ]
        ]

    unfoldable pub olds : ℕ → List Entry
    unfolding old_entry range flat_map
    olds m = flat_map old_entry (range 0 m)

    unfoldable pub Holding : Phase → State → List ℕ → Type 0
    unfolding entries grown_of held_in olds result_of
    Holding (marks i) s x = Unit {0}
    Holding (counts i) s x = Unit {0}
    Holding totals s x = (s.high ≡ (grown_of (parts P) J p s).1) × (s.high ≤ top_level → held_in x ≡ take most_cells (entries (parts P) J p s))
    Holding over s x =
        (field x RESULT ≡ result_of s.total s.high)
        × ((field x RESULT ≡ 0 → held_in x ≡ take most_cells (entries (parts P) J p s))
        × (field x RESULT ≢ 0 → held_in x ≡ olds (field x CELLS)))

    pub record Standing (l : L P J) (x : List ℕ) : Type 0 where
      pub busy : Busy P J p l x
      pub columns : Columns P J p x
      pub marked : MarksIn P J p l.state.given x
      pub no_marks : of_marksb (phase J.top l.round) ≡ false → (c : ℕ) → told (parts P) l.got c ≡ false
      pub no_counts : of_countsb (phase J.top l.round) ≡ false → (s : ℕ) → added (parts P) l.got s ≡ 0
      pub spent : Spent (phase J.top l.round) x
      pub holding : Holding (phase J.top l.round) l.state x

    -- place tells how many masters stand before a cell, fits which marks the part takes
    pub record Idle (place : ℕ → ℕ) (fits : List ℕ → Bool) (x : List ℕ) : Type 0 where
      pub columns : Columns P J p x
      pub header : headerb x ≡ true
      pub stage : field x STAGE ≡ 0
      pub written : field x WRITTEN ≡ 0
      pub cursor : field x CURSOR ≡ 0
      pub bit : field x BIT ≡ 0
      pub no_counts : (i : ℕ) → FIRST_TAKEN ≤ i → i < OWNER → field x i ≡ 0
      pub flags : (c : ℕ) → HoldsCell P J p c → field x (RED + c) ≡ 0
      pub sums : (s : ℕ) → HoldsSlot P J p s → field x (SUM + s) ≡ 0
      pub places : (c : ℕ) → HoldsCell P J p c → J.owner c ≡ p → count_before x c ≡ place c
      pub marks : (ms : List ℕ) → marks_due x ms (field x CELLS) 0 0 ≡ fits ms
