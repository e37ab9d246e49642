-- Demand 3: a split job gives the same cells as the serial step, whatever the order of the calls and deliveries. What a part's store, a
-- message and a call are is said in specs/ of `store`, `turns`, `places`, `partstep`, `split`, `held` and `merge` and in docs/PARTS.md; who
-- owns which cell after a step, and the masters and ghosts of a part, in specs/ of `parts`; what a part writes in its rounds in `split`
-- (`Messages`); lists of calls in `exchange` (`Calls`). The proof is in `Demand3Proof`.
--   act, nine, phase_of   the calls, the bytes lent to a fetch, and how many rounds a part has begun, as `outcome` `Program` has them
--   after_split       the stores of a split, none started, and no message given (`agreement` `Terms`)
--   Lawful           each message that is taken was given by an earlier fetch, or would be by fetches put next
--   JustThese es fs  the entries es are those of fs, and no place stands twice among es
--   laid cs w l rest the stores of the parts l one behind the other, and whatever stands behind them
--   MergesTo, ReadsAs    what merging makes of stores, and what reading a store gives
--   Handed ..        the owners after the step: what they keep, and what is new
--   Serial ..        all done, where the serial step accepts the marks that the parts started with
--   AsBefore ..      all done, where it refuses them for 8 or 9
--   Split3 ..        what holds after one list of calls
use Rattle.std.specs.Prelude.{◌≡◌, ◌⊎◌, ◌≢◌, false, ℕ, suc, ◌*◌, ◌≤◌, ◌<◌, pred, T, length, get_or, take, drop, ℤ}
use Rattle.std.proofs.Math.Option.{none}
use mathlib.Core.List.{List, [], ◌∷◌, ◌++◌, flat_map, Memᴰ}
use Rattle.base.specs.Fours.{fours}
use Rattle.base.specs.Limits.{most_cells, most_parts}
use Rattle.base.specs.Refuse.{held_after}
use Rattle.base.specs.Answer.{Accepted, Refused}
use Rattle.mesh.specs.Coarse.{coarse_corner_count}
use Rattle.mesh.specs.Answers.{marksb, new_table, marked_answer}
use Rattle.exchange.specs.Calls.{Start, Call, play, moves, acceptsb, started_with, Lawful}
use Rattle.rounds.specs.Bound.{calls_most}
use Rattle.parts.specs.Owners.{nth_cell, family_of, ownersb, owners_after}
use Rattle.parts.specs.Held.{Entry, ghostb, entries_of}
use Rattle.parts.specs.Starts.{startb, put_together, marks_on}
use Rattle.splitting.specs.Admissible.{Admissible}
use Rattle.shares.specs.Flat.{NoTwice}
use Rattle.store.specs.Fields.{field, full, COARSE}
use Rattle.store.specs.Fetch.{fetch_answer}
use Rattle.store.specs.Fetched.{Nothing}
use Rattle.split.specs.Split.{split_answer, split_after}
use Rattle.split.specs.Messages.{messages_to}
use Rattle.held.specs.Held.{full_held, held_in, entry_row, held_rows, held_answer, listed_of}
use Rattle.held.specs.Says.{says_of, doneb}
use Rattle.held.specs.Progress.{Done, Ended}
use Rattle.held.specs.Listed.{Rows}
use Rattle.merge.specs.Merge.{stores_in, merge_answer, merge_table}
use Rattle.joining.specs.Joint.{Order}
use Rattle.outcome.specs.Program.{nine, act, phase_of}
use Rattle.agreement.specs.Terms.{Calls, Stores, after_split, serial_marks, last_store, alldoneb}
use Rattle.agreement.specs.Says.{SameSays}

-- Rule 15.18: the entries es are those of fs, each once.
pub record JustThese (es fs : List Entry) : Type 0 where
  pub these : (e : Entry) → Memᴰ e es → Memᴰ e fs
  pub all : (e : Entry) → Memᴰ e fs → Memᴰ e es
  pub once : NoTwice es

-- Rule 15.12: each store at its full length.
abbrev pub laid : Calls → Stores → List ℕ → List ℕ → List ℕ
laid cs w l rest = flat_map (λ p. take full (last_store cs w p)) l ++ rest

-- Rules 15.12, 15.18: merging is accepted, whatever table of full length is lent, and makes the table.
pub record MergesTo (stores table : List ℕ) : Type 0 where
  pub accepted : (lent : List ℕ) → most_cells ≤ length lent → merge_answer stores lent ≡ Accepted
  pub makes : merge_table (stores_in stores) (field stores COARSE) ≡ table

-- Rule 15.11: the call answers how many masters and ghosts there are, and the lent rows then hold them in front.
pub record ReadsAs (x rows : List ℕ) (es : List Entry) : Type 0 where
  pub answer : listed_of (held_answer x rows) (length (held_in x)) ≡ Rows (length es)
  pub after : held_after (held_answer x rows) (held_rows x) rows ≡ flat_map entry_row es ++ drop (length (flat_map entry_row es)) rows

-- n coarse corners, qs coarse cells; the table ss with its owners os, P parts
module _ (n : ℕ) (qs : List (List ℕ)) (ss os : List ℕ) (P : ℕ) where
  -- Rule 15.13: new is the table after the step, heirs are its owners.
  pub record Handed (new heirs : List ℕ) : Type 0 where
    -- they are accepted ones
    pub owners : T (ownersb n qs new P heirs)
    -- a coarse cell keeps its master
    pub coarse : (c : ℕ) → c < length qs → get_or heirs c 0 ≡ get_or os c 0
    -- a cell with a family before and after has it on the same part, cut anew or not
    pub family : (c d : ℕ) → c < length ss → d < length new → (nth_cell n qs ss c).path ≡ (nth_cell n qs new d).path → get_or ss c 0 ≢ 0
        → get_or new d 0 ≢ 0 → family_of n qs new heirs d ≡ family_of n qs ss os c
    -- a first family is with its parent's master
    pub first_family : (d : ℕ) → d < length new
        → ((c : ℕ) → c < length ss → (nth_cell n qs ss c).path ≡ (nth_cell n qs new d).path → get_or ss c 0 ≡ 0)
        → family_of n qs new heirs d ≡ get_or heirs d 0
    -- a ghost is exactly where a family lies on another part
    pub ghosts : (p d : ℕ) → (T (ghostb n qs new heirs p d) → (family_of n qs new heirs d ≡ p) × (get_or heirs d 0 ≢ p))
        × (family_of n qs new heirs d ≡ p → get_or heirs d 0 ≢ p → T (ghostb n qs new heirs p d))
    -- A1 to A6 of source 001: each cell has one master (A2, A3)
    pub admissible : Admissible n qs new P heirs

  -- after the calls cs on the stores w
  module _ (cs : Calls) (w : Stores) where
    -- Rule 15.18, where the serial step has a result.
    pub record Serial (new heirs : List ℕ) : Type 0 where
      -- each part says that it is done, and holds just the masters and ghosts that the owners' rule and the serial table make
      pub ended : (p : ℕ) → 1 ≤ p → p ≤ P → says_of (last_store cs w p) ≡ Done
      pub held : (p : ℕ) → 1 ≤ p → p ≤ P → JustThese (held_in (last_store cs w p)) (entries_of n qs new heirs p)
      -- put together, in any order of the stores, they are the serial table
      pub merges : (l : List ℕ) → Order P l → (rest : List ℕ) → most_parts * full ≤ length (laid cs w l rest)
          → MergesTo (laid cs w l rest) new
      pub handed : Handed new heirs

    -- Rules 15.10, 15.18: every part says that it is done with the refusal's number, and holds its old mesh.
    pub record AsBefore (k : ℕ) : Type 0 where
      pub number : (k ≡ 8) ⊎ (k ≡ 9)
      pub ended : (p : ℕ) → 1 ≤ p → p ≤ P → says_of (last_store cs w p) ≡ Ended k
      pub held : (p : ℕ) → 1 ≤ p → p ≤ P → held_in (last_store cs w p) ≡ entries_of n qs ss os p
      pub merges : (l : List ℕ) → Order P l → (rest : List ℕ) → most_parts * full ≤ length (laid cs w l rest)
          → MergesTo (laid cs w l rest) ss

-- Rules 15.17 to 15.19: after the calls cs on the stores w of an accepted split.
pub record Split3 (ps : List ℤ) (ts ss : List ℕ) (P : ℕ) (os : List ℕ) (w : Stores) (cs : Calls) : Type 0 where
  -- A1 to A6 of source 001 hold of every accepted split
  pub admissible : Admissible (coarse_corner_count ps) (fours ts) ss P os
  -- all done: as the serial step
  pub accepted : T (alldoneb (play act cs w)) → marked_answer ps ts ss (serial_marks os cs w) ≡ Accepted
      → let new = new_table (coarse_corner_count ps) (fours ts) ss (serial_marks os cs w) in
      Serial (coarse_corner_count ps) (fours ts) ss os P cs w new (owners_after (coarse_corner_count ps) (fours ts) ss os new)
  pub refused : T (alldoneb (play act cs w)) → (k : ℕ) → marked_answer ps ts ss (serial_marks os cs w) ≡ Refused k
      → AsBefore (coarse_corner_count ps) (fours ts) ss os P cs w k
  -- not all done: some call would be accepted and move the exchange on, and the list can be carried on to the end
  pub moves_on : alldoneb (play act cs w) ≡ false
      → (c : Call (List ℕ) (List ℕ)) × Lawful act (cs ++ (c ∷ [])) w × (moves act (cs ++ (c ∷ [])) w ≡ suc (moves act cs w))
  pub to_the_end : (ds : Calls) × Lawful act (cs ++ ds) w × T (alldoneb (play act (cs ++ ds) w))
  -- the calls that moved it on are at most 24 P + 2 P (P - 1) (7 m + 24), of m cells
  pub few : moves act cs w ≤ calls_most P (length ss)
  -- a part that says that it is done says and holds the same, whatever is called next
  pub done_stays : (ds : Calls) (p : ℕ) → 1 ≤ p → p ≤ P → T (doneb (says_of (last_store cs w p)))
      → SameSays (last_store cs w p) (last_store (cs ++ ds) w p)
  -- and can be read, into any rows of full length: what it holds
  pub done_read : (p : ℕ) → 1 ≤ p → p ≤ P → T (doneb (says_of (last_store cs w p))) → (rows : List ℕ) → full_held ≤ length rows
      → ReadsAs (last_store cs w p) rows (held_in (last_store cs w p))
  -- a part has none to send only when all that it has written for another, in the rounds that it has begun, was fetched
  pub none_to_send : (p q : ℕ) → 1 ≤ p → p ≤ P → 1 ≤ q → q ≤ P → p ≢ q → fetch_answer (last_store cs w p) nine ≡ Nothing → (m : List ℕ)
      → Memᴰ m (messages_to (coarse_corner_count ps) (fours ts) ss os (serial_marks os cs w) (phase_of (last_store cs w p)) p q)
      → Memᴰ m (play act cs w).given
  -- and nothing else was
  pub none_else : (m : List ℕ) → Memᴰ m (play act cs w).given
      → (p : ℕ) × (q : ℕ) × (1 ≤ p) × (p ≤ P) × (1 ≤ q) × (q ≤ P) × (p ≢ q)
      × Memᴰ m (messages_to (coarse_corner_count ps) (fours ts) ss os (serial_marks os cs w) (phase_of (last_store cs w p)) p q)
  -- a part that was not started takes one mark for each of its masters, as the serial step would, and no others; and so any marks that
  -- the serial step takes can be started with
  pub starts : (p : ℕ) → 1 ≤ p → p ≤ P → started_with act cs w (pred p) ≡ none → (ms : List ℕ)
      → acceptsb act (act (Start ms) (last_store cs w p)) ≡ startb ss os p ms
  pub any_marks : (ms : List ℕ) → T (marksb ss ms)
      → ((p : ℕ) → T (startb ss os p (marks_on os ms p))) × (put_together os (marks_on os ms) ≡ ms)

-- Rule 15.17: every accepted split, each store lent with whatever stands behind it, and every lawful list of calls on the stores, refused
-- ones included.
abbrev pub Demand3 : Type 0
Demand3 = (ps : List ℤ) (ts ss : List ℕ) (P : ℕ) (os b : List ℕ) (behind : ℕ → List ℕ) → split_answer ps ts ss P os b ≡ Accepted
    → (cs : Calls) → Lawful act cs (after_split P (split_after ps ts ss P os b) behind)
    → Split3 ps ts ss P os (after_split P (split_after ps ts ss P os b) behind) cs
