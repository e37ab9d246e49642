-- The messages of a split step (rules 15.4, 15.7, 15.8; docs/PARTS.md, "Rounds"): what a part tells another, from the table that was split,
-- its owners os and the serial marks ms alone. What is told is a code and a value, as docs/PARTS.md has them for entries.
--   cells_on k, level_slots k    the numbers of the cells of level k, and the slots of its edges
--   has_slot c s                   an edge of the cell c has the slot s
--   will_be_red k c                 the cell c of level k will be red (section 7)
--   red_masters k p s              how many masters of the part p on level k will be red and have the slot s
--   masters_after p                the cells of the step's table, without its limits, of which p will be the master
--   highest cs                    the highest level of cells; round_end what ends a round
--   tell_marks, tell_counts, tell_totals   what p tells q of its ghosts of a level, of the edges of a level, and of its masters
--   told_in r p q                  what p tells q in the round r; told_before r p q in all rounds before it
--   messages_to r p q              the messages that p writes for q in its first r rounds, with their counts
use Rattle.std.specs.Prelude.{Bool, ◌&&◌, ltb, get_or}
use Rattle.std.proofs.Math.Bool.{true, false, not}
use mathlib.Core.List.{List, [], ◌∷◌, ◌++◌, map, flatten}
use Prim.Native.Nat.{ℕ, zero, suc, ◌+◌, ◌-◌, ◌*◌, ◌/◌, ◌%◌, pred, min, max}
use Rattle.std.proofs.Math.Dec.{eqb}
use Rattle.std.proofs.Math.ListN.{length}
use Rattle.store.specs.Fields.{count_code, totals_code}
use Rattle.base.specs.Bools.{one_if}
use Rattle.base.specs.Limits.{too_many}
use Rattle.base.specs.Lists.{anyb, filterb}
use Rattle.base.specs.Range.{range}
use Rattle.mesh.specs.Cells.{Cell}
use Rattle.mesh.specs.Weights.{Point}
use Rattle.mesh.specs.Table.{levels_of, cells_of}
use Rattle.mesh.specs.Step.{new_reds, step_table}
use Rattle.mesh.specs.Layout.{edge_numbers}
use Rattle.mesh.specs.Counts.{level_of}
use Rattle.mesh.specs.Answers.{new_table}
use Rattle.parts.specs.Owners.{owner_after}
use Rattle.parts.specs.Held.{masterb, ghostb}
use Rattle.store.specs.Message.{message_of}
use Rattle.split.specs.Columns.{level_at, cells_below, keys_at, slots_below, slot_of, holds_slot}

module _ (n : ℕ) (qs : List (List ℕ)) (ss : List ℕ) where
  -- Rule 3.2.
  abbrev pub cells_on : ℕ → List ℕ
  cells_on k = range (cells_below n qs ss k) (length (level_at n qs ss k).cells)

  -- Rule 5.4.
  abbrev pub level_slots : ℕ → List ℕ
  level_slots k = range (slots_below n qs ss k) (length (keys_at n qs ss k))

  -- Rule 5.4.
  unfoldable pub has_slot : ℕ → ℕ → Bool
  unfolding slot_of anyb
  has_slot c s = anyb (λ e. eqb (slot_of n qs ss c e) s) edge_numbers

  -- Rules 7.2 to 7.6.
  unfoldable pub will_be_red : List ℕ → ℕ → ℕ → Bool
  unfolding new_reds levels_of anyb
  will_be_red ms k c = anyb (λ r. eqb r.number c) (get_or (new_reds (levels_of n qs ss) ms) k [])

-- Rule 15.4: what ends a round.
abbrev pub round_end : ℕ × ℕ
round_end = (65535, 0)

-- Rule 15.4.
unfoldable pub highest : List (Cell Point) → ℕ
highest [] = 0
highest (c ∷ cs) = max (level_of c) (highest cs)

module _ (n : ℕ) (qs : List (List ℕ)) (ss os ms : List ℕ) where
  -- Rule 15.4: a ghost is not counted beside its master.
  unfoldable pub red_masters : ℕ → ℕ → ℕ → ℕ
  unfolding masterb will_be_red has_slot filterb range
  red_masters k p s =
      length (filterb (λ c. masterb os p c && (will_be_red n qs ss ms k c && has_slot n qs ss c s)) (cells_on n qs ss k))

  -- Rule 15.13.
  unfoldable pub masters_after : ℕ → List (Cell Point)
  unfolding owner_after levels_of cells_of step_table flatten filterb
  masters_after p = filterb (λ (c : Cell Point). eqb (owner_after n qs ss os c.path) p) (cells_of (levels_of n qs (new_table n qs ss ms)))

  -- Rule 15.4: of each ghost whose master is with q, whether it will be red.
  unfoldable pub tell_marks : ℕ → ℕ → ℕ → List (ℕ × ℕ)
  unfolding ghostb masterb will_be_red one_if filterb range
  tell_marks k p q =
      map (λ c. (c, one_if (will_be_red n qs ss ms k c))) (filterb (λ c. ghostb n qs ss os p c && masterb os q c) (cells_on n qs ss k))

  -- Rule 15.4: of each edge that both hold, how many masters of p that will be red have it, where there is one.
  unfoldable pub tell_counts : ℕ → ℕ → ℕ → List (ℕ × ℕ)
  unfolding holds_slot red_masters filterb range
  tell_counts k p q =
      map (λ s. (count_code + s, red_masters k p s))
      (filterb (λ s. holds_slot n qs ss os p s && (holds_slot n qs ss os q s && not (eqb (red_masters k p s) 0))) (level_slots n qs ss k))

  -- Rule 15.4: how many masters it will have, and their highest level.
  unfoldable pub tell_totals : ℕ → ℕ × ℕ
  unfolding masters_after highest
  tell_totals p = (totals_code + highest (masters_after p), min (length (masters_after p)) too_many)

  -- Rule 15.7: two rounds a level, from the highest down, then one for the totals; each ends with an end.
  unfoldable pub told_in : ℕ → ℕ → ℕ → List (ℕ × ℕ)
  unfolding levels_of tell_marks tell_counts tell_totals
  told_in r p q =
      let levels = length (levels_of n qs ss) in
      let k = pred levels - r / 2 in
      elim (ltb r (2 * levels)) [
        | true ↦ elim (eqb (r % 2) 0) [ true ↦ tell_marks k p q | false ↦ tell_counts k p q ] ++ (round_end ∷ [])
        | false ↦ elim (eqb r (2 * levels)) [ true ↦ tell_totals p ∷ round_end ∷ [] | false ↦ [] ]
      ]

  -- Rule 15.7.
  unfoldable pub told_before : ℕ → ℕ → ℕ → List (ℕ × ℕ)
  unfolding told_in
  told_before zero p q = []
  told_before (suc r) p q = told_before r p q ++ told_in r p q

-- Rule 15.4: each with how many were written from p for q before it.
unfoldable pub numbered_from : ℕ → ℕ → ℕ → List (ℕ × ℕ) → List (List ℕ)
unfolding message_of
numbered_from p q k [] = []
numbered_from p q k (t ∷ l) = message_of p q k t.0 t.1 ∷ numbered_from p q (suc k) l

-- Rules 15.4, 15.8.
abbrev pub messages_to : ℕ → List (List ℕ) → List ℕ → List ℕ → List ℕ → ℕ → ℕ → ℕ → List (List ℕ)
messages_to n qs ss os ms r p q = numbered_from p q 0 (told_before n qs ss os ms r p q)
