-- Splitting a table: what the call answers, and what the stores hold after.
--   by_cell os p f            a number for each of 4,096 cells: f where the part p holds the cell, else 0
--   part_store P os p         the numbers of a part's store before its entries, in the order of docs/PARTS.md
--   stores_after P os b       the lent table b with the stores of the parts 1 to P; what stands behind them, and each store's
--                            entries and places, is as it was
--   split_answer ..           15, 1 to 6, 10, 11 in this order
use Rattle.std.proofs.Math.Bool.{true, false}
use Rattle.std.specs.Prelude.{◌&&◌, ℕ, suc, ◌*◌, ltb, leb, drop, ℤ}
use mathlib.Core.List.{List, [], ◌∷◌, ◌++◌, map, flat_map}
use Rattle.std.proofs.Math.ListN.{length, get_or, replicate}
use Rattle.base.specs.Bools.{one_if}
use Rattle.base.specs.Fours.{fours}
use Rattle.base.specs.Limits.{most_coarse_cells, most_cells, most_parts, most_slots}
use Rattle.base.specs.Range.{range}
use Rattle.base.specs.Refuse.{refuse, and_then}
use Rattle.base.specs.Answer.{Answer}
use Rattle.base.specs.Answer.{Accepted, Refused}
use Rattle.mesh.specs.Coarse.{coarse_corner_count}
use Rattle.mesh.specs.Table.{levels_of}
use Rattle.mesh.specs.Answers.{table_answer}
use Rattle.mesh.specs.Layout.{edge_numbers}
use Rattle.lineage.specs.Olds.{first_child}
use Rattle.parts.specs.Owners.{nth_cell, family_of, ownersb}
use Rattle.parts.specs.Held.{masterb}
use Rattle.store.specs.Fields.{full, FRONT, firsts_length, flags_length, free_length}
use Rattle.store.specs.declared.Place.{Place}
use Rattle.store.specs.Places.{place_of}
use Rattle.store.specs.Stores.{store_in}
use Rattle.split.specs.Columns.{cells_below, slots_below, slot_of, inner_bits, holds_cell, holds_slot, holders_of}

module _ (n : ℕ) (qs : List (List ℕ)) (ss : List ℕ) (P : ℕ) (os : List ℕ) (p : ℕ) where
  -- Rule 15.3: of other cells a part knows nothing
  unfoldable pub by_cell : (ℕ → ℕ) → List ℕ
  unfolding holds_cell range
  by_cell f = map (λ c. elim (ltb c (length ss) && holds_cell n qs ss os p c) [ true ↦ f c | false ↦ 0 ]) (range 0 most_cells)

  -- Rule 3.3.
  abbrev pub place_along : ℕ → Place
  place_along c = place_of (nth_cell n qs ss c).path

  -- Rule 5.4.
  unfoldable pub six_of : ℕ → List ℕ
  unfolding holds_cell slot_of
  six_of c = elim (ltb c (length ss) && holds_cell n qs ss os p c) [ true ↦ map (slot_of n qs ss c) edge_numbers | false ↦ replicate 6 0 ]

  -- Rule 15.5.
  unfoldable pub four_of : ℕ → List ℕ
  unfolding masterb
  four_of i = elim (ltb i (length qs) && masterb os p i) [ true ↦ get_or qs i [] | false ↦ replicate 4 0 ]

  -- Rule 15.2.
  unfoldable pub holders_at : ℕ → ℕ
  unfolding holds_slot holders_of
  holders_at s = elim (holds_slot n qs ss os p s) [ true ↦ holders_of n qs ss os s | false ↦ 0 ]

  -- Rule 15.5.
  unfoldable pub part_store : List ℕ
  unfolding by_cell six_of four_of holders_at cells_below slots_below levels_of family_of nth_cell first_child place_of inner_bits one_if range flat_map
  part_store =
      (0 ∷ p ∷ P ∷ n ∷ length qs ∷ length ss ∷ length (levels_of n qs ss) ∷ replicate 9 0)
      ++ map (cells_below n qs ss) (range 0 firsts_length) ++ map (slots_below n qs ss) (range 0 firsts_length) ++ replicate free_length 0
      ++ by_cell (λ c. get_or os c 0) ++ by_cell (family_of n qs ss os)
      ++ by_cell (λ c. get_or ss c 0) ++ by_cell (λ c. one_if (nth_cell n qs ss c).regular)
      ++ by_cell (first_child (length qs) ss) ++ by_cell (λ c. (nth_cell n qs ss c).parent)
      ++ by_cell (λ c. (place_along c).head) ++ by_cell (λ c. (place_along c).digits) ++ by_cell (λ c. (place_along c).more)
      ++ by_cell (inner_bits n qs ss) ++ replicate flags_length 0
      ++ flat_map four_of (range 0 most_coarse_cells) ++ flat_map six_of (range 0 most_cells)
      ++ map holders_at (range 0 most_slots) ++ replicate most_slots 0

-- Rule 15.5.
unfoldable pub stores_after : ℕ → List (List ℕ) → List ℕ → ℕ → List ℕ → List ℕ → List ℕ
unfolding part_store store_in range flat_map
stores_after n qs ss P os b =
    flat_map (λ j. part_store n qs ss P os (suc j) ++ drop FRONT (store_in b j)) (range 0 P) ++ drop (full * P) b

-- Rule 15.14.
unfoldable pub split_answer : List ℤ → List ℕ → List ℕ → ℕ → List ℕ → List ℕ → Answer
unfolding refuse and_then table_answer ownersb
split_answer ps ts ss P os b =
    refuse 15 (leb (most_parts * full) (length b)) (and_then (table_answer ps ts ss)
    (refuse 10 (leb 1 P && leb P most_parts) (refuse 11 (ownersb (coarse_corner_count ps) (fours ts) ss P os) Accepted)))

-- Rule 15.5: a refused call changes nothing
unfoldable pub split_in : Answer → List ℕ → List ℕ → List ℕ
split_in Accepted new old = new
split_in (Refused k) new old = old

-- Rule 15.5.
unfoldable pub split_after : List ℤ → List ℕ → List ℕ → ℕ → List ℕ → List ℕ → List ℕ
unfolding split_in split_answer stores_after
split_after ps ts ss P os b = split_in (split_answer ps ts ss P os b) (stores_after (coarse_corner_count ps) (fours ts) ss P os b) b
