-- What the store of a part holds of a table that is split (section 15 of the method, docs/PARTS.md). n, qs, ss are corners, coarse cells
-- and status table; os are the owners, p is a part, from 1, of P.
--   numbered_cell c      the cell c over the numbers of its corners
--   cell_level c         its level; cells_below k how many cells lower levels have
--   keys_at k            the edges of level k as pairs of corner numbers, each once, in the order of their first appearance
--   slots_below k        how many edges lower levels have; slot_of c e the slot of the edge e of the cell c
--   inner_bits c         six bits: the edges of c that are not also its parent's
--   holds_cell os p c    the part has the cell as master or ghost; holds_slot os p s it has one with the slot s
--   holders_of os s      sixteen bits: the parts that hold the slot s
use Rattle.std.specs.Prelude.{Bool, ◌&&◌, ◌||◌, get_or}
use Rattle.std.proofs.Math.Bool.{true, false, not}
use mathlib.Core.List.{List, [], map, flat_map}
use Prim.Native.Nat.{ℕ, zero, suc, ◌+◌}
use Rattle.std.proofs.Math.Dec.{eqb}
use Rattle.std.proofs.Math.ListN.{length}
use Rattle.base.specs.Limits.{most_parts}
use Rattle.base.specs.Lists.{anyb}
use Rattle.base.specs.Places.{place_in}
use Rattle.base.specs.Range.{range}
use Rattle.mesh.specs.Cells.{Cell, edge, edges, heldb, bits_of}
use Rattle.mesh.specs.Table.{Level, levels_of}
use Rattle.mesh.specs.Layout.{number_in, corners_of, map_cell, edge_numbers}
use Rattle.mesh.specs.Counts.{level_of}
use Rattle.edges.specs.Pairs.{Pair, sorted, isb, add_pairs}
use Rattle.lattice.specs.Levels.{no_level}
use Rattle.tables.specs.Sound.{examined_corners}
use Rattle.parts.specs.Owners.{nth_cell, family_of}
use Rattle.parts.specs.Held.{masterb}

module _ (n : ℕ) (qs : List (List ℕ)) (ss : List ℕ) where
  -- Rule 5.5.
  unfoldable pub numbered_cell : ℕ → Cell ℕ
  unfolding map_cell number_in nth_cell corners_of
  numbered_cell c = map_cell (number_in (examined_corners n qs ss)) (nth_cell n qs ss c)

  -- Rule 3.3.
  abbrev pub cell_level : ℕ → ℕ
  cell_level c = level_of (nth_cell n qs ss c)

  abbrev pub level_at : ℕ → Level
  level_at k = get_or (levels_of n qs ss) k no_level

  -- Rule 3.2.
  unfoldable pub cells_below : ℕ → ℕ
  unfolding levels_of
  cells_below zero = 0
  cells_below (suc k) = cells_below k + length (level_at k).cells

  -- Rule 5.4.
  unfoldable pub keys_at : ℕ → List Pair
  unfolding add_pairs edges numbered_cell cells_below range flat_map levels_of
  keys_at k = add_pairs [] (flat_map (λ c. edges 0 (numbered_cell c)) (range (cells_below k) (length (level_at k).cells)))

  -- Rule 5.4.
  unfoldable pub slots_below : ℕ → ℕ
  unfolding keys_at
  slots_below zero = 0
  slots_below (suc k) = slots_below k + length (keys_at k)

  -- Rule 5.4.
  unfoldable pub slot_of : ℕ → ℕ → ℕ
  unfolding slots_below keys_at place_in isb sorted edge numbered_cell nth_cell
  slot_of c e = slots_below (cell_level c) + place_in isb (keys_at (cell_level c)) (sorted (edge 0 (numbered_cell c) e))

  -- Rule 7.5.
  unfoldable pub inner_bits : ℕ → ℕ
  unfolding bits_of heldb edges edge numbered_cell nth_cell
  inner_bits c =
      elim (eqb (cell_level c) 0) [
        | true ↦ 0
        | false ↦ bits_of (map (λ e. not (heldb eqb (edges 0 (numbered_cell (nth_cell n qs ss c).parent)) (edge 0 (numbered_cell c) e)))
            edge_numbers)
      ]

  module _ (os : List ℕ) where
    -- Rule 15.2.
    unfoldable pub holds_cell : ℕ → ℕ → Bool
    unfolding masterb family_of
    holds_cell p c = masterb os p c || eqb (family_of n qs ss os c) p

    -- Rule 15.2.
    unfoldable pub holds_slot : ℕ → ℕ → Bool
    unfolding holds_cell slot_of anyb range
    holds_slot p s = anyb (λ c. holds_cell p c && anyb (λ e. eqb (slot_of c e) s) edge_numbers) (range 0 (length ss))

    -- Rule 15.2.
    unfoldable pub holders_of : ℕ → ℕ
    unfolding holds_slot bits_of range
    holders_of s = bits_of (map (λ p. holds_slot p s) (range 1 most_parts))
