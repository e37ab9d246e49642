-- What the functions of a split (rule 15.5) ask for and leave.
--   first_by ks k           the first cell of level k, where ks are the numbers of first children
--   Leveled ks m           levels rise, and none begins behind the m cells
--   FirstCells ks fs       fs has the first cell of each level
--   masks_of cols m sl      the parts that hold each slot
--   part_by .. p            the numbers of the store of the part p
--   store_with f b j          the store with the number j in the table b, with f in front of its entries
--   stores_to f b j         b with the first j stores so
--   store_put f b j          b with the store j so
use Rattle.std.specs.Prelude.{◌≡◌, ℕ, zero, suc, ◌+◌, ◌*◌, ◌≤◌, ◌<◌, length, get_or, drop}
use mathlib.Core.List.{List, ◌++◌, flat_map}
use Rattle.base.specs.Limits.{most_levels, most_slots}
use Rattle.base.specs.Range.{range}
use Rattle.store.specs.Fields.{full, FRONT, firsts_length}
use Rattle.store.specs.Stores.{store_in}
use Rattle.slots.specs.Slots.{Slotted}
use Rattle.filling.specs.Regions.{tab, put_by, mask_by, regions}

-- Rule 3.2.
unfoldable pub first_by : List ℕ → ℕ → ℕ
first_by ks zero = 0
first_by ks (suc k) = get_or ks (first_by ks k) 0

pub record Leveled (ks : List ℕ) (m : ℕ) : Type 0 where
  pub up : (k : ℕ) → k < most_levels → first_by ks k ≤ first_by ks (suc k)
  pub most : (k : ℕ) → k < firsts_length → first_by ks k ≤ m

pub record FirstCells (ks fs : List ℕ) : Type 0 where
  pub size : length fs ≡ firsts_length
  pub at : (k : ℕ) → k < firsts_length → get_or fs k 0 ≡ first_by ks k

-- the slots with the first cells and slots of the levels
pub record EdgesNumbered (t ks fs st sl : List ℕ) : Type 0 where
  pub firsts : FirstCells ks fs
  pub starts : length st ≡ firsts_length
  pub slots : Slotted t fs sl st

-- Rule 15.2.
unfoldable pub masks_of : List ℕ → ℕ → List ℕ → List ℕ
masks_of cols m sl = tab most_slots (mask_by cols m sl)

-- Rule 15.5.
unfoldable pub part_by : List ℕ → List ℕ → List ℕ → List ℕ → List ℕ → ℕ → ℕ → ℕ → ℕ → ℕ → List ℕ
part_by cols mesh sl fs st m P n l p = regions cols mesh sl (masks_of cols m sl) fs st m p P n l

unfoldable pub store_with : (ℕ → List ℕ) → List ℕ → ℕ → List ℕ
unfolding store_in
store_with f b j = f (suc j) ++ drop FRONT (store_in b j)

-- Rule 15.5.
unfoldable pub stores_to : (ℕ → List ℕ) → List ℕ → ℕ → List ℕ
unfolding store_with
stores_to f b j = flat_map (store_with f b) (range 0 j) ++ drop (full * j) b

unfoldable pub store_put : (ℕ → List ℕ) → List ℕ → ℕ → List ℕ
unfolding store_with put_by
store_put f b j = put_by (full * j) (full * j + full) b (store_with f b j)
