-- The slots of a table's edges, from the rows t of its cells. Edge i is the edge i % 6 of the cell i / 6.
--   edge_at t i            the ends of the edge i
--   keys_in t a b          the edges of the cells from a to b, each once, in the order of their first appearance
--   slots_to t fs k        how many edges the levels below k have, where fs has the first cell of each level
--   Rising fs             each level begins where or after the one below it begins, and there are at most 4,096 cells
--   Table                 a table of edges with room for all
--   LevelDone ..          what a level leaves
--   Slotted t fs sl st    sl has the slot of each edge, st the first slot of each level
use Rattle.std.specs.Prelude.{◌≡◌, List, [], map, ℕ, zero, suc, ◌+◌, ◌*◌, ◌-◌, ◌/◌, ◌%◌, ◌≤◌, ◌<◌, length, get_or}
use Rattle.base.specs.Limits.{most_cells, most_levels, most_slots}
use Rattle.base.specs.Places.{place_in}
use Rattle.base.specs.Range.{range}
use Rattle.mesh.specs.Cells.{edge}
use Rattle.pairs.specs.declared.PairTable.{PairTable}
use Rattle.edges.specs.Pairs.{Pair, sorted, isb, add_pairs}
use Rattle.rows.specs.Numbered.{cell_at}

-- Rule 5.4.
unfoldable pub edge_at : List ℕ → ℕ → Pair
unfolding edge cell_at
edge_at t i = edge 0 (cell_at t (i / 6)) (i % 6)

-- Rule 5.4.
unfoldable pub keys_in : List ℕ → ℕ → ℕ → List Pair
unfolding edge_at add_pairs range
keys_in t a b = add_pairs [] (map (edge_at t) (range (6 * a) (6 * b - 6 * a)))

-- Rule 5.4.
unfoldable pub slots_to : List ℕ → List ℕ → ℕ → ℕ
unfolding keys_in
slots_to t fs zero = 0
slots_to t fs (suc k) = slots_to t fs k + length (keys_in t (get_or fs k 0) (get_or fs (suc k) 0))

pub record Rising (fs : List ℕ) : Type 0 where
  pub up : (k : ℕ) → k < most_levels → get_or fs k 0 ≤ get_or fs (suc k) 0
  pub most : (k : ℕ) → k < most_levels + 1 → get_or fs k 0 ≤ most_cells

abbrev pub Table : Type 0
Table = PairTable most_slots 4096

pub record LevelDone (t : List ℕ) (first last : ℕ) (w : Table) (sl : List ℕ) (w' : Table) (sl' : List ℕ) : Type 0 where
  pub count : w'.n ≡ w.n + length (keys_in t first last)
  pub few : w'.n ≤ w.n + (6 * last - 6 * first)
  pub slots : (j : ℕ) → 6 * first ≤ j → j < 6 * last → get_or sl' j 0 ≡ w.n + place_in isb (keys_in t first last) (sorted (edge_at t j))
  pub kept : (j : ℕ) → j < 6 * first → get_or sl' j 0 ≡ get_or sl j 0

pub record Slotted (t fs sl st : List ℕ) : Type 0 where
  pub starts : (k : ℕ) → k < most_levels + 1 → get_or st k 0 ≡ slots_to t fs k
  pub few : slots_to t fs most_levels ≤ most_slots
  pub slots : (k j : ℕ) → k < most_levels → 6 * get_or fs k 0 ≤ j → j < 6 * get_or fs (suc k) 0
      → get_or sl j 0 ≡ slots_to t fs k + place_in isb (keys_in t (get_or fs k 0) (get_or fs (suc k) 0)) (sorted (edge_at t j))
