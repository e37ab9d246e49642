-- What the functions of merging leave.
--   Swept es m w           the statuses of the cells that the row w has found are the table's
--   Settled k w w'         what finding the status of the next cell leaves; Unsettled: where it has none
--   Built k m w            what the whole sweep leaves; Unbuilt: where the masters k make no table
--   entries_by b P         the masters and ghosts of the first P stores
--   Assembled b P m w      the row is the table of these stores' masters, and there are no others
--   OwnedAt b P i j        the store j is the first with the coarse cell i as master
--   HandedOut ..           the table is sound, and written; Withheld: it is not
--   Gathered b P n m mesh  the corners of all coarse cells; Ungathered: where there are none
use Rattle.std.specs.Prelude.{◌≡◌, true, ℕ, suc, ◌+◌, ◌*◌, ◌≤◌, ◌<◌, T, false, length, take, drop}
use mathlib.Core.List.{List, ◌++◌, flat_map, flatten}
use Rattle.base.specs.Fours.{fours}
use Rattle.base.specs.Limits.{most_cells}
use Rattle.base.specs.Lists.{allb, anyb}
use Rattle.base.specs.Range.{range}
use Rattle.mesh.specs.Coarse.{cellsb}
use Rattle.mesh.specs.Table.{soundb}
use Rattle.parts.specs.Held.{Entry}
use Rattle.parts.specs.Merge.{merged, filledb, completeb}
use Rattle.store.specs.Fields.{field, ENTRIES, CORNER}
use Rattle.store.specs.Stores.{store_in, stores_by}
use Rattle.held.specs.Held.{held_in}
use Rattle.merge.specs.Merge.{ownsb, corners_among, merge_cells}
use Rattle.merge.specs.declared.masters.Masters.{Masters}
use Rattle.merge.specs.declared.row.Row.{Row}
use Rattle.merge.specs.Load.{Mastered}
use Rattle.merge.specs.Sweep.{Sweep, Failed, coarse_paths}

abbrev pub Swept : List Entry → ℕ → Row → Type 0
Swept es m w = Sweep es m w.heads w.digits w.statuses w.found w.known

pub record Settled (k : Masters) (w w' : Row) : Type 0 where
  pub next : w'.found ≡ suc w.found
  pub went : (es : List Entry) (m : ℕ) → Mastered es k → Swept es m w → Swept es m w'

pub record Unsettled (k : Masters) (w : Row) : Type 0 where
  pub failed : (es : List Entry) (m : ℕ) → Mastered es k → Swept es m w → Failed es m

pub record Built (k : Masters) (m : ℕ) (w : Row) : Type 0 where
  pub table : (es : List Entry) → Mastered es k → (flatten (merged es m) ≡ take w.known w.statuses)
      × (filledb 12 es (coarse_paths m) ≡ true)

pub record Unbuilt (k : Masters) (m : ℕ) : Type 0 where
  pub failed : (es : List Entry) → Mastered es k → Failed es m

abbrev pub entries_by : List ℕ → ℕ → List Entry
entries_by b P = flat_map held_in (stores_by b P)

-- as a header has it
abbrev pub FewEntries : List ℕ → ℕ → Type 0
FewEntries b P = (i : ℕ) → i < P → field (store_in b i) ENTRIES ≤ most_cells

pub record Assembled (b : List ℕ) (P m : ℕ) (w : Row) : Type 0 where
  pub table : flatten (merged (entries_by b P) m) ≡ take w.known w.statuses
  pub complete : T (completeb (entries_by b P) m)

pub record OwnedAt (b : List ℕ) (P i j : ℕ) : Type 0 where
  pub below : j < P
  pub some : anyb (ownsb i) (stores_by b P) ≡ true
  pub corners : corners_among (stores_by b P) i ≡ take 4 (drop (CORNER + 4 * i) (store_in b j))

pub record Gathered (b : List ℕ) (P n m : ℕ) (mesh' : List ℕ) : Type 0 where
  pub owned : T (allb (λ i. anyb (ownsb i) (stores_by b P)) (range 0 m))
  pub cells : T (cellsb n (merge_cells (stores_by b P) m))
  pub mesh : fours (take (4 * m) mesh') ≡ merge_cells (stores_by b P) m

pub record Ungathered (b : List ℕ) (P n m : ℕ) : Type 0 where
  pub failed : T (allb (λ i. anyb (ownsb i) (stores_by b P)) (range 0 m)) → T (cellsb n (merge_cells (stores_by b P) m)) → ⊥

-- the table is sound, and written
pub record HandedOut (n : ℕ) (qs : List (List ℕ)) (ss table table' : List ℕ) : Type 0 where
  pub sound : soundb n qs ss ≡ true
  pub written : table' ≡ ss ++ drop (length ss) table

pub record Withheld (n : ℕ) (qs : List (List ℕ)) (ss table table' : List ℕ) : Type 0 where
  pub unsound : soundb n qs ss ≡ false
  pub same : table' ≡ table
