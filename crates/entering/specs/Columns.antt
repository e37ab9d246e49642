-- What a part's store holds of the task, from the split on: columns that no call changes.
--   Columns P J p x    the store x has the columns of the part p
--   Path k l           a path of a cell of level k that has room in a place
--   Heard st x         the flags of held cells and the sums of held slots are those of the state st
--   MarksIn g x        the marks of the masters are those of g
--   count_before x c    how many masters stand before the cell c
use Rattle.std.specs.Prelude.{◌≡◌, Bool, true, false, List, ◌∷◌, ltb, length}
use Prim.Native.Nat.{ℕ, zero, suc, ◌+◌, ◌-◌, ◌*◌, ◌≤◌, ◌<◌, Fin}
use Rattle.base.specs.Bools.{one_if}
use Rattle.base.specs.Every.{All}
use Rattle.base.specs.Limits.{most_cells, most_slots, most_coarse_cells, most_levels, most_parts}
use Rattle.base.specs.Range.{range}
use Rattle.exchange.specs.Finite.{parts}
use Rattle.base.specs.Member.{Member}
use Rattle.rounds.specs.Task.{Task}
use Rattle.rounds.specs.Rounds.{mine, holdsb}
use Rattle.store.specs.Fields.{field, full, PART, PARTS, CELLS, LEVELS, FIRST_CELL, FIRST_SLOT, OWNER, FAMILY, STATUS, REGULAR, CHILD}
use Rattle.store.specs.Fields.{PARENT, HEAD, INNER, MARK, RED, SLOT, HOLDERS, SUM}
use Rattle.store.specs.Fetch.{bitb}
use Rattle.store.specs.Places.{place_of}
use Rattle.standing.specs.Busy.{HoldsCell, HoldsSlot}
use Rattle.turns.specs.Start.{ownb}
use Rattle.turns.specs.Decide.{kid_count}
use Rattle.places.specs.Put.{place_at}
use Rattle.shares.specs.Grow.{coarseb, last_of}

-- a coarse cell below 256, then child numbers, at most ten
pub record Path (k : ℕ) (l : List ℕ) : Type 0 where
  pub coarse : ℕ
  pub down : List ℕ
  pub is : l ≡ coarse ∷ down
  pub coarse_few : coarse < most_coarse_cells
  pub deep : length down ≡ k
  pub digits : All (λ i. i < 8) down

module _ (P : ℕ) (J : Task (Fin P)) (p : Fin P) where
  pub record Columns (x : List ℕ) : Type 0 where
    pub long : full ≤ length x
    pub part : field x PART ≡ suc p.0
    pub many : field x PARTS ≡ P
    pub parts_few : P ≤ most_parts
    -- levels
    pub levels : field x LEVELS ≡ suc J.top
    pub levels_few : J.top < most_levels
    pub cells_few : field x CELLS ≤ most_cells
    pub first_cell : field x (FIRST_CELL + 0) ≡ 0
    pub last_cell : field x (FIRST_CELL + suc J.top) ≡ field x CELLS
    pub cells_rise : (k : ℕ) → k ≤ J.top → field x (FIRST_CELL + k) ≤ field x (FIRST_CELL + suc k)
    pub cells_in : (k : ℕ) → k ≤ suc J.top → field x (FIRST_CELL + k) ≤ field x CELLS
    pub cells : (k : ℕ) → k ≤ J.top
        → J.cells k ≡ range (field x (FIRST_CELL + k)) (field x (FIRST_CELL + suc k) - field x (FIRST_CELL + k))
    pub no_cells : (k c : ℕ) → Member c (J.cells k) → k ≤ J.top
    pub slots_low : (k s : ℕ) → Member s (J.slots k) → s < most_slots
    pub first_slot : field x (FIRST_SLOT + 0) ≡ 0
    pub slots_rise : (k : ℕ) → k ≤ J.top → field x (FIRST_SLOT + k) ≤ field x (FIRST_SLOT + suc k)
    pub slots_in : (k : ℕ) → k ≤ suc J.top → field x (FIRST_SLOT + k) ≤ most_slots
    pub slots : (k : ℕ) → k ≤ J.top
        → J.slots k ≡ range (field x (FIRST_SLOT + k)) (field x (FIRST_SLOT + suc k) - field x (FIRST_SLOT + k))
    -- cells that the part holds, and others
    pub owner : (c : ℕ) → HoldsCell P J p c → field x (OWNER + c) ≡ suc (J.owner c).0
    pub family : (c : ℕ) → HoldsCell P J p c → field x (FAMILY + c) ≡ suc (J.family c).0
    pub no_owner : (k c : ℕ) → Member c (J.cells k) → mine (parts P) J p c ≡ false → field x (OWNER + c) ≡ 0
    pub no_family : (k c : ℕ) → Member c (J.cells k) → mine (parts P) J p c ≡ false → field x (FAMILY + c) ≡ 0
    pub status : (c : ℕ) → HoldsCell P J p c → field x (STATUS + c) ≡ J.status c
    pub status_most : (c : ℕ) → HoldsCell P J p c → J.status c ≤ 64
    pub regular : (c : ℕ) → HoldsCell P J p c → field x (REGULAR + c) ≡ one_if (J.regular c)
    pub slot : (c e : ℕ) → HoldsCell P J p c → e < 6 → field x (SLOT + (6 * c + e)) ≡ J.slot c e
    pub slots_apart : (c e f : ℕ) → HoldsCell P J p c → e < 6 → f < 6 → J.slot c e ≡ J.slot c f → e ≡ f
    pub paths : (k c : ℕ) → Member c (J.cells k) → Path k (J.path c)
    pub place : (c : ℕ) → HoldsCell P J p c → place_at x c ≡ place_of (J.path c)
    pub coarse : (k c : ℕ) → Member c (J.cells k) → HoldsCell P J p c → ltb (field x (HEAD + c)) 256 ≡ coarseb k
    pub parent : (c : ℕ) → HoldsCell P J p c → field x (PARENT + c) ≡ J.parent c
    pub parent_held : (k c : ℕ) → Member c (J.cells (suc k)) → J.owner c ≡ p → HoldsCell P J p (J.parent c)
    -- families that are here
    pub kids : (k c : ℕ) → Member c (J.cells k) → J.family c ≡ p → J.kids c ≡ range (field x (CHILD + c)) (kid_count x c)
    pub kid_number : (k c j : ℕ) → Member c (J.cells k) → J.family c ≡ p → j < kid_count x c
        → last_of (J.path (field x (CHILD + c) + j)) ≡ j
    pub inner : (k c d e : ℕ) → Member c (J.cells k) → J.family c ≡ p → Member d (J.kids c) → e < 6
        → bitb (field x (INNER + d)) e ≡ J.inner d e
    -- slots that the part holds, and others
    pub holders : (k s : ℕ) → Member s (J.slots k) → holdsb (parts P) J p k s ≡ true → (q : Fin P)
        → bitb (field x (HOLDERS + s)) q.0 ≡ holdsb (parts P) J q k s
    pub no_more : (s i : ℕ) → s < most_slots → P ≤ i → bitb (field x (HOLDERS + s)) i ≡ false
    pub no_holders : (k s : ℕ) → Member s (J.slots k) → holdsb (parts P) J p k s ≡ false → field x (HOLDERS + s) ≡ 0
    pub held_slot : (k s : ℕ) → holdsb (parts P) J p k s ≡ true → Member s (J.slots k)

  pub record Heard (red : ℕ → Bool) (sum : ℕ → ℕ) (x : List ℕ) : Type 0 where
    pub flags : (c : ℕ) → HoldsCell P J p c → field x (RED + c) ≡ one_if (red c)
    pub sums : (s : ℕ) → HoldsSlot P J p s → field x (SUM + s) ≡ sum s

  abbrev pub MarksIn : (ℕ → ℕ) → List ℕ → Type 0
  MarksIn g x = (c : ℕ) → HoldsCell P J p c → J.owner c ≡ p → field x (MARK + c) ≡ g c

unfoldable pub count_before : List ℕ → ℕ → ℕ
unfolding ownb one_if
count_before x zero = 0
count_before x (suc c) = count_before x c + one_if (ownb x c)
