-- What a store of a split holds, read by its fields (docs/PARTS.md). n, qs, ss are corners, coarse cells and status table; os are the
-- owners, p is a part, from 1, of P; x is its store.
--   Fours qs                 each of qs has four numbers
--   if_held .. os p f c       f c where the part p holds the cell c, else 0
--   Stored .. P os p x       x is the store of the part p: each line of the layout
-- Laws: when_held, not_held (if_held opened), fours_long. What a split's stores hold is in proofs/Stored.
use Rattle.std.specs.Prelude.{◌≡◌, Bool, ◌&&◌, drop}
use Rattle.std.proofs.Math.Path.{refl}
use Rattle.std.proofs.Common.{lt-ltb}
use Rattle.std.proofs.Math.Bool.{true, false}
use mathlib.Core.List.{List, []}
use Prim.Native.Nat.{ℕ, ◌+◌, ◌*◌, ◌≤◌, ◌<◌}
use Rattle.std.proofs.Math.Dec.{ltb}
use Rattle.std.proofs.Math.ListN.{length, get_or, take}
use Rattle.base.specs.Bools.{one_if}
use Rattle.base.specs.Fours.{fours}
use Rattle.base.specs.Limits.{most_cells, most_coarse_cells, most_slots, most_parts}
use Rattle.base.specs.Every.{all_at}
use Rattle.mesh.specs.Table.{levels_of}
use Rattle.lattice.specs.Levels.{fours_four}
use Rattle.lineage.specs.Olds.{first_child}
use Rattle.parts.specs.Owners.{nth_cell, family_of}
use Rattle.store.specs.Places.{place_of}
use Rattle.store.specs.Fields.{full, field, STAGE, PART, PARTS, CORNERS, COARSE, CELLS, LEVELS, ROUND, RESULT, ENTRIES, TOTAL, HIGH, CURSOR}
use Rattle.store.specs.Fields.{BIT, WRITTEN, FIRST_CELL, FIRST_SLOT, TAKEN, ENDED, GIVEN, OWNER, FAMILY, STATUS, REGULAR, CHILD, PARENT}
use Rattle.store.specs.Fields.{HEAD, DIGITS, MORE, INNER, MARK, RED, CORNER, SLOT, HOLDERS, SUM}
use Rattle.store.specs.Fields.{firsts_length}
use Rattle.split.specs.Columns.{cells_below, slots_below, slot_of, inner_bits, holds_cell}
use Rattle.split.specs.Split.{four_of, holders_at}

abbrev pub Fours : List (List ℕ) → Type 0
Fours qs = (i : ℕ) → i < length qs → length (get_or qs i []) ≡ 4

pub fours_long : (ts : List ℕ) → Fours (fours ts)
fours_long ts = all_at (λ q. length q ≡ 4) [] (fours ts) (fours_four ts)

module _ (n : ℕ) (qs : List (List ℕ)) (ss os : List ℕ) (p : ℕ) where
  -- Rule 15.3.
  unfoldable pub if_held : (ℕ → ℕ) → ℕ → ℕ
  unfolding holds_cell
  if_held f c = elim (ltb c (length ss) && holds_cell n qs ss os p c) [ true ↦ f c | false ↦ 0 ]

  pub when_held : (f : ℕ → ℕ) (c : ℕ) → c < length ss → holds_cell n qs ss os p c ≡ true → if_held f c ≡ f c
  unfolding if_held
  when_held f c h e = rw (lt-ltb c (length ss) h, e, if_held)

  pub not_held : (f : ℕ → ℕ) (c : ℕ) → holds_cell n qs ss os p c ≡ false → if_held f c ≡ 0
  unfolding if_held
  not_held f c e = go (ltb c (length ss)) refl
    where
      go : (b : Bool) → ltb c (length ss) ≡ b → if_held f c ≡ 0
      go true d = rw (d, e, if_held)
      go false d = rw (d, if_held)

-- Rule 15.5.
pub record Stored (n : ℕ) (qs : List (List ℕ)) (ss : List ℕ) (P : ℕ) (os : List ℕ) (p : ℕ) (x : List ℕ) : Type 0 where
  pub long : full ≤ length x
  pub stage : field x STAGE ≡ 0
  pub part : field x PART ≡ p
  pub parts : field x PARTS ≡ P
  pub corners : field x CORNERS ≡ n
  pub coarse : field x COARSE ≡ length qs
  pub cells : field x CELLS ≡ length ss
  pub levels : field x LEVELS ≡ length (levels_of n qs ss)
  pub round : field x ROUND ≡ 0
  pub result : field x RESULT ≡ 0
  pub entries : field x ENTRIES ≡ 0
  pub total : field x TOTAL ≡ 0
  pub high : field x HIGH ≡ 0
  pub cursor : field x CURSOR ≡ 0
  pub bit : field x BIT ≡ 0
  pub written : field x WRITTEN ≡ 0
  pub first_cell : (k : ℕ) → k < firsts_length → field x (FIRST_CELL + k) ≡ cells_below n qs ss k
  pub first_slot : (k : ℕ) → k < firsts_length → field x (FIRST_SLOT + k) ≡ slots_below n qs ss k
  pub taken : (q : ℕ) → 1 ≤ q → q ≤ most_parts → field x (TAKEN + q) ≡ 0
  pub ended : (q : ℕ) → 1 ≤ q → q ≤ most_parts → field x (ENDED + q) ≡ 0
  pub given : (b : ℕ) → b < most_parts → field x (GIVEN + b) ≡ 0
  pub owner : (c : ℕ) → c < most_cells → field x (OWNER + c) ≡ if_held n qs ss os p (λ c. get_or os c 0) c
  pub family : (c : ℕ) → c < most_cells → field x (FAMILY + c) ≡ if_held n qs ss os p (family_of n qs ss os) c
  pub status : (c : ℕ) → c < most_cells → field x (STATUS + c) ≡ if_held n qs ss os p (λ c. get_or ss c 0) c
  pub regular : (c : ℕ) → c < most_cells → field x (REGULAR + c) ≡ if_held n qs ss os p (λ c. one_if (nth_cell n qs ss c).regular) c
  pub child : (c : ℕ) → c < most_cells → field x (CHILD + c) ≡ if_held n qs ss os p (first_child (length qs) ss) c
  pub parent : (c : ℕ) → c < most_cells → field x (PARENT + c) ≡ if_held n qs ss os p (λ c. (nth_cell n qs ss c).parent) c
  pub head : (c : ℕ) → c < most_cells → field x (HEAD + c) ≡ if_held n qs ss os p (λ c. (place_of (nth_cell n qs ss c).path).head) c
  pub digits : (c : ℕ) → c < most_cells → field x (DIGITS + c) ≡ if_held n qs ss os p (λ c. (place_of (nth_cell n qs ss c).path).digits) c
  pub more : (c : ℕ) → c < most_cells → field x (MORE + c) ≡ if_held n qs ss os p (λ c. (place_of (nth_cell n qs ss c).path).more) c
  pub inner : (c : ℕ) → c < most_cells → field x (INNER + c) ≡ if_held n qs ss os p (inner_bits n qs ss) c
  pub mark : (c : ℕ) → c < most_cells → field x (MARK + c) ≡ 0
  pub red : (c : ℕ) → c < most_cells → field x (RED + c) ≡ 0
  pub corner : (i k : ℕ) → i < most_coarse_cells → k < 4 → field x (CORNER + (4 * i + k)) ≡ get_or (four_of n qs ss P os p i) k 0
  pub four : (i : ℕ) → i < most_coarse_cells → take 4 (drop (CORNER + 4 * i) x) ≡ four_of n qs ss P os p i
  pub slot : (c e : ℕ) → c < most_cells → e < 6 → field x (SLOT + (6 * c + e)) ≡ if_held n qs ss os p (λ d. slot_of n qs ss d e) c
  pub holders : (s : ℕ) → s < most_slots → field x (HOLDERS + s) ≡ holders_at n qs ss P os p s
  pub sums : (s : ℕ) → s < most_slots → field x (SUM + s) ≡ 0
