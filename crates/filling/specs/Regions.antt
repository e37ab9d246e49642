-- A part's store (rule 15.5), region by region: from the columns `cols` of a table of m cells (ten of 4,096 places, owners first and
-- families second), the slots `sl` of its edges, six for each cell, and the coarse cells' corners.
--   holdb cols m p c          the part p has the cell c, as master or ghost
--   pick_by κ h v i              v i, where the cell κ i passes the test h
--   column_by cols m p i       the number i of the ten columns
--   slot_by cols sl m p j      the slot j, if its cell is held
--   held_slotb cols sl m p s       the part holds the slot s
--   mask_by cols sl m s        sixteen bits: the parts that hold the slot s
--   holder_by .. ms p s        the number of the slot s in ms, if the part holds it
--   corner_by cols mesh p j    the corner j of the coarse cells, if its cell is a master
--   head_by ..                 the header
--   regions ..                all numbers before the entries
--   zeros k, tab k f          k zeros; f 0 to f (k - 1)
--   put_by a d x y             x with y in the place of the numbers from a to d
--   Tabled k f x                x has k numbers, f i at the place i
-- The functions with `To` look at the first cells only.
use Rattle.std.specs.Prelude.{◌≡◌, Bool, ◌&&◌, ◌||◌, List, ◌∷◌, ◌++◌, map, ℕ, ◌+◌, ◌*◌, ◌/◌, ◌%◌, ◌<◌, ltb, length, take, drop, replicate}
use Rattle.std.proofs.Math.Bool.{true, false}
use Rattle.std.proofs.Math.Dec.{eqb}
use Rattle.std.proofs.Math.ListN.{get_or}
use Rattle.base.specs.Limits.{full_coarse, most_cells, most_parts, most_slots}
use Rattle.base.specs.Lists.{anyb}
use Rattle.base.specs.Range.{range}
use Rattle.mesh.specs.Cells.{bits_of}
use Rattle.mesh.specs.Layout.{edge_numbers}
use Rattle.store.specs.Fields.{columns_length, flags_length, free_length}

-- lists that do not open by themselves: k zeros, and the numbers f 0 to f (k - 1)
unfoldable pub zeros : ℕ → List ℕ
zeros k = replicate k 0

unfoldable pub tab : ℕ → (ℕ → ℕ) → List ℕ
unfolding range
tab k f = map f (range 0 k)

-- x with y in the place of the numbers from a to d
unfoldable pub put_by : ℕ → ℕ → List ℕ → List ℕ → List ℕ
put_by a d x y = take a x ++ (y ++ drop d x)

pub record Tabled (k : ℕ) (f : ℕ → ℕ) (x : List ℕ) : Type 0 where
  pub size : length x ≡ k
  pub at : (i : ℕ) → i < k → get_or x i 0 ≡ f i

-- Rule 15.2.
unfoldable pub holdb : List ℕ → ℕ → ℕ → ℕ → Bool
holdb cols m p c = ltb c m && (eqb (get_or cols c 0) p || eqb (get_or cols (most_cells + c) 0) p)

-- v i, where the cell κ i passes the test h; the second looks at the cells before c only
unfoldable pub pick_by : (ℕ → ℕ) → (ℕ → Bool) → (ℕ → ℕ) → ℕ → ℕ
pick_by κ h v i = elim (h (κ i)) [ true ↦ v i | false ↦ 0 ]

unfoldable pub pick_to : (ℕ → ℕ) → (ℕ → Bool) → (ℕ → ℕ) → ℕ → ℕ → ℕ
pick_to κ h v c i = elim (ltb (κ i) c && h (κ i)) [ true ↦ v i | false ↦ 0 ]

-- of which cell a number of the columns is, and a slot
abbrev pub in_column : ℕ → ℕ
in_column i = i % most_cells

abbrev pub in_six : ℕ → ℕ
in_six j = j / 6

module _ (cols : List ℕ) (m p : ℕ) where
  abbrev pub column_to : ℕ → ℕ → ℕ
  column_to c i = pick_to in_column (holdb cols m p) (λ i. get_or cols i 0) c i

  abbrev pub column_by : ℕ → ℕ
  column_by i = pick_by in_column (holdb cols m p) (λ i. get_or cols i 0) i

  abbrev pub slot_to : List ℕ → ℕ → ℕ → ℕ
  slot_to sl c j = pick_to in_six (holdb cols m p) (λ j. get_or sl j 0) c j

  abbrev pub slot_by : List ℕ → ℕ → ℕ
  slot_by sl j = pick_by in_six (holdb cols m p) (λ j. get_or sl j 0) j

  -- Rule 15.2.
  unfoldable pub held_slot_to : List ℕ → ℕ → ℕ → Bool
  unfolding holdb anyb range
  held_slot_to sl k s = anyb (λ c. holdb cols m p c && anyb (λ e. eqb (get_or sl (6 * c + e) 0) s) edge_numbers) (range 0 k)

  -- Rule 15.2.
  abbrev pub held_slotb : List ℕ → ℕ → Bool
  held_slotb sl s = held_slot_to sl m s

  unfoldable pub holder_to : List ℕ → List ℕ → ℕ → ℕ → ℕ
  unfolding held_slot_to
  holder_to sl ms k s = elim (held_slot_to sl k s) [ true ↦ get_or ms s 0 | false ↦ 0 ]

  abbrev pub holder_by : List ℕ → List ℕ → ℕ → ℕ
  holder_by sl ms s = holder_to sl ms m s

unfoldable pub mask_from : List ℕ → ℕ → List ℕ → ℕ → ℕ → ℕ → ℕ
unfolding held_slot_to bits_of range
mask_from cols m sl p k s = bits_of (map (λ q. held_slotb cols m q sl s) (range p k))

-- Rule 15.2.
abbrev pub mask_by : List ℕ → ℕ → List ℕ → ℕ → ℕ
mask_by cols m sl s = mask_from cols m sl 1 most_parts s

-- Rule 15.5.
unfoldable pub corner_by : List ℕ → List ℕ → ℕ → ℕ → ℕ
corner_by cols mesh p j =
    elim (ltb (j / 4) (length mesh / 4) && eqb (get_or cols (j / 4) 0) p) [ true ↦ get_or mesh j 0 | false ↦ 0 ]

-- Rule 15.5.
unfoldable pub head_by : ℕ → ℕ → ℕ → ℕ → ℕ → ℕ → List ℕ
head_by p P n q m l = 0 ∷ p ∷ P ∷ n ∷ q ∷ m ∷ l ∷ replicate 9 0

-- the slots of the first m cells are small
pub record SmallSlots (sl : List ℕ) (m : ℕ) : Type 0 where
  pub small : (j : ℕ) → j < 6 * m → get_or sl j 0 < most_slots

-- Rule 15.5: all regions, one behind the other
unfoldable pub regions : List ℕ → List ℕ → List ℕ → List ℕ → List ℕ → List ℕ → ℕ → ℕ → ℕ → ℕ → ℕ → List ℕ
regions cols mesh sl ms fs st m p P n l =
    (head_by p P n (length mesh / 4) m l ++ fs ++ st ++ zeros free_length)
    ++ (tab columns_length (column_by cols m p) ++ zeros flags_length ++ tab full_coarse (corner_by cols mesh p))
    ++ (tab most_slots (slot_by cols m p sl) ++ tab most_slots (holder_by cols m p sl ms) ++ zeros most_slots)
