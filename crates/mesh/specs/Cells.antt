-- Cells over points of any kind (docs/METHOD.md, sections 3, 4 and 6). The rules' points are weights (Weights); the
-- program's are corner numbers.
--   Cell A             a cell: its path (its coarse cell, then child numbers down to it), its parent's number, whether it is
--                      regular, and its four points in local order
--   none               the parent's number of a coarse cell; no_cell stands for a cell that is not there
--   Four c             the cell c has four points
--   edge c e           edge e of c as its two ends; edges c all six, in order
--   redb s, pattern_of s  a status that is red; the pattern that a refined cell is cut by
--   joinsb e f         e and f have the same two ends
--   heldb es e         some edge of es is e
--   pattern es c       the pattern of c's edges that stand in es
--   red_edges cs ss     the edges of the red cells of a level
--   status_of es r c    the status of c where es are the edges of its level's red cells and r says whether it is one
--   closed_from es cs ss  each of the cells cs has the status that the edges es of red cells ask for
--   children k c s f   the family of c, the cell number k with status s, where f gives the point of a digit
use Rattle.std.specs.Prelude.{◌≡◌, Bool, ◌&&◌, ◌||◌, length}
use Rattle.std.proofs.Math.Bool.{true, false}
use mathlib.Core.List.{List, [], ◌∷◌, ◌++◌, map}
use Prim.Native.Nat.{ℕ, suc, ◌+◌, ◌*◌}
use Rattle.std.proofs.Math.Dec.{eqb}
use Rattle.std.proofs.Math.ListN.{get_or}
use Rattle.base.specs.Lists.{anyb}
use Rattle.base.specs.Bools.{one_if}
use Rattle.cutting.specs.Rule.{low, high, family}

-- Rules 3.2, 3.3, 4.2: what a table means by a cell.
pub record Cell (A : Type 0) : Type 0 where
  pub path : List ℕ
  pub parent : ℕ
  pub regular : Bool
  pub points : List A

-- Rule 9.2: stands for the parent of a coarse cell.
abbrev pub none : ℕ
none = 65535

-- stands for a cell that is not there
abbrev pub no_cell : {A : Type 0} → Cell A
no_cell = record { path = []; parent = 0; regular = false; points = [] }

-- the cell has four points
abbrev pub Four : {A : Type 0} → Cell A → Type 0
Four c = length c.points ≡ 4

-- Rule 4.1: 0 is a leaf, 1 to 63 green, 64 red.
abbrev pub redb : ℕ → Bool
redb s = eqb s 64

-- Rule 4.1: red cells are cut by 63, green ones by their status.
unfoldable pub pattern_of : ℕ → ℕ
pattern_of s = elim (redb s) [ true ↦ 63 | false ↦ s ]

-- `o` stands for a point that is not there.
module _ {A : Type 0} (o : A) where
  -- Rule 2.1: a local corner.
  abbrev pub corner : Cell A → ℕ → A
  corner c i = get_or c.points i o

  -- Rules 2.1, 5.4: a local edge as its two ends.
  unfoldable pub edge : Cell A → ℕ → A × A
  unfolding low high
  edge c e = let d : ℕ = get_or (1 ∷ 2 ∷ 3 ∷ 5 ∷ 6 ∷ 8 ∷ []) e 0 in (corner c (low d), corner c (high d))

  -- Rule 2.1: the six, in edge order.
  unfoldable pub edges : Cell A → List (A × A)
  unfolding edge
  edges c = edge c 0 ∷ edge c 1 ∷ edge c 2 ∷ edge c 3 ∷ edge c 4 ∷ edge c 5 ∷ []

-- Rule 2.2: a pattern from the six tests, edge 12 first.
unfoldable pub bits_of : List Bool → ℕ
unfolding one_if
bits_of [] = 0
bits_of (b ∷ bs) = one_if b + 2 * bits_of bs

module _ {A : Type 0} (same : A → A → Bool) where
  -- Rule 5.4: an edge has no direction.
  unfoldable pub joinsb : A × A → A × A → Bool
  joinsb e f = (same e.0 f.0 && same e.1 f.1) || (same e.0 f.1 && same e.1 f.0)

  -- Rule 5.4: one of these edges is it.
  unfoldable pub heldb : List (A × A) → A × A → Bool
  unfolding joinsb anyb
  heldb es e = anyb (joinsb e) es

module _ {A : Type 0} (o : A) (same : A → A → Bool) where
  -- Rule 6.2: the pattern of the cell's edges among those of red cells.
  unfoldable pub pattern : List (A × A) → Cell A → ℕ
  unfolding bits_of heldb edges
  pattern es c = bits_of (map (heldb same es) (edges o c))

  -- Rules 6.2, 6.3: what status a cell must have.
  unfoldable pub status_of : List (A × A) → Bool → Cell A → ℕ
  unfolding pattern
  status_of es r c = elim c.regular [ true ↦ elim r [ true ↦ 64 | false ↦ pattern es c ] | false ↦ 0 ]

module _ {A : Type 0} (o : A) (same : A → A → Bool) where
  -- Rules 6.2, 6.3: each cell has it.
  unfoldable pub closed_from : List (A × A) → List (Cell A) → List ℕ → Bool
  unfolding status_of
  closed_from es [] [] = true
  closed_from es [] (s ∷ ss) = false
  closed_from es (c ∷ cs) [] = false
  closed_from es (c ∷ cs) (s ∷ ss) = eqb s (status_of o same es (redb s) c) && closed_from es cs ss

module _ {A : Type 0} (o : A) where
  -- Rule 6.2: what the red cells of a level hold.
  unfoldable pub red_edges : List (Cell A) → List ℕ → List (A × A)
  unfolding edges
  red_edges [] ss = []
  red_edges (c ∷ cs) [] = []
  red_edges (c ∷ cs) (s ∷ ss) = elim (redb s) [ true ↦ edges o c ++ red_edges cs ss | false ↦ red_edges cs ss ]

-- The family of c, the cell number k; r says whether its children are regular.
module _ {A : Type 0} (k : ℕ) (c : Cell A) (r : Bool) (f : ℕ → A) where
  -- Rules 3.2, 3.3, 4.2: children in the family's order, with their paths.
  unfoldable pub children_from : ℕ → List (List ℕ) → List (Cell A)
  children_from i [] = []
  children_from i (d ∷ ds) = record { path = c.path ++ (i ∷ []); parent = k; regular = r; points = map f d } ∷ children_from (suc i) ds

-- Rules 4.1, 4.2: no family for a leaf; the children of red cells are regular.
unfoldable pub children : {A : Type 0} → ℕ → Cell A → ℕ → (ℕ → A) → List (Cell A)
unfolding children_from pattern_of
children k c s f = elim (eqb s 0) [ true ↦ [] | false ↦ children_from k c (redb s) f 0 (family (pattern_of s)) ]
