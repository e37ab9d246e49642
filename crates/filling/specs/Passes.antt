-- One cell of a pass over the cells that a part holds.
--   Column cols c j x y        y is x with the first j numbers of the cell c
--   Six sl c e x y             y is x with the first e slots of the cell c
--   Masked sl ms c e x y       y is x with what ms has at the first e slots of the cell c
--   AllBelow x k                   each number of x is below k
--   Doubled i x b y            y is x with its first i numbers doubled, and those of b added
use Rattle.std.specs.Prelude.{◌≡◌, Bool, true, false, List, ℕ, ◌+◌, ◌*◌, ◌≤◌, ◌<◌, length, get_or, take, eqb}
use Rattle.base.specs.Limits.{most_cells, most_slots}
use Rattle.base.specs.Lists.{anyb}
use Rattle.mesh.specs.Layout.{edge_numbers}
use Rattle.store.specs.Written.{WroteAt}

abbrev pub Column : List ℕ → ℕ → ℕ → List ℕ → List ℕ → Type 0
Column cols c j x y = WroteAt (λ i. most_cells * i + c) (λ i. get_or cols (most_cells * i + c) 0) j x y

abbrev pub Six : List ℕ → ℕ → ℕ → List ℕ → List ℕ → Type 0
Six sl c e x y = WroteAt (λ i. 6 * c + i) (λ i. get_or sl (6 * c + i) 0) e x y

-- whether s is one of the first e slots of the cell c
abbrev pub six_haveb : List ℕ → ℕ → ℕ → ℕ → Bool
six_haveb sl c e s = anyb (λ i. eqb (get_or sl (6 * c + i) 0) s) (take e edge_numbers)

pub record Masked (sl ms : List ℕ) (c e : ℕ) (x y : List ℕ) : Type 0 where
  pub size : length y ≡ length x
  pub at : (s : ℕ) → s < most_slots → get_or y s 0 ≡ elim (six_haveb sl c e s) [ true ↦ get_or ms s 0 | false ↦ get_or x s 0 ]

-- each of the first 24,576 numbers is below k
pub record AllBelow (x : List ℕ) (k : ℕ) : Type 0 where
  pub below : (s : ℕ) → s < most_slots → get_or x s 0 < k

-- the first i numbers of x were doubled and those of b added
pub record Doubled (i : ℕ) (x b y : List ℕ) : Type 0 where
  pub size : length y ≡ length x
  pub done : (s : ℕ) → s < i → get_or y s 0 ≡ 2 * get_or x s 0 + get_or b s 0
  pub rest : (s : ℕ) → i ≤ s → get_or y s 0 ≡ get_or x s 0
