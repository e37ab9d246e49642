-- Lists of cells in which each cell's place is its number.
--   linked_path cs k  the path of the cell k; parent_at cs k its parent's number
--   Rooted cs k      the cell k has its own number for a path, and no parent
--   Descends cs k    the cell k comes after its parent, and its path is the parent's and one number more
--   Linked cs        each cell is coarse or a child
--   ancestor_of c     the coarse ancestor and the level of the cell c
use Rattle.std.specs.Prelude.{◌≡◌, ◌⊎◌, List, [], ◌∷◌, ◌++◌, ℕ, ◌<◌, length, get_or}
use Rattle.mesh.specs.Cells.{Cell, none, no_cell}
use Rattle.mesh.specs.Counts.{coarse_of, level_of}
use Rattle.ancestors.specs.declared.Ancestor.{Ancestor}
use Rattle.ancestors.specs.Climb.{ancestor}

-- Rule 12.9: coarse cell and level.
abbrev pub ancestor_of : {A : Type 0} → Cell A → Ancestor
ancestor_of c = ancestor (coarse_of c) (level_of c)

module _ {A : Type 0} where
  abbrev pub linked_path : List (Cell A) → ℕ → List ℕ
  linked_path cs k = (get_or cs k no_cell).path

  abbrev pub parent_at : List (Cell A) → ℕ → ℕ
  parent_at cs k = (get_or cs k no_cell).parent

  -- Rules 3.1, 3.3, 9.2: a coarse cell.
  pub record Rooted (cs : List (Cell A)) (k : ℕ) : Type 0 where
    pub path : linked_path cs k ≡ k ∷ []
    pub parent : parent_at cs k ≡ none

  -- Rules 3.2, 3.3: after its parent, with the parent's path and one number more.
  pub record Descends (cs : List (Cell A)) (k : ℕ) : Type 0 where
    pub below : parent_at cs k < k
    pub number : ℕ
    pub path : linked_path cs k ≡ linked_path cs (parent_at cs k) ++ (number ∷ [])

  -- Rules 3.1 to 3.3: each cell is coarse or a child.
  pub record Linked (cs : List (Cell A)) : Type 0 where
    pub link : (k : ℕ) → k < length cs → Rooted cs k ⊎ Descends cs k
