-- Who owns which cell, before a step and after it (section 15 of the method). n, qs, ss are corners, coarse cells and status table, os the
-- owners: parts are numbers from 1 on.
--   nth_cell c               the cell with the number c
--   children_of c            the numbers of its children
--   first_or f a l           what f gives for the first of l; a where l is empty
--   family_of os c           the owner of the children of c; of a leaf its own
--   ownersb P os            the owners fit the table and P parts (else 11)
--   refined_at l             the refined cells with the path l: one, or none
--   family_after os l o      the owner, after a step, of the family of the cell with the path l, whose new owner is o
--   owner_down os l o r      the owner, after a step, of the cell that is reached from there by the child numbers r
--   owner_after os l         the owner, after a step, of the cell with the path l; owners_after os ts of all cells of the table ts
use Rattle.std.specs.Prelude.{Bool, ◌&&◌, ℕ, length}
use Rattle.std.proofs.Math.Bool.{not}
use mathlib.Core.List.{List, [], ◌∷◌, ◌++◌, map}
use Rattle.std.proofs.Math.Dec.{eqb, leb}
use Rattle.std.proofs.Math.ListN.{get_or}
use Rattle.base.specs.Lists.{allb, filterb, sameb}
use Rattle.base.specs.Range.{range}
use Rattle.mesh.specs.Cells.{Cell, no_cell}
use Rattle.mesh.specs.Weights.{Point}
use Rattle.mesh.specs.Table.{levels_of, cells_of}

unfoldable pub first_or : {A : Type 0} → (ℕ → A) → A → List ℕ → A
first_or f a [] = a
first_or f a (x ∷ l) = f x

module _ (n : ℕ) (qs : List (List ℕ)) (ss : List ℕ) where
  -- Rule 3.2.
  unfoldable pub nth_cell : ℕ → Cell Point
  unfolding levels_of cells_of
  nth_cell c = get_or (cells_of (levels_of n qs ss)) c no_cell

  -- Rule 3.2.
  unfoldable pub children_of : ℕ → List ℕ
  unfolding nth_cell filterb range
  children_of c = filterb (λ d. eqb (nth_cell d).parent c) (range 0 (length ss))

  -- Rule 15.1.
  unfoldable pub family_of : List ℕ → ℕ → ℕ
  unfolding children_of first_or
  family_of os c = first_or (λ d. get_or os d 0) (get_or os c 0) (children_of c)

  -- Rule 15.14: one owner a cell, from 1 to P, and one for all children of a cell
  unfoldable pub ownersb : ℕ → List ℕ → Bool
  unfolding allb range children_of family_of
  ownersb P os =
      (eqb (length os) (length ss) && allb (λ o. leb 1 o && leb o P) os)
      && allb (λ c. allb (λ d. eqb (get_or os d 0) (family_of os c)) (children_of c)) (range 0 (length ss))

  -- Rule 3.3: a cell before and one after are the same where their paths agree
  unfoldable pub refined_at : List ℕ → List ℕ
  unfolding nth_cell filterb sameb range
  refined_at l = filterb (λ c. sameb (nth_cell c).path l && not (eqb (get_or ss c 0) 0)) (range 0 (length ss))

  -- Rule 15.13: a family keeps its owner; a first one is with its parent's
  unfoldable pub family_after : List ℕ → List ℕ → ℕ → ℕ
  unfolding refined_at family_of first_or
  family_after os l o = first_or (family_of os) o (refined_at l)

  -- Rule 15.13: from the cell with the path l and the owner o down to a cell under it
  unfoldable pub owner_down : List ℕ → List ℕ → ℕ → List ℕ → ℕ
  unfolding family_after
  owner_down os l o [] = o
  owner_down os l o (i ∷ r) = owner_down os (l ++ (i ∷ [])) (family_after os l o) r

  -- Rule 15.13: a coarse cell keeps its owner
  unfoldable pub owner_after : List ℕ → List ℕ → ℕ
  unfolding owner_down
  owner_after os [] = 0
  owner_after os (c ∷ r) = owner_down os (c ∷ []) (get_or os c 0) r

  -- Rule 15.13.
  unfoldable pub owners_after : List ℕ → List ℕ → List ℕ
  unfolding owner_after levels_of cells_of
  owners_after os ts = map (λ (c : Cell Point). owner_after os c.path) (cells_of (levels_of n qs ts))
