-- The masters and ghosts of a part (section 15 of the method).
--   Entry               a master or ghost: its path (the coarse cell, then child numbers down to it), its status, whether it is a ghost
--   masterb os p c      the part p has the cell c as master
--   ghostb os p c       the part p has the cell c as ghost
--   entry_of os p c      the entry of the cell c with the part p, if it has one
--   entries_of os p      all entries of the part p, in cell order
use Rattle.std.specs.Prelude.{Bool, ◌&&◌, ℕ, length}
use Rattle.std.proofs.Math.Bool.{true, false, not}
use mathlib.Core.List.{List, [], ◌∷◌, flat_map}
use Rattle.std.proofs.Math.Dec.{eqb}
use Rattle.std.proofs.Math.ListN.{get_or}
use Rattle.base.specs.Range.{range}
use Rattle.parts.specs.Owners.{nth_cell, family_of}

-- Rule 15.11.
pub record Entry : Type 0 where
  pub path : List ℕ
  pub status : ℕ
  pub ghost : Bool

-- Rule 15.2.
unfoldable pub masterb : List ℕ → ℕ → ℕ → Bool
masterb os p c = eqb (get_or os c 0) p

module _ (n : ℕ) (qs : List (List ℕ)) (ss : List ℕ) where
  -- Rule 15.2: with the family's owner, if that is another
  unfoldable pub ghostb : List ℕ → ℕ → ℕ → Bool
  unfolding masterb family_of
  ghostb os p c = not (masterb os p c) && eqb (family_of n qs ss os c) p

  -- Rule 15.11.
  unfoldable pub entry_of : List ℕ → ℕ → ℕ → List Entry
  unfolding masterb ghostb nth_cell
  entry_of os p c =
      elim (masterb os p c) [
        | true ↦ record { path = (nth_cell n qs ss c).path; status = get_or ss c 0; ghost = false } ∷ []
        | false ↦ elim (ghostb os p c) [
          | true ↦ record { path = (nth_cell n qs ss c).path; status = get_or ss c 0; ghost = true } ∷ []
          | false ↦ []
        ]
      ]

  -- Rule 15.11.
  unfoldable pub entries_of : List ℕ → ℕ → List Entry
  unfolding entry_of range flat_map
  entries_of os p = flat_map (entry_of os p) (range 0 (length ss))
