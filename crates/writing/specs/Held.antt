-- The new children of a cell that was not red and will be, from what its old children keep (rules 6.2, 7.5, 7.7). The cell is told by its
-- old status s and the number f of its first child.
--   pair_at ds j y       the edge y of the child j by its two digits, from a family's digits in a row
--   pairs_at ds j p ys   those of its edges ys that the pattern p splits
--   held_below s ks f n  the edges of the first n old children that new red cells hold
--   bits_at held ds i    the status of the new child i, where `held` says of each edge whether it is held
--   noting h l          h with each number of l noted
--   EndsBelow ds j      the ends of the child's edges are digits
--   Noted h l           in h the numbers of l are noted, and no others
-- Assumes nothing.
use Rattle.std.specs.Prelude.{◌≡◌, Bool, true, false, ℕ, ◌+◌, ◌*◌, ◌<◌, get_or, set}
use mathlib.Core.List.{List, [], ◌∷◌, map, flat_map}
use Rattle.base.specs.Lists.{memberb, filterb}
use Rattle.base.specs.Range.{range}
use Rattle.cutting.specs.Rule.{split}
use Rattle.digits.specs.Ends.{low_at, high_at}
use Rattle.mesh.specs.Cells.{pattern_of, bits_of}
use Rattle.mesh.specs.Layout.{edge_numbers}
use Rattle.kept.specs.Kept.{digit_pair}

abbrev pub pair_at : List ℕ → ℕ → ℕ → ℕ
pair_at ds j y = 10 * low_at ds j y + high_at ds j y

unfoldable pub pairs_at : List ℕ → ℕ → ℕ → List ℕ → List ℕ
unfolding filterb split
pairs_at ds j p ys = map (pair_at ds j) (filterb (split p) ys)

abbrev pub EndsBelow : List ℕ → ℕ → Type 0
EndsBelow ds j = (y : ℕ) → y < 6 → (low_at ds j y < 10) × (high_at ds j y < 10)

module _ (s : ℕ) (ks : List ℕ) (f : ℕ) where
  abbrev pub held_below : ℕ → List ℕ
  held_below n = flat_map (λ j. map (digit_pair (pattern_of s) j) (filterb (split (get_or ks (f + j) 0)) edge_numbers)) (range 0 n)

unfoldable pub bits_at : List Bool → List ℕ → ℕ → ℕ
unfolding bits_of
bits_at held ds i = bits_of (map (λ y. get_or held (pair_at ds i y) false) edge_numbers)

unfoldable pub noting : List Bool → List ℕ → List Bool
noting h [] = h
noting h (k ∷ l) = noting (set h k true) l

abbrev pub Noted : List Bool → List ℕ → Type 0
Noted h l = (k : ℕ) → k < 100 → get_or h k false ≡ memberb k l
