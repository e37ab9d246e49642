-- The turns of the loops that write the ends, and the two loops one after the other.
-- Assumes nothing.
use mathlib.Core.Path.{◌≡◌, ◌∙◌}
use mathlib.Core.List.{List, [], ◌∷◌, ◌++◌}
use Prim.Native.Nat.{ℕ, suc, ◌+◌, ◌*◌, ◌≤◌}
use native.Mathlib.Numerals.{add-one}
use native.Mathlib.Omega.{arith}
use lib.ListN.{length, get_or, take, drop}
use lib.Seq.{sets, take_at}
use Rattle.corners.specs.Ends.{coarse_ends, add_ends, end_numbers, length-coarse_ends, length-add_ends}
use Rattle.corners.proofs.Rows.{row, behind}

module _ (l : List ℕ) where
  pub coarse_turn : (i : ℕ) → 2 * i + 2 ≤ length l
      → sets (coarse_ends i ++ drop (2 * i) l) (2 * i) (i ∷ i ∷ []) ≡ coarse_ends (i + 1) ++ drop (2 * (i + 1)) l
  unfolding coarse_ends
  coarse_turn i h =
      rw (add-one i) (row l (coarse_ends i) (2 * i) (length-coarse_ends i) (i ∷ i ∷ []) (2 * suc i) (omega arith) (omega arith))

  module _ (p xs ys : List ℕ) (n j : ℕ) (e : length p ≡ 2 * n) where
    pub new_turn : 2 * (n + j) + 2 ≤ length l
        → sets (add_ends p xs ys j ++ drop (2 * (n + j)) l) (2 * (n + j)) (get_or xs j 0 ∷ get_or ys j 0 ∷ [])
        ≡ add_ends p xs ys (j + 1) ++ drop (2 * (n + (j + 1))) l
    unfolding add_ends
    new_turn h =
        rw (add-one j)
        (row l (add_ends p xs ys j) (2 * (n + j)) (omega (arith, length-add_ends p xs ys j)) (get_or xs j 0 ∷ get_or ys j 0 ∷ [])
        (2 * (n + suc j)) (omega arith) (omega arith))

  pub both : (n : ℕ) (a : List ℕ) → a ≡ coarse_ends n ++ drop (2 * n) l → (xs ys : List ℕ) (m : ℕ) (b : List ℕ)
      → b ≡ add_ends (take (2 * n) a) xs ys m ++ drop (2 * (n + m)) a → b ≡ end_numbers n xs ys m ++ drop (2 * (n + m)) l
  unfolding end_numbers
  both n a e xs ys m b f =
      f
      ∙ rw (
        e,
        take_at (coarse_ends n) (drop (2 * n) l) (2 * n) (length-coarse_ends n),
        behind l (coarse_ends n) (2 * n) (length-coarse_ends n) (2 * (n + m)) (omega arith),
      )
