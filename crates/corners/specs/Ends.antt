-- The ends of a mesh's corners, two numbers a corner. A mesh has n coarse corners and m new ones. New corner j has the number
-- n + j and is the midpoint of the corners whose numbers stand at place j of xs and of ys.
--   Ends n xs ys m         both ends of each new corner are below it
--   coarse_ends n           the ends of the coarse corners: each is both its own
--   add_ends l xs ys m      l with the ends of m new corners behind it
--   end_numbers n xs ys m   the ends of all corners
use Rattle.std.specs.Prelude.{◌≡◌, refl, List, [], ◌∷◌, ◌++◌, ℕ, zero, suc, ◌+◌, ◌*◌, ◌≤◌, ◌<◌, length, get_or}
use Rattle.std.proofs.Common.{arith, length-append}

-- Rule 9.3: both ends of a new corner are below it.
pub record Ends (n : ℕ) (xs ys : List ℕ) (m : ℕ) : Type 0 where
  pub many_x : m ≤ length xs
  pub many_y : m ≤ length ys
  pub below_x : (j : ℕ) → j < m → get_or xs j 0 < n + j
  pub below_y : (j : ℕ) → j < m → get_or ys j 0 < n + j

-- Rule 9.3: a coarse corner is both its own ends.
unfoldable pub coarse_ends : ℕ → List ℕ
coarse_ends zero = []
coarse_ends (suc i) = coarse_ends i ++ (i ∷ i ∷ [])

-- Rule 9.3: new corners behind them.
unfoldable pub add_ends : List ℕ → List ℕ → List ℕ → ℕ → List ℕ
add_ends l xs ys zero = l
add_ends l xs ys (suc j) = add_ends l xs ys j ++ (get_or xs j 0 ∷ get_or ys j 0 ∷ [])

-- Rule 9.3: the table of ends.
unfoldable pub end_numbers : ℕ → List ℕ → List ℕ → ℕ → List ℕ
unfolding add_ends coarse_ends
end_numbers n xs ys m = add_ends (coarse_ends n) xs ys m

pub length-coarse_ends : (n : ℕ) → length (coarse_ends n) ≡ 2 * n
unfolding coarse_ends
length-coarse_ends zero = refl
length-coarse_ends (suc i) = simp length-append (omega (arith, length-coarse_ends i))

pub length-add_ends : (l xs ys : List ℕ) (m : ℕ) → length (add_ends l xs ys m) ≡ length l + 2 * m
unfolding add_ends
length-add_ends l xs ys zero = omega arith
length-add_ends l xs ys (suc j) = simp length-append (omega (arith, length-add_ends l xs ys j))
