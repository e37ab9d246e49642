-- The weighted sums of a mesh's corners, three numbers a corner, without weights: a coarse corner has 1,024 times its
-- position, a new one half the sum of its ends' numbers. No odd number is halved (Tables).
--   SmallSum n z                 z is at most n in size
--   Smalls n l                each number of l is
--   SumHeld l x                  l holds the sums of corner x, each at most 1,024 times 500,000
--   half z                    z over 2, rounded toward zero
--   coarse_sums ps n           the sums of n coarse corners with positions ps
--   mid_sums l x y             the sums of the midpoint of the corners x and y, where l holds theirs
--   add_sums l xs ys m         l with the sums of m new corners behind it
--   sum_numbers ps n xs ys m   the sums of all corners
use Rattle.std.specs.Prelude.{◌≡◌, refl, List, [], ◌∷◌, ◌++◌, ℕ, zero, suc, ◌+◌, ◌*◌, ◌≤◌, ◌<◌, T, leb, length, get_or, ℤ, pos, nat_abs, ◌+ℤ◌, ◌*ℤ◌}
use Rattle.std.proofs.Common.{arith, leb→le, length-append}
use Rattle.std.specs.Int.Signed.{quot_z}
use Rattle.base.specs.Lists.{allb}
use Rattle.base.specs.Bools.{and_left, and_right}
use Rattle.mesh.specs.Coarse.{coordinate_at, positionsb}

pub record SmallSum (n : ℕ) (z : ℤ) : Type 0 where
  pub size : nat_abs z ≤ n

pub record Smalls (n : ℕ) (l : List ℤ) : Type 0 where
  pub at : (i : ℕ) → SmallSum n (get_or l i (pos 0))

-- Rule 8.1: the sums of a corner are there, each at most 512,000,000 in size.
pub record SumHeld (l : List ℤ) (x : ℕ) : Type 0 where
  pub there : 3 * x + 3 ≤ length l
  pub small : (k : ℕ) → k < 3 → SmallSum 512000000 (coordinate_at l x k)

-- Rule 5.2: half a number; no odd one comes.
unfoldable pub half : ℤ → ℤ
half z = quot_z z (pos 2)

-- Rule 8.1: 1,024 times the position.
unfoldable pub coarse_sums : List ℤ → ℕ → List ℤ
unfolding coordinate_at
coarse_sums ps zero = []
coarse_sums ps (suc i) =
    coarse_sums ps i
    ++ ((pos 1024 *ℤ coordinate_at ps i 0) ∷ (pos 1024 *ℤ coordinate_at ps i 1) ∷ (pos 1024 *ℤ coordinate_at ps i 2) ∷ [])

-- Rules 5.2, 8.1: half the sum of the ends' sums.
unfoldable pub mid_sums : List ℤ → ℕ → ℕ → List ℤ
unfolding coordinate_at half
mid_sums l x y =
    half (coordinate_at l x 0 +ℤ coordinate_at l y 0)
    ∷ half (coordinate_at l x 1 +ℤ coordinate_at l y 1)
    ∷ half (coordinate_at l x 2 +ℤ coordinate_at l y 2)
    ∷ []

-- Rule 9.4: new corners behind them.
unfoldable pub add_sums : List ℤ → List ℕ → List ℕ → ℕ → List ℤ
unfolding mid_sums
add_sums l xs ys zero = l
add_sums l xs ys (suc j) = let t = add_sums l xs ys j in t ++ mid_sums t (get_or xs j 0) (get_or ys j 0)

-- Rule 9.4: the table of sums.
unfoldable pub sum_numbers : List ℤ → ℕ → List ℕ → List ℕ → ℕ → List ℤ
unfolding add_sums coarse_sums
sum_numbers ps n xs ys m = add_sums (coarse_sums ps n) xs ys m

pub length-coarse_sums : (ps : List ℤ) (n : ℕ) → length (coarse_sums ps n) ≡ 3 * n
unfolding coarse_sums
length-coarse_sums ps zero = refl
length-coarse_sums ps (suc i) = simp length-append (omega (arith, length-coarse_sums ps i))

pub length-add_sums : (l : List ℤ) (xs ys : List ℕ) (m : ℕ) → length (add_sums l xs ys m) ≡ length l + 3 * m
unfolding add_sums
length-add_sums l xs ys zero = omega arith
length-add_sums l xs ys (suc j) = simp length-append (omega (arith, length-add_sums l xs ys j))

-- the positions of a mesh that is not refused are small
pub positions_small : (ps : List ℤ) → T (positionsb ps) → Smalls 500000 ps
unfolding positionsb allb
positions_small ps t = record { at = go ps t }
  where
    go : (ps : List ℤ) → T (positionsb ps) → (i : ℕ) → SmallSum 500000 (get_or ps i (pos 0))
    go [] t i = record { size = omega arith }
    go (z ∷ ps) t zero = record { size = leb→le (nat_abs z) 500000 (and_left (leb (nat_abs z) 500000) (positionsb ps) t) }
    go (z ∷ ps) t (suc i) = go ps (and_right (leb (nat_abs z) 500000) (positionsb ps) t) i
