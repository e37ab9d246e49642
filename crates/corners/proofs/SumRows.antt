-- The turns of the loops that write the sums, and the two loops one after the other. A row is read from the rows before it, and
-- each number stays within 1,024 times 500,000.
-- Assumes nothing.
use mathlib.Core.Path.{◌≡◌, ◌∙◌}
use mathlib.Core.List.{List, [], ◌∷◌, ◌++◌}
use Prim.Native.Nat.{ℕ, zero, suc, ◌+◌, ◌*◌, ◌≤◌, ◌<◌}
use native.Mathlib.Numerals.{add-one}
use native.Mathlib.Omega.{arith}
use lib.ListN.{length, get_or, take, drop, get_or-append}
use lib.Seq.{sets, take_at}
use lib.IntN.{ℤ, pos, ◌*ℤ◌}
use Rattle.mesh.specs.Coarse.{coordinate_at}
use Rattle.corners.specs.Sums.{SmallSum, Smalls, SumHeld, coarse_sums, mid_sums, add_sums, sum_numbers, length-coarse_sums, length-add_sums}
use Rattle.corners.proofs.Rows.{row, behind, same_size}
use Rattle.corners.proofs.Size.{small_scaled, half_sum_small}

-- sizes
module _ (n : ℕ) where
  small_zero : SmallSum n (pos 0)
  small_zero = record { size = omega arith }

  append_at : (l k : List ℤ) → ((i : ℕ) → SmallSum n (get_or l i (pos 0))) → ((i : ℕ) → SmallSum n (get_or k i (pos 0)))
      → (i : ℕ) → SmallSum n (get_or (l ++ k) i (pos 0))
  append_at [] k f g i = g i
  append_at (x ∷ l) k f g zero = f zero
  append_at (x ∷ l) k f g (suc i) = append_at l k (λ j. f (suc j)) g i

  three_at : (x y z : ℤ) → SmallSum n x → SmallSum n y → SmallSum n z → (i : ℕ) → SmallSum n (get_or (x ∷ y ∷ z ∷ []) i (pos 0))
  three_at x y z p q r zero = p
  three_at x y z p q r (suc zero) = q
  three_at x y z p q r (suc (suc zero)) = r
  three_at x y z p q r (suc (suc (suc i))) = small_zero

  none : Smalls n []
  none = record { at = λ i. small_zero }

  more : (l : List ℤ) (x y z : ℤ) → Smalls n l → SmallSum n x → SmallSum n y → SmallSum n z → Smalls n (l ++ (x ∷ y ∷ z ∷ []))
  more l x y z s p q r = record { at = append_at l (x ∷ y ∷ z ∷ []) s.at (three_at x y z p q r) }

coarse_small : (ps : List ℤ) → Smalls 500000 ps → (n : ℕ) → Smalls 512000000 (coarse_sums ps n)
unfolding coarse_sums
coarse_small ps s zero = none 512000000
coarse_small ps s (suc i) =
    more 512000000 (coarse_sums ps i) _ _ _ (coarse_small ps s i)
    (small_scaled (coordinate_at ps i 0) (s.at (3 * i + 0)))
    (small_scaled (coordinate_at ps i 1) (s.at (3 * i + 1)))
    (small_scaled (coordinate_at ps i 2) (s.at (3 * i + 2)))

new_small : (l : List ℤ) (xs ys : List ℕ) → Smalls 512000000 l → (m : ℕ) → Smalls 512000000 (add_sums l xs ys m)
unfolding add_sums
new_small l xs ys s zero = s
new_small l xs ys s (suc j) =
    let t : List ℤ = add_sums l xs ys j in
    let b : Smalls 512000000 t = new_small l xs ys s j in
    let x : ℕ = get_or xs j 0 in
    let y : ℕ = get_or ys j 0 in
    more 512000000 t _ _ _ b
    (half_sum_small (coordinate_at t x 0) (coordinate_at t y 0) (b.at (3 * x + 0)) (b.at (3 * y + 0)))
    (half_sum_small (coordinate_at t x 1) (coordinate_at t y 1) (b.at (3 * x + 1)) (b.at (3 * y + 1)))
    (half_sum_small (coordinate_at t x 2) (coordinate_at t y 2) (b.at (3 * x + 2)) (b.at (3 * y + 2)))

-- turns
module _ (l : List ℤ) where
  pub coarse_turn : (ps : List ℤ) (i : ℕ) → 3 * i + 3 ≤ length l
      → sets (coarse_sums ps i ++ drop (3 * i) l) (3 * i)
      ((pos 1024 *ℤ coordinate_at ps i 0) ∷ (pos 1024 *ℤ coordinate_at ps i 1) ∷ (pos 1024 *ℤ coordinate_at ps i 2) ∷ [])
      ≡ coarse_sums ps (i + 1) ++ drop (3 * (i + 1)) l
  unfolding coarse_sums
  coarse_turn ps i h =
      rw (add-one i) (row l (coarse_sums ps i) (3 * i) (length-coarse_sums ps i) _ (3 * suc i) (omega arith) (omega arith))

  -- p, the sums of the coarse corners, and those of j new ones stand in front
  module _ (p : List ℤ) (xs ys : List ℕ) (n j : ℕ) (e : length p ≡ 3 * n)
      (s : List ℤ) (f : s ≡ add_sums p xs ys j ++ drop (3 * (n + j)) l) where
    length_before : length (add_sums p xs ys j) ≡ 3 * (n + j)
    length_before = omega (arith, length-add_sums p xs ys j)

    before : (i k : ℕ) → i < n + j → k < 3 → coordinate_at s i k ≡ coordinate_at (add_sums p xs ys j) i k
    unfolding coordinate_at
    before i k g h =
        rw f
        (get_or-append (add_sums p xs ys j) (drop (3 * (n + j)) l) (pos 0) (3 * i + k) (omega (arith, length_before)))

    pub held : Smalls 512000000 p → 3 * (n + j) ≤ length l → (i : ℕ) → i < n + j → SumHeld s i
    unfolding coordinate_at
    held q h i g =
        record {
          there = rw (f, same_size l (add_sums p xs ys j) (3 * (n + j)) length_before h) (omega arith);
          small = λ k u. rw (before i k g u) ((new_small p xs ys q j).at (3 * i + k));
        }

    pub new_turn : get_or xs j 0 < n + j → get_or ys j 0 < n + j → 3 * (n + j) + 3 ≤ length l
        → sets s (3 * (n + j)) (mid_sums s (get_or xs j 0) (get_or ys j 0)) ≡ add_sums p xs ys (j + 1) ++ drop (3 * (n + (j + 1))) l
    unfolding add_sums mid_sums
    new_turn a b h =
        rw (
          before (get_or xs j 0) 0 a (omega arith),
          before (get_or xs j 0) 1 a (omega arith),
          before (get_or xs j 0) 2 a (omega arith),
          before (get_or ys j 0) 0 b (omega arith),
          before (get_or ys j 0) 1 b (omega arith),
          before (get_or ys j 0) 2 b (omega arith),
          f,
          add-one j,
        )
        (row l (add_sums p xs ys j) (3 * (n + j)) length_before _ (3 * (n + suc j)) (omega arith) (omega arith))

  module _ (ps : List ℤ) (n : ℕ) (a : List ℤ) (e : a ≡ coarse_sums ps n ++ drop (3 * n) l) where
    front : take (3 * n) a ≡ coarse_sums ps n
    front = rw e (take_at (coarse_sums ps n) (drop (3 * n) l) (3 * n) (length-coarse_sums ps n))

    pub front_small : Smalls 500000 ps → Smalls 512000000 (take (3 * n) a)
    front_small s = rw front (coarse_small ps s n)

    pub both : (xs ys : List ℕ) (m : ℕ) (b : List ℤ) → b ≡ add_sums (take (3 * n) a) xs ys m ++ drop (3 * (n + m)) a
        → b ≡ sum_numbers ps n xs ys m ++ drop (3 * (n + m)) l
    unfolding sum_numbers
    both xs ys m b f =
        f ∙ rw (front, e, behind l (coarse_sums ps n) (3 * n) (length-coarse_sums ps n) (3 * (n + m)) (omega arith))
