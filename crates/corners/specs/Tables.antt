-- The tables that a layout hands out of its corners are the numbers that Ends and Sums compute from the ends alone.
--   CornersNumbered n xs ys m ks   ks are the corners of a mesh with n coarse corners and m new ones, whose ends' numbers stand in
--                           xs and ys
--   ends_are                their table of ends is end_numbers
--   sums_are                their table of weighted sums is sum_numbers
--   sums_at                 what stands there of corner i
use Rattle.std.specs.Prelude.{◌≡◌, refl, length, get_or, take, replicate, ℤ, pos, ◌+ℤ◌}
use Rattle.std.proofs.Common.{sym, ◌∙◌, add-suc, add-zero, zero-add, eq-or-lt_of_le, arith, length-set, take-suc, take_all, get_or-take, length-take-le}
use Rattle.std.proofs.Math.Path.{ap}
use Rattle.std.proofs.Math.Logic.{⊎_elim}
use mathlib.Core.List.{List, [], ◌∷◌, ◌++◌, flat_map}
use Prim.Native.Nat.{ℕ, zero, suc, ◌+◌, ◌*◌, ◌≤◌, ◌<◌}
use Rattle.std.proofs.Math.ListN.{length-replicate, get_or-append}
use Rattle.std.proofs.lemmas.List.{get_or_at}
use Rattle.mesh.specs.Coarse.{coordinate_at}
use Rattle.mesh.specs.Weights.{Point, coarse, mid}
use Rattle.mesh.specs.Layout.{Corner, coarse_corners, coarse_corners_to, end_table, weighted_sum, sum_table}
use Rattle.corners.specs.Ends.{Ends, coarse_ends, add_ends, end_numbers}
use Rattle.corners.specs.Sums.{half, coarse_sums, mid_sums, add_sums, sum_numbers}
use Rattle.corners.specs.Weighted.{Evens, half_mid, weighted_coarse}
use Rattle.mesh.specs.Laws.{length-mid, length-corners}
use Rattle.base.specs.Append.{flat_snoc}

-- corner i; where there is none, one with no weights
abbrev corner_numbered : List Corner → ℕ → Corner
corner_numbered ks i = get_or ks i (record { weights = []; low = 0; high = 0 })

abbrev weights_numbered : List Corner → ℕ → Point
weights_numbered ks i = (corner_numbered ks i).weights

-- Rules 5.2, 5.5, 9.3: coarse corners first, then midpoints of corners before them.
pub record CornersNumbered (n : ℕ) (xs ys : List ℕ) (m : ℕ) (ks : List Corner) : Type 0 where
  pub count : length ks ≡ n + m
  pub coarse_first : take n ks ≡ coarse_corners n
  pub ends : Ends n xs ys m
  pub low : (j : ℕ) → j < m → (corner_numbered ks (n + j)).low ≡ get_or xs j 0
  pub high : (j : ℕ) → j < m → (corner_numbered ks (n + j)).high ≡ get_or ys j 0
  pub middle : (j : ℕ) → j < m → weights_numbered ks (n + j) ≡ mid (weights_numbered ks (get_or xs j 0)) (weights_numbered ks (get_or ys j 0))
  pub even : (j : ℕ) → j < m → Evens (weights_numbered ks (get_or xs j 0)) (weights_numbered ks (get_or ys j 0))

-- the tables corner by corner
abbrev ends_of : Corner → List ℕ
ends_of k = k.low ∷ k.high ∷ []

abbrev sums_of : List ℤ → Point → List ℤ
sums_of ps p = weighted_sum ps 0 p ∷ weighted_sum ps 1 p ∷ weighted_sum ps 2 p ∷ []

ends_none : end_table [] ≡ []
unfolding end_table flat_map
ends_none = refl

sums_none : (ps : List ℤ) → sum_table ps [] ≡ []
unfolding sum_table flat_map
sums_none ps = refl

ends_snoc : (ks : List Corner) (k : Corner) → end_table (ks ++ (k ∷ [])) ≡ end_table ks ++ ends_of k
unfolding end_table
ends_snoc ks k = flat_snoc ends_of ks k

sums_snoc : (ps : List ℤ) (ks : List Corner) (k : Corner)
    → sum_table ps (ks ++ (k ∷ [])) ≡ sum_table ps ks ++ sums_of ps k.weights
unfolding sum_table
sums_snoc ps ks k = flat_snoc (λ (c : Corner). sums_of ps c.weights) ks k

pub sums_at : (ps : List ℤ) (k : ℕ) → k < 3 → (ks : List Corner) (i : ℕ) → i < length ks
    → coordinate_at (sum_table ps ks) i k ≡ weighted_sum ps k (weights_numbered ks i)
unfolding coordinate_at sum_table flat_map
sums_at ps k h [] i l = absurd (omega arith)
sums_at ps k h (c ∷ ks) zero l = rw (zero-add k) (first k h)
  where
    first : (k : ℕ) → k < 3 → get_or (sums_of ps c.weights ++ sum_table ps ks) k (pos 0) ≡ weighted_sum ps k c.weights
    first zero h = refl
    first (suc zero) h = refl
    first (suc (suc zero)) h = refl
    first (suc (suc (suc k))) h = absurd (omega arith)
sums_at ps k h (c ∷ ks) (suc i) l =
    let e : 3 * suc i + k ≡ suc (suc (suc (3 * i + k))) = omega arith in
    rw e (sums_at ps k h ks i (omega arith))

-- coarse corners
module _ (n : ℕ) where
  coarse_at : (k i : ℕ) → i < k → weights_numbered (coarse_corners_to n k) i ≡ coarse n i
  unfolding coarse_corners_to
  coarse_at zero i h = absurd (omega arith)
  coarse_at (suc k) i h =
      ⊎_elim
      (λ (e : i ≡ k). rw e (ap (λ (c : Corner). c.weights) (get_or_at (coarse_corners_to n k) _ [] _ k (length-corners n k))))
      (λ (l : i < k).
      ap (λ (c : Corner). c.weights) (get_or-append (coarse_corners_to n k) _ _ i (rw (length-corners n k) l))
      ∙ coarse_at k i l)
      (eq-or-lt_of_le (omega arith))

  coarse_ends_lem : (i : ℕ) → end_table (coarse_corners_to n i) ≡ coarse_ends i
  unfolding coarse_corners_to coarse_ends
  coarse_ends_lem zero = ends_none
  coarse_ends_lem (suc i) = ends_snoc (coarse_corners_to n i) _ ∙ rw (coarse_ends_lem i)

  coarse_sums_lem : (ps : List ℤ) (i : ℕ) → i ≤ n → sum_table ps (coarse_corners_to n i) ≡ coarse_sums ps i
  unfolding coarse_corners_to coarse_sums
  coarse_sums_lem ps zero h = sums_none ps
  coarse_sums_lem ps (suc i) h =
      sums_snoc ps (coarse_corners_to n i) _
      ∙ rw (
        coarse_sums_lem ps i (omega arith),
        weighted_coarse ps 0 n i h,
        weighted_coarse ps 1 n i h,
        weighted_coarse ps 2 n i h,
      )

module _ (n : ℕ) (xs ys : List ℕ) (m : ℕ) (ks : List Corner) (w : CornersNumbered n xs ys m ks) where
  -- each corner has n weights
  sized : (j : ℕ) → j ≤ m → (i : ℕ) → i < n + j → length (weights_numbered ks i) ≡ n
  unfolding coarse_corners coarse
  sized zero h i l =
      let e : weights_numbered ks i ≡ coarse n i =
      ap (λ (c : Corner). c.weights) (sym (get_or-take n ks i _ (omega arith)))
      ∙ rw w.coarse_first (coarse_at n n i (omega arith)) in
      rw e (length-set (replicate n 0) i 1024 ∙ length-replicate n 0)
  sized (suc j) h i l =
      ⊎_elim
      (λ (e : i ≡ n + j).
      rw (e, w.middle j h)
      (length-mid n (weights_numbered ks (get_or xs j 0)) (weights_numbered ks (get_or ys j 0))
      (sized j (omega arith) (get_or xs j 0) (w.ends.below_x j h))
      (sized j (omega arith) (get_or ys j 0) (w.ends.below_y j h))))
      (λ (g : i < n + j). sized j (omega arith) i g)
      (eq-or-lt_of_le (omega arith))

  more : (j : ℕ) → j < m → take (n + suc j) ks ≡ take (n + j) ks ++ (corner_numbered ks (n + j) ∷ [])
  more j h = rw (add-suc n j) (take-suc ks (n + j) _ (omega (arith, w.count)))

  ends_to : (j : ℕ) → j ≤ m → end_table (take (n + j) ks) ≡ add_ends (coarse_ends n) xs ys j
  unfolding add_ends coarse_corners
  ends_to zero h = rw (add-zero n, w.coarse_first) (coarse_ends_lem n n)
  ends_to (suc j) h =
      rw (more j h) (ends_snoc (take (n + j) ks) (corner_numbered ks (n + j)) ∙ rw (ends_to j (omega arith), w.low j h, w.high j h))

  -- a new corner's sums, from those of the corners before it
  module _ (ps : List ℤ) (j : ℕ) (h : j < m) where
    sum_before : (k : ℕ) → k < 3 → (i : ℕ) → i < n + j
        → coordinate_at (sum_table ps (take (n + j) ks)) i k ≡ weighted_sum ps k (weights_numbered ks i)
    sum_before k l i g =
        sums_at ps k l (take (n + j) ks) i (rw (length-take-le (n + j) ks (omega (arith, w.count))) g)
        ∙ ap (λ (c : Corner). weighted_sum ps k c.weights) (get_or-take (n + j) ks i _ g)

    sum_new : (k : ℕ) → k < 3
        → weighted_sum ps k (weights_numbered ks (n + j))
        ≡ half
        (coordinate_at (sum_table ps (take (n + j) ks)) (get_or xs j 0) k
        +ℤ coordinate_at (sum_table ps (take (n + j) ks)) (get_or ys j 0) k)
    sum_new k l =
        let a : get_or xs j 0 < n + j = w.ends.below_x j h in
        let b : get_or ys j 0 < n + j = w.ends.below_y j h in
        rw (sum_before k l (get_or xs j 0) a, sum_before k l (get_or ys j 0) b, w.middle j h)
        (sym (half_mid ps k (weights_numbered ks (get_or xs j 0)) (weights_numbered ks (get_or ys j 0))
        (sized j (omega arith) (get_or xs j 0) a ∙ sym (sized j (omega arith) (get_or ys j 0) b)) (w.even j h)))

  sums_to : (ps : List ℤ) (j : ℕ) → j ≤ m → sum_table ps (take (n + j) ks) ≡ add_sums (coarse_sums ps n) xs ys j
  unfolding add_sums mid_sums coarse_corners
  sums_to ps zero h = rw (add-zero n, w.coarse_first) (coarse_sums_lem n ps n (omega arith))
  sums_to ps (suc j) h =
      rw (more j h)
      (sums_snoc ps (take (n + j) ks) (corner_numbered ks (n + j))
      ∙ rw (
        sum_new ps j h 0 (omega arith),
        sum_new ps j h 1 (omega arith),
        sum_new ps j h 2 (omega arith),
        sums_to ps j (omega arith),
      ))

  whole : take (n + m) ks ≡ ks
  whole = take_all (n + m) ks (omega (arith, w.count))

  pub ends_are : end_table ks ≡ end_numbers n xs ys m
  unfolding end_numbers
  ends_are = rw whole at (ends_to m (omega arith))

  pub sums_are : (ps : List ℤ) → sum_table ps ks ≡ sum_numbers ps n xs ys m
  unfolding sum_numbers
  sums_are ps = rw whole at (sums_to ps m (omega arith))
