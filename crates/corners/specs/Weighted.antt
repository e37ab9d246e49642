-- Weighted sums of a midpoint and of a coarse corner.
--   Evens p q   the weights of p and q add to an even number at each place
-- Laws: weighted_mid (twice the sum of a midpoint is the sum of its ends' sums), half_mid (so it is half of that),
-- weighted_coarse (the sum of a coarse corner is 1,024 times its coordinate).
use Rattle.std.specs.Prelude.{◌≡◌, length, get_or, set, replicate, negsuc, neg_ℤ, ◌*ℤ◌}
use Rattle.std.proofs.Math.Path.{refl, ap, ap₂}
use Rattle.std.proofs.Common.{sym, ◌∙◌, add-mul, zero-add, arith}
use mathlib.Core.List.{List, [], ◌∷◌, zip_with}
use Prim.Native.Nat.{ℕ, zero, suc, ◌+◌, ◌*◌, ◌/◌, ◌%◌, ◌<◌}
use Rattle.std.proofs.Math.Nat.{add-suc, suc-add, add-zero}
use Rattle.std.proofs.Math.IntN.{ℤ, pos, ◌+ℤ◌, +ℤ_assoc, +ℤ_comm, +ℤ_idl, +ℤ_idr, zero-*ℤ, neg_ℤ-+ℤ}
use Rattle.mesh.specs.Coarse.{coordinate_at}
use Rattle.mesh.specs.Weights.{Point, coarse, mid}
use Rattle.mesh.specs.Layout.{weighted_from, weighted_sum}
use Rattle.corners.specs.Sums.{half}

-- Rule 5.2: no odd number is halved.
pub record Evens (p q : Point) : Type 0 where
  pub at : (i : ℕ) → (get_or p i 0 + get_or q i 0) % 2 ≡ 0

interchange : (a b c d : ℤ) → (a +ℤ b) +ℤ (c +ℤ d) ≡ (a +ℤ c) +ℤ (b +ℤ d)
interchange a b c d =
    +ℤ_assoc a b (c +ℤ d)
    ∙ ap (λ (z : ℤ). a +ℤ z) (sym (+ℤ_assoc b c d) ∙ ap (λ (z : ℤ). z +ℤ d) (+ℤ_comm b c) ∙ +ℤ_assoc c b d)
    ∙ sym (+ℤ_assoc a c (b +ℤ d))

-- weights add up
add_weights : (a b : ℕ) (z : ℤ) → pos (a + b) *ℤ z ≡ pos a *ℤ z +ℤ pos b *ℤ z
add_weights a b (pos c) = ap pos (add-mul a b c)
add_weights a b (negsuc c) =
    ap (λ (n : ℕ). neg_ℤ (pos n)) (add-mul a b (suc c)) ∙ neg_ℤ-+ℤ (pos (a * suc c)) (pos (b * suc c))

module _ (ps : List ℤ) (k : ℕ) where
  mid_from : (i : ℕ) (p q : Point) → length p ≡ length q → ((j : ℕ) → (get_or p j 0 + get_or q j 0) % 2 ≡ 0)
      → weighted_from ps k i (mid p q) +ℤ weighted_from ps k i (mid p q) ≡ weighted_from ps k i p +ℤ weighted_from ps k i q
  unfolding weighted_from mid zip_with
  mid_from i [] [] e h = refl
  mid_from i [] (y ∷ q) e h = absurd (omega arith)
  mid_from i (x ∷ p) [] e h = absurd (omega arith)
  mid_from i (x ∷ p) (y ∷ q) e h =
      let z : ℤ = coordinate_at ps i k in
      let w : ℕ = (x + y) / 2 in
      let m : w + w ≡ x + y = omega (arith, h 0) in
      let r : ℤ = weighted_from ps k (suc i) (mid p q) in
      let a : ℤ = weighted_from ps k (suc i) p in
      let b : ℤ = weighted_from ps k (suc i) q in
      let s : r +ℤ r ≡ a +ℤ b = mid_from (suc i) p q (omega arith) (λ j. h (suc j)) in
      interchange (pos w *ℤ z) r (pos w *ℤ z) r
      ∙ ap₂ ◌+ℤ◌ (sym (add_weights w w z) ∙ ap (λ (n : ℕ). pos n *ℤ z) m ∙ add_weights x y z) s
      ∙ interchange (pos x *ℤ z) (pos y *ℤ z) a b

  weighted_mid : (p q : Point) → length p ≡ length q → Evens p q
      → weighted_sum ps k (mid p q) +ℤ weighted_sum ps k (mid p q) ≡ weighted_sum ps k p +ℤ weighted_sum ps k q
  unfolding weighted_sum
  weighted_mid p q e h = mid_from 0 p q e h.at

  from_none : (i n : ℕ) → weighted_from ps k i (replicate n 0) ≡ pos 0
  unfolding weighted_from
  from_none i zero = refl
  from_none i (suc n) = rw (zero-*ℤ (coordinate_at ps i k), from_none (suc i) n)

  from_one : (i n j : ℕ) → j < n → weighted_from ps k i (set (replicate n 0) j 1024) ≡ pos 1024 *ℤ coordinate_at ps (i + j) k
  unfolding weighted_from
  from_one i zero j h = absurd (omega arith)
  from_one i (suc n) zero h = rw (from_none (suc i) n, add-zero i) (+ℤ_idr (pos 1024 *ℤ coordinate_at ps i k))
  from_one i (suc n) (suc j) h =
      rw (zero-*ℤ (coordinate_at ps i k), from_one (suc i) n j (omega arith), suc-add i j, add-suc i j)
      (+ℤ_idl (pos 1024 *ℤ coordinate_at ps (suc (i + j)) k))

  pub weighted_coarse : (n j : ℕ) → j < n → weighted_sum ps k (coarse n j) ≡ pos 1024 *ℤ coordinate_at ps j k
  unfolding weighted_sum coarse
  weighted_coarse n j h = from_one 0 n j h ∙ rw (zero-add j)

-- halving undoes doubling
half_twice : (z : ℤ) → half (z +ℤ z) ≡ z
unfolding half
half_twice (pos a) = ap pos (let e : (a + a) / 2 ≡ a = omega arith in e)
half_twice (negsuc a) = let e : suc (suc (a + a)) / 2 ≡ suc a = omega arith in rw e

pub half_mid : (ps : List ℤ) (k : ℕ) (p q : Point) → length p ≡ length q → Evens p q
    → half (weighted_sum ps k p +ℤ weighted_sum ps k q) ≡ weighted_sum ps k (mid p q)
half_mid ps k p q e h = rw (← weighted_mid ps k p q e h) (half_twice (weighted_sum ps k (mid p q)))
