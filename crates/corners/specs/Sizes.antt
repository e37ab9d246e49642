-- How large weighted sums can get.
-- Laws: scale_size (a product), weighted_size (a weighted sum is at most 500,000 times its weights together).
use Rattle.std.specs.Prelude.{◌≡◌, refl, ℕ, zero, suc, ◌+◌, ◌*◌, ◌≤◌, ℤ, pos, negsuc, neg_ℤ, ◌*ℤ◌}
use mathlib.Core.List.{List, [], ◌∷◌}
use Rattle.std.proofs.Math.Nat.{mul-le-mul_left}
use native.Mathlib.Omega.{arith}
use Rattle.std.proofs.Math.IntN.{nat_abs}
use Rattle.base.specs.Integers.{add_size}
use Rattle.mesh.specs.Coarse.{coordinate_at}
use Rattle.mesh.specs.Weights.{Point}
use Rattle.mesh.specs.Layout.{weighted_from, weighted_sum}
use Rattle.lattice.specs.Tails.{sum}
use Rattle.corners.specs.Sums.{Smalls}

pub neg_size : (n : ℕ) → nat_abs (neg_ℤ (pos n)) ≡ n
neg_size zero = refl
neg_size (suc n) = refl

scale_size : (w : ℕ) (z : ℤ) → nat_abs (pos w *ℤ z) ≡ w * nat_abs z
scale_size w (pos a) = refl
scale_size w (negsuc a) = neg_size (w * suc a)

-- Rule 8.1
module _ (ps : List ℤ) (s : Smalls 500000 ps) (k : ℕ) where
  from_size : (i : ℕ) (p : Point) → nat_abs (weighted_from ps k i p) ≤ 500000 * sum p
  unfolding weighted_from coordinate_at
  from_size i [] = omega arith
  from_size i (w ∷ p) =
      let z = coordinate_at ps i k in
      let rest = weighted_from ps k (suc i) p in
      let m : w * nat_abs z ≤ w * 500000 = mul-le-mul_left w (s.at (3 * i + k)).size in
      omega (arith, add_size (pos w *ℤ z) rest, scale_size w z, m, from_size (suc i) p)

  pub weighted_size : (p : Point) → nat_abs (weighted_sum ps k p) ≤ 500000 * sum p
  unfolding weighted_sum
  weighted_size p = from_size 0 p
