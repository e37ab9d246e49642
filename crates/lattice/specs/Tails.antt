-- Points seen through their tail sums: where the weights lie, counted from the last coarse corner on.
--   sum p         the weights of p, added up
--   tail_sum p j   the weights of p from place j on, added up
--   Sized n p     p has n weights, which add to 1,024
use Rattle.std.specs.Prelude.{◌≡◌, refl, [], ◌∷◌, ℕ, zero, suc, ◌+◌, ◌*◌, ◌-◌, ◌/◌, ◌<◌, min, length, replicate}
use Rattle.std.proofs.Common.{ap₂, sym, ◌∙◌, arith, length-set}
use Rattle.std.proofs.Math.Nat.{suc_inj}
use Rattle.std.proofs.lemmas.List.{length-replicate}
use Rattle.mesh.specs.Weights.{Point, coarse, mid}
use Rattle.mesh.specs.Laws.{length-mid}

abbrev pub sum : Point → ℕ
sum [] = 0
sum (x ∷ p) = x + sum p

abbrev pub tail_sum : Point → ℕ → ℕ
tail_sum p zero = sum p
tail_sum [] (suc j) = 0
tail_sum (x ∷ p) (suc j) = tail_sum p j

pub record Sized (n : ℕ) (p : Point) : Type 0 where
  pub places : length p ≡ n
  pub total : sum p ≡ 1024

-- Equal tail sums mean equal points.
pub tail_sums_equal : (p q : Point) → length p ≡ length q → ((j : ℕ) → tail_sum p j ≡ tail_sum q j) → p ≡ q
tail_sums_equal [] [] e h = refl
tail_sums_equal [] (y ∷ q) e h = absurd (omega arith)
tail_sums_equal (x ∷ p) [] e h = absurd (omega arith)
tail_sums_equal (x ∷ p) (y ∷ q) e h = ap₂ ◌∷◌ (omega (arith, h 0, h 1)) (tail_sums_equal p q (suc_inj e) (λ j. h (suc j)))

-- The halves of weights are exact where the tail sums are even.
half_of : (n k : ℕ) → n ≡ 2 * k → n / 2 ≡ k
half_of n k h = omega arith

half_sum : (x y s t a b c d : ℕ) → x + s ≡ 2 * a → s ≡ 2 * b → y + t ≡ 2 * c → t ≡ 2 * d → (x + y) / 2 + (b + d) ≡ a + c
half_sum x y s t a b c d p q r w = rw (half_of (x + y) ((a + c) - (b + d)) (omega arith)) (omega arith)

pub tail_sum_mid : (p q : Point) (x y : ℕ → ℕ) → length p ≡ length q → ((j : ℕ) → tail_sum p j ≡ 2 * x j) → ((j : ℕ) → tail_sum q j ≡ 2 * y j)
    → (j : ℕ) → tail_sum (mid p q) j ≡ x j + y j
unfolding mid
tail_sum_mid [] [] x y e f g zero = omega (arith, f 0, g 0)
tail_sum_mid [] [] x y e f g (suc j) = omega (arith, f (suc j), g (suc j))
tail_sum_mid [] (b ∷ q) x y e f g j = absurd (omega arith)
tail_sum_mid (a ∷ p) [] x y e f g j = absurd (omega arith)
tail_sum_mid (a ∷ p) (b ∷ q) x y e f g zero =
    rw (tail_sum_mid p q (λ j. x (suc j)) (λ j. y (suc j)) (suc_inj e) (λ j. f (suc j)) (λ j. g (suc j)) 0)
    (half_sum a b (sum p) (sum q) (x 0) (x 1) (y 0) (y 1) (f 0) (f 1) (g 0) (g 1))
tail_sum_mid (a ∷ p) (b ∷ q) x y e f g (suc j) =
    tail_sum_mid p q (λ j. x (suc j)) (λ j. y (suc j)) (suc_inj e) (λ j. f (suc j)) (λ j. g (suc j)) j

pub sized_mid : (n : ℕ) (p q : Point) (x y : ℕ → ℕ) → Sized n p → Sized n q → ((j : ℕ) → tail_sum p j ≡ 2 * x j)
    → ((j : ℕ) → tail_sum q j ≡ 2 * y j)
    → Sized n (mid p q)
sized_mid n p q x y s t f g =
    record {
      places = length-mid n p q s.places t.places;
      total = omega (arith, f 0, g 0, s.total, t.total, tail_sum_mid p q x y (s.places ∙ sym t.places) f g 0);
    }

-- A coarse corner's tail sums are 1,024 up to its own place and 0 behind it.
tail_sum_zeros : (n j : ℕ) → tail_sum (replicate n 0) j ≡ 0
tail_sum_zeros zero zero = refl
tail_sum_zeros zero (suc j) = refl
tail_sum_zeros (suc n) zero = omega (arith, tail_sum_zeros n 0)
tail_sum_zeros (suc n) (suc j) = tail_sum_zeros n j

pub tail_sum_coarse : (n i j : ℕ) → i < n → tail_sum (coarse n i) j ≡ min 1 (suc i - j) * 1024
unfolding coarse
tail_sum_coarse zero i j h = absurd (omega arith)
tail_sum_coarse (suc n) zero zero h = omega (arith, tail_sum_zeros n 0)
tail_sum_coarse (suc n) zero (suc j) h = omega (arith, tail_sum_zeros n j)
tail_sum_coarse (suc n) (suc i) zero h = omega (arith, tail_sum_coarse n i 0 (omega arith))
tail_sum_coarse (suc n) (suc i) (suc j) h = omega (arith, tail_sum_coarse n i j (omega arith))

pub sized_coarse : (n i : ℕ) → i < n → Sized n (coarse n i)
unfolding coarse
sized_coarse n i h =
    record {
      places = length-set (replicate n 0) i 1024 ∙ length-replicate n 0;
      total = omega (arith, tail_sum_coarse n i 0 h);
    }
