-- Laws of tests and sums over parts.
-- Laws: any_part, part_any (some part passes a test), sum_part, part_sum (a sum that is not 0), sum_cut (a sum of numbers that are cut),
-- largest_le, largest_in, largest_more (the largest where one number grows), is_self, is_eq, is_same, is_not (the test of equality).
use Rattle.std.specs.Prelude.{◌≡◌, ◌≢◌, Bool, ℕ, ◌≤◌, max}
use Rattle.std.proofs.Math.Path.{refl, ap}
use Rattle.std.proofs.Common.{sym, ◌∙◌, subst}
use Rattle.std.proofs.Math.Logic.{⊎_elim}
use Rattle.std.proofs.Math.Bool.{true, false}
use mathlib.Core.List.{List, [], ◌∷◌, Memᴰ}
use Rattle.std.proofs.Math.Decide.{ℕ_discrete}
use native.Mathlib.Omega.{arith}
use Rattle.std.proofs.Math.Dec.{T}
use Rattle.base.specs.Lists.{anyb}
use Rattle.exchange.specs.Finite.{Finite, sum_over}
use Rattle.rounds.specs.Rounds.{is_part, capped, largest}
use Rattle.base.specs.Bools.{or_first, or_second, or_either}

module _ {Part : Type 0} where
  pub any_part : (f : Part → Bool) (l : List Part) → T (anyb f l) → (q : Part) × T (f q)
  unfolding anyb
  any_part f [] t = absurd t
  any_part f (q ∷ l) t = ⊎_elim (λ (u : T (f q)). (q, u)) (λ (u : T (anyb f l)). any_part f l u) (or_either (f q) (anyb f l) t)

  any_where : (f : Part → Bool) (q : Part) (l : List Part) → Memᴰ q l → T (f q) → T (anyb f l)
  unfolding anyb
  any_where f q l (Memᴰ.head {x = x} {xs = xs} e) t = or_first (f x) (anyb f xs) (subst (λ y. T (f y)) e t)
  any_where f q l (Memᴰ.tail {x = x} {xs = xs} m) t = or_second (f x) (anyb f xs) (any_where f q xs m t)

  pub part_any : (f : Part → Bool) (l : List Part) (q : Part) → Memᴰ q l → T (f q) → T (anyb f l)
  part_any f l q m t = any_where f q l m t

  pub sum_part : (f : Part → ℕ) (l : List Part) → sum_over f l ≢ 0 → (q : Part) × (f q ≢ 0)
  unfolding sum_over
  sum_part f [] t = absurd (t refl)
  sum_part f (q ∷ l) t = elim (ℕ_discrete (f q) 0) [ no n ↦ (q, n) | yes e ↦ sum_part f l (λ w. t (omega arith)) ]

  sum_where : (f : Part → ℕ) (q : Part) (l : List Part) → Memᴰ q l → f q ≢ 0 → sum_over f l ≢ 0
  unfolding sum_over
  sum_where f q l (Memᴰ.head {x = x} {xs = xs} e) t w = t (ap f e ∙ omega arith)
  sum_where f q l (Memᴰ.tail {x = x} {xs = xs} m) t w = sum_where f q xs m t (omega arith)

  pub part_sum : (f : Part → ℕ) (l : List Part) (q : Part) → Memᴰ q l → f q ≢ 0 → sum_over f l ≢ 0
  part_sum f l q m t = sum_where f q l m t

  pub sum_cut : (f : Part → ℕ) (l : List Part) → capped (sum_over (λ p. capped (f p)) l) ≡ capped (sum_over f l)
  unfolding sum_over
  sum_cut f [] = refl
  sum_cut f (p ∷ l) = omega (arith, sum_cut f l)

  largest_le : (f g : Part → ℕ) → ((p : Part) → f p ≤ g p) → (l : List Part) → largest f l ≤ largest g l
  unfolding largest
  largest_le f g h [] = omega arith
  largest_le f g h (p ∷ l) = omega (arith, h p, largest_le f g h l)

  below_largest : (f : Part → ℕ) (q : Part) (l : List Part) → Memᴰ q l → f q ≤ largest f l
  unfolding largest
  below_largest f q l (Memᴰ.head {x = x} {xs = xs} e) = let z : f q ≡ f x = ap f e in omega arith
  below_largest f q l (Memᴰ.tail {x = x} {xs = xs} m) = omega (arith, below_largest f q xs m)

  pub largest_in : (f : Part → ℕ) (l : List Part) (q : Part) → Memᴰ q l → f q ≤ largest f l
  largest_in f l q m = below_largest f q l m

  largest_most : (f g : Part → ℕ) (n : ℕ) → ((p : Part) → g p ≤ max (f p) n) → (l : List Part) → largest g l ≤ max (largest f l) n
  unfolding largest
  largest_most f g n h [] = omega arith
  largest_most f g n h (p ∷ l) = omega (arith, h p, largest_most f g n h l)

  pub largest_more : (f g : Part → ℕ) (q : Part) (n : ℕ) → ((p : Part) → f p ≤ g p) → ((p : Part) → g p ≤ max (f p) n) → n ≤ g q
      → (l : List Part) → Memᴰ q l → largest g l ≡ max (largest f l) n
  largest_more f g q n a b c l m = omega (arith, largest_le f g a l, largest_most f g n b l, largest_in g l q m, c)

module _ {Part : Type 0} (F : Finite Part) where
  pub is_self : (p : Part) → is_part F p p ≡ true
  unfolding is_part
  is_self p = go (F.same? p p)
    where
      go : (d : Dec (p ≡ p)) → elim d [ yes e ↦ true | no e ↦ false ] ≡ true
      go (yes e) = refl
      go (no n) = absurd (n refl)

  pub is_eq : (p q : Part) → T (is_part F p q) → p ≡ q
  unfolding is_part
  is_eq p q t = go (F.same? p q) t
    where
      go : (d : Dec (p ≡ q)) → T (elim d [ yes e ↦ true | no e ↦ false ]) → p ≡ q
      go (yes e) u = e
      go (no n) u = absurd u

  pub is_same : (p q : Part) → p ≡ q → is_part F p q ≡ true
  is_same p q e = ap (λ x. is_part F p x) (sym e) ∙ is_self p

  pub is_not : (p q : Part) → ¬ (p ≡ q) → is_part F p q ≡ false
  unfolding is_part
  is_not p q h = go (F.same? p q)
    where
      go : (d : Dec (p ≡ q)) → elim d [ yes e ↦ true | no e ↦ false ] ≡ false
      go (yes e) = absurd (h e)
      go (no n) = refl
