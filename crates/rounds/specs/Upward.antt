-- The parts in rising order, each once.
--   ups P      the parts
-- Law: once.
use Rattle.std.proofs.Math.Path.{◌≡◌, refl, ap}
use Rattle.std.proofs.Common.{sym, ◌∙◌, arith}
use Rattle.std.specs.Prelude.{Bool, true, false}
use mathlib.Core.List.{List, [], ◌∷◌}
use Prim.Native.Nat.{ℕ, zero, suc, ◌+◌, ◌≤◌, ◌<◌, Fin}
use Rattle.std.proofs.Math.Decide.{ℕ_discrete}
use Rattle.base.specs.Lists.{filterb}
use Rattle.exchange.specs.Finite.{parts}
use Rattle.rounds.specs.Task.{Task}
use Rattle.rounds.specs.Rounds.{is_part}
use Rattle.rounds.specs.Among.{is_same, is_not}
use Rattle.rounds.specs.Order.{Once}

pub up_here : (P n k : ℕ) → k + suc n ≤ P → k < P
up_here P n k h = omega arith

pub up_more : (P n k : ℕ) → k + suc n ≤ P → suc k + n ≤ P
up_more P n k h = omega arith

unfoldable pub up_from : (P n k : ℕ) → k + n ≤ P → List (Fin P)
up_from P zero k h = []
up_from P (suc n) k h = (k, up_here P n k h) ∷ up_from P n (suc k) (up_more P n k h)

pub up_whole : (P : ℕ) → 0 + P ≤ P
up_whole P = omega arith

abbrev pub ups : (P : ℕ) → List (Fin P)
ups P = up_from P P 0 (up_whole P)

module _ (P : ℕ) (J : Task (Fin P)) (q : Fin P) where
  abbrev same : Fin P → Bool
  same y = is_part (parts P) q y

  keep_one : (y : Fin P) (l : List (Fin P)) → same y ≡ true → filterb same (y ∷ l) ≡ y ∷ filterb same l
  unfolding filterb
  keep_one y l e = rw (e, filterb)

  skip_one : (y : Fin P) (l : List (Fin P)) → same y ≡ false → filterb same (y ∷ l) ≡ filterb same l
  unfolding filterb
  skip_one y l e = rw (e, filterb)

  differ : (y : Fin P) → (q.0 ≡ y.0 → ⊥) → same y ≡ false
  differ y d = is_not (parts P) q y (λ e. d (ap (λ (z : Fin P). z.0) e))

  behind : (n k : ℕ) (h : k + n ≤ P) → q.0 < k → filterb same (up_from P n k h) ≡ []
  unfolding up_from filterb
  behind zero k h l = refl
  behind (suc n) k h l = skip_one (k, up_here P n k h) (up_from P n (suc k) (up_more P n k h))
      (differ (k, up_here P n k h) (λ e. absurd (omega (arith, e)))) ∙ behind n (suc k) (up_more P n k h) (omega arith)

  among : (n k : ℕ) (h : k + n ≤ P) → k ≤ q.0 → q.0 < k + n → filterb same (up_from P n k h) ≡ q ∷ []
  unfolding up_from
  among zero k h a b = absurd (omega arith)
  among (suc n) k h a b = go (ℕ_discrete q.0 k) (λ c d. among n (suc k) (up_more P n k h) c d)
    where
      go : Dec (q.0 ≡ k) → (suc k ≤ q.0 → q.0 < suc k + n → filterb same (up_from P n (suc k) (up_more P n k h)) ≡ q ∷ [])
          → filterb same (up_from P (suc n) k h) ≡ q ∷ []
      go (yes e) r =
          let z : ◌≡◌ {A = Fin P} q (k, up_here P n k h) = native.Mathlib.Fin.val_path e in
          keep_one (k, up_here P n k h) (up_from P n (suc k) (up_more P n k h)) (is_same (parts P) q (k, up_here P n k h) z)
          ∙ ap (◌∷◌ (k, up_here P n k h)) (behind n (suc k) (up_more P n k h) (omega arith)) ∙ ap (λ (y : Fin P). y ∷ []) (sym z)
      go (no d) r = skip_one (k, up_here P n k h) (up_from P n (suc k) (up_more P n k h)) (differ (k, up_here P n k h) d)
          ∙ r (omega (arith, d)) (omega arith)

pub once : (P : ℕ) (J : Task (Fin P)) → Once (parts P) J (ups P)
once P J q = let h : q.0 < P = q.1 in among P J q P 0 (up_whole P) (omega arith) (omega arith)
