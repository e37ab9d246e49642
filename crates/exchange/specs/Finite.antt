-- Finite types, and functions on them.
--   sum_over f l      the sum of f over the list l
--   Finite A         equality of A is decided, and a list has all of A
--   upd F f p b      the function f with the value b at p
--   parts P          the numbers below P, the highest first
-- Laws: sum_le, sum_lt (of a smaller function), sum_change (one term is changed), find_in, find (an element of one kind, or all are of the
-- other), upd_all, upd_same, upd_other.
use Prim.Native.Nat.{ℕ, zero, suc, ◌+◌, ◌≤◌, ◌<◌, Fin}
use native.Mathlib.Omega.{arith}
use Rattle.std.proofs.Math.Decide.{ℕ_discrete, Fin-discrete}
use Rattle.std.proofs.Common.{le_refl, sym, inl, inr}
use Rattle.std.proofs.Math.Path.{◌≡◌, refl, ap, subst}
use mathlib.Core.HLevel.{Discrete}
use Rattle.std.specs.Prelude.{◌⊎◌}
use mathlib.Core.List.Memᴰ
use mathlib.Core.List.{List, [], ◌∷◌, Memᴰ}

unfoldable pub sum_over : {A : Type 0} → (A → ℕ) → List A → ℕ
sum_over f [] = 0
sum_over f (p ∷ l) = f p + sum_over f l

module _ {A : Type 0} where
  pub sum_le : (f g : A → ℕ) → ((p : A) → f p ≤ g p) → (l : List A) → sum_over f l ≤ sum_over g l
  unfolding sum_over
  sum_le f g h [] = omega arith
  sum_le f g h (p ∷ l) = omega (arith, h p, sum_le f g h l)

  pub sum_lt : (f g : A → ℕ) → ((p : A) → f p ≤ g p) → {p : A} {l : List A} → Memᴰ p l → f p < g p → sum_over f l < sum_over g l
  unfolding sum_over
  sum_lt f g h {p} (Memᴰ.head {x = x} {xs = l} e) k = let kx : f x < g x = subst (λ y. f y < g y) e k in omega (arith, sum_le f g h l)
  sum_lt f g h (Memᴰ.tail {x = x} m) k = omega (arith, h x, sum_lt f g h m k)

  -- some element of the list has the first property, or each has the second
  unfoldable pub find_in : {B C : A → Type 0} → ((p : A) → B p ⊎ C p) → (l : List A) → ((p : A) × B p) ⊎ ((p : A) → Memᴰ p l → C p)
  find_in d [] = inr (λ p m. absurd (Memᴰ.not-nil m))
  find_in {B} {C} d (x ∷ l) = go (d x) (find_in d l)
    where
      both : C x → ((p : A) → Memᴰ p l → C p) → (p : A) → (p ≡ x) ⊎ Memᴰ p l → C p
      both c r p (inl e) = subst C (sym e) c
      both c r p (inr m) = r p m

      go : B x ⊎ C x → ((p : A) × B p) ⊎ ((p : A) → Memᴰ p l → C p) → ((p : A) × B p) ⊎ ((p : A) → Memᴰ p (x ∷ l) → C p)
      go (inl b) r = inl (x, b)
      go (inr c) (inl w) = inl w
      go (inr c) (inr r) = inr (λ p m. both c r p (Memᴰ.cases_cons m))

pub record Finite (A : Type 0) : Type 0 where
  pub same? : Discrete A
  pub list : List A
  pub all : (p : A) → Memᴰ p list

module _ {A : Type 0} (F : Finite A) where
  unfoldable pub find : {B C : A → Type 0} → ((p : A) → B p ⊎ C p) → ((p : A) × B p) ⊎ ((p : A) → C p)
  find {B} {C} d = go (find_in d F.list)
    where
      go : ((p : A) × B p) ⊎ ((p : A) → Memᴰ p F.list → C p) → ((p : A) × B p) ⊎ ((p : A) → C p)
      go (inl w) = inl w
      go (inr r) = inr (λ p. r p (F.all p))

  unfoldable pub pick : {B : Type 0} {p q : A} → Dec (q ≡ p) → B → B → B
  pick (yes e) b c = b
  pick (no n) b c = c

  unfoldable pub upd : {B : Type 0} → (A → B) → A → B → A → B
  upd f p b q = pick (F.same? q p) b (f q)

  -- what holds of the new values at the point and of the old ones elsewhere holds of the updated functions
  pub upd_all : {B C : Type 0} (R : A → B → C → Type 0) (f : A → B) (g : A → C) (p : A) (b : B) (c : C)
      → R p b c → ((q : A) → R q (f q) (g q)) → (q : A) → R q (upd f p b q) (upd g p c q)
  unfolding upd pick
  upd_all R f g p b c h r q = go (F.same? q p)
    where
      go : (d : Dec (q ≡ p)) → R q (pick d b (f q)) (pick d c (g q))
      go (yes e) = subst (λ x. R x b c) (sym e) h
      go (no n) = r q

  pub upd_same : {B : Type 0} (f : A → B) (p : A) (b : B) → upd f p b p ≡ b
  unfolding upd pick
  upd_same f p b = go (F.same? p p)
    where
      go : (d : Dec (p ≡ p)) → pick d b (f p) ≡ b
      go (yes e) = refl
      go (no n) = absurd (n refl)

  pub upd_other : {B : Type 0} (f : A → B) (p : A) (b : B) (q : A) → ¬ (q ≡ p) → upd f p b q ≡ f q
  unfolding upd pick
  upd_other f p b q h = go (F.same? q p)
    where
      go : (d : Dec (q ≡ p)) → pick d b (f q) ≡ f q
      go (yes e) = absurd (h e)
      go (no n) = refl

pub step_down : {k P : ℕ} → suc k ≤ P → k ≤ P
step_down h = omega arith

unfoldable pub fins : (P k : ℕ) → k ≤ P → List (Fin P)
fins P zero h = []
fins P (suc k) h = (k, h) ∷ fins P k (step_down h)

pub fins_all : (P k : ℕ) (h : k ≤ P) (p : Fin P) → p.0 < k → Memᴰ p (fins P k h)
unfolding fins
fins_all P zero h p l = absurd (omega arith)
fins_all P (suc k) h p l = go (ℕ_discrete p.0 k) (λ m. fins_all P k (step_down h) p m)
  where
    go : Dec (p.0 ≡ k) → (p.0 < k → Memᴰ p (fins P k (step_down h))) → Memᴰ p ((k, h) ∷ fins P k (step_down h))
    go (yes e) r = Memᴰ.head (native.Mathlib.Fin.val_path e)
    go (no n) r = Memᴰ.tail (r (omega arith))

abbrev pub parts : (P : ℕ) → Finite (Fin P)
parts P = record { same? = Fin-discrete P; list = fins P P (le_refl P); all = λ p. fins_all P P (le_refl P) p p.1 }

-- a sum of which one term is changed
module _ (P : ℕ) (f g : Fin P → ℕ) (q : Fin P) (same : (x : Fin P) → ¬ (x ≡ q) → f x ≡ g x) where
  sum_beyond : (k : ℕ) (h : k ≤ P) → k ≤ q.0 → sum_over f (fins P k h) ≡ sum_over g (fins P k h)
  unfolding sum_over fins
  sum_beyond zero h l = refl
  sum_beyond (suc k) h l = omega (arith, same (k, h) (λ e. absurd (apart e)), sum_beyond k (step_down h) (omega arith))
    where
      apart : ◌≡◌ {A = Fin P} (k, h) q → ⊥
      apart e = let z : k ≡ q.0 = ap (λ (x : Fin P). x.0) e in omega arith

  sum_within : (k : ℕ) (h : k ≤ P) → q.0 < k → sum_over g (fins P k h) + f q ≡ sum_over f (fins P k h) + g q
  unfolding sum_over fins
  sum_within zero h l = absurd (omega arith)
  sum_within (suc k) h l = go (ℕ_discrete k q.0) (λ m. sum_within k (step_down h) m)
    where
      go : Dec (k ≡ q.0) → (q.0 < k → sum_over g (fins P k (step_down h)) + f q ≡ sum_over f (fins P k (step_down h)) + g q)
          → g (k, h) + sum_over g (fins P k (step_down h)) + f q ≡ f (k, h) + sum_over f (fins P k (step_down h)) + g q
      go (yes e) r =
          let z : ◌≡◌ {A = Fin P} (k, h) q = native.Mathlib.Fin.val_path e in
          omega (arith, ap f z, ap g z, sum_beyond k (step_down h) (omega arith))
      go (no n) r = omega (arith, r (omega arith), same (k, h) (λ e. n (ap (λ (x : Fin P). x.0) e)))

  pub sum_change : sum_over g (parts P).list + f q ≡ sum_over f (parts P).list + g q
  sum_change = sum_within P (le_refl P) q.1
