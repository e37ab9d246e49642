-- What holds at every number below a bound, and of every element of a list.
--   Below P n   P holds at each number below n: a tuple that computes
--   All P l     P holds of each element of l: a tuple that computes
use Rattle.std.specs.Prelude.{◌≡◌, refl, Bool, length, get_or}
use Rattle.std.proofs.Math.Logic.{⊎_elim}
use mathlib.Core.List.{List, [], ◌∷◌, ◌++◌, map}
use Prim.Native.Nat.{ℕ, zero, suc, ◌<◌}
use Rattle.std.proofs.Common.{eq-or-lt_of_le}
use native.Mathlib.Omega.{arith}
use Rattle.std.proofs.Math.Dec.{T}
use Rattle.base.specs.Lists.{allb, anyb}
use Rattle.base.specs.Bools.{and_left, and_right, and_both, or_either, or_first, or_second}

abbrev pub Below : (ℕ → Type 0) → ℕ → Type 0
Below P zero = Unit {0}
Below P (suc n) = Below P n × P n

pub below_at : (P : ℕ → Type 0) (n : ℕ) → Below P n → (k : ℕ) → k < n → P k
below_at P zero t k h = absurd (omega arith)
below_at P (suc n) t k h = ⊎_elim (λ (e : k ≡ n). rw e t.1) (λ (l : k < n). below_at P n t.0 k l) (eq-or-lt_of_le (omega arith))

abbrev pub All : {A : Type 0} → (A → Type 0) → List A → Type 0
All P [] = Unit {0}
All P (x ∷ l) = P x × All P l

module _ {A : Type 0} (P : A → Type 0) where
  pub all_append : (l m : List A) → All P l → All P m → All P (l ++ m)
  all_append [] m s t = t
  all_append (x ∷ l) m s t = (s.0, all_append l m s.1 t)

  pub all_at : (d : A) (l : List A) → All P l → (k : ℕ) → k < length l → P (get_or l k d)
  all_at d [] t k h = absurd (omega arith)
  all_at d (x ∷ l) t zero h = t.0
  all_at d (x ∷ l) t (suc k) h = all_at d l t.1 k (omega arith)

  pub all_from : (d : A) (l : List A) → ((k : ℕ) → k < length l → P (get_or l k d)) → All P l
  all_from d [] t = tt
  all_from d (x ∷ l) t = (t 0 (omega arith), all_from d l (λ k h. t (suc k) (omega arith)))

  -- from a test that passes at each element
  pub all_of : (f : A → Bool) → ((x : A) → T (f x) → P x) → (l : List A) → T (allb f l) → All P l
  unfolding allb
  all_of f u [] t = tt
  all_of f u (x ∷ l) t = (u x (and_left (f x) (allb f l) t), all_of f u l (and_right (f x) (allb f l) t))

  pub all_more : (Q : A → Type 0) → ((x : A) → P x → Q x) → (l : List A) → All P l → All Q l
  all_more Q f [] t = tt
  all_more Q f (x ∷ l) t = (f x t.0, all_more Q f l t.1)

-- an element of a map, whatever stands for one that is not there
pub get_d_map : {A B : Type 0} (f : A → B) (l : List A) (k : ℕ) (a : A) (b : B) → k < length l → get_or (map f l) k b ≡ f (get_or l k a)
get_d_map f [] k a b h = absurd (omega arith)
get_d_map f (x ∷ l) zero a b h = refl
get_d_map f (x ∷ l) (suc k) a b h = get_d_map f l k a b (omega arith)

-- from what holds of each element
pub all_pass : {A : Type 0} (P : A → Type 0) (f : A → Bool) → ((x : A) → P x → T (f x)) → (l : List A) → All P l → T (allb f l)
unfolding allb
all_pass P f u [] t = tt
all_pass P f u (x ∷ l) t = and_both (f x) (allb f l) (u x t.0) (all_pass P f u l t.1)

module _ {A : Type 0} (f : A → Bool) (d : A) where
  pub any_place : (l : List A) → T (anyb f l) → (i : ℕ) × (i < length l) × T (f (get_or l i d))
  unfolding anyb
  any_place [] t = absurd t
  any_place (x ∷ l) t =
      ⊎_elim (λ (u : T (f x)). (0, omega arith, u)) (λ (u : T (anyb f l)). let (i, h, v) = any_place l u in (suc i, omega arith, v))
      (or_either (f x) (anyb f l) t)

  pub any_at : (l : List A) (i : ℕ) → i < length l → T (f (get_or l i d)) → T (anyb f l)
  unfolding anyb
  any_at [] i h t = absurd (omega arith)
  any_at (x ∷ l) zero h t = or_first (f x) (anyb f l) t
  any_at (x ∷ l) (suc i) h t = or_second (f x) (anyb f l) (any_at l i (omega arith) t)

  pub all_each : (l : List A) → ((i : ℕ) → i < length l → T (f (get_or l i d))) → T (allb f l)
  unfolding allb
  all_each [] t = tt
  all_each (x ∷ l) t = and_both (f x) (allb f l) (t 0 (omega arith)) (all_each l (λ i h. t (suc i) (omega arith)))
