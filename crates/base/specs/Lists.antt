-- Tests on numbers and lists that compute, with what a passed test says. Every crate uses these and no others.
--   allb f l, anyb f l   each element of l passes the test f; some element does
--   filterb f l          the elements of l that pass f, in their order
--   belowb f n           each number below n passes f
--   memberb x l          the number x stands in l
--   sameb l m            l and m are the same numbers in the same order
--   samesb l m           the same for lists of lists
use Rattle.std.specs.Prelude.{◌≡◌, refl, Bool, true, false, ◌&&◌, ◌||◌, List, [], ◌∷◌, ℕ, zero, suc, ◌<◌, T, eqb, length, get_or}
use Rattle.std.proofs.Common.{ap₂, sym, ⊎_elim, eq-or-lt_of_le, arith, eqb→eq, eq-eqb}
use Rattle.base.specs.Bools.{and_left, and_right, or_either, or_second}

module _ {A : Type 0} where
  unfoldable pub allb : (A → Bool) → List A → Bool
  allb f [] = true
  allb f (x ∷ l) = f x && allb f l

  unfoldable pub anyb : (A → Bool) → List A → Bool
  anyb f [] = false
  anyb f (x ∷ l) = f x || anyb f l

  unfoldable pub filterb : (A → Bool) → List A → List A
  filterb f [] = []
  filterb f (x ∷ l) = elim (f x) [ true ↦ x ∷ filterb f l | false ↦ filterb f l ]

unfoldable pub belowb : (ℕ → Bool) → ℕ → Bool
belowb f zero = true
belowb f (suc n) = belowb f n && f n

unfoldable pub memberb : ℕ → List ℕ → Bool
memberb x [] = false
memberb x (y ∷ l) = eqb x y || memberb x l

unfoldable pub sameb : List ℕ → List ℕ → Bool
sameb [] [] = true
sameb [] (y ∷ m) = false
sameb (x ∷ l) [] = false
sameb (x ∷ l) (y ∷ m) = eqb x y && sameb l m

unfoldable pub samesb : List (List ℕ) → List (List ℕ) → Bool
unfolding sameb
samesb [] [] = true
samesb [] (y ∷ m) = false
samesb (x ∷ l) [] = false
samesb (x ∷ l) (y ∷ m) = sameb x y && samesb l m

pub allb_at : {A : Type 0} (f : A → Bool) (d : A) (l : List A) → T (allb f l) → (k : ℕ) → k < length l → T (f (get_or l k d))
unfolding allb
allb_at f d [] t k h = absurd (omega arith)
allb_at f d (x ∷ l) t zero h = and_left (f x) (allb f l) t
allb_at f d (x ∷ l) t (suc k) h = allb_at f d l (and_right (f x) (allb f l) t) k (omega arith)

pub belowb_at : (f : ℕ → Bool) (n : ℕ) → T (belowb f n) → (k : ℕ) → k < n → T (f k)
unfolding belowb
belowb_at f zero t k h = absurd (omega arith)
belowb_at f (suc n) t k h =
    ⊎_elim (λ (e : k ≡ n). rw e (and_right (belowb f n) (f n) t))
    (λ (l : k < n). belowb_at f n (and_left (belowb f n) (f n) t) k l)
    (eq-or-lt_of_le (omega arith))

pub sameb_eq : (l m : List ℕ) → T (sameb l m) → l ≡ m
unfolding sameb
sameb_eq [] [] t = refl
sameb_eq [] (y ∷ m) t = absurd t
sameb_eq (x ∷ l) [] t = absurd t
sameb_eq (x ∷ l) (y ∷ m) t =
    ap₂ ◌∷◌ (eqb→eq x y (and_left (eqb x y) (sameb l m) t)) (sameb_eq l m (and_right (eqb x y) (sameb l m) t))

pub samesb_eq : (l m : List (List ℕ)) → T (samesb l m) → l ≡ m
unfolding samesb
samesb_eq [] [] t = refl
samesb_eq [] (y ∷ m) t = absurd t
samesb_eq (x ∷ l) [] t = absurd t
samesb_eq (x ∷ l) (y ∷ m) t =
    ap₂ ◌∷◌ (sameb_eq x y (and_left (sameb x y) (samesb l m) t)) (samesb_eq l m (and_right (sameb x y) (samesb l m) t))

pub member_at : (l : List ℕ) (k : ℕ) → k < length l → T (memberb (get_or l k 0) l)
unfolding memberb
member_at [] k h = absurd (omega arith)
member_at (x ∷ l) zero h = rw (eq-eqb x x refl) tt
member_at (x ∷ l) (suc k) h = or_second (eqb (get_or l k 0) x) (memberb (get_or l k 0) l) (member_at l k (omega arith))

pub member_place : (x : ℕ) (l : List ℕ) → T (memberb x l) → (k : ℕ) × (k < length l) × (get_or l k 0 ≡ x)
unfolding memberb
member_place x [] t = absurd t
member_place x (y ∷ l) t =
    ⊎_elim (λ (u : T (eqb x y)). (0, omega arith, sym (eqb→eq x y u)))
    (λ (u : T (memberb x l)). let (k, h, e) = member_place x l u in (suc k, omega arith, e))
    (or_either (eqb x y) (memberb x l) t)
