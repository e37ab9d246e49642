-- Coarse corners by their numbers, and how many coarse cells have given ones.
--   sames qs   how many of the cells qs are the given one
-- Laws: coarse_injective, off_coarse (a coarse corner lies on the coarse faces that have it), coarse_within, rise_below, count_holders
-- (how many coarse cells have a face), count_same (how many have the corners of a cell), once_same (one, where no two are the same).
use Rattle.std.specs.Prelude.{◌≡◌, Bool, ◌||◌, ℕ, zero, suc, ◌+◌, ◌*◌, ◌-◌, ◌<◌, ◌≤◌, min, length, get_or, replicate, set}
use Rattle.std.proofs.Math.Path.{refl, ap₂}
use Rattle.std.proofs.Common.{sym, ◌∙◌, ap, arith}
use Rattle.std.proofs.Math.Bool.{true, false, and-true}
use mathlib.Core.List.{List, [], ◌∷◌, map}
use Rattle.base.specs.Lists.{allb, anyb, filterb, memberb, sameb, sameb_eq}
use Rattle.base.specs.Bools.{one_if, is_true, not_both, false_from}
use Rattle.base.specs.Fours.{faces, holders}
use Rattle.base.specs.Places.{sameb_self}
use Rattle.mesh.specs.Weights.{Point, coarse, coarse_from}
use Rattle.mesh.specs.Coarse.{twiceb}
use Rattle.base.specs.Every.{All, any_at}
use Rattle.lattice.specs.Tails.{tail_sum, tail_sum_coarse}
use Rattle.conformity.specs.Leaves.{offb}
use Rattle.conformity.specs.Having.{withinb, count, within-map}
use Rattle.conformity.specs.Fours.{Rise, Rise3, within_face, within_four}

not_before : (i j : ℕ) → min 1 (suc i - i) * 1024 ≡ min 1 (suc j - i) * 1024 → i ≤ j
not_before i j e = omega arith

coarse_injective : (n i j : ℕ) → i < n → j < n → coarse n i ≡ coarse n j → i ≡ j
coarse_injective n i j hi hj e =
    let t : (k : ℕ) → min 1 (suc i - k) * 1024 ≡ min 1 (suc j - k) * 1024 =
    (λ k. sym (tail_sum_coarse n i k hi) ∙ ap (λ (p : Point). tail_sum p k) e ∙ tail_sum_coarse n j k hj) in
    le_both i j (not_before i j (t i)) (not_before j i (sym (t j)))
  where
    le_both : (i j : ℕ) → i ≤ j → j ≤ i → i ≡ j
    le_both i j h g = omega arith

off_zeros : (k n : ℕ) (t : List ℕ) → offb k (replicate n 0) t ≡ true
unfolding offb
off_zeros k zero t = refl
off_zeros k (suc n) t = off_zeros (suc k) n t

off_set : (k n i : ℕ) (t : List ℕ) → i < n → offb k (set (replicate n 0) i 1024) t ≡ memberb (k + i) t
unfolding offb
off_set k zero i t h = absurd (omega arith)
off_set k (suc n) zero t h = rw (off_zeros (suc k) n t, and-true (memberb k t)) (ap (λ (m : ℕ). memberb m t) (omega arith))
off_set k (suc n) (suc i) t h = off_set (suc k) n i t (omega arith) ∙ ap (λ (m : ℕ). memberb m t) (omega arith)

pub off_coarse : (n i : ℕ) (t : List ℕ) → i < n → offb 0 (coarse n i) t ≡ memberb i t
unfolding coarse
off_coarse n i t h = off_set 0 n i t h ∙ ap (λ (m : ℕ). memberb m t) (omega arith)

coarse_within : (n : ℕ) (t q : List ℕ) → All (λ x. x < n) t → All (λ x. x < n) q → withinb (map (coarse n) t) (map (coarse n) q) ≡ allb
    (λ x. memberb x q) t
coarse_within n t q a b = within-map n (coarse n) (λ x y hx hy e. coarse_injective n x y hx hy e) t q a b

pub rise_below : (n : ℕ) (q : List ℕ) → Rise n q → All (λ x. x < n) q
rise_below n q r = rw r.is (omega (arith, r.ab, r.bc, r.cd, r.dn))

-- how many coarse cells have a face, and how many all corners
module _ (n : ℕ) (t : List ℕ) (a : All (λ x. x < n) t) where
  pub count_holders : Rise3 t → (i : ℕ) (qs : List (List ℕ)) → All (Rise n) qs → count (map (coarse n) t) (coarse_from n i qs) ≡ holders qs t
  unfolding coarse_from holders filterb one_if
  count_holders s i [] r = refl
  count_holders s i (q ∷ qs) r = go (anyb (sameb t) (faces q)) refl (count_holders s (suc i) qs r.1)
    where
      e : withinb (map (coarse n) t) (map (coarse n) q) ≡ anyb (sameb t) (faces q)
      e = coarse_within n t q a (rise_below n q r.0) ∙ within_face n t q s r.0

      go : (b : Bool) → anyb (sameb t) (faces q) ≡ b → count (map (coarse n) t) (coarse_from n (suc i) qs) ≡ holders qs t
          → one_if (withinb (map (coarse n) t) (map (coarse n) q)) + count (map (coarse n) t) (coarse_from n (suc i) qs) ≡ holders (q ∷ qs) t
      go true f i = rw (e, f, filterb) (omega arith)
      go false f i = rw (e, f, filterb) (omega arith)

  -- the same four corners
  abbrev sames : List (List ℕ) → ℕ
  sames [] = 0
  sames (q ∷ qs) = one_if (sameb t q) + sames qs

  pub count_same : Rise n t → (i : ℕ) (qs : List (List ℕ)) → All (Rise n) qs → count (map (coarse n) t) (coarse_from n i qs) ≡ sames qs
  unfolding coarse_from
  count_same s i [] r = refl
  count_same s i (q ∷ qs) r =
      ap₂ (λ (b : Bool) (m : ℕ). one_if b + m) (coarse_within n t q a (rise_below n q r.0) ∙ within_four n t q s r.0)
      (count_same s (suc i) qs r.1)

  sames_none : (qs : List (List ℕ)) → anyb (sameb t) qs ≡ false → sames qs ≡ 0
  unfolding anyb one_if
  sames_none [] e = refl
  sames_none (q ∷ qs) e = go (sameb t q) e (sames_none qs)
    where
      go : (b : Bool) → (b || anyb (sameb t) qs) ≡ false → (anyb (sameb t) qs ≡ false → sames qs ≡ 0) → one_if b + sames qs ≡ 0
      go true g i = not_both true refl g
      go false g i = omega (arith, i g)

-- no two coarse cells are the same
none_else : (a b : Bool) → (a || b) ≡ false → (a ≡ false) × (b ≡ false)
none_else true b e = not_both true refl e
none_else false b e = (refl, e)

no_same : (q : List ℕ) (qs : List (List ℕ)) (k : ℕ) → k < length qs → anyb (sameb q) qs ≡ false → sameb (get_or qs k []) q ≡ false
no_same q qs k h e =
    false_from (sameb (get_or qs k []) q)
    (λ t. not_both {A = ⊥} (anyb (sameb q) qs)
    (is_true (anyb (sameb q) qs) (any_at (sameb q) [] qs k h (rw (sameb_eq (get_or qs k []) q t, sameb_self q) tt))) e)

pub once_same : (n : ℕ) (qs : List (List ℕ)) → twiceb qs ≡ false → (k : ℕ) → k < length qs → (a : All (λ x. x < n) (get_or qs k []))
    → sames n (get_or qs k []) a qs ≡ 1
unfolding twiceb one_if
once_same n [] e k h a = absurd (omega arith)
once_same n (q ∷ qs) e zero h a =
    let (u, v) = none_else (anyb (sameb q) qs) (twiceb qs) e in
    rw (sameb_self q) (omega (arith, sames_none n q a qs u))
once_same n (q ∷ qs) e (suc k) h a =
    let (u, v) = none_else (anyb (sameb q) qs) (twiceb qs) e in
    rw (no_same q qs k (omega arith) u) (omega (arith, once_same n qs v k (omega arith) a))
