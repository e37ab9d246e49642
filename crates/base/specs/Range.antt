-- Numbers in a row.
--   range k m     the m numbers from k on
-- Laws: length-range, range_at (the i-th of them), range_append, range_snoc (its parts), member_range and range_member (which numbers
-- these are), map_range (two renamings alike); all_range_miss, all_range_next, all_range_end, any_range_hit, any_range_next,
-- any_range_end (a test of the numbers below a last one: the rest decides as the whole does).
use Rattle.std.specs.Prelude.{◌≡◌, refl, Bool, true, false, List, [], ◌∷◌, ◌++◌, map, ℕ, zero, suc, ◌+◌, ◌-◌, ◌≤◌, ◌<◌, T, length, get_or}
use Rattle.std.proofs.Common.{◌∙◌, ap, ap₂, arith, eq-eqb, ne_eqb}
use Rattle.std.proofs.Math.Decide.{ℕ_discrete}
use Rattle.base.specs.Lists.{memberb, allb, anyb}

unfoldable pub range : ℕ → ℕ → List ℕ
range k zero = []
range k (suc m) = k ∷ range (suc k) m

pub length-range : (k m : ℕ) → length (range k m) ≡ m
unfolding range
length-range k zero = refl
length-range k (suc m) = ap suc (length-range (suc k) m)

pub range_at : (k m i d : ℕ) → i < m → get_or (range k m) i d ≡ k + i
unfolding range
range_at k zero i d h = absurd (omega arith)
range_at k (suc m) zero d h = omega arith
range_at k (suc m) (suc i) d h = let z : suc k + i ≡ k + suc i = omega arith in range_at (suc k) m i d (omega arith) ∙ z

pub map_range : (f g : ℕ → ℕ) (k m : ℕ) → ((i : ℕ) → k ≤ i → i < k + m → f i ≡ g i) → map f (range k m) ≡ map g (range k m)
unfolding range
map_range f g k zero e = refl
map_range f g k (suc m) e =
    ap₂ ◌∷◌ (e k (omega arith) (omega arith)) (map_range f g (suc k) m (λ i a b. e i (omega arith) (omega arith)))

pub member_range : (k m x : ℕ) → T (memberb x (range k m)) → (k ≤ x) × (x < k + m)
unfolding range memberb
member_range k zero x t = absurd t
member_range k (suc m) x t =
    elim (ℕ_discrete x k) [
      | yes e ↦ (omega arith, omega arith)
      | no n ↦ let (a, b) = member_range (suc k) m x (rw (ne_eqb x k n) at t) in (omega arith, omega arith)
    ]

pub range_member : (k m x : ℕ) → k ≤ x → x < k + m → T (memberb x (range k m))
unfolding range memberb
range_member k zero x h l = absurd (omega arith)
range_member k (suc m) x h l =
    elim (ℕ_discrete x k) [
      | yes e ↦ rw (eq-eqb x k e) tt
      | no n ↦ rw (ne_eqb x k n) (range_member (suc k) m x (omega arith) (omega arith))
    ]

pub range_append : (k m n : ℕ) → range k (m + n) ≡ range k m ++ range (k + m) n
unfolding range
range_append k zero n = let e : 0 + n ≡ n = omega arith in let f : k + 0 ≡ k = omega arith in rw (e, f)
range_append k (suc m) n =
    let e : suc m + n ≡ suc (m + n) = omega arith in
    let f : k + suc m ≡ suc k + m = omega arith in
    rw (e, f) (ap (λ (l : List ℕ). k ∷ l) (range_append (suc k) m n))

pub range_snoc : (k m : ℕ) → range k (suc m) ≡ range k m ++ ((k + m) ∷ [])
unfolding range
range_snoc k m = let e : suc m ≡ m + 1 = omega arith in ap (range k) e ∙ range_append k m 1

-- a range with something in it
range_cons : (k last : ℕ) → k < last → range k (last - k) ≡ k ∷ range (k + 1) (last - (k + 1))
unfolding range
range_cons k last h =
    let e : last - k ≡ suc (last - (k + 1)) = omega arith in
    let f : k + 1 ≡ suc k = omega arith in
    rw (e, f)

range_none : (k last : ℕ) → last ≤ k → range k (last - k) ≡ []
unfolding range
range_none k last h = let e : last - k ≡ 0 = omega arith in rw e

module _ (f : ℕ → Bool) (k last : ℕ) (h : k < last) where
  pub all_range_miss : f k ≡ false → allb f (range k (last - k)) ≡ false
  unfolding allb
  all_range_miss e = rw (range_cons k last h, e)

  pub all_range_next : f k ≡ true → allb f (range k (last - k)) ≡ allb f (range (k + 1) (last - (k + 1)))
  unfolding allb
  all_range_next e = rw (range_cons k last h, e)

  pub any_range_hit : f k ≡ true → anyb f (range k (last - k)) ≡ true
  unfolding anyb
  any_range_hit e = rw (range_cons k last h, e)

  pub any_range_next : f k ≡ false → anyb f (range k (last - k)) ≡ anyb f (range (k + 1) (last - (k + 1)))
  unfolding anyb
  any_range_next e = rw (range_cons k last h, e)

module _ (f : ℕ → Bool) (k last : ℕ) (h : last ≤ k) where
  pub all_range_end : allb f (range k (last - k)) ≡ true
  unfolding allb
  all_range_end = rw (range_none k last h)

  pub any_range_end : anyb f (range k (last - k)) ≡ false
  unfolding anyb
  any_range_end = rw (range_none k last h)
