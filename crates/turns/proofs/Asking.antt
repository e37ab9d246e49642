-- Questions asked of numbers that follow each other: whether one of them passes.
--   Asked f a b r   r says whether f passes at one of the numbers from a on, below b
-- Laws: asked_is (r is `some_from`), asked_by (so is what `any` answers over a range).
use Rattle.std.proofs.Common.{◌≡◌, sym, ◌∙◌, refl, Bool, true, false, ℕ, zero, suc, ◌+◌, ◌-◌, ◌≤◌, ◌<◌, MatchBool}
use Rattle.std.proofs.Common.{arith, ◌⊎◌, ⊎_elim, eq-or-lt_of_le, subst}
use Rattle.std.proofs.iter.Yields.{nat_range_steps}
use Rattle.std.proofs.lemmas.Iterator.{cases_from_any, YieldsList-from_range}
use Rattle.std.proofs.lemmas.List.FromFn.{length-range_with_len, get_or-range_with_len}
use Rattle.std.specs.Fn.{Called}
use Rattle.std.specs.Iterator.{YieldsThen}
use Rattle.std.specs.List.{range_with_len, FoldsTo, AllWithin, HoldsAt}
use Rattle.std.specs.Prelude.{List, length, Option, MatchOption}
use Rattle.std.specs.declared.ops.Range.{Range}
use denote.Param.Members.{Mut}
use Rattle.turns.specs.Loops.{some_from}

abbrev pub Asked : (ℕ → Bool) → ℕ → ℕ → Bool → Type 0
Asked f a b r = MatchBool r ((k : ℕ) × (a ≤ k) × (k < b) × (f k ≡ true)) ((k : ℕ) → a ≤ k → k < b → f k ≡ false)

module _ (f : ℕ → Bool) where
  some_at : (n a k : ℕ) → a ≤ k → k < a + n → f k ≡ true → some_from f n a ≡ true
  unfolding some_from
  some_at zero a k g h t = absurd (omega arith)
  some_at (suc n) a k g h t = go (f a) refl (eq-or-lt_of_le g) (λ l. some_at n (suc a) k l (omega arith) t)
    where
      go : (b : Bool) → f a ≡ b → (a ≡ k) ⊎ (a < k) → (a < k → some_from f n (suc a) ≡ true) → some_from f (suc n) a ≡ true
      go true e w on = rw (e, some_from)
      go false e w on = ⊎_elim
          (λ (z : a ≡ k). let v : f a ≡ true = subst (λ (j : ℕ). f j ≡ true) (sym z) t in let u : true ≡ false = sym v ∙ e in cc)
          (λ (l : a < k). rw (e, some_from) (on l)) w

  none_at : (n a : ℕ) → ((k : ℕ) → a ≤ k → k < a + n → f k ≡ false) → some_from f n a ≡ false
  unfolding some_from
  none_at zero a h = refl
  none_at (suc n) a h = let e : f a ≡ false = h a (omega arith) (omega arith) in
      rw (e, some_from) (none_at n (suc a) (λ k g l. h k (omega arith) (omega arith)))

  pub asked_is : (a b : ℕ) (r : Bool) → Asked f a b r → r ≡ some_from f (b - a) a
  asked_is a b true (k, g, h, t) = sym (some_at (b - a) a k g (omega arith) t)
  asked_is a b false h = sym (none_at (b - a) a (λ k g l. h k g (omega arith)))

-- what `any` over a range answers
module _ {F : Type 0} {g : Mut F (ℕ × Unit {0}) Bool} {s u : Range ℕ} (f : ℕ → Bool) (a b : ℕ) (h : F) (r : Bool) where
  pub asked_by : ((xs : List ℕ) × (o : Option ℕ) × (j : F) × YieldsThen nat_range_steps s xs o u
      × FoldsTo (λ p x q. Called g p (x, tt) false q) h xs j
      × MatchOption o (r ≡ false) (λ x. (r ≡ true) × ((q : F) × Called g j (x, tt) true q)))
      → s ≡ record { start = a; end = b } → ((x : ℕ) (t : Bool) (q : F) → Called g h (x, tt) t q → (q ≡ h) × (t ≡ f x))
      → r ≡ some_from f (b - a) a
  asked_by ran e is = asked_is f a b r (told r (cases_from_any u h r (λ x. f x ≡ true) (λ x. f x ≡ false) ran
      (YieldsList-from_range a b (b - a) e refl) (λ x q t. sym (is x true q t).1) (λ x q t. ((is x false q t).0, sym (is x false q t).1))))
    where
      told : (t : Bool) → MatchBool t
          ((k : ℕ) × (k < length (range_with_len a (b - a))) × HoldsAt (λ x. f x ≡ true) (range_with_len a (b - a)) k)
          (AllWithin (λ x. f x ≡ false) (range_with_len a (b - a)) 0 (length (range_with_len a (b - a)))) → Asked f a b t
      told true (k, l, y) = let m : k < b - a = omega (arith, length-range_with_len a (b - a)) in
          (a + k, omega arith, omega arith, subst (λ i. f i ≡ true) (get_or-range_with_len a (b - a) k 0 m) (y 0))
      told false n = λ k l m. let i : k - a < b - a = omega arith in let z : a + (k - a) ≡ k = omega arith in
          subst (λ i. f i ≡ false) (get_or-range_with_len a (b - a) (k - a) 0 i ∙ z)
          (n (k - a) 0 (omega arith) (omega (arith, length-range_with_len a (b - a))))
