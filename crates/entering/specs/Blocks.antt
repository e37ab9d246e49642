-- Loops that change one block of a store.
--   SameBut a m x y    y is x but for the m numbers from a on
-- Laws: but_self, but_on, but_set, but_each (loops keep the rest), each_flag (a loop that sets flags), each_count (a loop that counts),
-- some_range (a scan of numbers in a row), count_single (at most one is counted).
use Rattle.std.specs.Prelude.{◌≡◌, ◌⊎◌, Bool, ◌&&◌, ◌||◌, List, ◌∷◌, eqb, set}
use Rattle.std.proofs.Math.Path.{refl, ap}
use Rattle.std.proofs.Common.{sym, ◌∙◌, subst, inl, inr, length-set, get_or-set_same, get_or-set_other, eq-eqb, ne_eqb}
use Rattle.std.proofs.Math.Bool.{true, false}
use Prim.Native.Nat.{ℕ, zero, suc, ◌+◌, ◌≤◌, ◌<◌}
use native.Mathlib.Omega.{arith}
use Rattle.std.proofs.Math.Decide.{ℕ_discrete}
use Rattle.std.proofs.Math.ListN.{length}
use Rattle.base.specs.Bools.{one_if}
use Rattle.base.specs.Lists.{anyb, filterb, memberb}
use Rattle.base.specs.Range.{range}
use Rattle.store.specs.Fields.{field}
use Rattle.turns.specs.Loops.{some_from, each_from}

pub record SameBut (a m : ℕ) (x y : List ℕ) : Type 0 where
  pub size : length y ≡ length x
  pub rest : (i : ℕ) → (i < a) ⊎ (a + m ≤ i) → field y i ≡ field x i

pub but_self : (a m : ℕ) (x : List ℕ) → SameBut a m x x
but_self a m x = record { size = refl; rest = λ i h. refl }

pub but_on : (a m : ℕ) (x y z : List ℕ) → SameBut a m x y → SameBut a m y z → SameBut a m x z
but_on a m x y z s t = record { size = t.size ∙ s.size; rest = λ i h. t.rest i h ∙ s.rest i h }

pub but_set : (a m : ℕ) (x : List ℕ) (i n : ℕ) → a ≤ i → i < a + m → SameBut a m x (set x i n)
but_set a m x i n h l = record { size = length-set x i n; rest = λ j k. get_or-set_other x i j n 0 (apart j k) }
  where
    apart : (j : ℕ) → (j < a) ⊎ (a + m ≤ j) → ¬ (j ≡ i)
    apart j (inl k) e = absurd (omega (arith, e, k))
    apart j (inr k) e = absurd (omega (arith, e, k))

-- what each turn keeps the loop keeps
module _ (a m : ℕ) (f : List ℕ → ℕ → List ℕ) (b : ℕ) (keeps : (x : List ℕ) (c : ℕ) → c < b → SameBut a m x (f x c)) where
  pub but_each : (n c : ℕ) → c + n ≤ b → (x : List ℕ) → SameBut a m x (each_from f n c x)
  unfolding each_from
  but_each zero c h x = but_self a m x
  but_each (suc n) c h x =
      but_on a m x (f x c) (each_from f n (suc c) (f x c)) (keeps x c (omega arith)) (but_each n (suc c) (omega arith) (f x c))

-- a loop over numbers of a block that sets the flag of each where a test passes; the test does not look at the block
module _ (a m : ℕ) (f : List ℕ → ℕ → List ℕ) (t : ℕ → Bool) (x : List ℕ) (long : a + m ≤ length x) (c₀ n₀ : ℕ) (inside : c₀ + n₀ ≤ m)
    (turn : (y : List ℕ) (c : ℕ) → SameBut a m x y → c₀ ≤ c → c < c₀ + n₀ → f y c ≡ elim (t c) [ true ↦ set y (a + c) 1 | false ↦ y ]) where
  turn-set : (y : List ℕ) (c : ℕ) → SameBut a m x y → c₀ ≤ c → c < c₀ + n₀ → t c ≡ true → f y c ≡ set y (a + c) 1
  turn-set y c s h l e = turn y c s h l ∙ rw e refl

  turn_not : (y : List ℕ) (c : ℕ) → SameBut a m x y → c₀ ≤ c → c < c₀ + n₀ → t c ≡ false → f y c ≡ y
  turn_not y c s h l e = turn y c s h l ∙ rw e refl

  turn_but : (y : List ℕ) (c : ℕ) → SameBut a m x y → c₀ ≤ c → c < c₀ + n₀ → SameBut a m x (f y c)
  turn_but y c s h l = go (t c) refl
    where
      go : (b : Bool) → t c ≡ b → SameBut a m x (f y c)
      go true e = subst (SameBut a m x) (sym (turn-set y c s h l e))
          (but_on a m x y (set y (a + c) 1) s (but_set a m y (a + c) 1 (omega arith) (omega arith)))
      go false e = subst (SameBut a m x) (sym (turn_not y c s h l e)) s

  turn_flag : (y : List ℕ) (c i : ℕ) → SameBut a m x y → c₀ ≤ c → c < c₀ + n₀
      → field (f y c) (a + i) ≡ elim (eqb i c && t i) [ true ↦ 1 | false ↦ field y (a + i) ]
  turn_flag y c i s h l = go (t c) refl (ℕ_discrete i c)
    where
      long_here : a + c < length y
      long_here = omega (arith, s.size)

      go : (b : Bool) → t c ≡ b → Dec (i ≡ c) → field (f y c) (a + i) ≡ elim (eqb i c && t i) [ true ↦ 1 | false ↦ field y (a + i) ]
      go true e (yes q) = rw (turn-set y c s h l e, q, eq-eqb c c refl, e) (get_or-set_same y (a + c) 1 0 long_here)
      go true e (no q) = rw (turn-set y c s h l e, ne_eqb i c q) (get_or-set_other y (a + c) (a + i) 1 0 (λ w. q (omega arith)))
      go false e (yes q) = rw (turn_not y c s h l e, q, eq-eqb c c refl, e) (ap (λ (j : ℕ). field y (a + j)) (sym q))
      go false e (no q) = rw (turn_not y c s h l e, ne_eqb i c q) refl

  flag_join : (b d t : Bool) (n : ℕ) → ◌≡◌ {A = ℕ} (elim (d && t) [ true ↦ 1 | false ↦ elim (b && t) [ true ↦ 1 | false ↦ n ] ])
      (elim ((b || d) && t) [ true ↦ 1 | false ↦ n ])
  flag_join true true true n = refl
  flag_join true true false n = refl
  flag_join true false true n = refl
  flag_join true false false n = refl
  flag_join false true true n = refl
  flag_join false true false n = refl
  flag_join false false true n = refl
  flag_join false false false n = refl

  pub each_flag : (n c : ℕ) (y : List ℕ) → SameBut a m x y → c₀ ≤ c → c + n ≤ c₀ + n₀ → (i : ℕ)
      → field (each_from f n c y) (a + i) ≡ elim (memberb i (range c n) && t i) [ true ↦ 1 | false ↦ field y (a + i) ]
  unfolding each_from memberb range
  each_flag zero c y s h l i = refl
  each_flag (suc n) c y s h l i =
      each_flag n (suc c) (f y c) (turn_but y c s h (omega arith)) (omega arith) (omega arith) i
      ∙ ap (λ (w : ℕ). elim (memberb i (range (suc c) n) && t i) [ true ↦ 1 | false ↦ w ]) (turn_flag y c i s h (omega arith))
      ∙ flag_join (eqb i c) (memberb i (range (suc c) n)) (t i) (field y (a + i))

-- a scan of numbers in a row
pub some_range : (f : ℕ → Bool) (n e : ℕ) → some_from f n e ≡ anyb f (range e n)
unfolding some_from anyb range
some_range f zero e = refl
some_range f (suc n) e = ap (λ (b : Bool). f e || b) (some_range f n (suc e))

filter_step : (g : ℕ → Bool) (c : ℕ) (l : List ℕ) → length (filterb g (c ∷ l)) ≡ one_if (g c) + length (filterb g l)
unfolding filterb one_if
filter_step g c l = go (g c) refl
  where
    go : (b : Bool) → g c ≡ b → length (filterb g (c ∷ l)) ≡ one_if (g c) + length (filterb g l)
    go true e = rw (e, filterb, one_if) (omega arith)
    go false e = rw (e, filterb, one_if) (omega arith)

-- a loop that adds one to a number of the block at each turn that passes a test
module _ (a m : ℕ) (f : List ℕ → ℕ → List ℕ) (g : ℕ → Bool) (i : ℕ) (x : List ℕ) (c₀ n₀ : ℕ)
    (turn : (y : List ℕ) (c : ℕ) → SameBut a m x y → c₀ ≤ c → c < c₀ + n₀
    → SameBut a m x (f y c) × (field y i + one_if (g c) < 65536 → field (f y c) i ≡ field y i + one_if (g c))) where
  pub each_count : (n c : ℕ) (y : List ℕ) → SameBut a m x y → c₀ ≤ c → c + n ≤ c₀ + n₀
      → field y i + length (filterb g (range c n)) < 65536 → field (each_from f n c y) i ≡ field y i + length (filterb g (range c n))
  unfolding each_from filterb range
  each_count zero c y s h l t = omega arith
  each_count (suc n) c y s h l t =
      let (s', r) = turn y c s h (omega arith) in
      let w : length (filterb g (c ∷ range (suc c) n)) ≡ one_if (g c) + length (filterb g (range (suc c) n)) =
      filter_step g c (range (suc c) n) in
      let t' : field y i + length (filterb g (c ∷ range (suc c) n)) < 65536 = t in
      let r' : field (f y c) i ≡ field y i + one_if (g c) = r (omega (arith, w, t')) in
      let e : field (each_from f n (suc c) (f y c)) i ≡ field (f y c) i + length (filterb g (range (suc c) n)) =
      each_count n (suc c) (f y c) s' (omega arith) (omega arith) (omega (arith, w, t', r')) in
      let z : field (each_from f n (suc c) (f y c)) i ≡ field y i + length (filterb g (c ∷ range (suc c) n)) = omega (arith, w, r', e) in
      z

-- at most one is counted where any two that pass are the same
count_none : (g : ℕ → Bool) (n c : ℕ) → ((i : ℕ) → c ≤ i → i < c + n → g i ≡ false)
    → (length (filterb g (range c n)) ≡ 0) × (anyb g (range c n) ≡ false)
unfolding filterb range anyb
count_none g zero c h = (refl, refl)
count_none g (suc n) c h =
    let (a, b) = count_none g n (suc c) (λ i k l. h i (omega arith) (omega arith)) in
    let e = h c (omega arith) (omega arith) in
    (rw (e, filterb) a, rw (e, anyb) b)

pub count_single : (g : ℕ → Bool) (n c : ℕ)
    → ((i j : ℕ) → c ≤ i → i < c + n → c ≤ j → j < c + n → g i ≡ true → g j ≡ true → i ≡ j)
    → length (filterb g (range c n)) ≡ one_if (anyb g (range c n))
unfolding filterb range anyb one_if
count_single g zero c h = refl
count_single g (suc n) c h =
    go (g c) refl (count_single g n (suc c) (λ i j a b k l. h i j (omega arith) (omega arith) (omega arith) (omega arith)))
  where
    others : g c ≡ true → (i : ℕ) → suc c ≤ i → i < suc c + n → g i ≡ false
    others e i a b = off (g i) refl
      where
        off : (t : Bool) → g i ≡ t → g i ≡ false
        off true q = absurd (omega (arith, h c i (omega arith) (omega arith) (omega arith) (omega arith) e q))
        off false q = q

    go : (b : Bool) → g c ≡ b → length (filterb g (range (suc c) n)) ≡ one_if (anyb g (range (suc c) n))
        → length (filterb g (c ∷ range (suc c) n)) ≡ one_if (anyb g (c ∷ range (suc c) n))
    go true e r = rw (e, filterb, anyb, one_if) (ap suc (count_none g n (suc c) (others e)).0)
    go false e r = rw (e, filterb, anyb) r
