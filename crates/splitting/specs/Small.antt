-- The task of a split table is small: eleven levels, as many cells as the table, and at most six slots for each.
-- Law: small_task, for the bound on the calls.
use Rattle.std.specs.Prelude.{◌≡◌, refl, List}
use Rattle.std.proofs.Common.{◌∙◌}
use Rattle.std.proofs.Math.Path.{ap}
use Prim.Native.Nat.{ℕ, zero, suc, ◌+◌, ◌-◌, ◌*◌, ◌≤◌, ◌<◌, pred}
use Rattle.std.proofs.Math.Decide.{ℕ_discrete, dec_lt}
use Rattle.std.proofs.Math.Nat.{suc-pred-eq_of_pos}
use native.Mathlib.Omega.{arith}
use Rattle.std.proofs.Math.ListN.{length, get_or-eq_default}
use Rattle.base.specs.Range.{length-range}
use Rattle.mesh.specs.Weights.{coarse_cells}
use Rattle.mesh.specs.Table.{Level, levels_of}
use Rattle.lattice.specs.Levels.{no_level}
use Rattle.lineage.specs.Levels.{levels_first}
use Rattle.soundness.specs.Sound.{Sound, lv}
use Rattle.exchange.specs.Finite.{Finite}
use Rattle.rounds.specs.Bound.{sum_to, SmallTask}
use Rattle.splitting.specs.Numbers.{first_zero, numbers_of, at_level}
use Rattle.splitting.specs.Split.{task_of}

sum_six : (f g : ℕ → ℕ) → ((k : ℕ) → f k ≤ 6 * g k) → (m : ℕ) → sum_to f m ≤ 6 * sum_to g m
unfolding sum_to
sum_six f g h zero = omega arith
sum_six f g h (suc m) = omega (arith, h m, sum_six f g h m)

sum_none : (f : ℕ → ℕ) → ((k : ℕ) → f k ≡ 0) → (m : ℕ) → sum_to f m ≡ 0
unfolding sum_to
sum_none f h zero = refl
sum_none f h (suc m) = omega (arith, h m, sum_none f h m)

sum_same : (f g : ℕ → ℕ) → ((k : ℕ) → f k ≡ g k) → (m : ℕ) → sum_to f m ≡ sum_to g m
unfolding sum_to
sum_same f g h zero = refl
sum_same f g h (suc m) = omega (arith, h m, sum_same f g h m)

module _ (n : ℕ) (qs : List (List ℕ)) (ss : List ℕ) (s : Sound n qs ss) where
  abbrev first : ℕ → ℕ
  first k = (lv n qs ss k).first

  abbrev many : ℕ → ℕ
  many k = length (lv n qs ss k).cells

  abbrev top : ℕ
  top = pred (length (levels_of n qs ss))

  next_first : (k : ℕ) → suc k < length (levels_of n qs ss) → first (suc k) ≡ first k + many k
  unfolding levels_of
  next_first k h = levels_first 12 0 (coarse_cells n qs) ss k h

  -- a level ends within the table
  end_below : (k : ℕ) → k < length (levels_of n qs ss) → first k + many k ≤ length ss
  end_below zero h =
      elim (ℕ_discrete (many 0) 0) [
        | no z ↦ omega (arith, (at_level n qs ss s 0 (many 0 - 1) (omega arith)).inside)
        | yes z ↦ omega (arith, first_zero n qs ss h)
      ]
  end_below (suc k) h =
      elim (ℕ_discrete (many (suc k)) 0) [
        | no z ↦ omega (arith, (at_level n qs ss s (suc k) (many (suc k) - 1) (omega arith)).inside)
        | yes z ↦ omega (arith, next_first k h, end_below k (omega arith))
      ]

  -- the levels from the highest down
  sum_down : 0 < length (levels_of n qs ss) → (j : ℕ) → j ≤ top → sum_to (λ i. many (top - i)) (suc j) + first (top - j)
      ≡ first top + many top
  unfolding sum_to
  sum_down g zero h = let z : top - 0 ≡ top = omega arith in rw z (omega arith)
  sum_down g (suc j) h =
      let w : suc top ≡ length (levels_of n qs ss) = suc-pred-eq_of_pos g in
      let z : top - j ≡ suc (top - suc j) = omega arith in
      let e : first (top - j) ≡ first (top - suc j) + many (top - suc j) = ap first z ∙ next_first (top - suc j) (omega arith) in
      omega (arith, sum_down g j (omega arith))

  cells_sum : sum_to (λ i. many (top - i)) (suc top) ≤ length ss
  cells_sum =
      elim (dec_lt 0 (length (levels_of n qs ss))) [
        | yes g ↦
            let w : suc top ≡ length (levels_of n qs ss) = suc-pred-eq_of_pos g in
            omega (arith, sum_down g top (omega arith), end_below top (omega arith))
        | no g ↦ omega (arith, sum_none (λ i. many (top - i)) (λ i. dark (top - i) (omega arith)) (suc top))
      ]
    where
      dark : (k : ℕ) → length (levels_of n qs ss) ≤ k → many k ≡ 0
      dark k h = ap (λ (l : Level). length l.cells) (get_or-eq_default (levels_of n qs ss) no_level {n = k} h)

  module _ {Part : Type 0} (F : Finite Part) (slot : ℕ → ℕ → ℕ) (slots : ℕ → List ℕ) (few : (k : ℕ) → length (slots k)
      ≤ 6 * length (lv n qs ss k).cells)
      (os : List ℕ) (part : ℕ → Part) where
    numbers_many : (k : ℕ) → length (numbers_of n qs ss k) ≡ many k
    unfolding numbers_of
    numbers_many k = length-range (first k) (many k)

    pub small_task : SmallTask F (task_of n qs ss slot slots os part) (length ss)
    small_task =
        let e = sum_same (λ i. length (numbers_of n qs ss (top - i))) (λ i. many (top - i)) (λ i. numbers_many (top - i)) (suc top) in
        record {
          levels = low (length (levels_of n qs ss)) s.high;
          cells = omega (arith, cells_sum);
          slots = omega (arith, cells_sum, sum_six (λ i. length (slots (top - i))) (λ i. many (top - i)) (λ i. few (top - i)) (suc top));
        }
      where
        low : (m : ℕ) → m ≤ 11 → pred m ≤ 10
        low zero h = omega arith
        low (suc m) h = omega arith
