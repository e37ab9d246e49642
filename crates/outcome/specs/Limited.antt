-- What a store holds of a task says that the task is within the limits.
-- Laws, for a store with the columns of a part: limits_of (cells, slots and levels), small_of (at most 4,096 cells, and six slots for
-- each), fitting_of (then every place that a lawful exchange leads to has room).
use Rattle.std.specs.Prelude.{◌≡◌, List, eqb, length}
use Rattle.std.proofs.Common.{sym, ◌∙◌, ap, subst, arith}
use Prim.Native.Nat.{ℕ, zero, suc, ◌+◌, ◌-◌, ◌≤◌, Fin}
use Rattle.base.specs.Limits.{most_cells}
use Rattle.base.specs.Lists.{filterb}
use Rattle.base.specs.Range.{range, length-range, member_range}
use Rattle.exchange.specs.Finite.{parts}
use Rattle.exchange.specs.Lockstep.{local}
use Rattle.exchange.specs.Theorem.{Can}
use Rattle.base.specs.Member.{Member}
use Rattle.rounds.specs.Task.{Task, Fit}
use Rattle.rounds.specs.Rounded.{protocol}
use Rattle.rounds.specs.Upward.{ups}
use Rattle.rounds.specs.Bound.{sum_to, SmallTask}
use Rattle.rounds.specs.Sums.{range_once}
use Rattle.store.specs.Fields.{field, FIRST_CELL, FIRST_SLOT}
use Rattle.standing.specs.Busy.{pack}
use Rattle.merging.specs.Totals.{grown_of}
use Rattle.entering.specs.Columns.{Columns}
use Rattle.entering.specs.Fits.{Fitted}
use Rattle.outcome.specs.Fitting.{Limits, fitting}

-- sizes from where levels begin, from the highest level down
sizes : (top : ℕ) (f g : ℕ → ℕ) → ((k : ℕ) → k ≤ top → f k ≤ f (suc k)) → ((k : ℕ) → k ≤ top → g k ≡ f (suc k) - f k)
    → (n : ℕ) → n ≤ suc top → sum_to (λ i. g (top - i)) n + f (suc top - n) ≡ f (suc top)
unfolding sum_to
sizes top f g rise is zero h = let z : suc top - 0 ≡ suc top = omega arith in omega (arith, ap f z)
sizes top f g rise is (suc n) h =
    let z : suc top - n ≡ suc (top - n) = omega arith in
    let y : suc top - suc n ≡ top - n = omega arith in
    omega (
      arith,
      sizes top f g rise is n (omega arith),
      ap f z,
      ap f y,
      rise (top - n) (omega arith),
      is (top - n) (omega arith),
    )

module _ (P : ℕ) (J : Task (Fin P)) (p : Fin P) (x : List ℕ) (u : Columns P J p x) where
  limits_of : Limits P J
  limits_of = record {
    cells = λ k c m.
        let h = u.no_cells k c m in
        let n : Member c (range (field x (FIRST_CELL + k)) (field x (FIRST_CELL + suc k) - field x (FIRST_CELL + k))) =
        subst (Member c) (u.cells k h) m in
        let (a, b) = member_range (field x (FIRST_CELL + k)) (field x (FIRST_CELL + suc k) - field x (FIRST_CELL + k)) c n in
        omega (arith, b, u.cells_rise k h, u.cells_in (suc k) (omega arith), u.cells_few);
    slots = λ k s h m.
        let n : Member s (range (field x (FIRST_SLOT + k)) (field x (FIRST_SLOT + suc k) - field x (FIRST_SLOT + k))) =
        subst (Member s) (u.slots k h) m in
        let (a, b) = member_range (field x (FIRST_SLOT + k)) (field x (FIRST_SLOT + suc k) - field x (FIRST_SLOT + k)) s n in
        omega (arith, b, u.slots_rise k h, u.slots_in (suc k) (omega arith));
    slots_once = λ k s h.
        subst (λ (l : List ℕ). length (filterb (eqb s) l) ≤ 1) (sym (u.slots k h))
        (range_once (field x (FIRST_SLOT + k)) (field x (FIRST_SLOT + suc k) - field x (FIRST_SLOT + k)) s);
    no_cells = u.no_cells;
    paths = λ k c m. let w = u.paths k c m in ap length w.is ∙ ap suc w.deep;
  }

  small_of : SmallTask (parts P) J most_cells
  small_of = record {
    levels = omega (arith, u.levels_few);
    cells =
        let z : suc J.top - suc J.top ≡ 0 = omega arith in
        omega (
          arith,
          sizes J.top (λ k. field x (FIRST_CELL + k)) (λ k. length (J.cells k)) u.cells_rise
              (λ k h. ap length (u.cells k h)
              ∙ length-range (field x (FIRST_CELL + k)) (field x (FIRST_CELL + suc k) - field x (FIRST_CELL + k)))
              (suc J.top) (omega arith),
          ap (λ (k : ℕ). field x (FIRST_CELL + k)) z,
          u.first_cell,
          u.last_cell,
          u.cells_few,
        );
    slots =
        let z : suc J.top - suc J.top ≡ 0 = omega arith in
        omega (
          arith,
          sizes J.top (λ k. field x (FIRST_SLOT + k)) (λ k. length (J.slots k)) u.slots_rise
              (λ k h. ap length (u.slots k h)
              ∙ length-range (field x (FIRST_SLOT + k)) (field x (FIRST_SLOT + suc k) - field x (FIRST_SLOT + k)))
              (suc J.top) (omega arith),
          ap (λ (k : ℕ). field x (FIRST_SLOT + k)) z,
          u.first_slot,
          u.slots_in (suc J.top) (omega arith),
        );
  }

  pub fitting_of : Fit J → {In : Type 0} (reads : Fin P → In → ℕ → ℕ) (input : Fin P → In)
      → (q : Fin P) (r : ℕ) (n : Fin P → ℕ) (f : ℕ)
      → Can (parts P) (protocol (parts P) J (grown_of (parts P) J) (ups P) (pack P J) reads) input q r n f
      → Fitted P J q (local (parts P) (protocol (parts P) J (grown_of (parts P) J) (ups P) (pack P J) reads) input q r n f)
  fitting_of fit reads input = fitting P J fit limits_of most_cells small_of (omega arith) reads input
