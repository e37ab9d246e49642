-- The loop to the coarse ancestor: what is left of the way leads to the same ancestor, and a turn leaves one turn less.
-- Assumes nothing.
use mathlib.Core.Path.{◌≡◌, sym, ◌∙◌, ap, ap₂}
use mathlib.Core.List.{List}
use Prim.Native.Nat.{ℕ, suc, ◌+◌, ◌-◌, ◌≤◌, ◌<◌}
use native.Mathlib.Omega.{arith}
use Rattle.mesh.specs.Cells.{none}
use Rattle.ancestors.specs.declared.Ancestor.{Ancestor}
use Rattle.ancestors.specs.Climb.{parent_in, ancestor, raised, climb_from, climb_here, climb_up, Upward}

-- at the cell `at`, after `turns` turns
pub record On (t : List ℕ) (c at turns : ℕ) : Type 0 where
  pub near : at + turns ≤ c
  pub same : (climb_from t (c - turns) at).coarse ≡ (climb_from t c c).coarse
  pub count : turns + (climb_from t (c - turns) at).level ≡ (climb_from t c c).level

pub on_first : (t : List ℕ) (c : ℕ) → On t c c 0
on_first t c = let e : c - 0 ≡ c = omega arith in record { near = omega arith; same = rw e; count = rw e (omega arith) }

module _ {t : List ℕ} {c at turns : ℕ} (o : On t c at turns) where
  pub on_next : Upward t (c + 1) → (parent_in t at ≡ none → ⊥) → On t c (parent_in t at) (turns + 1)
  on_next u h =
      let p : parent_in t at < at = u.up at (omega (arith, o.near)) h in
      let f : c - turns ≡ suc (c - (turns + 1)) = omega (arith, o.near, p) in
      let e : climb_from t (c - turns) at ≡ raised (climb_from t (c - (turns + 1)) (parent_in t at)) = rw f
      (climb_up t (c - (turns + 1)) at h) in
      record {
        near = omega (arith, o.near, p);
        same = sym (ap (λ (a : Ancestor). a.coarse) e) ∙ o.same;
        count = omega (arith, o.count, ap (λ (a : Ancestor). a.level) e);
      }

  pub on_end : parent_in t at ≡ none → ancestor at turns ≡ climb_from t c c
  on_end e =
      let w : climb_from t (c - turns) at ≡ ancestor at 0 = climb_here t (c - turns) at e in
      let a : at ≡ (climb_from t c c).coarse = sym (ap (λ (a : Ancestor). a.coarse) w) ∙ o.same in
      let b : turns ≡ (climb_from t c c).level = omega (arith, o.count, ap (λ (a : Ancestor). a.level) w) in
      ap₂ ancestor a b
