-- Statuses as the rules give them: 0 to 64, and other than 0 for regular cells alone.
--   Both P cs ss    P holds of each cell of cs with its status in ss
--   Follows c s     s may be the status of c
--   Refined cs ss   so for each cell
-- Laws: status-refined (a level that a step makes), closed_follows and closed_refined (a closed level), refined_red,
-- pattern-in-six (the pattern of a cell).
use Rattle.std.specs.Prelude.{◌≡◌, ◌≢◌, Bool, ℕ, ◌≤◌, T, eqb}
use Rattle.std.proofs.Math.Path.{refl}
use Rattle.std.proofs.Math.Bool.{true, false}
use mathlib.Core.List.{List, [], ◌∷◌}
use Rattle.std.proofs.Common.{arith}
use Rattle.std.proofs.Math.Dec.{eqb→eq}
use Rattle.base.specs.Bools.{and_left, and_right}
use Rattle.base.specs.Lists.{sameb}
use Rattle.mesh.specs.Cells.{Cell, redb, status_of, closed_from, red_edges}
use Rattle.mesh.specs.Weights.{Point}
use Rattle.mesh.specs.Table.{Level, closedb}
use Rattle.mesh.specs.Laws.{pattern_small}
use Rattle.lattice.specs.Levels.{RedRegular}

abbrev pub Both : {A : Type 0} → (Cell A → ℕ → Type 0) → List (Cell A) → List ℕ → Type 0
Both P [] ss = Unit {0}
Both P (c ∷ cs) [] = Unit {0}
Both P (c ∷ cs) (s ∷ ss) = P c s × Both P cs ss

-- Rules 4.1, 4.2: s may be the status of c: at most 64, and 0 where c is not regular.
pub record Follows {A : Type 0} (c : Cell A) (s : ℕ) : Type 0 where
  pub small : s ≤ 64
  pub regular : s ≢ 0 → T c.regular

abbrev pub Refined : {A : Type 0} → List (Cell A) → List ℕ → Type 0
Refined cs ss = Both Follows cs ss

pub refined_red : (cs : List (Cell Point)) (ss : List ℕ) → Refined cs ss → RedRegular cs ss
refined_red [] ss r = tt
refined_red (c ∷ cs) [] r = tt
refined_red (c ∷ cs) (s ∷ ss) r = (λ e. r.0.regular (λ z. omega arith), refined_red cs ss r.1)

module _ {A : Type 0} (o : A) (same : A → A → Bool) (es : List (A × A)) where
  pub status_follows : (r : Bool) (c : Cell A) → Follows c (status_of o same es r c)
  unfolding status_of
  status_follows r c = go c.regular refl r
    where
      go : (b : Bool) → c.regular ≡ b → (r : Bool) → Follows c (status_of o same es r c)
      go true e true = rw (e, status_of) (record { small = omega arith; regular = λ z. tt })
      go true e false = rw (e, status_of) (record { small = omega (arith, pattern_small o same es c); regular = λ z. tt })
      go false e r = rw (e, status_of) (record { small = omega arith; regular = λ z. absurd (z refl) })

  pub closed_follows : (cs : List (Cell A)) (ss : List ℕ) → T (closed_from o same es cs ss) → Refined cs ss
  unfolding closed_from
  closed_follows [] ss t = tt
  closed_follows (c ∷ cs) [] t = tt
  closed_follows (c ∷ cs) (s ∷ ss) t =
      let x = status_of o same es (redb s) c in
      let e : s ≡ x = eqb→eq s x (and_left (eqb s x) (closed_from o same es cs ss) t) in
      (rw e (status_follows (redb s) c), closed_follows cs ss (and_right (eqb s x) (closed_from o same es cs ss) t))

pub closed_refined : (l : Level) → T (closedb l) → Refined l.cells l.statuses
unfolding closedb
closed_refined l t = closed_follows [] sameb (red_edges [] l.cells l.statuses) l.cells l.statuses t
