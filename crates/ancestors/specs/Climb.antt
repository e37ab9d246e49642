-- The way from a cell to its coarse ancestor, in a table of rows of eight numbers: column 0 is the level, column 1 the parent.
--   level_in t k, parent_in t k   what the row k says
--   ancestor c l                the coarse cell c, l turns away
--   climb_from t f c             from the cell c to its parent, and on, until a cell has none: that cell and the turns to it, f at most
--   Upward t n                  the table has n rows, and each parent comes before its child
-- Laws: climb_here, climb_up (a turn), parents_decide (no column but the parents' is looked at), upward_to.
use Rattle.std.specs.Prelude.{◌≡◌, refl, true, false, List, ℕ, zero, suc, ◌+◌, ◌*◌, ◌≤◌, ◌<◌, eqb, length, get_or}
use Rattle.std.proofs.Common.{◌∙◌, ap, ap₂, arith, eq-eqb, ne_eqb}
use Rattle.mesh.specs.Cells.{none}
use Rattle.ancestors.specs.declared.Ancestor.{Ancestor}

-- Rule 9.2: the level in a row.
abbrev pub level_in : List ℕ → ℕ → ℕ
level_in t k = get_or t (8 * k) 0

-- Rule 9.2: the parent in a row; a coarse cell has none.
abbrev pub parent_in : List ℕ → ℕ → ℕ
parent_in t k = get_or t (8 * k + 1) 0

abbrev pub ancestor : ℕ → ℕ → Ancestor
ancestor c l = record { coarse = c; level = l }

-- the same coarse cell, from one turn before
abbrev pub raised : Ancestor → Ancestor
raised a = ancestor a.coarse (suc a.level)

-- Rule 3.5: from parent to parent, until a cell has none, and the number of turns.
unfoldable pub climb_from : List ℕ → ℕ → ℕ → Ancestor
climb_from t zero c = ancestor c 0
climb_from t (suc f) c = elim (eqb (parent_in t c) none) [ true ↦ ancestor c 0 | false ↦ raised (climb_from t f (parent_in t c)) ]

pub climb_here : (t : List ℕ) (f c : ℕ) → parent_in t c ≡ none → climb_from t f c ≡ ancestor c 0
unfolding climb_from
climb_here t zero c e = refl
climb_here t (suc f) c e = rw (eq-eqb (parent_in t c) none e, climb_from)

pub climb_up : (t : List ℕ) (f c : ℕ) → (parent_in t c ≡ none → ⊥) → climb_from t (suc f) c ≡ raised (climb_from t f (parent_in t c))
unfolding climb_from
climb_up t f c e = rw (ne_eqb (parent_in t c) none e, climb_from)

-- Rule 3.5: tables with the same parents have the same climbs, whatever their levels say.
pub parents_decide : (t u : List ℕ) → ((k : ℕ) → parent_in t k ≡ parent_in u k) → (f c : ℕ) → climb_from t f c ≡ climb_from u f c
unfolding climb_from
parents_decide t u e zero c = refl
parents_decide t u e (suc f) c =
    ap₂ (λ (p : ℕ) (a : Ancestor). elim (eqb p none) [ true ↦ ancestor c 0 | false ↦ raised a ]) (e c)
    (ap (climb_from t f) (e c) ∙ parents_decide t u e f (parent_in u c))

-- Rules 3.2, 9.2: parents come before their children.
pub record Upward (t : List ℕ) (n : ℕ) : Type 0 where
  pub long : 8 * n ≤ length t
  pub up : (k : ℕ) → k < n → (parent_in t k ≡ none → ⊥) → parent_in t k < k

pub upward_to : {t : List ℕ} {n : ℕ} → Upward t n → (c : ℕ) → c < n → Upward t (c + 1)
upward_to u c h = record { long = omega (arith, u.long); up = λ k g. u.up k (omega arith) }
