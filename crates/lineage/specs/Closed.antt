-- The statuses that the step gives a level close it.
--   Owned cs os   as many old numbers as cells, and none for a cell that is not regular
-- Laws: owned_start (the coarse level), owned_next (one level up), closed_by_lem (the level is closed).
use Rattle.std.specs.Prelude.{◌≡◌, Bool, length, get_or}
use Rattle.std.proofs.Math.Path.{refl, sym, ap₂}
use Rattle.std.proofs.Common.{◌∙◌, ap, arith, eq-eqb, ne_eqb}
use Rattle.std.proofs.Math.Bool.{true, false}
use mathlib.Core.List.{List, [], ◌∷◌, ◌++◌, map}
use Prim.Native.Nat.{ℕ, zero, suc, ◌+◌, ◌≤◌, ◌<◌}
use Rattle.std.proofs.Math.Dec.{eqb}
use Rattle.std.proofs.Math.ListN.{length-append, get_or-eq_default}
use Rattle.base.specs.Lists.{sameb}
use Rattle.base.specs.Bools.{not_both}
use Rattle.cutting.specs.Rule.{family}
use Rattle.mesh.specs.Cells.{Cell, none, redb, pattern_of, edges, red_edges, pattern, status_of, closed_from, children, children_from}
use Rattle.mesh.specs.Weights.{Point, point, coarse_from, coarse_cells}
use Rattle.mesh.specs.Table.{next, size_of}
use Rattle.mesh.specs.Laws.{pattern_small, length-coarse}
use Rattle.numbering.specs.Refined.{Both}
use Rattle.rows.specs.Many.{length-children}
use Rattle.lineage.specs.Paths.{length_upto}
use Rattle.lineage.specs.Same.{both_append, length-olds_of}
use Rattle.lineage.specs.Levels.{length-reds_by}
use Rattle.lineage.specs.Olds.{flag_of, olds_of, olds_next, old_child, up_to, reds_by, closed_by, statuses_by}

pub record Owned (cs : List (Cell Point)) (os : List ℕ) : Type 0 where
  pub many : length os ≡ length cs
  pub each : Both (λ c o. c.regular ≡ false → o ≡ none) cs os

coarse_owned : (n i : ℕ) (qs : List (List ℕ)) (os : List ℕ) → Both (λ c o. c.regular ≡ false → o ≡ none) (coarse_from n i qs) os
unfolding coarse_from
coarse_owned n i [] os = tt
coarse_owned n i (q ∷ qs) [] = tt
coarse_owned n i (q ∷ qs) (o ∷ os) = (λ e. not_both true refl e, coarse_owned n (suc i) qs os)

pub owned_start : (n : ℕ) (qs : List (List ℕ)) → Owned (coarse_cells n qs) (up_to (length qs))
unfolding coarse_cells
owned_start n qs =
    record { many = length_upto (length qs) ∙ sym (length-coarse n qs); each = coarse_owned n 0 qs (up_to (length qs)) }

-- One level up: a family has as many old numbers as cells, and none of them where it is not regular.
from_owned : (k : ℕ) (c : Cell Point) (r : Bool) (f : ℕ → Point) (i : ℕ) (ds : List (List ℕ)) (os : List ℕ)
    → (r ≡ false → (j : ℕ) → j < length os → get_or os j none ≡ none)
    → Both (λ c o. c.regular ≡ false → o ≡ none) (children_from k c r f i ds) os
unfolding children_from
from_owned k c r f i [] os h = tt
from_owned k c r f i (d ∷ ds) [] h = tt
from_owned k c r f i (d ∷ ds) (o ∷ os) h = (λ e. h e 0 (omega arith), from_owned k c r f (suc i) ds os (λ e j l. h e (suc j) (omega arith)))

module _ (m : ℕ) (ss : List ℕ) where
  -- the old numbers of a family that is not red
  all_none : (t o : ℕ) → redb t ≡ false → (l : List ℕ) (j : ℕ)
      → get_or (map (λ i. elim (redb t) [ true ↦ old_child m ss o i | false ↦ none ]) l) j none ≡ none
  all_none t o e [] j = refl
  all_none t o e (x ∷ l) zero = rw e
  all_none t o e (x ∷ l) (suc j) = all_none t o e l j

  family_owned : (k : ℕ) (c : Cell Point) (t o : ℕ) → Both (λ c o. c.regular ≡ false → o ≡ none) (children k c t (point c))
      (olds_of m ss t o)
  unfolding children olds_of
  family_owned k c t o = go (eqb t 0) refl
    where
      go : (b : Bool) → eqb t 0 ≡ b → Both (λ c o. c.regular ≡ false → o ≡ none) (children k c t (point c)) (olds_of m ss t o)
      go true e = rw (e, children) tt
      go false e =
          rw (e, children) (from_owned k c (redb t) (point c) 0 (family (pattern_of t)) (olds_of m ss t o)
          (λ u j l. all_none t o u (up_to (size_of t)) j))

  next_each : (k : ℕ) (cs : List (Cell Point)) (ts os : List ℕ) → Both (λ c o. c.regular ≡ false → o ≡ none) (next k cs ts)
      (olds_next m ss ts os)
  unfolding next olds_next
  next_each k [] ts os = tt
  next_each k (c ∷ cs) [] os = tt
  next_each k (c ∷ cs) (t ∷ ts) [] = no_both (children k c t (point c) ++ next (suc k) cs ts)
    where
      no_both : (l : List (Cell Point)) → Both (λ c o. c.regular ≡ false → o ≡ none) l []
      no_both [] = tt
      no_both (x ∷ l) = tt
  next_each k (c ∷ cs) (t ∷ ts) (o ∷ os) =
      both_append (λ c o. c.regular ≡ false → o ≡ none) (children k c t (point c)) (next (suc k) cs ts) (olds_of m ss t o)
      (olds_next m ss ts os)
      (length-olds_of m ss t o ∙ sym (length-children k c t (point c))) (family_owned k c t o) (next_each (suc k) cs ts os)

  next_many : (k : ℕ) (cs : List (Cell Point)) (ts os : List ℕ) → length os ≡ length cs
      → length (olds_next m ss ts os) ≡ length (next k cs ts)
  unfolding next olds_next
  next_many k [] [] os e = refl
  next_many k [] (t ∷ ts) [] e = refl
  next_many k [] (t ∷ ts) (o ∷ os) e = absurd (omega arith)
  next_many k (c ∷ cs) [] os e = refl
  next_many k (c ∷ cs) (t ∷ ts) [] e = absurd (omega arith)
  next_many k (c ∷ cs) (t ∷ ts) (o ∷ os) e =
      length-append (olds_of m ss t o) (olds_next m ss ts os)
      ∙ ap₂ ◌+◌ (length-olds_of m ss t o ∙ sym (length-children k c t (point c))) (next_many (suc k) cs ts os (omega arith))
      ∙ sym (length-append (children k c t (point c)) (next (suc k) cs ts))

  pub owned_next : (k : ℕ) (cs : List (Cell Point)) (ts os : List ℕ) → Owned cs os → Owned (next k cs ts) (olds_next m ss ts os)
  owned_next k cs ts os w = record { many = next_many k cs ts os w.many; each = next_each k cs ts os }

-- a flag stands at regular cells alone
abbrev Flagged : List (Cell Point) → List ℕ → Type 0
Flagged cs rs = Both (λ c r. c.regular ≡ false → redb r ≡ false) cs rs

red_status : (es : List (Point × Point)) (r : ℕ) (c : Cell Point) → (c.regular ≡ false → redb r ≡ false)
    → redb (status_of [] sameb es (redb r) c) ≡ redb r
unfolding status_of
red_status es r c h = go c.regular refl (redb r) refl
  where
    go : (b : Bool) → c.regular ≡ b → (d : Bool) → redb r ≡ d → redb (status_of [] sameb es (redb r) c) ≡ redb r
    go true e true f = rw (e, f, status_of)
    go true e false f = rw (e, f, status_of) (ne_eqb (pattern [] sameb es c) 64 (λ x. omega (arith, pattern_small [] sameb es c)))
    go false e d f = rw (e, h e, status_of)

red_edges_one : (c : Cell Point) (cs : List (Cell Point)) (s t : ℕ) (ss ts : List ℕ) → redb s ≡ redb t
    → red_edges [] cs ss ≡ red_edges [] cs ts
    → red_edges [] (c ∷ cs) (s ∷ ss) ≡ red_edges [] (c ∷ cs) (t ∷ ts)
unfolding red_edges
red_edges_one c cs s t ss ts e i = go (redb t) refl
  where
    go : (b : Bool) → redb t ≡ b → red_edges [] (c ∷ cs) (s ∷ ss) ≡ red_edges [] (c ∷ cs) (t ∷ ts)
    go true f = rw (e ∙ f, f, red_edges) (ap (λ (l : List (Point × Point)). edges [] c ++ l) i)
    go false f = rw (e ∙ f, f, red_edges) i

reds_closed : (es : List (Point × Point)) (cs : List (Cell Point)) (rs : List ℕ) → Flagged cs rs
    → red_edges [] cs (closed_by es cs rs) ≡ red_edges [] cs rs
unfolding closed_by red_edges
reds_closed es [] rs h = refl
reds_closed es (c ∷ cs) [] h = refl
reds_closed es (c ∷ cs) (r ∷ rs) h =
    red_edges_one c cs (status_of [] sameb es (redb r) c) r (closed_by es cs rs) rs (red_status es r c h.0) (reds_closed es cs rs h.1)

closed_from_lem : (es : List (Point × Point)) (cs : List (Cell Point)) (rs : List ℕ) → length rs ≡ length cs → Flagged cs rs
    → closed_from [] sameb es cs (closed_by es cs rs) ≡ true
unfolding closed_by closed_from
closed_from_lem es [] rs e h = refl
closed_from_lem es (c ∷ cs) [] e h = absurd (omega arith)
closed_from_lem es (c ∷ cs) (r ∷ rs) e h =
    let s = status_of [] sameb es (redb r) c in
    rw (red_status es r c h.0, eq-eqb s s refl) (closed_from_lem es cs rs (omega arith) h.1)

module _ (fs : List ℕ) (small : length fs ≤ 65535) where
  flagged : (cs : List (Cell Point)) (os : List ℕ) → Both (λ c o. c.regular ≡ false → o ≡ none) cs os → Flagged cs (reds_by fs os)
  unfolding reds_by flag_of
  flagged [] os h = tt
  flagged (c ∷ cs) [] h = tt
  flagged (c ∷ cs) (o ∷ os) h = (λ e. rw (h.0 e, get_or-eq_default fs 0 small) refl, flagged cs os h.1)

  module _ (cs : List (Cell Point)) (os : List ℕ) (w : Owned cs os) where
    reds_same : red_edges [] cs (statuses_by fs cs os) ≡ red_edges [] cs (reds_by fs os)
    unfolding statuses_by
    reds_same = reds_closed (red_edges [] cs (reds_by fs os)) cs (reds_by fs os) (flagged cs os w.each)

    pub closed_by_lem : closed_from [] sameb (red_edges [] cs (statuses_by fs cs os)) cs (statuses_by fs cs os) ≡ true
    unfolding statuses_by
    closed_by_lem = rw reds_same (closed_from_lem (red_edges [] cs (reds_by fs os)) cs (reds_by fs os) (length-reds_by fs os ∙ w.many)
        (flagged cs os w.each))
