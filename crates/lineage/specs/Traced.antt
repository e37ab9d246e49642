-- The old numbers of the new cells, level by level, and the flags of the old ones.
--   Traced fs l l'   the old numbers of the cells of the new level l', where l is the old level and fs are the flags
-- Laws: red_status (which cells are red), flagged_at, up_at and traced_at (each level), length-grow (at most so many levels).
use Rattle.std.specs.Prelude.{◌≡◌, Bool, true, false, T, get_or, drop}
use Rattle.std.proofs.Math.Path.{refl, ap, subst}
use Rattle.std.proofs.Common.{sym, ◌∙◌, inl, inr, arith, ne_eqb}
use mathlib.Core.List.{List, [], ◌∷◌}
use Prim.Native.Nat.{ℕ, zero, suc, ◌+◌, ◌≤◌, ◌<◌}
use Rattle.std.proofs.Math.ListN.{length, take}
use Rattle.base.specs.Bools.{is_true}
use Rattle.base.specs.Limits.{most_cells}
use Rattle.base.specs.Lists.{sameb}
use Rattle.mesh.specs.Cells.{Cell, redb, pattern, red_edges, status_of, no_cell}
use Rattle.mesh.specs.Weights.{Point}
use Rattle.mesh.specs.Table.{Level, next, levels}
use Rattle.mesh.specs.Laws.{pattern_small}
use Rattle.base.specs.Every.{get_d_map}
use Rattle.lattice.specs.Levels.{no_level}
use Rattle.numbering.specs.Refined.{Both, refined_red}
use Rattle.numbering.specs.Leaves.{leaf_next}
use Rattle.lineage.specs.Olds.{flag_of, olds_next, reds_by, closed_by, statuses_by}
use Rattle.lineage.specs.Same.{Old, Up, both_more, olds_next_lem}
use Rattle.lineage.specs.Levels.{grow_levels, here, length-reds_by, length_up}
use Rattle.lineage.specs.Flags.{FlaggedLevel, flag_red}
use Rattle.lineage.specs.Rest.{Rest, rest_next, rest_up, rest_flagged}
use Rattle.lineage.specs.Step.{Dark, refined_statuses, no_reds, dark_empty}

pub record Traced (fs : List ℕ) (l l' : Level) : Type 0 where
  pub os : List ℕ
  pub many : length os ≡ length l'.cells
  pub olds : Both (Old l) l'.cells os
  pub statuses : l'.statuses ≡ statuses_by fs l'.cells os

-- which cells are red
status_redb : (es : List (Point × Point)) (r : Bool) (c : Cell Point) → T c.regular → redb (status_of [] sameb es r c) ≡ r
unfolding status_of
status_redb es true c t = rw (is_true c.regular t, status_of) refl
status_redb es false c t = rw (is_true c.regular t, status_of)
    (ne_eqb (pattern [] sameb es c) 64 (λ e. omega (arith, pattern_small [] sameb es c)))

closed_at : (es : List (Point × Point)) (cs : List (Cell Point)) (rs : List ℕ) → length rs ≡ length cs → (i : ℕ) → i < length cs
    → get_or (closed_by es cs rs) i 0 ≡ status_of [] sameb es (redb (get_or rs i 0)) (get_or cs i no_cell)
unfolding closed_by
closed_at es [] rs e i h = absurd (omega arith)
closed_at es (c ∷ cs) [] e i h = absurd (omega arith)
closed_at es (c ∷ cs) (r ∷ rs) e zero h = refl
closed_at es (c ∷ cs) (r ∷ rs) e (suc i) h = closed_at es cs rs (omega arith) i (omega arith)

reds_at_lem : (fs os : List ℕ) (i : ℕ) → i < length os → redb (get_or (reds_by fs os) i 0) ≡ redb (get_or fs (get_or os i 0) 0)
unfolding reds_by
reds_at_lem fs os i h = ap redb (get_d_map (λ o. flag_of (redb (get_or fs o 0))) os i 0 0 h) ∙ flag_red (redb (get_or fs (get_or os i 0) 0))

pub red_status : (fs : List ℕ) (cs : List (Cell Point)) (os : List ℕ) → length os ≡ length cs → (i : ℕ) → i < length cs
    → T (get_or cs i no_cell).regular
    → redb (get_or (statuses_by fs cs os) i 0) ≡ redb (get_or fs (get_or os i 0) 0)
unfolding statuses_by
red_status fs cs os e i h t =
    ap redb (closed_at (red_edges [] cs (reds_by fs os)) cs (reds_by fs os) (length-reds_by fs os ∙ e) i h)
    ∙ status_redb (red_edges [] cs (reds_by fs os)) (redb (get_or (reds_by fs os) i 0)) (get_or cs i no_cell) t ∙ reds_at_lem fs os i (omega arith)

-- each level
flagged_none : (fs ms : List ℕ) (ls : List Level) → length fs ≤ most_cells → FlaggedLevel fs ms ls no_level
flagged_none fs ms ls h =
    record {
      known = refl;
      paths = λ t u ht hu e. absurd (omega arith);
      follows = λ t l. absurd (omega arith);
      flag = λ t l. absurd (omega arith);
      small = h;
    }

traced_none : (fs : List ℕ) (l : Level) → Traced fs l no_level
unfolding statuses_by closed_by
traced_none fs l = record { os = []; many = refl; olds = tt; statuses = refl }

grow_none : (m : ℕ) (ss fs : List ℕ) (h k : ℕ) (os : List ℕ) → grow_levels m ss fs h k [] os ≡ []
unfolding grow_levels
grow_none m ss fs zero k os = refl
grow_none m ss fs (suc h) k os = refl

-- the first of some levels
levels_here : (h k : ℕ) (cs : List (Cell Point)) (rs : List ℕ) → 0 < length (get_or (levels h k cs rs) 0 no_level).cells
    → get_or (levels h k cs rs) 0 no_level ≡ here k cs rs
unfolding levels
levels_here zero k cs rs l = absurd (omega arith)
levels_here (suc h) k [] rs l = absurd (omega arith)
levels_here (suc h) k (c ∷ cs) rs l = refl

module _ (m : ℕ) (ss fs ms : List ℕ) where
  pub flagged_at : (h k : ℕ) (cs : List (Cell Point)) (rs : List ℕ) → Rest m ss fs ms h k cs rs → (j : ℕ)
      → FlaggedLevel fs ms (drop (suc j) (levels h k cs rs)) (get_or (levels h k cs rs) j no_level)
  unfolding levels
  flagged_at zero k cs rs r j = absurd (omega (arith, r.high))
  flagged_at (suc h) k [] rs r j = flagged_none fs ms [] r.small
  flagged_at (suc h) k (c ∷ cs) rs r zero = rest_flagged m ss fs ms h k c cs rs r
  flagged_at (suc h) k (c ∷ cs) rs r (suc j) =
      flagged_at h (k + length (c ∷ cs)) (next k (c ∷ cs) (take (length (c ∷ cs)) rs)) (drop (length (c ∷ cs)) rs)
      (rest_next m ss fs ms h k c cs rs r) j

  pub up_at : (h k : ℕ) (cs : List (Cell Point)) (rs : List ℕ) → Rest m ss fs ms h k cs rs → (j : ℕ)
      → 0 < length (get_or (levels h k cs rs) (suc j) no_level).cells
      → Up m ss (get_or (levels h k cs rs) j no_level) (get_or (levels h k cs rs) (suc j) no_level)
  unfolding levels
  up_at zero k cs rs r j l = absurd (omega (arith, r.high))
  up_at (suc h) k [] rs r j l = absurd (omega arith)
  up_at (suc h) k (c ∷ cs) rs r zero l =
      let own = take (length (c ∷ cs)) rs in
      rw (levels_here h (k + length (c ∷ cs)) (next k (c ∷ cs) own) (drop (length (c ∷ cs)) rs) l) (rest_up m ss fs ms h k c cs rs r)
  up_at (suc h) k (c ∷ cs) rs r (suc j) l =
      up_at h (k + length (c ∷ cs)) (next k (c ∷ cs) (take (length (c ∷ cs)) rs)) (drop (length (c ∷ cs)) rs)
      (rest_next m ss fs ms h k c cs rs r) j l

  old_empty : (l : Level) → l.cells ≡ [] → (c : Cell Point) (o : ℕ) → Old l c o → Old no_level c o
  old_empty l z c o (inl (t, e, r, is)) = absurd (omega (arith, is.below, ap length z))
  old_empty l z c o (inr (e, f)) = inr (e, λ r t h. absurd (omega arith))

  traced_top : length fs ≤ most_cells → (h : ℕ) (l : Level) → l.cells ≡ [] → (k : ℕ) (ds : List (Cell Point)) (os : List ℕ)
      → length os ≡ length ds → Both (Old l) ds os
      → (j : ℕ) → Traced fs no_level (get_or (grow_levels m ss fs (suc h) k ds os) j no_level)
  unfolding grow_levels
  traced_top s h l z k [] os e b j = traced_none fs no_level
  traced_top s h l z k (d ∷ ds) os e b zero =
      record { os = os; many = e; olds = both_more (Old l) (Old no_level) (old_empty l z) (d ∷ ds) os b; statuses = refl }
  traced_top s h l z k (d ∷ ds) os e b (suc j) =
      let ts = statuses_by fs (d ∷ ds) os in
      let n : next k (d ∷ ds) ts ≡ [] = leaf_next k (d ∷ ds) ts
      (no_reds fs (d ∷ ds) os (both_more (Old l) (Dark fs) (dark_empty m ss fs ms s l z) (d ∷ ds) os b)) in
      let g : grow_levels m ss fs h (k + length (d ∷ ds)) (next k (d ∷ ds) ts) (olds_next m ss ts os) ≡ [] =
      ap (λ (x : List (Cell Point)). grow_levels m ss fs h (k + length (d ∷ ds)) x (olds_next m ss ts os)) n
      ∙ grow_none m ss fs h (k + length (d ∷ ds)) (olds_next m ss ts os) in
      subst (λ (x : List Level). Traced fs no_level (get_or x j no_level)) (sym g) (traced_none fs no_level)

  pub traced_at : (h i : ℕ) (cs : List (Cell Point)) (rs : List ℕ) → Rest m ss fs ms h i cs rs
      → (k : ℕ) (ds : List (Cell Point)) (os : List ℕ) → length os ≡ length ds
      → Both (Old (here i cs rs)) ds os → (j : ℕ)
      → Traced fs (get_or (levels h i cs rs) j no_level) (get_or (grow_levels m ss fs h k ds os) j no_level)
  unfolding levels grow_levels
  traced_at zero i cs rs r k ds os e b j = absurd (omega (arith, r.high))
  traced_at (suc h) i [] rs r k ds os e b j = traced_top r.small h (here i [] rs) refl k ds os e b j
  traced_at (suc h) i (c ∷ cs) rs r k [] os e b j = traced_none fs (get_or (levels (suc h) i (c ∷ cs) rs) j no_level)
  traced_at (suc h) i (c ∷ cs) rs r k (d ∷ ds) os e b zero = record { os = os; many = e; olds = b; statuses = refl }
  traced_at (suc h) i (c ∷ cs) rs r k (d ∷ ds) os e b (suc j) =
      let own = take (length (c ∷ cs)) rs in
      let ts = statuses_by fs (d ∷ ds) os in
      traced_at h (i + length (c ∷ cs)) (next i (c ∷ cs) own) (drop (length (c ∷ cs)) rs) (rest_next m ss fs ms h i c cs rs r)
      (k + length (d ∷ ds)) (next k (d ∷ ds) ts)
      (olds_next m ss ts os) (length_up m ss fs k (d ∷ ds) os e)
      (olds_next_lem m ss (here i (c ∷ cs) rs) (here (i + length (c ∷ cs)) (next i (c ∷ cs) own) (drop (length (c ∷ cs)) rs))
      (rest_up m ss fs ms h i c cs rs r) k (d ∷ ds) ts os
      (refined_red (d ∷ ds) ts (refined_statuses fs (d ∷ ds) os)) b) j

-- at most so many levels
pub length-grow : (m : ℕ) (ss fs : List ℕ) (h k : ℕ) (cs : List (Cell Point)) (os : List ℕ) → length (grow_levels m ss fs h k cs os) ≤ h
unfolding grow_levels
length-grow m ss fs zero k cs os = omega arith
length-grow m ss fs (suc h) k [] os = omega arith
length-grow m ss fs (suc h) k (c ∷ cs) os =
    let ts = statuses_by fs (c ∷ cs) os in
    omega (arith, length-grow m ss fs h (k + length (c ∷ cs)) (next k (c ∷ cs) ts) (olds_next m ss ts os))
