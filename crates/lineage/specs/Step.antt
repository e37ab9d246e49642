-- The step by old numbers is the step of rules 7.2 to 7.7.
--   Agrees reds fs c o   c is among the new red cells reds where its old number o has a flag in fs
--   Dark fs c o          the old number o has no flag
-- Laws: olds_many and olds_start (the coarse cells' old numbers), statuses_same (the statuses of a level), refined_statuses, no_reds
-- (a level without red cells has leaves alone), grow_nothing and dark_empty (above the highest levels), step_by_lem (the theorem).
use Rattle.std.specs.Prelude.{◌≡◌, Bool, T, get_or, drop}
use Rattle.std.proofs.Math.Path.{refl, sym, ap, ap₂}
use Rattle.std.proofs.Common.{◌∙◌, inl, inr, arith}
use Rattle.std.proofs.Math.Bool.{true, false}
use mathlib.Core.List.{List, [], ◌∷◌, ◌++◌, map}
use Prim.Native.Nat.{ℕ, zero, suc, ◌+◌, ◌≤◌, ◌<◌}
use Rattle.std.proofs.Math.ListN.{length, take}
use Rattle.base.specs.Limits.{most_cells}
use Rattle.base.specs.Lists.{anyb, sameb}
use Rattle.base.specs.Bools.{one_if}
use Rattle.mesh.specs.Cells.{Cell, redb, edges, heldb, bits_of, pattern, red_edges, status_of, no_cell}
use Rattle.mesh.specs.Weights.{Point, coarse_cells}
use Rattle.mesh.specs.Table.{Level, next, levels, levels_of, soundb}
use Rattle.mesh.specs.Step.{Row, new_reds, amongb, red_cells, grow, step_table}
use Rattle.mesh.specs.Laws.{length-coarse}
use Rattle.numbering.specs.Refined.{Both, Refined, refined_red, status_follows}
use Rattle.numbering.specs.Leaves.{Leaves, leaf_next}
use Rattle.lineage.specs.Olds.{flag_table, up_to, olds_next, reds_by, closed_by, statuses_by, grow_by, step_by}
use Rattle.lineage.specs.Paths.{coarse_at, length_upto, upto_at}
use Rattle.lineage.specs.Same.{Old, both_from, both_more, olds_next_lem}
use Rattle.lineage.specs.Levels.{here, length_up}
use Rattle.lineage.specs.Flags.{red_rows, flag_red, flag_none, among_old, among_none}
use Rattle.lineage.specs.Rest.{Rest, rest_start, rest_next, rest_up, rest_flagged}

-- the coarse cells
module _ (n : ℕ) (qs : List (List ℕ)) (ss : List ℕ) where
  pub olds_many : length (up_to (length qs)) ≡ length (coarse_cells n qs)
  olds_many = length_upto (length qs) ∙ sym (length-coarse n qs)

  olds_coarse : (i : ℕ) → i < length (coarse_cells n qs) → Old (here 0 (coarse_cells n qs) ss) (get_or (coarse_cells n qs) i no_cell)
      (get_or (up_to (length qs)) i 0)
  olds_coarse i h =
      let h' : i < length qs = omega (arith, length-coarse n qs) in
      let r : T (get_or (coarse_cells n qs) i no_cell).regular = rw (coarse_at n qs i h') tt in
      inl (i, omega (arith, upto_at (length qs) i h'), r, record { below = h; path = refl; points = refl; regular = r })

  pub olds_start : Both (Old (here 0 (coarse_cells n qs) ss)) (coarse_cells n qs) (up_to (length qs))
  olds_start = both_from (Old (here 0 (coarse_cells n qs) ss)) (coarse_cells n qs) (up_to (length qs)) olds_many olds_coarse

-- the statuses of a level
abbrev Agrees : List Row → List ℕ → Cell Point → ℕ → Type 0
Agrees reds fs c o = amongb reds c ≡ redb (get_or fs o 0)

module _ (reds : List Row) (fs : List ℕ) where
  edges_same : (cs : List (Cell Point)) (os : List ℕ) → length os ≡ length cs → Both (Agrees reds fs) cs os
      → red_cells reds cs ≡ red_edges [] cs (reds_by fs os)
  unfolding red_cells red_edges reds_by
  edges_same [] os e b = refl
  edges_same (c ∷ cs) [] e b = absurd (omega arith)
  edges_same (c ∷ cs) (o ∷ os) e b =
      ap₂ (λ (x : Bool) (l : List (Point × Point)). elim x [ true ↦ edges [] c ++ l | false ↦ l ])
      (b.0 ∙ sym (flag_red (redb (get_or fs o 0))))
      (edges_same cs os (omega arith) b.1)

  closed_same : (es : List (Point × Point)) (cs : List (Cell Point)) (os : List ℕ) → length os ≡ length cs → Both (Agrees reds fs) cs os
      → map (λ c. status_of [] sameb es (amongb reds c) c) cs ≡ closed_by es cs (reds_by fs os)
  unfolding closed_by reds_by
  closed_same es [] os e b = refl
  closed_same es (c ∷ cs) [] e b = absurd (omega arith)
  closed_same es (c ∷ cs) (o ∷ os) e b =
      ap₂ ◌∷◌ (ap (λ (x : Bool). status_of [] sameb es x c) (b.0 ∙ sym (flag_red (redb (get_or fs o 0)))))
      (closed_same es cs os (omega arith) b.1)

  statuses_same : (cs : List (Cell Point)) (os : List ℕ) → length os ≡ length cs → Both (Agrees reds fs) cs os
      → map (λ c. status_of [] sameb (red_cells reds cs) (amongb reds c) c) cs ≡ statuses_by fs cs os
  unfolding statuses_by
  statuses_same cs os e b =
      closed_same (red_cells reds cs) cs os e b ∙ ap (λ (es : List (Point × Point)). closed_by es cs (reds_by fs os)) (edges_same cs os e b)

closed_refined : (es : List (Point × Point)) (cs : List (Cell Point)) (rs : List ℕ) → Refined cs (closed_by es cs rs)
unfolding closed_by
closed_refined es [] rs = tt
closed_refined es (c ∷ cs) [] = tt
closed_refined es (c ∷ cs) (r ∷ rs) = (status_follows [] sameb es (redb r) c, closed_refined es cs rs)

pub refined_statuses : (fs : List ℕ) (cs : List (Cell Point)) (os : List ℕ) → Refined cs (statuses_by fs cs os)
unfolding statuses_by
refined_statuses fs cs os = closed_refined (red_edges [] cs (reds_by fs os)) cs (reds_by fs os)

-- a level without red cells
abbrev pub Dark : List ℕ → Cell Point → ℕ → Type 0
Dark fs c o = redb (get_or fs o 0) ≡ false

pattern_none : (c : Cell Point) → pattern [] sameb [] c ≡ 0
unfolding pattern bits_of heldb anyb edges one_if
pattern_none c = refl

status_none : (c : Cell Point) → status_of [] sameb [] false c ≡ 0
unfolding status_of
status_none c = go c.regular refl
  where
    go : (b : Bool) → c.regular ≡ b → status_of [] sameb [] false c ≡ 0
    go true q = rw (q, status_of) (pattern_none c)
    go false q = rw (q, status_of) refl

module _ (fs : List ℕ) where
  no_edges : (cs : List (Cell Point)) (os : List ℕ) → Both (Dark fs) cs os → red_edges [] cs (reds_by fs os) ≡ []
  unfolding red_edges reds_by
  no_edges [] os b = refl
  no_edges (c ∷ cs) [] b = refl
  no_edges (c ∷ cs) (o ∷ os) b =
      ap₂ (λ (x : Bool) (l : List (Point × Point)). elim x [ true ↦ edges [] c ++ l | false ↦ l ]) (flag_red (redb (get_or fs o 0)) ∙ b.0)
      (no_edges cs os b.1)

  closed_leaves : (cs : List (Cell Point)) (os : List ℕ) → Both (Dark fs) cs os → Leaves cs (closed_by [] cs (reds_by fs os))
  unfolding closed_by reds_by
  closed_leaves [] os b = tt
  closed_leaves (c ∷ cs) [] b = tt
  closed_leaves (c ∷ cs) (o ∷ os) b =
      (ap (λ (x : Bool). status_of [] sameb [] x c) (flag_red (redb (get_or fs o 0)) ∙ b.0) ∙ status_none c, closed_leaves cs os b.1)

  pub no_reds : (cs : List (Cell Point)) (os : List ℕ) → Both (Dark fs) cs os → Leaves cs (statuses_by fs cs os)
  unfolding statuses_by
  no_reds cs os b = rw (no_edges cs os b) (closed_leaves cs os b)

-- level after level
pub grow_nothing : (m : ℕ) (ss fs : List ℕ) (h k : ℕ) (os : List ℕ) → grow_by m ss fs h k [] os ≡ []
unfolding grow_by
grow_nothing m ss fs zero k os = refl
grow_nothing m ss fs (suc h) k os = refl

module _ (m : ℕ) (ss fs ms : List ℕ) (small : length fs ≤ most_cells) where
  -- no old cells: no old number
  pub dark_empty : (l : Level) → l.cells ≡ [] → (c : Cell Point) (o : ℕ) → Old l c o → redb (get_or fs o 0) ≡ false
  dark_empty l z c o (inl (t, e, r, is)) = absurd (omega (arith, is.below, ap length z))
  dark_empty l z c o (inr (e, f)) = rw (e, flag_none fs small) refl

  step_top : (h : ℕ) (l : Level) → l.cells ≡ [] → (k : ℕ) (cs : List (Cell Point)) (os : List ℕ) → length os ≡ length cs
      → Both (Old l) cs os
      → grow ([] ∷ []) k cs ≡ grow_by m ss fs (suc h) k cs os
  unfolding grow grow_by
  step_top h l z k [] os e b = refl
  step_top h l z k (c ∷ cs) os e b =
      let ts = statuses_by fs (c ∷ cs) os in
      let d : Both (Dark fs) (c ∷ cs) os = both_more (Old l) (Dark fs) (dark_empty l z) (c ∷ cs) os b in
      let a : Both (Agrees [] fs) (c ∷ cs) os = both_more (Dark fs) (Agrees [] fs) (λ c o q. among_none c ∙ sym q) (c ∷ cs) os d in
      ap₂ ◌∷◌ (statuses_same [] fs (c ∷ cs) os e a)
      (sym (ap (λ (up : List (Cell Point)). grow_by m ss fs h (k + length (c ∷ cs)) up (olds_next m ss ts os))
      (leaf_next k (c ∷ cs) ts (no_reds fs (c ∷ cs) os d))
      ∙ grow_nothing m ss fs h (k + length (c ∷ cs)) (olds_next m ss ts os)))

  step_cons : (reds : List Row) (rest : List (List Row)) (h k : ℕ) (cs : List (Cell Point)) (os : List ℕ) → length os ≡ length cs
      → Both (Agrees reds fs) cs os
      → grow rest (k + length cs) (next k cs (statuses_by fs cs os)) ≡ grow_by m ss fs h (k + length cs) (next k cs (statuses_by fs cs os))
      (olds_next m ss (statuses_by fs cs os) os)
      → grow (reds ∷ rest) k cs ≡ grow_by m ss fs (suc h) k cs os
  unfolding grow grow_by
  step_cons reds rest h k [] os e a i = refl
  step_cons reds rest h k (c ∷ cs) os e a i =
      ap (λ (ts : List ℕ). ts ∷ grow rest (k + length (c ∷ cs)) (next k (c ∷ cs) ts)) (statuses_same reds fs (c ∷ cs) os e a)
      ∙ ap (λ (l : List (List ℕ)). statuses_by fs (c ∷ cs) os ∷ l) i

  step_levels : (h j : ℕ) (cs : List (Cell Point)) (rs : List ℕ) → Rest m ss fs ms h j cs rs
      → (k : ℕ) (ds : List (Cell Point)) (os : List ℕ) → length os ≡ length ds
      → Both (Old (here j cs rs)) ds os → grow (new_reds (levels h j cs rs) ms ++ ([] ∷ [])) k ds ≡ grow_by m ss fs h k ds os
  unfolding levels new_reds
  step_levels zero j cs rs r k ds os e b = absurd (omega (arith, r.high))
  step_levels (suc h) j [] rs r k ds os e b = step_top h (here j [] rs) refl k ds os e b
  step_levels (suc h) j (c ∷ cs) rs r k ds os e b =
      let own = take (length (c ∷ cs)) rs in
      let ls = levels h (j + length (c ∷ cs)) (next j (c ∷ cs) own) (drop (length (c ∷ cs)) rs) in
      let l = here j (c ∷ cs) rs in
      let ts = statuses_by fs ds os in
      step_cons (red_rows ms ls l) (new_reds ls ms ++ ([] ∷ [])) h k ds os e
      (both_more (Old l) (Agrees (red_rows ms ls l) fs) (λ d o q. among_old fs ms ls l (rest_flagged m ss fs ms h j c cs rs r) d o q) ds os
      b)
      (step_levels h (j + length (c ∷ cs)) (next j (c ∷ cs) own) (drop (length (c ∷ cs)) rs) (rest_next m ss fs ms h j c cs rs r)
      (k + length ds) (next k ds ts)
      (olds_next m ss ts os) (length_up m ss fs k ds os e)
      (olds_next_lem m ss l (here (j + length (c ∷ cs)) (next j (c ∷ cs) own) (drop (length (c ∷ cs)) rs)) (rest_up m ss fs ms h j c cs rs r) k
      ds ts os
      (refined_red ds ts (refined_statuses fs ds os)) b))

pub step_by_lem : (n : ℕ) (qs : List (List ℕ)) (ss ms : List ℕ) → T (soundb n qs ss) → step_table n qs ss ms ≡ step_by n qs ss ms
unfolding step_table step_by levels_of
step_by_lem n qs ss ms t =
    let r = rest_start n qs ss ms t in
    step_levels (length qs) ss (flag_table n qs ss ms) ms r.small 12 0 (coarse_cells n qs) ss r 0 (coarse_cells n qs) (up_to (length qs))
    (olds_many n qs ss)
    (olds_start n qs ss)
