-- The levels of the step's table, and neighbouring levels of a table.
--   grow_levels m ss fs h k cs os   as grow_by, with the whole levels
--   new_levels n qs ss ms           the levels of the step's table
--   here k cs rs                   the level of the cells cs, numbered from k, where rs is the rest of the table
-- Laws: length-reds_by and length-statuses (one status for each cell), length_up (one old number for each cell one level
-- up), grow_statuses, new_levels_lem (the levels of the table are these), cells_first, levels_next and levels_first (the
-- cells one level up, and their numbers).
use Rattle.std.specs.Prelude.{◌≡◌, get_or, take, drop}
use Rattle.std.proofs.Math.Path.{refl, ap, ap₂}
use Rattle.std.proofs.Common.{sym, ◌∙◌, arith, take_at, drop_at}
use mathlib.Core.List.{List, [], ◌∷◌, ◌++◌, map, flat_map, flatten}
use Prim.Native.Nat.{ℕ, zero, suc, ◌+◌, ◌<◌}
use Rattle.std.proofs.Math.ListN.{length}
use Rattle.mesh.specs.Cells.{Cell, red_edges}
use Rattle.mesh.specs.Weights.{Point, coarse_cells}
use Rattle.mesh.specs.Table.{Level, next, levels, levels_of}
use Rattle.mesh.specs.Laws.{length-coarse}
use Rattle.lattice.specs.Levels.{no_level}
use Rattle.lineage.specs.Olds.{flag_table, up_to, olds_next, reds_by, closed_by, statuses_by, grow_by, step_by}
use Rattle.rows.specs.Many.{length-next}
use Rattle.lineage.specs.Paths.{length_upto}
use Rattle.lineage.specs.Same.{length-olds}

-- Rule 7.7, by old numbers, with the cells of each level.
unfoldable pub grow_levels : ℕ → List ℕ → List ℕ → ℕ → ℕ → List (Cell Point) → List ℕ → List Level
unfolding statuses_by olds_next next
grow_levels m ss fs zero k cs os = []
grow_levels m ss fs (suc h) k [] os = []
grow_levels m ss fs (suc h) k (c ∷ cs) os =
    let ts = statuses_by fs (c ∷ cs) os in
    record { first = k; cells = c ∷ cs; statuses = ts } ∷ grow_levels m ss fs h (k + length (c ∷ cs)) (next k (c ∷ cs) ts)
    (olds_next m ss ts os)

-- Rule 7.7: the levels of the step's table.
abbrev pub new_levels : ℕ → List (List ℕ) → List ℕ → List ℕ → List Level
new_levels n qs ss ms = grow_levels (length qs) ss (flag_table n qs ss ms) 12 0 (coarse_cells n qs) (up_to (length qs))

abbrev pub here : ℕ → List (Cell Point) → List ℕ → Level
here k cs rs = record { first = k; cells = cs; statuses = take (length cs) rs }

-- one status for each cell
length-closed : (es : List (Point × Point)) (cs : List (Cell Point)) (rs : List ℕ) → length rs ≡ length cs
    → length (closed_by es cs rs) ≡ length cs
unfolding closed_by
length-closed es [] rs e = refl
length-closed es (c ∷ cs) [] e = absurd (omega arith)
length-closed es (c ∷ cs) (r ∷ rs) e = ap suc (length-closed es cs rs (omega arith))

pub length-reds_by : (fs os : List ℕ) → length (reds_by fs os) ≡ length os
unfolding reds_by
length-reds_by fs [] = refl
length-reds_by fs (o ∷ os) = ap suc (length-reds_by fs os)

pub length-statuses : (fs : List ℕ) (cs : List (Cell Point)) (os : List ℕ) → length os ≡ length cs
    → length (statuses_by fs cs os) ≡ length cs
unfolding statuses_by
length-statuses fs cs os e = length-closed (red_edges [] cs (reds_by fs os)) cs (reds_by fs os) (length-reds_by fs os ∙ e)

-- as many old numbers as cells one level up
pub length_up : (m : ℕ) (ss fs : List ℕ) (k : ℕ) (cs : List (Cell Point)) (os : List ℕ) → length os ≡ length cs
    → length (olds_next m ss (statuses_by fs cs os) os) ≡ length (next k cs (statuses_by fs cs os))
length_up m ss fs k cs os e =
    let t : length (statuses_by fs cs os) ≡ length cs = length-statuses fs cs os e in
    length-olds m ss (statuses_by fs cs os) os (e ∙ sym t) ∙ sym (length-next k cs (statuses_by fs cs os) (sym t))

module _ (m : ℕ) (ss fs : List ℕ) where
  pub grow_statuses : (h k : ℕ) (cs : List (Cell Point)) (os : List ℕ) → map (λ l. l.statuses) (grow_levels m ss fs h k cs os) ≡ grow_by m ss
      fs h k cs os
  unfolding grow_levels grow_by
  grow_statuses zero k cs os = refl
  grow_statuses (suc h) k [] os = refl
  grow_statuses (suc h) k (c ∷ cs) os =
      let ts = statuses_by fs (c ∷ cs) os in
      ap (λ (l : List (List ℕ)). ts ∷ l) (grow_statuses h (k + length (c ∷ cs)) (next k (c ∷ cs) ts) (olds_next m ss ts os))

  levels_cons : (h k : ℕ) (c : Cell Point) (cs : List (Cell Point)) (ts rs : List ℕ) → length ts ≡ length (c ∷ cs)
      → levels (suc h) k (c ∷ cs) (ts ++ rs) ≡ record { first = k; cells = c ∷ cs; statuses = ts } ∷ levels h (k + length (c ∷ cs))
      (next k (c ∷ cs) ts) rs
  unfolding levels
  levels_cons h k c cs ts rs e =
      ap₂ {A = List ℕ} {B = List ℕ} {C = List Level}
      (λ a b. record { first = k; cells = c ∷ cs; statuses = a } ∷ levels h (k + length (c ∷ cs)) (next k (c ∷ cs) a) b)
      (take_at ts rs (length (c ∷ cs)) e) (drop_at ts rs (length (c ∷ cs)) e)

  grow_levels_lem : (h k : ℕ) (cs : List (Cell Point)) (os : List ℕ) → length os ≡ length cs
      → levels h k cs (flatten (grow_by m ss fs h k cs os)) ≡ grow_levels m ss fs h k cs os
  unfolding grow_levels grow_by levels flat_map flatten
  grow_levels_lem zero k cs os e = refl
  grow_levels_lem (suc h) k [] os e = refl
  grow_levels_lem (suc h) k (c ∷ cs) os e =
      let ts = statuses_by fs (c ∷ cs) os in
      let up = grow_by m ss fs h (k + length (c ∷ cs)) (next k (c ∷ cs) ts) (olds_next m ss ts os) in
      levels_cons h k c cs ts (flatten up) (length-statuses fs (c ∷ cs) os e)
      ∙ ap {A = List Level} {B = List Level} (λ l. record { first = k; cells = c ∷ cs; statuses = ts } ∷ l)
      (grow_levels_lem h (k + length (c ∷ cs)) (next k (c ∷ cs) ts) (olds_next m ss ts os) (length_up m ss fs k (c ∷ cs) os e))

pub new_levels_lem : (n : ℕ) (qs : List (List ℕ)) (ss ms : List ℕ) → levels_of n qs (flatten (step_by n qs ss ms)) ≡ new_levels n qs ss ms
unfolding levels_of step_by
new_levels_lem n qs ss ms =
    grow_levels_lem (length qs) ss (flag_table n qs ss ms) 12 0 (coarse_cells n qs) (up_to (length qs))
    (length_upto (length qs) ∙ sym (length-coarse n qs))

-- neighbouring levels
pub cells_first : (h k : ℕ) (cs : List (Cell Point)) (rs : List ℕ) → (get_or (levels (suc h) k cs rs) 0 no_level).cells ≡ cs
unfolding levels
cells_first h k [] rs = refl
cells_first h k (c ∷ cs) rs = refl

pub levels_next : (h k : ℕ) (cs : List (Cell Point)) (rs : List ℕ) (j : ℕ) → suc j < h
    → (get_or (levels h k cs rs) (suc j) no_level).cells
    ≡ next (get_or (levels h k cs rs) j no_level).first (get_or (levels h k cs rs) j no_level).cells
    (get_or (levels h k cs rs) j no_level).statuses
unfolding levels
levels_next zero k cs rs j l = absurd (omega arith)
levels_next (suc zero) k cs rs j l = absurd (omega arith)
levels_next (suc (suc h)) k [] rs j l = nothing
  where
    nothing : [] ≡ next 0 [] []
    nothing = refl
levels_next (suc (suc h)) k (c ∷ cs) rs zero l = cells_first h (k + length (c ∷ cs)) (next k (c ∷ cs) (take (length (c ∷ cs)) rs))
    (drop (length (c ∷ cs)) rs)
levels_next (suc (suc h)) k (c ∷ cs) rs (suc j) l =
    levels_next (suc h) (k + length (c ∷ cs)) (next k (c ∷ cs) (take (length (c ∷ cs)) rs)) (drop (length (c ∷ cs)) rs) j (omega arith)

pub first_first : (h k : ℕ) (cs : List (Cell Point)) (rs : List ℕ) → 0 < length (levels h k cs rs)
    → (get_or (levels h k cs rs) 0 no_level).first ≡ k
unfolding levels
first_first zero k cs rs l = absurd (omega arith)
first_first (suc h) k [] rs l = absurd (omega arith)
first_first (suc h) k (c ∷ cs) rs l = refl

pub levels_first : (h k : ℕ) (cs : List (Cell Point)) (rs : List ℕ) (j : ℕ) → suc j < length (levels h k cs rs)
    → (get_or (levels h k cs rs) (suc j) no_level).first ≡ (get_or (levels h k cs rs) j no_level).first + length
    (get_or (levels h k cs rs) j no_level).cells
unfolding levels
levels_first zero k cs rs j l = absurd (omega arith)
levels_first (suc h) k [] rs j l = absurd (omega arith)
levels_first (suc h) k (c ∷ cs) rs zero l =
    first_first h (k + length (c ∷ cs)) (next k (c ∷ cs) (take (length (c ∷ cs)) rs)) (drop (length (c ∷ cs)) rs) (omega arith)
levels_first (suc h) k (c ∷ cs) rs (suc j) l =
    levels_first h (k + length (c ∷ cs)) (next k (c ∷ cs) (take (length (c ∷ cs)) rs)) (drop (length (c ∷ cs)) rs) j (omega arith)
