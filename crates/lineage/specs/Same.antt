-- Which cell of the old table a new cell is. An old level stands for no cells where there are none.
--   Is l t c       the cell t of the old level l has the path and the points of c, and is regular
--   Fresh l c      no regular cell of l has the path of c
--   Old l c o      o is the old number of the new cell c
--   row_in l ms t   the row of the cell t
--   Up m ss l u    u is the level above l, in a table ss over m coarse cells
-- Laws: both_from, both_at, both_append, both_more (cells with their numbers), child_old (the child of a red cell), length-olds_of and
-- length-olds (how many), olds_next_lem
-- (the old numbers one level up).
use Rattle.std.specs.Prelude.{◌≡◌, refl, ◌≢◌, ◌⊎◌, ℕ, zero, suc, ◌+◌, ◌≤◌, ◌<◌, T, get_or, take}
use Rattle.std.proofs.Math.Path.{sym}
use Rattle.std.proofs.Common.{◌∙◌, ap, ap₂, inl, inr, arith, length-append, eqb-true}
use Rattle.std.proofs.Math.Bool.{true, false}
use mathlib.Core.List.{List, [], ◌∷◌, ◌++◌, map}
use Rattle.std.proofs.Math.ListN.{length, length-map, get_or-eq_default}
use Rattle.base.specs.Bools.{is_true, either, not_both}
use Rattle.base.specs.Limits.{most_cells}
use Rattle.cutting.specs.Rule.{low, high, family}
use Rattle.mesh.specs.Cells.{Cell, none, redb, pattern_of, children, no_cell}
use Rattle.mesh.specs.Weights.{Point, point, mid}
use Rattle.mesh.specs.Table.{Level, next, size_of, sizes}
use Rattle.mesh.specs.Step.{Row}
use Rattle.base.specs.Every.{get_d_map}
use Rattle.lattice.specs.Levels.{RedRegular}
use Rattle.numbering.specs.Refined.{Both}
use Rattle.lineage.specs.Olds.{first_child, old_child, up_to, olds_of, olds_next}
use Rattle.lineage.specs.Born.{child_of, BornAt, born, born_below, born_at, children_at}
use Rattle.rows.specs.Many.{length-children, size_refined, size_some}
use Rattle.lineage.specs.Paths.{path_at, Paths, snoc_inj, length_upto, upto_at}

-- Rule 3.3: the same cell.
pub record Is (l : Level) (t : ℕ) (c : Cell Point) : Type 0 where
  pub below : t < length l.cells
  pub path : (get_or l.cells t no_cell).path ≡ c.path
  pub points : (get_or l.cells t no_cell).points ≡ c.points
  pub regular : T (get_or l.cells t no_cell).regular

abbrev pub Fresh : Level → Cell Point → Type 0
Fresh l c = (t : ℕ) → t < length l.cells → T (get_or l.cells t no_cell).regular → (get_or l.cells t no_cell).path ≡ c.path → ⊥

abbrev pub Old : Level → Cell Point → ℕ → Type 0
Old l c o = ((t : ℕ) × (o ≡ l.first + t) × T c.regular × Is l t c) ⊎ ((o ≡ none) × (T c.regular → Fresh l c))

abbrev pub row_in : Level → List ℕ → ℕ → Row
row_in l ms t = record {
  number = l.first + t;
  cell = get_or l.cells t no_cell;
  status = get_or l.statuses t 0;
  mark = get_or ms
      (l.first + t) 0;
}

pub record Up (m : ℕ) (ss : List ℕ) (l u : Level) : Type 0 where
  pub known : length l.statuses ≡ length l.cells
  pub paths : Paths l.cells
  pub reds : (t : ℕ) → t < length l.cells → get_or l.statuses t 0 ≡ 64 → T (get_or l.cells t no_cell).regular
  pub status : (t : ℕ) → t < length l.cells → get_or ss (l.first + t) 0 ≡ get_or l.statuses t 0
  pub child : (t : ℕ) → t < length l.cells → first_child m ss (l.first + t) ≡ u.first + sizes (take t l.statuses)
  pub small : length ss ≤ most_cells
  pub cells : u.cells ≡ next l.first l.cells l.statuses

-- cells with their numbers
module _ (P : Cell Point → ℕ → Type 0) where
  pub both_from : (cs : List (Cell Point)) (os : List ℕ) → length os ≡ length cs
      → ((i : ℕ) → i < length cs → P (get_or cs i no_cell) (get_or os i 0)) → Both P cs os
  both_from [] os e f = tt
  both_from (c ∷ cs) [] e f = tt
  both_from (c ∷ cs) (o ∷ os) e f = (f 0 (omega arith), both_from cs os (omega arith) (λ i h. f (suc i) (omega arith)))

  pub both_at : (cs : List (Cell Point)) (os : List ℕ) → length os ≡ length cs → Both P cs os → (i : ℕ) → i < length cs
      → P (get_or cs i no_cell) (get_or os i 0)
  both_at [] os e b i h = absurd (omega arith)
  both_at (c ∷ cs) [] e b i h = absurd (omega arith)
  both_at (c ∷ cs) (o ∷ os) e b zero h = b.0
  both_at (c ∷ cs) (o ∷ os) e b (suc i) h = both_at cs os (omega arith) b.1 i (omega arith)

  pub both_append : (cs ds : List (Cell Point)) (os ps : List ℕ) → length os ≡ length cs → Both P cs os → Both P ds ps
      → Both P (cs ++ ds) (os ++ ps)
  both_append [] ds [] ps e b d = d
  both_append [] ds (o ∷ os) ps e b d = absurd (omega arith)
  both_append (c ∷ cs) ds [] ps e b d = absurd (omega arith)
  both_append (c ∷ cs) ds (o ∷ os) ps e b d = (b.0, both_append cs ds os ps (omega arith) b.1 d)

pub both_more : (P Q : Cell Point → ℕ → Type 0) → ((c : Cell Point) (o : ℕ) → P c o → Q c o) → (cs : List (Cell Point)) (os : List ℕ)
    → Both P cs os → Both Q cs os
both_more P Q f [] os b = tt
both_more P Q f (c ∷ cs) [] b = tt
both_more P Q f (c ∷ cs) (o ∷ os) b = (f c o b.0, both_more P Q f cs os b.1)

-- the points of a child depend on the points of its parent alone
pub points_same : (c d : Cell Point) (l : List ℕ) → c.points ≡ d.points → map (point c) l ≡ map (point d) l
unfolding point
points_same c d l e = ap (λ (ps : List Point). map (λ x. mid (get_or ps (low x) []) (get_or ps (high x) [])) l) e

-- the old number of a child
module _ (m : ℕ) (ss : List ℕ) (o i : ℕ) where
  old_red : redb (get_or ss o 0) ≡ true → old_child m ss o i ≡ first_child m ss o + i
  unfolding old_child
  old_red e = rw (e, old_child)

  pub child_none : redb (get_or ss o 0) ≡ false → old_child m ss o i ≡ none
  unfolding old_child
  child_none e = rw (e, old_child)

module _ (m : ℕ) (ss : List ℕ) (l u : Level) (up : Up m ss l u) (k : ℕ) (c : Cell Point) (i : ℕ)
    (small : i < length (family (pattern_of 64))) where
  -- a regular cell above is a child of a red cell
  fresh_child : ((p : ℕ) → p < length l.cells → get_or l.statuses p 0 ≡ 64 → path_at l.cells p ≡ c.path → ⊥)
      → Fresh u (child_of k c 64 i)
  fresh_child f = rw up.cells (λ t h r e. go t h (born l.first l.cells l.statuses t h) r e)
    where
      go : (t : ℕ) → t < length (next l.first l.cells l.statuses)
          → BornAt l.first l.cells l.statuses t (get_or (next l.first l.cells l.statuses) t no_cell)
          → T (get_or (next l.first l.cells l.statuses) t no_cell).regular → (get_or (next l.first l.cells l.statuses) t
          no_cell).path ≡ c.path ++ (i ∷ []) → ⊥
      go t h (b, x) r e =
          let w : path_at l.cells b.p ++ (b.i ∷ []) ≡ c.path ++ (i ∷ []) = sym (ap (λ (c : Cell Point). c.path) b.is) ∙ e in
          let v : redb (get_or l.statuses b.p 0) ≡ true =
          sym (ap (λ (c : Cell Point). c.regular) b.is) ∙ is_true (get_or (next l.first l.cells l.statuses) t no_cell).regular
          r in
          f b.p b.below (eqb-true (get_or l.statuses b.p 0) 64 v) (snoc_inj (path_at l.cells b.p) c.path b.i i w).0

  kept_child : (t o : ℕ) → o ≡ l.first + t → Is l t c → get_or l.statuses t 0 ≡ 64 → Old u (child_of k c 64 i) (first_child m ss o + i)
  kept_child t o e is z =
      let known : t < length l.statuses = omega (arith, is.below, up.known) in
      let nz : get_or l.statuses t 0 ≢ 0 = (λ y. omega (arith, z, y)) in
      let fam : i < length (family (pattern_of (get_or l.statuses t 0))) = rw z small in
      let at : get_or u.cells (sizes (take t l.statuses) + i) no_cell ≡ child_of (l.first + t) (get_or l.cells t no_cell) 64 i =
      ap (λ (cs : List (Cell Point)). get_or cs (sizes (take t l.statuses) + i) no_cell) up.cells
      ∙ born_at l.first l.cells l.statuses t i is.below known nz fam
      ∙ ap (λ (s : ℕ). child_of (l.first + t) (get_or l.cells t no_cell) s i) z in
      inl (
        sizes (take t l.statuses) + i,
        omega (arith, up.child t is.below, ap (first_child m ss) e),
        tt,
        record {
          below = rw up.cells (born_below l.first l.cells l.statuses t i is.below known nz fam);
          path = ap (λ (c : Cell Point). c.path) at ∙ ap (λ (p : List ℕ). p ++ (i ∷ [])) is.path;
          points = ap (λ (c : Cell Point). c.points) at ∙ points_same (get_or l.cells t no_cell) c (get_or (family (pattern_of 64)) i [])
              is.points;
          regular = rw at tt;
        },
      )

  pub child_old : (o : ℕ) → T c.regular → Old l c o → Old u (child_of k c 64 i) (old_child m ss o i)
  child_old o r (inl (t, e, q, is)) = go (either (redb (get_or ss o 0)))
    where
      st : get_or ss o 0 ≡ get_or l.statuses t 0
      st = ap (λ (x : ℕ). get_or ss x 0) e ∙ up.status t is.below

      go : (redb (get_or ss o 0) ≡ true) ⊎ (redb (get_or ss o 0) ≡ false) → Old u (child_of k c 64 i) (old_child m ss o i)
      go (inl z) = rw (old_red m ss o i z) (kept_child t o e is (sym st ∙ eqb-true (get_or ss o 0) 64 z))
      go (inr z) =
          inr (
            child_none m ss o i z,
            λ _. fresh_child (λ p h g w.
                let x : p ≡ t = up.paths p t h is.below (w ∙ sym is.path) in
                let y : redb (get_or ss o 0) ≡ true = rw (st, ← x, g) refl in
                not_both (redb (get_or ss o 0)) y z),
          )
  child_old o r (inr (e, f)) =
      inr (
        child_none m ss o i (rw (e, get_or-eq_default ss 0 {n = none} (omega (arith, up.small))) refl),
        λ _. fresh_child (λ p h g w. f r p h (up.reds p h g) w),
      )

-- a family
module _ (m : ℕ) (ss : List ℕ) (s o : ℕ) where
  pub length-olds_of : length (olds_of m ss s o) ≡ size_of s
  unfolding olds_of
  length-olds_of = length-map (up_to (size_of s)) (λ i. elim (redb s) [ true ↦ old_child m ss o i | false ↦ none ]) ∙ length_upto (size_of s)

  olds_of_red : (i : ℕ) → i < size_of s → redb s ≡ true → get_or (olds_of m ss s o) i 0 ≡ old_child m ss o i
  unfolding olds_of
  olds_of_red i h e =
      get_d_map (λ i. elim (redb s) [ true ↦ old_child m ss o i | false ↦ none ]) (up_to (size_of s)) i 0 0 (rw (length_upto (size_of s)) h)
      ∙ rw (e, upto_at (size_of s) i h)

  olds_of_none : (i : ℕ) → i < size_of s → redb s ≡ false → get_or (olds_of m ss s o) i 0 ≡ none
  unfolding olds_of
  olds_of_none i h e =
      get_d_map (λ i. elim (redb s) [ true ↦ old_child m ss o i | false ↦ none ]) (up_to (size_of s)) i 0 0 (rw (length_upto (size_of s)) h)
      ∙ rw e

module _ (m : ℕ) (ss : List ℕ) (l u : Level) (up : Up m ss l u) where
  old_family : (k : ℕ) (c : Cell Point) (s o : ℕ) → (s ≡ 64 → T c.regular) → Old l c o
      → (i : ℕ) → i < length (children k c s (point c)) → Old u (get_or (children k c s (point c)) i no_cell) (get_or (olds_of m ss s o) i 0)
  old_family k c s o r old i h = go (either (redb s))
    where
      h' : i < size_of s
      h' = rw (length-children k c s (point c)) at h

      z : s ≢ 0
      z = size_some s i h'

      f : i < length (family (pattern_of s))
      f = rw (size_refined s z) at h'

      go : (redb s ≡ true) ⊎ (redb s ≡ false) → Old u (get_or (children k c s (point c)) i no_cell) (get_or (olds_of m ss s o) i 0)
      go (inl e) =
          let q : s ≡ 64 = eqb-true s 64 e in
          rw (children_at k c s i z f, olds_of_red m ss s o i h' e, q) (child_old m ss l u up k c i (rw q at f) o (r q) old)
      go (inr e) = rw (children_at k c s i z f, olds_of_none m ss s o i h' e) (inr (refl, λ t. not_both (redb s) (is_true (redb s) t) e))

  pub olds_next_lem : (k : ℕ) (cs : List (Cell Point)) (ts os : List ℕ) → RedRegular cs ts → Both (Old l) cs os
      → Both (Old u) (next k cs ts) (olds_next m ss ts os)
  unfolding next olds_next
  olds_next_lem k [] ts os r b = tt
  olds_next_lem k (c ∷ cs) [] os r b = tt
  olds_next_lem k (c ∷ cs) (s ∷ ts) [] r b = nothing (children k c s (point c) ++ next (suc k) cs ts)
    where
      nothing : (cs : List (Cell Point)) → Both (Old u) cs []
      nothing [] = tt
      nothing (c ∷ cs) = tt
  olds_next_lem k (c ∷ cs) (s ∷ ts) (o ∷ os) r b =
      let e : length (olds_of m ss s o) ≡ length (children k c s (point c)) = length-olds_of m ss s o
      ∙ sym (length-children k c s (point c)) in
      both_append (Old u) (children k c s (point c)) (next (suc k) cs ts) (olds_of m ss s o) (olds_next m ss ts os) e
      (both_from (Old u) (children k c s (point c)) (olds_of m ss s o) e (old_family k c s o r.0 b.0))
      (olds_next_lem (suc k) cs ts os r.1 b.1)

pub length-olds : (m : ℕ) (ss ts os : List ℕ) → length os ≡ length ts → length (olds_next m ss ts os) ≡ sizes ts
unfolding olds_next sizes
length-olds m ss [] os e = refl
length-olds m ss (s ∷ ts) [] e = absurd (omega arith)
length-olds m ss (s ∷ ts) (o ∷ os) e =
    length-append (olds_of m ss s o) (olds_next m ss ts os) ∙ ap₂ ◌+◌ (length-olds_of m ss s o) (length-olds m ss ts os (omega arith))
