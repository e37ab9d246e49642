-- A cell of the next level is a child of a refined cell.
--   child_of k c s i    the child i of c, the cell number k with status s
--   Born k cs ss c     c is a child of one of the cells cs, numbered from k, with statuses ss
--   BornAt k cs ss t c   so, and t is the child's place in the next level
-- Laws: children_at (a family), born (a cell of the next level, by its place), born_below and born_at (the place of a child, and the child
-- there).
use Rattle.std.specs.Prelude.{◌≡◌, refl, ◌≢◌, Bool, length, get_or, take}
use Rattle.std.proofs.Common.{◌∙◌, subst, arith, get_or-append-add, ne_eqb}
use Rattle.std.proofs.Math.Path.{ap}
use mathlib.Core.List.{List, [], ◌∷◌, ◌++◌, map}
use Prim.Native.Nat.{ℕ, zero, suc, ◌+◌, ◌-◌, ◌<◌}
use Rattle.std.proofs.Math.Decide.{dec_lt}
use Rattle.std.proofs.Math.ListN.{length-append, get_or-append}
use Rattle.cutting.specs.Rule.{family}
use Rattle.mesh.specs.Cells.{Cell, redb, pattern_of, children, children_from, no_cell}
use Rattle.mesh.specs.Weights.{Point, point}
use Rattle.mesh.specs.Table.{next, size_of, sizes}
use Rattle.rows.specs.Many.{length-children, size_refined, size_some}

-- Rule 3.2: a child by its place in the family.
abbrev pub child_of : ℕ → Cell Point → ℕ → ℕ → Cell Point
child_of k c s i = record {
  path = c.path ++ (i ∷ []);
  parent = k;
  regular = redb s;
  points = map (point c)
      (get_or (family (pattern_of s)) i []);
}

-- Rules 3.1, 3.2: one of these cells is the parent.
pub record Born (k : ℕ) (cs : List (Cell Point)) (ss : List ℕ) (c : Cell Point) : Type 0 where
  -- the parent's place in cs, and the child's number
  pub p : ℕ
  pub i : ℕ
  pub below : p < length cs
  pub known : p < length ss
  pub refined : get_or ss p 0 ≢ 0
  pub child : i < length (family (pattern_of (get_or ss p 0)))
  pub is : c ≡ child_of (k + p) (get_or cs p no_cell) (get_or ss p 0) i

-- a family
module _ (k : ℕ) (c : Cell Point) where
  from_at : (r : Bool) (f : ℕ → Point) (i : ℕ) (ds : List (List ℕ)) (j : ℕ) → j < length ds
      → get_or (children_from k c r f i ds) j no_cell ≡ record
      { path = c.path ++ ((i + j) ∷ []); parent = k; regular = r; points = map f (get_or ds j []) }
  unfolding children_from
  from_at r f i [] j h = absurd (omega arith)
  from_at r f i (d ∷ ds) zero h =
      ap {A = ℕ} {B = Cell Point} (λ x. record { path = c.path ++ (x ∷ []); parent = k; regular = r; points = map f d }) (omega arith)
  from_at r f i (d ∷ ds) (suc j) h =
      from_at r f (suc i) ds j (omega arith)
      ∙ ap {A = ℕ} {B = Cell Point} (λ x. record { path = c.path ++ (x ∷ []); parent = k; regular = r; points = map f (get_or ds j []) })
      (omega arith)

  pub children_at : (s i : ℕ) → s ≢ 0 → i < length (family (pattern_of s)) → get_or (children k c s (point c)) i no_cell ≡ child_of k c s i
  unfolding children
  children_at s i z h =
      rw (ne_eqb s 0 z, children)
      (from_at (redb s) (point c) 0 (family (pattern_of s)) i h
      ∙ ap {A = ℕ} {B = Cell Point} (λ x. record {
        path = c.path ++ (x ∷ []);
        parent = k;
        regular = redb s;
        points = map (point c)
            (get_or (family (pattern_of s)) i []);
      }) (omega arith))

-- a cell of the next level
abbrev pub BornAt : ℕ → List (Cell Point) → List ℕ → ℕ → Cell Point → Type 0
BornAt k cs ss t c = (b : Born k cs ss c) × (t ≡ sizes (take b.p ss) + b.i)

born_first : (k : ℕ) (c : Cell Point) (cs : List (Cell Point)) (s : ℕ) (ss : List ℕ) (t : ℕ) → t < size_of s
    → BornAt k (c ∷ cs) (s ∷ ss) t (get_or (children k c s (point c)) t no_cell)
unfolding sizes
born_first k c cs s ss t h =
    let z : s ≢ 0 = size_some s t h in
    let f : t < length (family (pattern_of s)) = rw (size_refined s z) at h in (
      record {
        p = 0;
        i = t;
        below = omega arith;
        known = omega arith;
        refined = z;
        child = f;
        is = children_at k c s t z f ∙ ap (λ (x : ℕ). child_of x c s t) (omega arith);
      },
      omega arith,
    )

born_later : (k : ℕ) (c : Cell Point) (cs : List (Cell Point)) (s : ℕ) (ss : List ℕ) (t : ℕ) (d : Cell Point) → BornAt (suc k) cs ss t d
    → BornAt k (c ∷ cs) (s ∷ ss) (size_of s + t) d
unfolding sizes
born_later k c cs s ss t d (b, e) = (
  record {
    p = suc b.p;
    i = b.i;
    below = omega (arith, b.below);
    known = omega (arith, b.known);
    refined = b.refined;
    child = b.child;
    is = b.is ∙ ap (λ (x : ℕ). child_of x (get_or cs b.p no_cell) (get_or ss b.p 0) b.i) (omega arith);
  },
  omega (arith, e),
)

pub born : (k : ℕ) (cs : List (Cell Point)) (ss : List ℕ) (t : ℕ) → t < length (next k cs ss)
    → BornAt k cs ss t (get_or (next k cs ss) t no_cell)
unfolding next
born k [] ss t h = absurd (omega arith)
born k (c ∷ cs) [] t h = absurd (omega arith)
born k (c ∷ cs) (s ∷ ss) t h = go (children k c s (point c)) refl (next (suc k) cs ss) h (length-children k c s (point c))
    (dec_lt t (size_of s)) (born (suc k) cs ss)
  where
    go : (first : List (Cell Point)) → children k c s (point c) ≡ first → (rest : List (Cell Point)) → t < length (first ++ rest)
        → length first ≡ size_of s → Dec (t < size_of s)
        → ((u : ℕ) → u < length rest → BornAt (suc k) cs ss u (get_or rest u no_cell))
        → BornAt k (c ∷ cs) (s ∷ ss) t (get_or (first ++ rest) t no_cell)
    go first f rest l many (yes u) i = rw (get_or-append first rest no_cell t (omega arith), ← f) (born_first k c cs s ss t u)
    go first f rest l many (no u) i =
        let e : t ≡ length first + (t - size_of s) = omega arith in
        let e' : size_of s + (t - size_of s) ≡ t = omega arith in
        let g : t - size_of s < length rest = omega (arith, length-append first rest) in
        let w : get_or (first ++ rest) t no_cell ≡ get_or rest (t - size_of s) no_cell = ap (λ (x : ℕ). get_or (first ++ rest) x no_cell) e
        ∙ get_or-append-add first rest (t - size_of s) no_cell in
        rw w (subst (λ (x : ℕ). BornAt k (c ∷ cs) (s ∷ ss) x (get_or rest (t - size_of s) no_cell)) e'
        (born_later k c cs s ss (t - size_of s) (get_or rest (t - size_of s) no_cell) (i (t - size_of s) g)))

-- the place of a child
module _ (k : ℕ) (c : Cell Point) (cs : List (Cell Point)) (s : ℕ) (ss : List ℕ) where
  next_first : (i : ℕ) → i < size_of s → get_or (next k (c ∷ cs) (s ∷ ss)) i no_cell ≡ get_or (children k c s (point c)) i no_cell
  unfolding next
  next_first i h = get_or-append (children k c s (point c)) (next (suc k) cs ss) no_cell i (rw (length-children k c s (point c)) h)

  next_later : (t : ℕ) → get_or (next k (c ∷ cs) (s ∷ ss)) (size_of s + t) no_cell ≡ get_or (next (suc k) cs ss) t no_cell
  unfolding next
  next_later t = rw (← length-children k c s (point c)) (get_or-append-add (children k c s (point c)) (next (suc k) cs ss) t no_cell)

  length-next_cons : length (next k (c ∷ cs) (s ∷ ss)) ≡ size_of s + length (next (suc k) cs ss)
  unfolding next
  length-next_cons = length-append (children k c s (point c)) (next (suc k) cs ss) ∙ rw (length-children k c s (point c))

abbrev place : List ℕ → ℕ → ℕ → ℕ
place ss p i = sizes (take p ss) + i

place_later : (s : ℕ) (ss : List ℕ) (p i : ℕ) → place (s ∷ ss) (suc p) i ≡ size_of s + place ss p i
unfolding sizes
place_later s ss p i = omega arith

place_first : (ss : List ℕ) (i : ℕ) → place ss 0 i ≡ i
unfolding sizes
place_first ss i = omega arith

pub born_below : (k : ℕ) (cs : List (Cell Point)) (ss : List ℕ) (p i : ℕ) → p < length cs → p < length ss → get_or ss p 0 ≢ 0
    → i < length (family (pattern_of (get_or ss p 0)))
    → sizes (take p ss) + i < length (next k cs ss)
born_below k [] ss p i h g z l = absurd (omega arith)
born_below k (c ∷ cs) [] p i h g z l = absurd (omega arith)
born_below k (c ∷ cs) (s ∷ ss) zero i h g z l = omega (arith, length-next_cons k c cs s ss, place_first (s ∷ ss) i, size_refined s z)
born_below k (c ∷ cs) (s ∷ ss) (suc p) i h g z l =
    omega (arith, length-next_cons k c cs s ss, place_later s ss p i, born_below (suc k) cs ss p i (omega arith) (omega arith) z l)

pub born_at : (k : ℕ) (cs : List (Cell Point)) (ss : List ℕ) (p i : ℕ) → p < length cs → p < length ss → get_or ss p 0 ≢ 0
    → i < length (family (pattern_of (get_or ss p 0)))
    → get_or (next k cs ss) (sizes (take p ss) + i) no_cell ≡ child_of (k + p) (get_or cs p no_cell) (get_or ss p 0) i
born_at k [] ss p i h g z l = absurd (omega arith)
born_at k (c ∷ cs) [] p i h g z l = absurd (omega arith)
born_at k (c ∷ cs) (s ∷ ss) zero i h g z l =
    ap (λ (x : ℕ). get_or (next k (c ∷ cs) (s ∷ ss)) x no_cell) (place_first (s ∷ ss) i)
    ∙ next_first k c cs s ss i (omega (arith, size_refined s z))
    ∙ children_at k c s i z l ∙ ap (λ (x : ℕ). child_of x c s i) (omega arith)
born_at k (c ∷ cs) (s ∷ ss) (suc p) i h g z l =
    ap (λ (x : ℕ). get_or (next k (c ∷ cs) (s ∷ ss)) x no_cell) (place_later s ss p i) ∙ next_later k c cs s ss (place ss p i)
    ∙ born_at (suc k) cs ss p i (omega arith) (omega arith) z l ∙ ap (λ (x : ℕ). child_of x (get_or cs p no_cell) (get_or ss p 0) i) (omega arith)
