-- The cells one level up, by their places: each has the cell as its parent under which it stands.
-- Law: born_row (the parent of a cell of `next`).
-- Assumes nothing.
use Rattle.std.specs.Prelude.{◌≡◌, refl, Bool, true, false, List, [], ◌∷◌, ℕ, zero, suc, ◌+◌, ◌<◌, eqb, length, get_or, take}
use Rattle.std.proofs.Common.{arith, get_or-append-add}
use Rattle.std.proofs.Math.ListN.{get_or-append}
use Rattle.cutting.specs.Rule.{family}
use Rattle.mesh.specs.Cells.{Cell, redb, pattern_of, children, children_from}
use Rattle.mesh.specs.Weights.{Point, point}
use Rattle.mesh.specs.Table.{next, size_of, sizes}
use Rattle.rows.specs.Many.{length-children}

from_parent : (k : ℕ) (c : Cell Point) (r : Bool) (f : ℕ → Point) (d : Cell Point) (i : ℕ) (ds : List (List ℕ)) (j : ℕ)
    → j < length (children_from k c r f i ds)
    → (get_or (children_from k c r f i ds) j d).parent ≡ k
unfolding children_from
from_parent k c r f d i [] j h = absurd (omega arith)
from_parent k c r f d i (x ∷ ds) zero h = refl
from_parent k c r f d i (x ∷ ds) (suc j) h = from_parent k c r f d (suc i) ds j (omega arith)

child_parent : (k : ℕ) (c : Cell Point) (s : ℕ) (f : ℕ → Point) (d : Cell Point) (j : ℕ) → j < length (children k c s f)
    → (get_or (children k c s f) j d).parent ≡ k
unfolding children
child_parent k c s f d j h = go (eqb s 0) refl h
  where
    go : (b : Bool) → eqb s 0 ≡ b → j < length (children k c s f) → (get_or (children k c s f) j d).parent ≡ k
    go true e h = absurd (omega (arith, rw (e, children) at h))
    go false e h = let g : j < length (children_from k c (redb s) f 0 (family (pattern_of s))) = rw (e, children) at h in
        rw (e, children) (from_parent k c (redb s) f d 0 (family (pattern_of s)) j g)

pub born_row : (k : ℕ) (d : Cell Point) (cs : List (Cell Point)) (ss : List ℕ) → length cs ≡ length ss → (i : ℕ) → i < length ss → (j : ℕ)
    → j < size_of (get_or ss i 0)
    → (get_or (next k cs ss) (sizes (take i ss) + j) d).parent ≡ k + i
unfolding next sizes
born_row k d [] ss e i h j g = absurd (omega arith)
born_row k d (c ∷ cs) [] e i h j g = absurd (omega arith)
born_row k d (c ∷ cs) (s ∷ ss) e zero h j g =
    let z : 0 + j ≡ j = omega arith in
    let w : k + 0 ≡ k = omega arith in
    let l : j < length (children k c s (point c)) = omega (arith, length-children k c s (point c)) in
    rw (z, w, get_or-append (children k c s (point c)) (next (suc k) cs ss) d j l) (child_parent k c s (point c) d j l)
born_row k d (c ∷ cs) (s ∷ ss) e (suc i) h j g =
    let z : size_of s + sizes (take i ss) + j ≡ length (children k c s (point c)) + (sizes (take i ss) + j) = omega
    (arith, length-children k c s (point c)) in
    let w : k + suc i ≡ suc k + i = omega arith in
    rw (z, w, get_or-append-add (children k c s (point c)) (next (suc k) cs ss) (sizes (take i ss) + j) d)
    (born_row (suc k) d cs ss (omega arith) i (omega arith) j g)
