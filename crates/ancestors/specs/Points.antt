-- Each cell of a table over cells of four corners has four points, since each child of a family lists four digits.
-- Assumes nothing.
use Rattle.std.specs.Prelude.{◌≡◌, refl, Bool, true, false, ℕ, zero, suc, ◌+◌, eqb, length, take, drop}
use Rattle.std.proofs.Common.{◌∙◌, ap}
use mathlib.Core.List.{List, [], ◌∷◌, map, flat_map}
use Rattle.std.proofs.lemmas.List.{length-map}
use Rattle.base.specs.Lists.{filterb}
use Rattle.cutting.specs.Rule.{choose, childb, present, family}
use Rattle.mesh.specs.Cells.{Cell, redb, pattern_of, children_from, children, Four}
use Rattle.mesh.specs.Weights.{Point, point, coarse, coarse_from, coarse_cells}
use Rattle.mesh.specs.Table.{next, levels, levels_of, cells_of}
use Rattle.mesh.specs.Layout.{map_cell}
use Rattle.base.specs.Every.{All, all_append}

abbrev Sized : ℕ → List ℕ → Type 0
Sized n d = length d ≡ n

all_cons : (n x : ℕ) (ds : List (List ℕ)) → All (Sized n) ds → All (Sized (suc n)) (map (λ (t : List ℕ). x ∷ t) ds)
all_cons n x [] a = tt
all_cons n x (d ∷ ds) a = (ap suc a.0, all_cons n x ds a.1)

choose_size : (n : ℕ) (l : List ℕ) → All (Sized n) (choose n l)
unfolding choose
choose_size zero l = (refl, tt)
choose_size (suc n) [] = tt
choose_size (suc n) (x ∷ l) =
    all_append (Sized (suc n)) (map (λ (t : List ℕ). x ∷ t) (choose n l)) (choose (suc n) l) (all_cons n x (choose n l) (choose_size n l))
    (choose_size (suc n) l)

all_filter : {A : Type 0} (P : A → Type 0) (f : A → Bool) (l : List A) → All P l → All P (filterb f l)
unfolding filterb
all_filter P f [] a = tt
all_filter P f (x ∷ l) a = go (f x) refl (all_filter P f l a.1)
  where
    go : (b : Bool) → f x ≡ b → All P (filterb f l) → All P (filterb f (x ∷ l))
    go true e r = rw (e, filterb) (a.0, r)
    go false e r = rw (e, filterb) r

family_size : (p : ℕ) → All (Sized 4) (family p)
unfolding family
family_size p = all_filter (Sized 4) (childb (present p)) (choose 4 (present p)) (choose_size 4 (present p))

from_four : {A : Type 0} (k : ℕ) (c : Cell A) (r : Bool) (f : ℕ → A) (i : ℕ) (ds : List (List ℕ)) → All (Sized 4) ds
    → All Four (children_from k c r f i ds)
unfolding children_from
from_four k c r f i [] a = tt
from_four k c r f i (d ∷ ds) a = (length-map d f ∙ a.0, from_four k c r f (suc i) ds a.1)

children_four : {A : Type 0} (k : ℕ) (c : Cell A) (s : ℕ) (f : ℕ → A) → All Four (children k c s f)
unfolding children
children_four k c s f = go (eqb s 0) refl
  where
    go : (b : Bool) → eqb s 0 ≡ b → All Four (children k c s f)
    go true e = rw (e, children) tt
    go false e = rw (e, children) (from_four k c (redb s) f 0 (family (pattern_of s)) (family_size (pattern_of s)))

next_four : (k : ℕ) (cs : List (Cell Point)) (ss : List ℕ) → All Four (next k cs ss)
unfolding next
next_four k [] ss = tt
next_four k (c ∷ cs) [] = tt
next_four k (c ∷ cs) (s ∷ ss) =
    all_append Four (children k c s (point c)) (next (suc k) cs ss) (children_four k c s (point c)) (next_four (suc k) cs ss)

levels_four : (f k : ℕ) (cs : List (Cell Point)) (ss : List ℕ) → All Four cs → All Four (cells_of (levels f k cs ss))
unfolding levels cells_of flat_map
levels_four zero k cs ss a = tt
levels_four (suc f) k [] ss a = tt
levels_four (suc f) k (c ∷ cs) ss a =
    let m = length (c ∷ cs) in
    let up = next k (c ∷ cs) (take m ss) in
    all_append Four (c ∷ cs) (cells_of (levels f (k + m) up (drop m ss))) a
    (levels_four f (k + m) up (drop m ss) (next_four k (c ∷ cs) (take m ss)))

coarse_four : (n i : ℕ) (qs : List (List ℕ)) → All (Sized 4) qs → All Four (coarse_from n i qs)
unfolding coarse_from
coarse_four n i [] a = tt
coarse_four n i (q ∷ qs) a = (length-map q (coarse n) ∙ a.0, coarse_four n (suc i) qs a.1)

pub cells_four : (n : ℕ) (qs : List (List ℕ)) (ss : List ℕ) → All (λ q. length q ≡ 4) qs → All Four (cells_of (levels_of n qs ss))
unfolding levels_of coarse_cells
cells_four n qs ss a = levels_four 12 0 (coarse_cells n qs) ss (coarse_four n 0 qs a)

pub map-four : {A B : Type 0} (f : A → B) (cs : List (Cell A)) → All Four cs → All Four (map (map_cell f) cs)
unfolding map_cell
map-four f [] a = tt
map-four f (c ∷ cs) a = (length-map c.points f ∙ a.0, map-four f cs a.1)
