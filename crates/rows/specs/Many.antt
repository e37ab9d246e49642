-- How many children there are, and how many statuses.
--   length-children   a cell's children are as many as its status says; size_refined, size_some: of a refined cell
--   next_size, length-next   the cells one level up
--   closed_many       a closed level has a status for each cell
use Rattle.std.specs.Prelude.{◌≡◌, refl, ◌≢◌, Bool, true, false, List, [], ◌∷◌, ℕ, suc, ◌+◌, ◌≤◌, ◌<◌, T, eqb, length}
use Rattle.std.proofs.Common.{◌∙◌, ap, ap₂, arith, length-append, ne_eqb}
use Rattle.base.specs.Lists.{sameb}
use Rattle.base.specs.Bools.{and_right}
use Rattle.cutting.specs.Rule.{family}
use Rattle.mesh.specs.Cells.{Cell, redb, pattern_of, status_of, closed_from, children, children_from}
use Rattle.mesh.specs.Weights.{Point, point}
use Rattle.mesh.specs.Table.{next, size_of, sizes}

length_from : {A : Type 0} (k : ℕ) (c : Cell A) (r : Bool) (f : ℕ → A) (i : ℕ) (ds : List (List ℕ))
    → length (children_from k c r f i ds) ≡ length ds
unfolding children_from
length_from k c r f i [] = refl
length_from k c r f i (d ∷ ds) = ap suc (length_from k c r f (suc i) ds)

pub length-children : {A : Type 0} (k : ℕ) (c : Cell A) (s : ℕ) (f : ℕ → A) → length (children k c s f) ≡ size_of s
unfolding children size_of
length-children k c s f = go (eqb s 0) refl
  where
    go : (b : Bool) → eqb s 0 ≡ b → length (children k c s f) ≡ size_of s
    go true e = rw (e, children, size_of)
    go false e = rw (e, children, size_of) (length_from k c (redb s) f 0 (family (pattern_of s)))

pub size_refined : (s : ℕ) → s ≢ 0 → size_of s ≡ length (family (pattern_of s))
unfolding size_of
size_refined s z = rw (ne_eqb s 0 z, size_of)

pub size_some : (s i : ℕ) → i < size_of s → s ≢ 0
unfolding size_of
size_some s i h e = let w : i < 0 = rw e at h in omega arith

pub next_size : (k : ℕ) (cs : List (Cell Point)) (ss : List ℕ) → length ss ≤ length cs → length (next k cs ss) ≡ sizes ss
unfolding next sizes
next_size k [] [] h = refl
next_size k [] (s ∷ ss) h = absurd (omega arith)
next_size k (c ∷ cs) [] h = refl
next_size k (c ∷ cs) (s ∷ ss) h =
    length-append (children k c s (point c)) (next (suc k) cs ss)
    ∙ ap₂ ◌+◌ (length-children k c s (point c)) (next_size (suc k) cs ss (omega arith))

pub length-next : (k : ℕ) (cs : List (Cell Point)) (ss : List ℕ) → length cs ≡ length ss → length (next k cs ss) ≡ sizes ss
length-next k cs ss e = next_size k cs ss (omega arith)

pub closed_many : (es : List (Point × Point)) (cs : List (Cell Point)) (ss : List ℕ) → T (closed_from [] sameb es cs ss)
    → length ss ≡ length cs
unfolding closed_from
closed_many es [] [] t = refl
closed_many es [] (s ∷ ss) t = absurd t
closed_many es (c ∷ cs) [] t = absurd t
closed_many es (c ∷ cs) (s ∷ ss) t = ap suc
    (closed_many es cs ss (and_right (eqb s (status_of [] sameb es (redb s) c)) (closed_from [] sameb es cs ss) t))
