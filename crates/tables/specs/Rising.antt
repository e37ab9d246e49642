-- From one level to the next: what holds of `next` over weights.
-- Assumes nothing.
use Rattle.std.specs.Prelude.{◌≡◌, Bool, ◌&&◌}
use Rattle.std.proofs.Math.Path.{refl}
use Rattle.std.proofs.Common.{◌∙◌, eqb→eq, eq-eqb}
use Rattle.std.proofs.Math.Bool.{true, false}
use mathlib.Core.List.{List, [], ◌∷◌, ◌++◌}
use Prim.Native.Nat.{ℕ, suc, ◌+◌, ◌≤◌, ◌<◌}
use native.Mathlib.Omega.{arith}
use Rattle.std.proofs.Math.Dec.{T, eqb}
use Rattle.std.proofs.Math.ListN.{length, length-append}
use Rattle.base.specs.Lists.{allb}
use Rattle.base.specs.Bools.{and_left, and_right}
use Rattle.cutting.specs.Rule.{family}
use Rattle.mesh.specs.Cells.{Cell, redb, pattern_of, children, children_from}
use Rattle.mesh.specs.Weights.{Point, point, coarse_from}
use Rattle.mesh.specs.Table.{next}
use Rattle.base.specs.Every.{All, all_append}
use Rattle.tables.specs.Here.{Child}

abbrev pub deepb : ℕ → List (Cell Point) → Bool
deepb l cs = allb (λ c. eqb (length c.path) l) cs

deep_append : (l : ℕ) (cs ds : List (Cell Point)) → T (deepb l cs) → T (deepb l ds) → T (deepb l (cs ++ ds))
unfolding allb
deep_append l [] ds a b = b
deep_append l (c ∷ cs) ds a b = go (eqb (length c.path) l) a (deep_append l cs ds)
  where
    go : (t : Bool) → T (t && deepb l cs) → (T (deepb l cs) → T (deepb l ds) → T (deepb l (cs ++ ds))) → T (t && deepb l (cs ++ ds))
    go true u i = i u b
    go false u i = absurd u

module _ (k : ℕ) (c : Cell Point) (l : ℕ) (e : length c.path ≡ l) (f : ℕ → Point) where
  deep_from : (r : Bool) (i : ℕ) (ds : List (List ℕ)) → T (deepb (suc l) (children_from k c r f i ds))
  unfolding children_from allb
  deep_from r i [] = tt
  deep_from r i (d ∷ ds) =
      let w : length (c.path ++ (i ∷ [])) ≡ suc l = length-append c.path (i ∷ []) ∙ omega arith in
      rw (eq-eqb (length (c.path ++ (i ∷ []))) (suc l) w) (deep_from r (suc i) ds)

  deep_children : (s : ℕ) → T (deepb (suc l) (children k c s f))
  unfolding children allb
  deep_children s = go (eqb s 0) refl
    where
      go : (b : Bool) → eqb s 0 ≡ b → T (deepb (suc l) (children k c s f))
      go true q = rw (q, children) tt
      go false q = rw (q, children) (deep_from (redb s) 0 (family (pattern_of s)))

pub deep_next : (l k : ℕ) (cs : List (Cell Point)) (ss : List ℕ) → T (deepb l cs) → T (deepb (suc l) (next k cs ss))
unfolding next allb
deep_next l k [] ss t = tt
deep_next l k (c ∷ cs) [] t = tt
deep_next l k (c ∷ cs) (s ∷ ss) t =
    deep_append (suc l) (children k c s (point c)) (next (suc k) cs ss)
    (deep_children k c l (eqb→eq (length c.path) l (and_left (eqb (length c.path) l) (deepb l cs) t)) (point c) s)
    (deep_next l (suc k) cs ss (and_right (eqb (length c.path) l) (deepb l cs) t))

-- the parents of the next level are cells of this one
module _ (n k : ℕ) (c : Cell Point) (h : k < n) (f : ℕ → Point) where
  child_from : (r : Bool) (i : ℕ) (ds : List (List ℕ)) → All (Child n) (children_from k c r f i ds)
  unfolding children_from
  child_from r i [] = tt
  child_from r i (d ∷ ds) = (λ q. h, child_from r (suc i) ds)

  child_children : (s : ℕ) → All (Child n) (children k c s f)
  unfolding children
  child_children s = go (eqb s 0) refl
    where
      go : (b : Bool) → eqb s 0 ≡ b → All (Child n) (children k c s f)
      go true q = rw (q, children) tt
      go false q = rw (q, children) (child_from (redb s) 0 (family (pattern_of s)))

pub child_next : (n k : ℕ) (cs : List (Cell Point)) (ss : List ℕ) → k + length cs ≤ n → All (Child n) (next k cs ss)
unfolding next
child_next n k [] ss h = tt
child_next n k (c ∷ cs) [] h = tt
child_next n k (c ∷ cs) (s ∷ ss) h =
    all_append (Child n) (children k c s (point c)) (next (suc k) cs ss) (child_children n k c (omega arith) (point c) s)
    (child_next n (suc k) cs ss (omega arith))

-- coarse cells
pub deep_coarse : (n i : ℕ) (qs : List (List ℕ)) → T (deepb 1 (coarse_from n i qs))
unfolding coarse_from allb
deep_coarse n i [] = tt
deep_coarse n i (q ∷ qs) = deep_coarse n (suc i) qs

pub child_coarse : (n m i : ℕ) (qs : List (List ℕ)) → All (Child m) (coarse_from n i qs)
unfolding coarse_from
child_coarse n m i [] = tt
child_coarse n m i (q ∷ qs) = (λ e. let w : ◌≡◌ {A = ℕ} 0 1 = cc e in absurd (omega arith), child_coarse n m (suc i) qs)
