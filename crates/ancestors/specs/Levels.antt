-- The cells of a table are linked: a child has its parent's number, which is the parent's place, and stands on a later level.
-- Assumes nothing.
use Rattle.std.specs.Prelude.{◌≡◌, ◌⊎◌, Bool, ℕ, zero, suc, ◌+◌, ◌-◌, ◌<◌, ltb, length, get_or, take, drop}
use Rattle.std.proofs.Math.Path.{refl, ap}
use Rattle.std.proofs.Common.{sym, ◌∙◌, subst, inl, inr, ⊎_elim, add-zero, suc-add, add-suc, arith, length-append, get_or-append-add, ltb-true, ltb-false}
use Rattle.std.proofs.Math.Bool.{true, false}
use mathlib.Core.List.{List, [], ◌∷◌, ◌++◌, map, flat_map, append_assoc, append-nil}
use Rattle.std.proofs.Math.Dec.{eqb}
use Rattle.std.proofs.lemmas.List.{length-map}
use Rattle.std.proofs.Math.ListN.{get_or-append, get_or-map}
use Rattle.std.proofs.Math.Seq.{append_snoc, get_or-append_seam}
use Rattle.cutting.specs.Rule.{family}
use Rattle.mesh.specs.Cells.{Cell, none, redb, pattern_of, children_from, children, no_cell}
use Rattle.mesh.specs.Weights.{Point, point, coarse_from, coarse_cells}
use Rattle.mesh.specs.Table.{next, levels, levels_of, cells_of}
use Rattle.mesh.specs.Layout.{map_cell}
use Rattle.base.specs.Every.{All, all_append, all_at}
use Rattle.ancestors.specs.Linked.{linked_path, parent_at, Rooted, Descends, Linked}

-- the cell c is a child of one of the cells l
record KidOf {A : Type 0} (l : List (Cell A)) (c : Cell A) : Type 0 where
  below : c.parent < length l
  number : ℕ
  path : c.path ≡ linked_path l c.parent ++ (number ∷ [])

-- children behind linked cells
module _ {A : Type 0} (l m : List (Cell A)) where
  front : (k : ℕ) → k < length l → get_or (l ++ m) k no_cell ≡ get_or l k no_cell
  front k h = get_or-append l m no_cell k h

  old_root : (k : ℕ) → k < length l → Rooted l k → Rooted (l ++ m) k
  old_root k h r =
      record {
        path = ap (λ (d : Cell A). d.path) (front k h) ∙ r.path;
        parent = ap (λ (d : Cell A). d.parent) (front k h) ∙ r.parent;
      }

  old_child_lem : (k : ℕ) → k < length l → Descends l k → Descends (l ++ m) k
  old_child_lem k h c =
      let e : parent_at (l ++ m) k ≡ parent_at l k = ap (λ (d : Cell A). d.parent) (front k h) in
      let p : linked_path (l ++ m) k ≡ linked_path l k = ap (λ (d : Cell A). d.path) (front k h) in
      let q : linked_path (l ++ m) (parent_at l k) ≡ linked_path l (parent_at l k) = ap (λ (d : Cell A). d.path)
      (front (parent_at l k) (omega (arith, c.below))) in
      record {
        below = rw e c.below;
        number = c.number;
        path = p ∙ c.path ∙ ap (λ (r : List ℕ). r ++ (c.number ∷ []))
            (sym q ∙ ap (linked_path (l ++ m)) (sym e));
      }

  new_child : (j : ℕ) → KidOf l (get_or m j no_cell) → Descends (l ++ m) (length l + j)
  new_child j c =
      let w : get_or (l ++ m) (length l + j) no_cell ≡ get_or m j no_cell = get_or-append-add l m j no_cell in
      let e : parent_at (l ++ m) (length l + j) ≡ parent_at m j = ap (λ (d : Cell A). d.parent) w in
      let p : linked_path (l ++ m) (length l + j) ≡ linked_path m j = ap (λ (d : Cell A). d.path) w in
      let q : linked_path (l ++ m) (parent_at m j) ≡ linked_path l (parent_at m j) = ap (λ (d : Cell A). d.path)
      (front (parent_at m j) c.below) in
      record {
        below = omega (arith, e, c.below);
        number = c.number;
        path = p ∙ c.path ∙ ap (λ (r : List ℕ). r ++ (c.number ∷ [])) (sym q ∙ ap (linked_path (l ++ m)) (sym e));
      }

  grown : Linked l → All (KidOf l) m → Linked (l ++ m)
  grown o a = record { link = λ k h. go k h (ltb k (length l)) refl }
    where
      old : (k : ℕ) → k < length l → Rooted (l ++ m) k ⊎ Descends (l ++ m) k
      old k h =
          ⊎_elim (λ (r : Rooted l k). inl (old_root k h r))
          (λ (c : Descends l k). inr (old_child_lem k h c))
          (o.link k h)

      go : (k : ℕ) → k < length (l ++ m) → (b : Bool) → ltb k (length l) ≡ b → Rooted (l ++ m) k ⊎ Descends (l ++ m) k
      go k h true t = old k (ltb-true k (length l) t)
      go k h false t =
          let j = k - length l in
          let e : length l + j ≡ k = omega (arith, ltb-false k (length l) t) in
          let i : j < length m = omega (arith, e, h, length-append l m) in
          inr (subst (λ (n : ℕ). Descends (l ++ m) n) e (new_child j (all_at (KidOf l) no_cell m a j i)))

-- the families of cells that stand in l
module _ {A : Type 0} (l : List (Cell A)) (k : ℕ) (c : Cell A) (h : k < length l) (p : linked_path l k ≡ c.path) where
  kids_from : (r : Bool) (f : ℕ → A) (i : ℕ) (ds : List (List ℕ)) → All (KidOf l) (children_from k c r f i ds)
  unfolding children_from
  kids_from r f i [] = tt
  kids_from r f i (d ∷ ds) = (record { below = h; number = i; path = ap (λ (q : List ℕ). q ++ (i ∷ [])) (sym p) }, kids_from r f (suc i) ds)

  kids : (s : ℕ) (f : ℕ → A) → All (KidOf l) (children k c s f)
  unfolding children
  kids s f = go (eqb s 0) refl
    where
      go : (b : Bool) → eqb s 0 ≡ b → All (KidOf l) (children k c s f)
      go true e = rw (e, children) tt
      go false e = rw (e, children) (kids_from (redb s) f 0 (family (pattern_of s)))

next_kids : (l before cs : List (Cell Point)) (ss : List ℕ) → l ≡ before ++ cs → All (KidOf l) (next (length before) cs ss)
unfolding next
next_kids l before [] ss e = tt
next_kids l before (c ∷ cs) [] e = tt
next_kids l before (c ∷ cs) (s ∷ ss) e =
    let h : length before < length l = omega (arith, ap length e, length-append before (c ∷ cs)) in
    let p : linked_path l (length before) ≡ c.path = rw e (ap (λ (d : Cell Point). d.path) (get_or-append_seam before c cs no_cell)) in
    let w : length (before ++ (c ∷ [])) ≡ suc (length before) = omega (arith, length-append before (c ∷ [])) in
    let i : All (KidOf l) (next (suc (length before)) cs ss) = rw w at
    (next_kids l (before ++ (c ∷ [])) cs ss (e ∙ sym (append_snoc before c cs))) in
    all_append (KidOf l) (children (length before) c s (point c)) (next (suc (length before)) cs ss)
    (kids l (length before) c h p s (point c)) i

levels_linked : (f : ℕ) (before cs : List (Cell Point)) (ss : List ℕ) → Linked before → Linked (before ++ cs)
    → Linked (before ++ cells_of (levels f (length before) cs ss))
unfolding levels cells_of flat_map
levels_linked zero before cs ss o a = rw (append-nil before) o
levels_linked (suc f) before [] ss o a = rw (append-nil before) o
levels_linked (suc f) before (c ∷ cs) ss o a =
    let m = length (c ∷ cs) in
    let up = next (length before) (c ∷ cs) (take m ss) in
    let w : length (before ++ (c ∷ cs)) ≡ length before + m = length-append before (c ∷ cs) in
    let i : Linked ((before ++ (c ∷ cs)) ++ cells_of (levels f (length before + m) up (drop m ss))) =
    rw w at (levels_linked f (before ++ (c ∷ cs)) up (drop m ss) a
    (grown (before ++ (c ∷ cs)) up a (next_kids (before ++ (c ∷ cs)) before (c ∷ cs) (take m ss) refl))) in
    rw append_assoc at i

coarse_path : (n i : ℕ) (qs : List (List ℕ)) (k : ℕ) → k < length (coarse_from n i qs) → linked_path (coarse_from n i qs) k ≡ (i + k) ∷ []
unfolding coarse_from
coarse_path n i [] k h = absurd (omega arith)
coarse_path n i (q ∷ qs) zero h = rw (add-zero i)
coarse_path n i (q ∷ qs) (suc k) h = coarse_path n (suc i) qs k (omega arith) ∙ rw (suc-add i k, add-suc i k)

coarse_parent : (n i : ℕ) (qs : List (List ℕ)) (k : ℕ) → k < length (coarse_from n i qs) → parent_at (coarse_from n i qs) k ≡ none
unfolding coarse_from
coarse_parent n i [] k h = absurd (omega arith)
coarse_parent n i (q ∷ qs) zero h = refl
coarse_parent n i (q ∷ qs) (suc k) h = coarse_parent n (suc i) qs k (omega arith)

coarse_linked : (n : ℕ) (qs : List (List ℕ)) → Linked (coarse_cells n qs)
unfolding coarse_cells
coarse_linked n qs =
    record {
      link = λ k h.
          let e : 0 + k ≡ k = omega arith in inl (record { path = coarse_path n 0 qs k h ∙ rw e; parent = coarse_parent n 0 qs k h });
    }

-- the cells of a table, which are numbered level by level
pub cells_linked : (n : ℕ) (qs : List (List ℕ)) (ss : List ℕ) → Linked (cells_of (levels_of n qs ss))
unfolding levels_of
cells_linked n qs ss = levels_linked 12 [] (coarse_cells n qs) ss (record { link = λ k h. absurd (omega arith) }) (coarse_linked n qs)

-- the same cells over other points
pub map_linked : {A B : Type 0} (f : A → B) (cs : List (Cell A)) → Linked cs → Linked (map (map_cell f) cs)
unfolding map_cell
map_linked {A} {B} f cs l = record { link = λ k h. go k (l.link k (omega (arith, h, length-map cs (map_cell f)))) }
  where
    path_same : (k : ℕ) → linked_path (map (map_cell f) cs) k ≡ linked_path cs k
    path_same k = ap (λ (c : Cell B). c.path) (get_or-map (map_cell f) cs k no_cell)

    parent_same : (k : ℕ) → parent_at (map (map_cell f) cs) k ≡ parent_at cs k
    parent_same k = ap (λ (c : Cell B). c.parent) (get_or-map (map_cell f) cs k no_cell)

    go : (k : ℕ) → Rooted cs k ⊎ Descends cs k → Rooted (map (map_cell f) cs) k ⊎ Descends (map (map_cell f) cs) k
    go k (inl r) = inl (record { path = path_same k ∙ r.path; parent = parent_same k ∙ r.parent })
    go k (inr c) =
        inr
        record {
          below = rw (parent_same k) c.below;
          number = c.number;
          path = path_same k ∙ c.path ∙ ap (λ (r : List ℕ). r ++ (c.number ∷ []))
              (sym (path_same (parent_at cs k)) ∙ ap (linked_path (map (map_cell f) cs)) (sym (parent_same k)));
        }
