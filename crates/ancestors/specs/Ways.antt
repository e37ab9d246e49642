-- In a table of the rows of linked cells the way from a cell leads to its coarse ancestor, in as many turns as its level says. All numbers
-- of cells are below the one that stands for no parent.
-- Laws: upward, climb_right (coarse cell and level), turns_level (the turns are what the row has for a level).
use Rattle.std.specs.Prelude.{◌≡◌, ◌⊎◌, ℕ, zero, suc, ◌+◌, ◌*◌, ◌≤◌, ◌<◌, pred, length, get_or, take}
use Rattle.std.proofs.Common.{sym, ◌∙◌, ap, ap₂, inl, inr, ⊎_elim, length-append, length-take, get_or-take}
use mathlib.Core.List.{List, [], ◌∷◌, ◌++◌, flat_map}
use native.Mathlib.Omega.{arith}
use Rattle.std.proofs.Math.ListN.{get_or-append}
use Rattle.mesh.specs.Cells.{Cell, none, no_cell, Four}
use Rattle.mesh.specs.Layout.{row_of}
use Rattle.base.specs.Every.{All}
use Rattle.ancestors.specs.declared.Ancestor.{Ancestor}
use Rattle.ancestors.specs.Climb.{level_in, parent_in, ancestor, raised, climb_from, climb_here, climb_up, Upward}
use Rattle.ancestors.specs.Linked.{linked_path, parent_at, Rooted, Descends, Linked, ancestor_of}
use Rattle.rows.specs.Laws.{rows_size, row_at}

-- a path has at least one number
module _ {A : Type 0} (cs : List (Cell A)) (l : Linked cs) where
  path_some : (k : ℕ) → k < length cs → 0 < length (linked_path cs k)
  path_some k h =
      ⊎_elim (λ (r : Rooted cs k). rw r.path (omega arith))
      (λ (c : Descends cs k). rw c.path (omega (arith, length-append (linked_path cs (parent_at cs k)) (c.number ∷ []))))
      (l.link k h)

abbrev path_ancestor : List ℕ → Ancestor
path_ancestor p = ancestor (get_or p 0 0) (pred (length p))

child_ancestor : (p : List ℕ) (i : ℕ) → 0 < length p → raised (path_ancestor p) ≡ path_ancestor (p ++ (i ∷ []))
child_ancestor p i h =
    let e : suc (pred (length p)) ≡ pred (length (p ++ (i ∷ []))) = omega (arith, length-append p (i ∷ [])) in
    ap₂ ancestor (sym (get_or-append p (i ∷ []) 0 0 h)) e

module _ (cs : List (Cell ℕ)) (few : length cs ≤ none) (l : Linked cs) (four : All Four cs) (t : List ℕ)
    (rows : take (8 * length cs) t ≡ flat_map row_of cs) where
  long : 8 * length cs ≤ length t
  long = omega (arith, ap length rows, rows_size cs four, length-take (8 * length cs) t)

  held : (k i : ℕ) → k < length cs → i < 8 → get_or t (8 * k + i) 0 ≡ get_or (row_of (get_or cs k no_cell)) i 0
  held k i h g =
      sym (get_or-take (8 * length cs) t (8 * k + i) 0 (omega arith)) ∙ ap (λ (m : List ℕ). get_or m (8 * k + i) 0) rows
      ∙ row_at cs four k i h g

  level_held : (k : ℕ) → k < length cs → level_in t k ≡ pred (length (linked_path cs k))
  unfolding row_of
  level_held k h = let e : 8 * k + 0 ≡ 8 * k = omega arith in rw e at (held k 0 h (omega arith))

  parent_held : (k : ℕ) → k < length cs → parent_in t k ≡ parent_at cs k
  unfolding row_of
  parent_held k h = held k 1 h (omega arith)

  no_parent : (k : ℕ) → k < length cs → Rooted cs k → parent_in t k ≡ none
  no_parent k h r = parent_held k h ∙ r.parent

  some_parent : (k : ℕ) → k < length cs → Descends cs k → parent_in t k ≡ none → ⊥
  some_parent k h d e = omega (arith, parent_held k h, e, d.below, few)

  pub upward : Upward t (length cs)
  upward = record { long = long; up = λ k h p. go k h p (l.link k h) }
    where
      go : (k : ℕ) → k < length cs → (parent_in t k ≡ none → ⊥) → Rooted cs k ⊎ Descends cs k → parent_in t k < k
      go k h p (inl r) = absurd (p (no_parent k h r))
      go k h p (inr d) = rw (parent_held k h) d.below

  -- a coarse cell is where the way ends
  way_ends : (f k : ℕ) → k < length cs → Rooted cs k → climb_from t f k ≡ ancestor_of (get_or cs k no_cell)
  way_ends f k h r = climb_here t f k (no_parent k h r) ∙ rw r.path

  way : (f k : ℕ) → k ≤ f → k < length cs → climb_from t f k ≡ ancestor_of (get_or cs k no_cell)
  way zero k g h = ⊎_elim (way_ends zero k h) (λ (d : Descends cs k). absurd (omega (arith, d.below))) (l.link k h)
  way (suc f) k g h =
      ⊎_elim (way_ends (suc f) k h)
      (λ (d : Descends cs k).
      let p : ℕ = parent_at cs k in
      let b : p < length cs = omega (arith, d.below) in
      climb_up t f k (some_parent k h d) ∙ ap (λ (q : ℕ). raised (climb_from t f q)) (parent_held k h)
      ∙ ap raised (way f p (omega (arith, d.below)) b) ∙ child_ancestor (linked_path cs p) d.number (path_some cs l p b)
      ∙ rw d.path)
      (l.link k h)

  pub climb_right : (c : ℕ) → c < length cs → climb_from t c c ≡ ancestor_of (get_or cs c no_cell)
  climb_right c h = way c c (omega arith) h

  pub turns_level : (c : ℕ) → c < length cs → (climb_from t c c).level ≡ level_in t c
  turns_level c h = ap (λ (a : Ancestor). a.level) (climb_right c h) ∙ sym (level_held c h)
