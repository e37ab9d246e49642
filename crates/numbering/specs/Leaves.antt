-- Levels of leaves add nothing, and a level with nothing above it has leaves alone.
--   Leaves cs ss   no cell of cs has a family
-- Laws: leaf_corners, leaf_ends, leaf_next, leaf_numbers (nothing is added), next_leaves.
use Rattle.std.specs.Prelude.{◌≢◌, ◌≡◌, Bool, true, false, ℕ, suc, ◌≤◌, ◌<◌, eqb, length}
use Rattle.std.proofs.Math.Path.{refl}
use mathlib.Core.List.{List, [], ◌∷◌}
use Rattle.std.proofs.Common.{arith, length-append, eqb-true}
use Rattle.cutting.specs.Rule.{volume, family}
use Rattle.families.specs.Facts.{volumes, volumes_add_up}
use Rattle.mesh.specs.Cells.{Cell, redb, pattern_of, children, children_from}
use Rattle.mesh.specs.Weights.{Point, point}
use Rattle.mesh.specs.Table.{next}
use Rattle.mesh.specs.Layout.{Corner, add_corners, corners_from}
use Rattle.edges.specs.Pairs.{Pair, add_pairs}
use Rattle.rows.specs.Numbered.{ends_from, next_of}
use Rattle.numbering.specs.Tests.{numbered_cells}
use Rattle.numbering.specs.Refined.{Both, Refined}
use Rattle.mesh.specs.Laws.{pattern_below}

-- Rule 4.1: no cell is refined.
abbrev pub Leaves : List (Cell Point) → List ℕ → Type 0
Leaves cs ss = Both (λ c s. s ≡ 0) cs ss

module _ (ks : List Corner) (es : List Pair) where
  pub leaf_corners : (cs : List (Cell Point)) (ss : List ℕ) → Leaves cs ss → corners_from ks cs ss ≡ ks
  unfolding corners_from add_corners
  leaf_corners [] ss l = refl
  leaf_corners (c ∷ cs) [] l = refl
  leaf_corners (c ∷ cs) (s ∷ ss) l = rw l.0 (leaf_corners cs ss l.1)

  pub leaf_ends : (cs : List (Cell Point)) (ss : List ℕ) → Leaves cs ss → ends_from es (numbered_cells ks cs) ss ≡ es
  unfolding ends_from add_pairs
  leaf_ends [] ss l = refl
  leaf_ends (c ∷ cs) [] l = refl
  leaf_ends (c ∷ cs) (s ∷ ss) l = rw l.0 (leaf_ends cs ss l.1)

pub leaf_next : (j : ℕ) (cs : List (Cell Point)) (ss : List ℕ) → Leaves cs ss → next j cs ss ≡ []
unfolding next children
leaf_next j [] ss l = refl
leaf_next j (c ∷ cs) [] l = refl
leaf_next j (c ∷ cs) (s ∷ ss) l = rw l.0 (leaf_next (suc j) cs ss l.1)

pub leaf_numbers : (n j : ℕ) (ks : List Corner) (es : List Pair) (cs : List (Cell Point)) (ss : List ℕ) → Leaves cs ss
    → next_of n es j (numbered_cells ks cs) ss ≡ []
unfolding next_of children
leaf_numbers n j ks es [] ss l = refl
leaf_numbers n j ks es (c ∷ cs) [] l = refl
leaf_numbers n j ks es (c ∷ cs) (s ∷ ss) l = rw l.0 (leaf_numbers n (suc j) ks es cs ss l.1)

-- A cell with a status other than 0 has children.
family_some : (p : ℕ) → p < 64 → family p ≢ []
unfolding volumes volume
family_some p h e = let z : ◌≡◌ {A = ℕ} 0 8 = rw e at (volumes_add_up p h) in omega arith

children_none : (j : ℕ) (c : Cell Point) (s : ℕ) → s ≤ 64 → length (children j c s (point c)) ≡ 0 → s ≡ 0
unfolding children children_from
children_none j c s h e = go (eqb s 0) refl (family (pattern_of s)) refl
  where
    go : (z : Bool) → eqb s 0 ≡ z → (f : List (List ℕ)) → family (pattern_of s) ≡ f → s ≡ 0
    go true t f u = eqb-true s 0 t
    go false t [] u = absurd (family_some (pattern_of s) (pattern_below s h) u)
    go false t (d ∷ f) u = let z : length (children_from j c (redb s) (point c) 0 (d ∷ f)) ≡ 0 = rw (t, u, children) at e in
        absurd (omega arith)

pub next_leaves : (j : ℕ) (cs : List (Cell Point)) (ss : List ℕ) → Refined cs ss → length (next j cs ss) ≡ 0 → Leaves cs ss
unfolding next
next_leaves j [] ss f e = tt
next_leaves j (c ∷ cs) [] f e = tt
next_leaves j (c ∷ cs) (s ∷ ss) f e =
    let w = length-append (children j c s (point c)) (next (suc j) cs ss) in
    (children_none j c s f.0.small (omega arith), next_leaves (suc j) cs ss f.1 (omega arith))
