-- What a solver relies on: leaf edges and leaf faces (docs/METHOD.md, rules 13.1 and 13.2). By weights alone, positions
-- do not count. n is the number of coarse corners, qs the coarse cells, ss a table over them.
--   leaves_in cs ss        the cells of cs with status 0
--   leaves_of n qs ss      the leaves of the table
--   points_of n qs ss      its corners, by their weights
--   middleb p e           p is in the middle of the edge e
--   face_at c i            face i of a cell leaves out its corner i: three corners, as a set
--   same_faceb f g         the same three corners
--   has_faceb f c          f is a face of c
--   leaves_with n qs ss f  how many leaves have the face f
--   boundary_faces qs      the coarse boundary: the coarse faces that belong to one cell
--   on_coarse_faceb f t           the weights of f are on the coarse corners t alone
--   on_boundaryb qs f      f lies on the coarse boundary
--   openb n qs ss         no leaf edge has a corner in its middle
--   meetb n qs ss         each leaf face is in two leaves, or in one where it lies on the coarse boundary
use Rattle.std.specs.Prelude.{Bool, true, false, ◌&&◌, ◌||◌, not, ℕ, suc, ◌+◌, ◌*◌, eqb, length}
use mathlib.Core.List.{List, [], ◌∷◌, map, flat_map, zip_with}
use Rattle.base.specs.Lists.{allb, anyb, filterb, memberb, sameb}
use Rattle.base.specs.Fours.{faces, holders}
use Rattle.mesh.specs.Cells.{Cell, corner, edge}
use Rattle.mesh.specs.Weights.{Point}
use Rattle.mesh.specs.Table.{levels_of, cells_of}
use Rattle.mesh.specs.Layout.{weights_of, corners_of}

-- Rule 4.1: status 0.
unfoldable pub leaves_in : List (Cell Point) → List ℕ → List (Cell Point)
leaves_in [] ss = []
leaves_in (c ∷ cs) [] = []
leaves_in (c ∷ cs) (s ∷ ss) = elim (eqb s 0) [ true ↦ c ∷ leaves_in cs ss | false ↦ leaves_in cs ss ]

-- Rule 4.1: the leaves of a table.
unfoldable pub leaves_of : ℕ → List (List ℕ) → List ℕ → List (Cell Point)
unfolding leaves_in cells_of levels_of
leaves_of n qs ss = leaves_in (cells_of (levels_of n qs ss)) ss

-- Rules 5.1, 5.5: its corners.
unfoldable pub points_of : ℕ → List (List ℕ) → List ℕ → List Point
unfolding corners_of cells_of levels_of
points_of n qs ss = weights_of (corners_of n (cells_of (levels_of n qs ss)) ss)

-- Rule 5.4: twice a corner's weights are the sum of the ends'.
unfoldable pub middleb : Point → Point × Point → Bool
unfolding sameb
middleb p e = sameb (map (λ w. 2 * w) p) (zip_with ◌+◌ e.0 e.1)

-- Rule 2.1: face i leaves out corner i.
unfoldable pub face_at : Cell Point → ℕ → List Point
face_at c i =
    map (corner [] c) (filterb (λ j. not (eqb j i)) (0 ∷ 1 ∷ 2 ∷ 3 ∷ []))

-- Rule 13.2: faces are sets of corners.
unfoldable pub same_faceb : List Point → List Point → Bool
unfolding allb anyb sameb
same_faceb f g = allb (λ p. anyb (sameb p) g) f && allb (λ p. anyb (sameb p) f) g

-- Rule 2.1: one of the four.
unfoldable pub has_faceb : List Point → Cell Point → Bool
unfolding anyb same_faceb face_at
has_faceb f c = anyb (λ i. same_faceb f (face_at c i)) (0 ∷ 1 ∷ 2 ∷ 3 ∷ [])

-- Rule 13.2: how many leaves have a face.
unfoldable pub leaves_with : ℕ → List (List ℕ) → List ℕ → List Point → ℕ
unfolding leaves_of filterb has_faceb
leaves_with n qs ss f = length (filterb (has_faceb f) (leaves_of n qs ss))

-- Rule 5.8: coarse faces in one coarse cell.
unfoldable pub boundary_faces : List (List ℕ) → List (List ℕ)
unfolding filterb faces holders flat_map
boundary_faces qs = filterb (λ t. eqb (holders qs t) 1) (flat_map faces qs)

-- Rule 5.8: no weight but on the corners t, from coarse corner i on.
unfoldable pub offb : ℕ → Point → List ℕ → Bool
offb i [] t = true
offb i (w ∷ p) t = (eqb w 0 || memberb i t) && offb (suc i) p t

-- Rule 5.8: so all weights of the face f.
unfoldable pub on_coarse_faceb : List Point → List ℕ → Bool
unfolding allb offb
on_coarse_faceb f t = allb (λ p. offb 0 p t) f

-- Rule 5.8: on one of the boundary's faces.
unfoldable pub on_boundaryb : List (List ℕ) → List Point → Bool
unfolding anyb on_coarse_faceb boundary_faces
on_boundaryb qs f = anyb (on_coarse_faceb f) (boundary_faces qs)

-- Rule 13.1: no corner in the middle of a leaf's edge.
unfoldable pub openb : ℕ → List (List ℕ) → List ℕ → Bool
unfolding allb edge middleb leaves_of points_of
openb n qs ss =
    allb (λ c. allb (λ e. allb (λ p. not (middleb p (edge [] c e))) (points_of n qs ss)) (0 ∷ 1 ∷ 2 ∷ 3 ∷ 4 ∷ 5 ∷ [])) (leaves_of n qs ss)

-- Rule 13.2: one leaf for a face on the boundary, two for any other.
unfoldable pub meetb : ℕ → List (List ℕ) → List ℕ → Bool
unfolding allb leaves_with leaves_of on_boundaryb face_at
meetb n qs ss =
    allb (λ c. allb (λ i. eqb (leaves_with n qs ss (face_at c i)) (elim (on_boundaryb qs (face_at c i)) [ true ↦ 1 | false ↦ 2 ]))
    (0 ∷ 1 ∷ 2 ∷ 3 ∷ [])) (leaves_of n qs ss)
