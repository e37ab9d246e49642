-- Words for the facts: faces, what lies on them, and what a family draws.
--   faces_of f         the faces of all children of a family
--   on_faceb n f       all points of f lie on the cell's face n
--   innerb f          f lies on no face of the cell
--   joinedb f a b     some child of f has both points a and b
--   side_points n      the six points of the cell's face n, rising: two corners of it, or one twice, in the order of points
--   side_edges n       the three edges of the cell's face n, in order
--   bits p n          which of them are split in the pattern p: 1, 2 and 4 added up
--   side f n          how the family f cuts the face n: its triangles, each by places among the face's own six points
--   triples           the twenty triples of those six places
use Rattle.std.specs.Prelude.{Bool, ◌&&◌, not, ℕ, ◌+◌, ◌*◌, eqb, get_or}
use mathlib.Core.List.{List, [], ◌∷◌, map, flat_map}
use Rattle.base.specs.Lists.{allb, anyb, filterb, memberb, sameb}
use Rattle.base.specs.Bools.{one_if}
use Rattle.base.specs.Fours.{faces}
use Rattle.cutting.specs.Rule.{low, high, points, split, edge_of, choose}

-- Corners and faces are counted from 0: the rules' face n is n - 1.
unfoldable pub faces_of : List (List ℕ) → List (List ℕ)
unfolding faces flat_map
faces_of f = flat_map faces f

-- Rule 2.1: a point lies on face n where neither of its two corners is the corner n.
unfoldable on_sideb : ℕ → ℕ → Bool
unfolding low high
on_sideb n d = not (eqb (low d) n) && not (eqb (high d) n)

-- Rule 2.1: so does a face of a child where its points do.
unfoldable pub on_faceb : ℕ → List ℕ → Bool
unfolding on_sideb allb
on_faceb n f = allb (on_sideb n) f

-- Rule 2.1: on no face of the cell.
unfoldable pub innerb : List ℕ → Bool
unfolding on_faceb
innerb f = not (on_faceb 0 f) && (not (on_faceb 1 f) && (not (on_faceb 2 f) && not (on_faceb 3 f)))

-- Rule 2.9: a line that the family draws.
unfoldable pub joinedb : List (List ℕ) → ℕ → ℕ → Bool
unfolding anyb memberb
joinedb f a b = anyb (λ c. memberb a c && memberb b c) f

-- Rules 2.1, 2.3: the six points of a face.
unfoldable side_points : ℕ → List ℕ
unfolding on_sideb filterb
side_points n = filterb (on_sideb n) points

-- Rule 2.1: the three edges of a face.
unfoldable side_edges : ℕ → List ℕ
unfolding side_points filterb edge_of low high
side_edges n = map edge_of (filterb (λ d. not (eqb (low d) (high d))) (side_points n))

-- Rule 2.9: the pattern of a face, by its own three edges.
unfoldable pub bits : ℕ → ℕ → ℕ
unfolding side_edges split one_if
bits p n =
    let e = side_edges n in
    one_if (split p (get_or e 0 6)) + 2 * one_if (split p (get_or e 1 6)) + 4 * one_if (split p (get_or e 2 6))

unfoldable triples : List (List ℕ)
unfolding choose
triples = choose 3 (0 ∷ 1 ∷ 2 ∷ 3 ∷ 4 ∷ 5 ∷ [])

-- Rule 2.9: how a face is cut.
unfoldable pub side : List (List ℕ) → ℕ → List (List ℕ)
unfolding side_points triples filterb anyb sameb faces_of
side f n = filterb (λ t. anyb (sameb (map (λ k. get_or (side_points n) k 0) t)) (faces_of f)) triples
