-- The faces of a family's children by their digits (rules 2.3, 2.6), computed over the 64 rows. Corners and faces are counted from 0.
--   corners_at z     the three corners of a cell's face z
--   lift m k        the point with place k on the face with corners m: its six points are pairs of these corners (first k, second k)
--   digit_triples         the twenty triples of those six places
--   others i        the places but i; without d i  the digits d but the one at place i
--   usesb f m       some digit of f lies at the corner m, or beside it
--   holds ds f      how many of the children ds have all digits of f
--   insideb ds f    f uses every corner, and two children of ds have it
--   sideb ds f      f uses the corners of one face and lies on it, and one child of ds has it (side_part: which face, which triple)
--   alike p m       the pattern whose last face is split as the face with corners m is in the pattern p
-- Tests: kind_test (each face of a child is one or the other), transfer_test (how often a triangle on a face is there depends on the
-- face's own split edges: transferb). What they say is in Rows.
use Rattle.std.specs.Prelude.{Bool, ◌&&◌, ◌||◌, not, List, [], ◌∷◌, map, ℕ, ◌+◌, ◌*◌, T, eqb, get_or}
use Rattle.base.specs.Lists.{allb, anyb, filterb, belowb, memberb, sameb}
use Rattle.base.specs.Bools.{one_if}
use Rattle.cutting.specs.Rule.{low, high, digit, edge_of, split}
use Rattle.cutting.specs.Rows.{family_rows, row}

-- Rule 2.1: the corners of a face.
abbrev pub corners_at : ℕ → List ℕ
corners_at z = get_or ((1 ∷ 2 ∷ 3 ∷ []) ∷ (0 ∷ 2 ∷ 3 ∷ []) ∷ (0 ∷ 1 ∷ 3 ∷ []) ∷ (0 ∷ 1 ∷ 2 ∷ []) ∷ []) z []

abbrev first : ℕ → ℕ
first k = get_or (0 ∷ 0 ∷ 0 ∷ 1 ∷ 1 ∷ 2 ∷ []) k 0

abbrev second : ℕ → ℕ
second k = get_or (0 ∷ 1 ∷ 2 ∷ 1 ∷ 2 ∷ 2 ∷ []) k 0

abbrev pub lift : List ℕ → ℕ → ℕ
lift m k = digit (get_or m (first k) 0) (get_or m (second k) 0)

abbrev pub digit_triples : List (List ℕ)
digit_triples =
    (0 ∷ 1 ∷ 2 ∷ []) ∷ (0 ∷ 1 ∷ 3 ∷ []) ∷ (0 ∷ 1 ∷ 4 ∷ []) ∷ (0 ∷ 1 ∷ 5 ∷ []) ∷ (0 ∷ 2 ∷ 3 ∷ []) ∷ (0 ∷ 2 ∷ 4 ∷ []) ∷ (0 ∷ 2 ∷ 5 ∷ [])
    ∷ (0 ∷ 3 ∷ 4 ∷ []) ∷ (0 ∷ 3 ∷ 5 ∷ []) ∷ (0 ∷ 4 ∷ 5 ∷ []) ∷ (1 ∷ 2 ∷ 3 ∷ []) ∷ (1 ∷ 2 ∷ 4 ∷ []) ∷ (1 ∷ 2 ∷ 5 ∷ []) ∷ (1 ∷ 3 ∷ 4 ∷ [])
    ∷ (1 ∷ 3 ∷ 5 ∷ []) ∷ (1 ∷ 4 ∷ 5 ∷ []) ∷ (2 ∷ 3 ∷ 4 ∷ []) ∷ (2 ∷ 3 ∷ 5 ∷ []) ∷ (2 ∷ 4 ∷ 5 ∷ []) ∷ (3 ∷ 4 ∷ 5 ∷ []) ∷ []

abbrev pub others : ℕ → List ℕ
others i = filterb (λ j. not (eqb j i)) (0 ∷ 1 ∷ 2 ∷ 3 ∷ [])

abbrev pub without : List ℕ → ℕ → List ℕ
without d i = map (λ j. get_or d j 0) (others i)

abbrev pub usesb : List ℕ → ℕ → Bool
usesb f m = anyb (λ x. eqb (low x) m || eqb (high x) m) f

unfoldable pub holds : List (List ℕ) → List ℕ → ℕ
unfolding allb memberb one_if
holds [] f = 0
holds (d ∷ ds) f = one_if (allb (λ x. memberb x d) f) + holds ds f

-- 1. the faces of children
abbrev pub insideb : List (List ℕ) → List ℕ → Bool
insideb ds f = belowb (usesb f) 4 && eqb (holds ds f) 2

abbrev pub side_part : List (List ℕ) → List ℕ → ℕ → List ℕ → Bool
side_part ds f z t = sameb f (map (lift (corners_at z)) t) && (allb (usesb f) (corners_at z) && eqb (holds ds f) 1)

abbrev pub sideb : List (List ℕ) → List ℕ → Bool
sideb ds f = anyb (λ z. anyb (side_part ds f z) digit_triples) (0 ∷ 1 ∷ 2 ∷ 3 ∷ [])

pub kind_test : T (belowb (λ p. allb (λ d. belowb (λ i. insideb (row p) (without d i) || sideb (row p) (without d i)) 4) (row p)) 64)
unfolding belowb allb anyb filterb memberb sameb one_if low high digit holds row family_rows
kind_test = tt

-- 2. a face's triangles by its split edges
abbrev pub alike : ℕ → List ℕ → ℕ
alike p m =
    one_if (split p (edge_of (digit (get_or m 0 0) (get_or m 1 0)))) + 2 * one_if (split p (edge_of (digit (get_or m 0 0) (get_or m 2 0))))
    + 8 * one_if (split p (edge_of (digit (get_or m 1 0) (get_or m 2 0))))

abbrev pub transferb : ℕ → ℕ → List ℕ → Bool
transferb p z t = eqb (holds (row p) (map (lift (corners_at z)) t)) (holds (row (alike p (corners_at z))) (map (lift (corners_at 3)) t))

pub transfer_test : T (belowb (λ p. belowb (λ z. allb (transferb p z) digit_triples) 4) 64)
unfolding belowb allb memberb one_if digit edge_of split holds row family_rows
transfer_test = tt
