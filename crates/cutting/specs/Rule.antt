-- How one cell is cut (section 2 of docs/METHOD.md). A point is its digit, a child its four digits, a family the list
-- of its children. No family is written here: the heights choose it. Everything computes.
--   low d, high d       the two corners that the point d lies midway between; the same corner twice where d is a corner
--   digit i j           the point midway between the corners i and j
--   edge_of d            the edge whose midpoint is d
--   split p e           the edge e is split in the pattern p
--   present p           the present points, rising
--   coordinate d k      a coordinate of d in the reference cell
--   volume a b c d      the determinant of the three edge vectors from a
--   height d            the height of d
--   rise a b c d x      how far x is above the affine function through the four, times their volume
--   childb points four  the four are a child where the points are present
--   choose n l          the lists of n elements of l in their order, by the order of l
--   family p            the children of a cell with the pattern p
use Rattle.std.specs.Prelude.{Bool, true, false, ◌&&◌, ◌||◌, not, List, [], ◌∷◌, ◌++◌, map, ℕ, zero, suc, ◌+◌, ◌*◌, ◌/◌, ◌%◌, ◌^◌, eqb, get_or, ℤ, pos, negsuc, ◌+ℤ◌, ◌-ℤ◌, ◌*ℤ◌}
use Rattle.base.specs.Lists.{allb, filterb, memberb}
use Rattle.base.specs.Bools.{one_if}

-- Corners, faces and edges are counted from 0 here: the rules' corner n is n - 1.

-- Rule 2.3: the digits, by the two corners that a point lies between. This is the lower one.
unfoldable pub low : ℕ → ℕ
low d = get_or (0 ∷ 0 ∷ 0 ∷ 0 ∷ 1 ∷ 1 ∷ 1 ∷ 2 ∷ 2 ∷ 3 ∷ []) d 0

-- Rule 2.3: and this the higher; a corner lies between itself and itself.
unfoldable pub high : ℕ → ℕ
high d = get_or (0 ∷ 1 ∷ 2 ∷ 3 ∷ 1 ∷ 2 ∷ 3 ∷ 2 ∷ 3 ∷ 3 ∷ []) d 0

-- Rule 2.3: the ten digits.
abbrev pub points : List ℕ
points = 0 ∷ 1 ∷ 2 ∷ 3 ∷ 4 ∷ 5 ∷ 6 ∷ 7 ∷ 8 ∷ 9 ∷ []

-- Rule 2.3: the digit of the point between two corners.
unfoldable pub digit : ℕ → ℕ → ℕ
digit i j = get_or (0 ∷ 1 ∷ 2 ∷ 3 ∷ 1 ∷ 4 ∷ 5 ∷ 6 ∷ 2 ∷ 5 ∷ 7 ∷ 8 ∷ 3 ∷ 6 ∷ 8 ∷ 9 ∷ []) (4 * i + j) 0

-- Rule 2.1: the edge that a midpoint's digit belongs to, in edge order; a corner is no midpoint, and its number is 6.
unfoldable pub edge_of : ℕ → ℕ
edge_of d = get_or (6 ∷ 0 ∷ 1 ∷ 2 ∷ 6 ∷ 3 ∷ 4 ∷ 6 ∷ 5 ∷ 6 ∷ []) d 6

-- Rule 2.2: the bit of an edge in a pattern.
unfoldable pub split : ℕ → ℕ → Bool
split p e = eqb (p / 2 ^ e % 2) 1

-- Rule 2.4: corners, and midpoints of split edges.
unfoldable pub present : ℕ → List ℕ
unfolding filterb low high split edge_of
present p = filterb (λ d. eqb (low d) (high d) || split p (edge_of d)) points

-- Rule 2.6: the reference cell. Corner 0 is the origin and the others lie at 2 on an axis each, so that midpoints are whole. A cell that
-- is not flat is its image by an affine map, and those keep planes, affine functions and which of two is higher.
unfoldable pub coordinate : ℕ → ℕ → ℤ
unfolding low high one_if
coordinate d k = pos (one_if (eqb (low d) k) + one_if (eqb (high d) k))

-- Rule 2.6: the determinant; 0 where the four lie in one plane.
unfoldable pub volume : ℕ → ℕ → ℕ → ℕ → ℤ
unfolding coordinate
volume a b c d =
    let ax = coordinate a 1 in let ay = coordinate a 2 in let az = coordinate a 3 in
    let bx = coordinate b 1 -ℤ ax in let by = coordinate b 2 -ℤ ay in let bz = coordinate b 3 -ℤ az in
    let cx = coordinate c 1 -ℤ ax in let cy = coordinate c 2 -ℤ ay in let cz = coordinate c 3 -ℤ az in
    let dx = coordinate d 1 -ℤ ax in let dy = coordinate d 2 -ℤ ay in let dz = coordinate d 3 -ℤ az in
    bx *ℤ (cy *ℤ dz -ℤ cz *ℤ dy) -ℤ by *ℤ (cx *ℤ dz -ℤ cz *ℤ dx) +ℤ bz *ℤ (cx *ℤ dy -ℤ cy *ℤ dx)

-- Rule 2.5: the heights, by digit.
unfoldable pub height : ℕ → ℤ
height d = pos (get_or (110 ∷ 1 ∷ 0 ∷ 2 ∷ 120 ∷ 2 ∷ 0 ∷ 130 ∷ 1 ∷ 140 ∷ []) d 0)

-- Rule 2.6: how far x lies above the affine function through the four. That has at x the mean of their heights, each weighted by the
-- volume with x in its place.
unfoldable pub rise : ℕ → ℕ → ℕ → ℕ → ℕ → ℤ
unfolding volume height
rise a b c d x =
    volume a b c d *ℤ height x
    -ℤ (height a *ℤ volume x b c d +ℤ height b *ℤ volume a x c d +ℤ height c *ℤ volume a b x d +ℤ height d *ℤ volume a b c x)

unfoldable pub zerob : ℤ → Bool
zerob (pos zero) = true
zerob (pos (suc n)) = false
zerob (negsuc n) = false

unfoldable pub positiveb : ℤ → Bool
positiveb (pos zero) = false
positiveb (pos (suc n)) = true
positiveb (negsuc n) = false

-- Rule 2.6: not in one plane, and every other present point above the function through the four.
unfoldable pub childb : List ℕ → List ℕ → Bool
unfolding volume rise zerob positiveb memberb allb
childb points four =
    let a = get_or four 0 0 in let b = get_or four 1 0 in let c = get_or four 2 0 in let d = get_or four 3 0 in
    let v = volume a b c d in
    not (zerob v) && allb (λ x. memberb x four || positiveb (v *ℤ rise a b c d x)) points

-- Rule 2.7: rising digits, and sorted by them: the order in which four are chosen.
unfoldable pub choose : ℕ → List ℕ → List (List ℕ)
choose zero l = [] ∷ []
choose (suc n) [] = []
choose (suc n) (x ∷ l) = map (λ (t : List ℕ). x ∷ t) (choose n l) ++ choose (suc n) l

-- Rules 2.6, 2.7: the children among all fours of present points.
unfoldable pub family : ℕ → List (List ℕ)
unfolding present choose childb filterb
family p = filterb (childb (present p)) (choose 4 (present p))
