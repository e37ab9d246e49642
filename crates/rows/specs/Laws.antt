-- Laws of reads and rows: how long they are, and how a read goes on.
use Rattle.std.specs.Prelude.{◌≡◌, refl, true, ℕ, zero, suc, ◌+◌, ◌≤◌, ◌<◌, ◌*◌, length, get_or, drop, eqb}
use Rattle.std.proofs.Common.{◌∙◌, ap, add-zero, arith, length-append, length-take, length-drop, take-suc, get_or-drop, get_or-append-add}
use mathlib.Core.List.{List, [], ◌∷◌, ◌++◌, flat_map}
use Rattle.mesh.specs.Cells.{Cell, Four, no_cell, corner}
use Rattle.rows.specs.Numbered.{cell_at, cells_at, part, point_at}
use Rattle.std.proofs.Math.ListN.{get_or-append}
use Rattle.mesh.specs.Layout.{row_of}
use Rattle.base.specs.Every.{All}
use Rattle.edges.specs.Pairs.{Pair}
use Rattle.cutting.specs.Rule.{low, high}

pub cells_cons : (t : List ℕ) (k m : ℕ) → cells_at t k (suc m) ≡ cell_at t k ∷ cells_at t (suc k) m
unfolding cells_at
cells_cons t k zero = rw add-zero
cells_cons t k (suc m) =
    let e : k + suc m ≡ suc k + m = omega arith in
    ap (λ (l : List (Cell ℕ)). l ++ (cell_at t (k + suc m) ∷ [])) (cells_cons t k m) ∙ rw e

pub length-cells : (t : List ℕ) (k m : ℕ) → length (cells_at t k m) ≡ m
unfolding cells_at
length-cells t k zero = refl
length-cells t k (suc m) = length-append (cells_at t k m) (cell_at t (k + m) ∷ []) ∙ omega (arith, length-cells t k m)

pub length_part : (l : List ℕ) (k m : ℕ) → k + m ≤ length l → length (part l k m) ≡ m
length_part l k m h = simp (length-take, length-drop) (omega arith)

pub part_more : (l : List ℕ) (k m : ℕ) → k + m < length l → part l k (suc m) ≡ part l k m ++ (get_or l (k + m) 0 ∷ [])
part_more l k m h = take-suc (drop k l) m 0 (simp length-drop (omega arith)) ∙ ap (λ (x : ℕ). part l k m ++ (x ∷ [])) (get_or-drop k l m 0)

-- a cell has four points, and so a row eight numbers
row_size : (c : Cell ℕ) → Four c → length (row_of c) ≡ 8
unfolding row_of
row_size c e = rw e

pub rows_size : (cs : List (Cell ℕ)) → All Four cs → length (flat_map row_of cs) ≡ 8 * length cs
unfolding flat_map
rows_size [] q = refl
rows_size (c ∷ cs) q =
    omega (arith, length-append (row_of c) (flat_map row_of cs), row_size c q.0, rows_size cs q.1)

pub row_at : (cs : List (Cell ℕ)) → All Four cs → (k i : ℕ) → k < length cs → i < 8
    → get_or (flat_map row_of cs) (8 * k + i) 0 ≡ get_or (row_of (get_or cs k no_cell)) i 0
unfolding flat_map
row_at [] q k i h g = absurd (omega arith)
row_at (c ∷ cs) q zero i h g =
    let e : 8 * 0 + i ≡ i = omega arith in
    rw e (get_or-append (row_of c) (flat_map row_of cs) 0 i (omega (arith, row_size c q.0)))
row_at (c ∷ cs) q (suc k) i h g =
    let e : 8 * suc k + i ≡ length (row_of c) + (8 * k + i) = omega (arith, row_size c q.0) in
    rw e (get_or-append-add (row_of c) (flat_map row_of cs) (8 * k + i) 0 ∙ row_at cs q.1 k i (omega arith) g)

-- the number of a corner's digit
pub point_at_corner : (n : ℕ) (es : List Pair) (c : Cell ℕ) (d : ℕ) → eqb (low d) (high d) ≡ true → point_at n es c d ≡ corner 0 c (low d)
unfolding point_at
point_at_corner n es c d e = rw (e, point_at)
