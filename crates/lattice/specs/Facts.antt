-- What holds of regular cells (Regular), in the words of the tables alone. `n` is the number of coarse corners, `k` and `l`
-- are levels, `f` and `g` digits; `low f < high f` says that f is a midpoint.
use Rattle.std.specs.Prelude.{◌≡◌, ◌≢◌, List, [], ℕ, suc, ◌-◌, ◌≤◌, ◌<◌, min, T, length}
use Rattle.std.proofs.Common.{ap₂, ◌∙◌, zero-add, arith}
use Rattle.std.proofs.Math.Decide.{dec_lt}
use Rattle.base.specs.Lists.{allb, sameb}
use Rattle.cutting.specs.Rule.{low, high, digit}
use Rattle.mesh.specs.Cells.{Cell, corner, edge, joinsb, children}
use Rattle.mesh.specs.Weights.{Point, coarse, mid, point, coarse_cells}
use Rattle.mesh.specs.Coarse.{cellsb}
use Rattle.mesh.specs.Table.{Level, levels, levels_of, closedb, soundb}
use Rattle.base.specs.Every.{All, all_of, all_more}
use Rattle.families.specs.Kuhn.{ends_digit}
use Rattle.lattice.specs.Tails as Tails
use Rattle.lattice.specs.Regular.{Regular, children_regular, same_ends, corner_on, mid_off}
use Rattle.lattice.specs.Levels.{IfRegular, RedRegular, level_cells, coarse_cells_regular, closed_red_regular, levels_regular}
use Rattle.lattice.specs.Levels.{sound_levels, above_none}
use Rattle.families.specs.Children.{middle, middle_ends}
use Rattle.lattice.specs.Edges.{corner_apart, point_injective, mid_level, edges_same}
use Rattle.mesh.specs.Laws.{mid_self}

-- The eight children of a red cell are regular of the next level.
pub child_regular : (n k j : ℕ) (c : Cell Point) → k < 10 → Regular n k c → All (Regular n (suc k)) (children j c 64 (point c))
child_regular n k j c h r = children_regular n k c h r j

-- In a table whose levels are closed the cells that are called regular are so, each of its own level. (`levels_regular` of
-- Levels: the same from any level on, where only regular cells are red.)
pub level_regular : (n : ℕ) (qs : List (List ℕ)) (ss : List ℕ) → All (λ q. length q ≡ 4) qs → T (cellsb n qs)
    → T (allb closedb (levels_of n qs ss))
    → (i : ℕ) → i ≤ 10 → All (IfRegular n i) (level_cells (levels_of n qs ss) i)
unfolding levels_of
level_regular n qs ss e t u i h =
    rw (zero-add i) at (levels_regular n 0 12 0 (coarse_cells n qs) ss
    (all_more (Regular n 0) (IfRegular n 0) (λ c r t. r) (coarse_cells n qs) (coarse_cells_regular n qs e t))
    (all_of (λ (l : Level). RedRegular l.cells l.statuses) closedb closed_red_regular (levels 12 0 (coarse_cells n qs) ss) u) i
    (omega arith))

-- So in a sound table, on every level.
pub sound_regular : (n : ℕ) (qs : List (List ℕ)) (ss : List ℕ) → All (λ q. length q ≡ 4) qs → T (cellsb n qs) → T (soundb n qs ss)
    → (i : ℕ) → All (IfRegular n i) (level_cells (levels_of n qs ss) i)
sound_regular n qs ss e t u i =
    let (few, closed) = sound_levels n qs ss u in
    elim (dec_lt i 11) [
      | yes h ↦ level_regular n qs ss e t closed i (omega arith)
      | no h ↦ above_none n (levels_of n qs ss) i (omega arith)
    ]

pub point_corner : (c : Cell Point) (i : ℕ) → i < 4 → point c (digit i i) ≡ corner [] c i
unfolding point
point_corner c i h = ap₂ (λ (a b : ℕ). mid (corner [] c a) (corner [] c b)) (ends_digit i h).0 (ends_digit i h).1
    ∙ mid_self (corner [] c i)

-- The corners of a cell differ, and so do its ten points.
pub corners_differ : (n k : ℕ) (c : Cell Point) → Regular n k c → (i j : ℕ) → i < j → j < 4 → corner [] c i ≢ corner [] c j
corners_differ = corner_apart

pub points_differ : (n k : ℕ) (c : Cell Point) → k < 10 → Regular n k c → (f g : ℕ) → f < g → g < 10 → point c f ≢ point c g
points_differ n k c h r f g l m e = omega (arith, point_injective n k c r h f g (omega arith) m e)

-- A midpoint determines its edge, in whichever cells of whichever levels it lies.
pub same_mid : (n k l : ℕ) (c d : Cell Point) → k < 10 → l < 10 → Regular n k c → Regular n l d
    → (f g : ℕ) → f < 10 → g < 10 → low f < high f → low g < high g → point c f ≡ point d g
    → (corner [] c (low f) ≡ corner [] d (low g)) × (corner [] c (high f) ≡ corner [] d (high g)) × (k ≡ l)
same_mid n k l c d hk hl r s f g hf hg zf zg e =
    let q : k ≡ l = mid_level n k l c d r s hk hl f g hf hg zf zg e in
    let s' : Regular n k d = rw (← q) at s in
    let (a, b) = same_ends n k c d r s' hk f g hf hg e in
    (a, b, q)

pub same_mid_edge : (n k l : ℕ) (c d : Cell Point) → k < 10 → l < 10 → Regular n k c → Regular n l d
    → (e f : ℕ) → e < 6 → f < 6 → mid (edge [] c e).0 (edge [] c e).1 ≡ mid (edge [] d f).0 (edge [] d f).1
    → (edge [] c e ≡ edge [] d f) × (k ≡ l)
unfolding edge point
same_mid_edge n k l c d hk hl r s e f he hf m =
    let (a, _, b) = middle_ends e he in
    let (a', _, b') = middle_ends f hf in
    let (p, q, t) = same_mid n k l c d hk hl r s (middle e) (middle f) b b' a a' m in
    (ap₂ (λ (p q : Point). (p, q)) p q, t)

-- A midpoint is no corner of its own level or a lower one, and no coarse corner.
pub mid_not_corner : (n k l : ℕ) (c d : Cell Point) → k < 10 → l ≤ k → Regular n k c → Regular n l d
    → (f i : ℕ) → f < 10 → low f < high f → i < 4 → point c f ≢ corner [] d i
mid_not_corner n k l c d h g r s f i hf z hi = mid_off n k l c (corner [] d i) h r g (corner_on n l d s i hi) f hf z

pub mid_not_coarse : (n k : ℕ) (c : Cell Point) → k < 10 → Regular n k c → (f i : ℕ) → f < 10 → low f < high f → i < n
    → point c f ≢ coarse n i
mid_not_coarse n k c h r f i hf z hi =
    mid_off n k 0 c (coarse n i) h r (omega arith) ((λ j. min 1 (suc i - j)), (λ j. Tails.tail_sum_coarse n i j hi)) f hf z

-- An edge belongs to one level. Two edges with the same two ends have them in the same order.
pub edge_level : (n k l : ℕ) (c d : Cell Point) → k ≤ 10 → l ≤ 10 → Regular n k c → Regular n l d
    → (e f : ℕ) → e < 6 → f < 6 → T (joinsb sameb (edge [] c e) (edge [] d f)) → (edge [] c e ≡ edge [] d f) × (k ≡ l)
edge_level = edges_same
