-- The corners of a sound table: each is a coarse one, or the midpoint of an edge of a red cell.
--   RedMid n qs ss p   p is the midpoint of an edge of a red cell below level 10
--   Kind n qs ss p     p is a coarse corner, or such a midpoint
-- Laws: refined_low (a refined cell is below level 10), points_kinds (the corners of a sound table), kind-length (their weights),
-- kind_held (a corner in the middle of a regular cell's edge: a red cell of its level holds that edge).
use Rattle.std.specs.Prelude.{◌≡◌, ◌≢◌, ◌⊎◌, Bool, ℕ, suc, ◌≤◌, ◌<◌, length}
use Rattle.std.proofs.Math.Path.{refl, ap}
use Rattle.std.proofs.Common.{sym, ◌∙◌, arith}
use Rattle.std.proofs.Math.Logic.{inl, inr}
use Rattle.std.proofs.Math.Bool.{true, false}
use mathlib.Core.List.{List, []}
use Rattle.std.proofs.Math.Decide.{dec_lt}
use Rattle.std.proofs.Math.Dec.{T}
use Rattle.std.proofs.Math.ListN.{get_or}
use borrow.Author.Tests.{eqb-true}
use Rattle.base.specs.Lists.{sameb}
use Rattle.base.specs.Bools.{is_true, not_both}
use Rattle.cutting.specs.Rule.{split}
use Rattle.mesh.specs.Cells.{Cell, redb, pattern_of, edge, heldb, red_edges, no_cell}
use Rattle.mesh.specs.Weights.{Point, coarse, mid, point}
use Rattle.mesh.specs.Table.{levels_of, cells_of}
use Rattle.base.specs.Every.{All}
use Rattle.lattice.specs.Tails.{sized_coarse}
use Rattle.lattice.specs.Regular.{Regular, point_sized}
use Rattle.families.specs.Children.{middle, middle_ends, some_child}
use Rattle.lattice.specs.Levels.{IfRegular}
use Rattle.lattice.specs.Facts.{same_mid, mid_not_coarse, edge_level}
use Rattle.carriers.specs.Lists.{held_which}
use Rattle.carriers.specs.Carrier.{joins_self}
use Rattle.carriers.specs.Patterns.{split_none, split_pattern}
use Rattle.carriers.specs.Refined.{status_regular, status_green, pattern_green, asked_small}
use Rattle.soundness.specs.Held.{RedHas, red_which, closed_at, red_regular, regular_at}
use Rattle.soundness.specs.Family.{family_child}
use Rattle.soundness.specs.Sound.{Sound, lv, level_closed, level_next, level_there}
use Rattle.soundness.specs.Whole.{RedAt, spot_with}
use Rattle.conformity.specs.Leaves.{points_of}
use Rattle.conformity.specs.Middles.{IsMiddle, middle_point, middle_none}
use Rattle.conformity.specs.Corners.{corners_each}

pub record RedMid (n : ℕ) (qs : List (List ℕ)) (ss : List ℕ) (p : Point) : Type 0 where
  j : ℕ
  low : j < 10
  u : ℕ
  below : u < length (lv n qs ss j).cells
  red : get_or (lv n qs ss j).statuses u 0 ≡ 64
  y : ℕ
  small : y < 6
  is : p ≡ point (get_or (lv n qs ss j).cells u no_cell) (middle y)

abbrev pub Kind : ℕ → List (List ℕ) → List ℕ → Point → Type 0
Kind n qs ss p = ((i : ℕ) × (i < n) × (p ≡ coarse n i)) ⊎ RedMid n qs ss p

split_refined : (s y : ℕ) → T (split (pattern_of s) y) → s ≢ 0
unfolding pattern_of
split_refined s y t e =
    let u : T (split 0 y) = rw e at t in
    not_both {A = ⊥} (split 0 y) (is_true (split 0 y) u) (split_none y)

module _ (n : ℕ) (qs : List (List ℕ)) (ss : List ℕ) (s : Sound n qs ss) where
  pub refined_low : (j p : ℕ) → p < length (lv n qs ss j).cells → get_or (lv n qs ss j).statuses p 0 ≢ 0 → j < 10
  refined_low j p h z =
      let l = lv n qs ss j in
      let up = lv n qs ss (suc j) in
      let (known, st) = closed_at l (level_closed n qs ss s.closed j) p h in
      let there : j < length (levels_of n qs ss) = level_there n qs ss j p h in
      let low : j ≤ 10 = omega (arith, s.high) in
      let small = asked_small (red_edges [] l.cells l.statuses) (get_or l.cells p no_cell) (get_or l.statuses p 0) st in
      let w = family_child l up (level_next n qs ss j low) p 0 h known z (some_child (pattern_of (get_or l.statuses p 0)) small) in
      omega (arith, s.high, level_there n qs ss (suc j) w.u w.below)

  module _ (regular : (i : ℕ) → All (IfRegular n i) (lv n qs ss i).cells) where
    split_mid : (j p : ℕ) → p < length (lv n qs ss j).cells → (y : ℕ) → y < 6 → T (split (pattern_of (get_or (lv n qs ss j).statuses p 0)) y)
        → RedMid n qs ss (mid (edge [] (get_or (lv n qs ss j).cells p no_cell) y).0 (edge [] (get_or (lv n qs ss j).cells p no_cell) y).1)
    unfolding edge point
    split_mid j p h y hy t = go (redb (get_or (lv n qs ss j).statuses p 0)) refl
      where
        go : (b : Bool) → redb (get_or (lv n qs ss j).statuses p 0) ≡ b
            → RedMid n qs ss (mid (edge [] (get_or (lv n qs ss j).cells p no_cell) y).0 (edge [] (get_or (lv n qs ss j).cells p no_cell) y).1)
        go true e =
            record {
              j = j;
              low = refined_low j p h (split_refined (get_or (lv n qs ss j).statuses p 0) y t);
              u = p;
              below = h;
              red = eqb-true (get_or (lv n qs ss j).statuses p 0) 64 e;
              y = y;
              small = hy;
              is = refl;
            }
        go false e =
            let l = lv n qs ss j in
            let s' = get_or l.statuses p 0 in
            let c = get_or l.cells p no_cell in
            let es = red_edges [] l.cells l.statuses in
            let (known, st) = closed_at l (level_closed n qs ss s.closed j) p h in
            let z = split_refined s' y t in
            let low = refined_low j p h z in
            let rc : T c.regular = status_regular es c s' st z in
            let held : T (heldb sameb es (edge [] c y)) = rw
            (pattern_green s' e, status_green es c s' st rc e, split_pattern [] sameb es c y hy) at t in
            let w : RedHas l.cells l.statuses (edge [] c y) = red_which (edge [] c y) l.cells l.statuses held in
            let q = get_or l.cells w.i no_cell in
            let (x, hx, js) = held_which [] q sameb (edge [] c y) w.has in
            let rq = red_regular l (level_closed n qs ss s.closed j) w.i w.below w.red in
            let (eq, _) = edge_level n j j c q (omega arith) (omega arith) (regular_at n j l (regular j) p h rc)
            (regular_at n j l (regular j) w.i w.below rq) y x hy hx js in
            record {
              j = j;
              low = low;
              u = w.i;
              below = w.below;
              red = w.red;
              y = x;
              small = hx;
              is = ap
                  (λ (e : Point × Point). mid e.0 e.1) eq;
            }

    pub points_kinds : All (Kind n qs ss) (points_of n qs ss)
    unfolding points_of
    points_kinds =
        let cs = cells_of (levels_of n qs ss) in
        corners_each (Kind n qs ss) n cs ss (λ i h. inl (i, h, refl)) (λ i h g y hy t.
        let o = spot_with n qs ss i h in
        let c : get_or cs i no_cell ≡ get_or (lv n qs ss o.j).cells o.p no_cell = rw o.number at o.at.cell in
        let z : get_or ss i 0 ≡ get_or (lv n qs ss o.j).statuses o.p 0 = rw o.number at o.at.status in
        inr (rw c (split_mid o.j o.p o.below y hy (rw z at t))))

    kind-length : (p : Point) → Kind n qs ss p → length p ≡ n
    kind-length p (inl (i, h, e)) = rw e (sized_coarse n i h).places
    kind-length p (inr w) =
        let l = lv n qs ss w.j in
        let q = get_or l.cells w.u no_cell in
        let (_, _, z) = middle_ends w.y w.small in
        rw w.is (point_sized n w.j q w.low
        (regular_at n w.j l (regular w.j) w.u w.below
        (red_regular l (level_closed n qs ss s.closed w.j) w.u w.below w.red)) (middle w.y) z).places

    pub kind_held : (p : Point) → Kind n qs ss p → (m : ℕ) → m ≤ 10 → (v : Cell Point) → Regular n m v → (y : ℕ) → y < 6
        → IsMiddle p (edge [] v y).0 (edge [] v y).1
        → RedAt n qs ss m (edge [] v y)
    unfolding edge
    kind_held p k m h v r y hy e =
        elim (dec_lt m 10) [
          | no g ↦ absurd (middle_none n m v r y hy p e (omega arith))
          | yes g ↦ go g (middle_point n m v r y hy p e g (kind-length p k)) k
        ]
      where
        go : m < 10 → p ≡ point v (middle y) → Kind n qs ss p → RedAt n qs ss m (edge [] v y)
        go g q (inl (i, hi, x)) = let (a, _, z) = middle_ends y hy in absurd (mid_not_coarse n m v g r (middle y) i z a hi (sym q ∙ x))
        go g q (inr w) =
            let l = lv n qs ss w.j in
            let c = get_or l.cells w.u no_cell in
            let rc = regular_at n w.j l (regular w.j) w.u w.below
            (red_regular l (level_closed n qs ss s.closed w.j) w.u w.below w.red) in
            let (a, _, z) = middle_ends y hy in
            let (a', _, z') = middle_ends w.y w.small in
            let (e0, e1, em) = same_mid n m w.j v c g w.low r rc (middle y) (middle w.y) z z' a a' (sym q ∙ w.is) in
            rw em (record {
              u = w.u;
              below = w.below;
              red = w.red;
              y = w.y;
              small = w.small;
              joins = rw (e0, e1) (joins_self (edge [] c w.y));
            })
