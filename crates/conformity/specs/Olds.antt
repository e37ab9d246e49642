-- Which cells are old beside a level (OldCell): those of lower levels, and the green cells' children on it.
-- Laws: red_turned (an edge of a red cell, turned), on_up (a lattice lies on the finer ones), corner_at_lem (a child's corner by its digit),
-- old_regular, old_child_lem, old_at_lem.
use Rattle.std.specs.Prelude.{◌≡◌, refl, ◌≢◌, ◌⊎◌, Bool, true, false, ℕ, zero, suc, ◌+◌, ◌*◌, ◌<◌, ◌≤◌, T, length}
use Rattle.std.proofs.Common.{sym, ◌∙◌, ap, ap₂, subst, inl, inr, ⊎_elim, arith}
use mathlib.Core.List.{List, [], map}
use Rattle.std.proofs.Math.Decide.{dec_lt}
use Rattle.std.proofs.Math.ListN.{get_or}
use Rattle.std.proofs.lemmas.List.{length-map}
use Rattle.base.specs.Lists.{sameb}
use Rattle.base.specs.Bools.{not_both}
use Rattle.cutting.specs.Rule.{low, high, digit, edge_of, family}
use Rattle.mesh.specs.Cells.{Cell, corner, redb, pattern_of, edge, edges, joinsb, heldb, red_edges, no_cell}
use Rattle.mesh.specs.Weights.{Point, point}
use Rattle.base.specs.Every.{All, get_d_map}
use Rattle.lattice.specs.Regular.{unit, unit_even, Regular, On, corner_on, point_on}
use Rattle.families.specs.Children.{middle, middle_ends, digits_of, child_four, digits_rise, digits_below_lem}
use Rattle.lattice.specs.Edges.{corner_apart, ends_same}
use Rattle.lattice.specs.Levels.{IfRegular}
use Rattle.lattice.specs.Facts.{points_differ, edge_level}
use Rattle.lineage.specs.Born.{Born}
use Rattle.carriers.specs.Lists.{held_which, held_at}
use Rattle.carriers.specs.Joins.{Edge, SameEnds, ends_of, joins_from, joins_sym, joins_trans}
use Rattle.carriers.specs.Carrier.{between_below, between_low, between_high, edge_between}
use Rattle.carriers.specs.Child.{own_or_mid}
use Rattle.carriers.specs.Level.{next_level, not_own}
use Rattle.carriers.specs.Refined.{status_regular, asked_small}
use Rattle.soundness.specs.Held.{closed_at, red_regular, regular_at}
use Rattle.soundness.specs.Family.{ChildAt, born_of}
use Rattle.soundness.specs.Sound.{Sound, lv, level_closed, level_next}
use Rattle.soundness.specs.Whole.{RedAt, coarse_level}
use Rattle.soundness.specs.Clash.{clash}
use Rattle.conformity.specs.Kinds.{refined_low}
use Rattle.conformity.specs.Old.{OldCell}

red_turned : (n : ℕ) (qs : List (List ℕ)) (ss : List ℕ) (j : ℕ) (p q : Point) → RedAt n qs ss j (p, q) → RedAt n qs ss j (q, p)
red_turned n qs ss j p q w =
    record {
      u = w.u;
      below = w.below;
      red = w.red;
      y = w.y;
      small = w.small;
      joins = turn p q (edge [] (get_or (lv n qs ss j).cells w.u no_cell) w.y) w.joins;
    }
  where
    turn : (p q : Point) (e : Edge) → T (joinsb sameb (p, q) e) → T (joinsb sameb (q, p) e)
    turn p q e t = joins_from (q, p) e (go (ends_of (p, q) e t))
      where
        go : SameEnds (p, q) e → SameEnds (q, p) e
        go (inl (a, b)) = inr (b, a)
        go (inr (a, b)) = inl (b, a)

on_up : (i j : ℕ) (p : Point) → i ≤ j → j ≤ 10 → On i p → On j p
on_up i j p h l (x, e) =
    elim (dec_lt i j) [
      | yes g ↦ let (m, _, u) = unit_even i j g l in ((λ k. x k * (m + m)), (λ k. e k ∙ rw u (omega arith)))
      | no g ↦ let q : i ≡ j = omega arith in (x, (λ k. e k ∙ ap (λ (i : ℕ). x k * unit i) q))
    ]

-- two corners in either order
either_order : (P : ℕ → ℕ → Type 0) → ((a b : ℕ) → P a b → P b a) → ((a b : ℕ) → a < b → b < 4 → P a b → ⊥) → (a b : ℕ) → a < 4 → b < 4
    → a ≢ b → P a b → ⊥
either_order P turn f a b ha hb ne w =
    elim (dec_lt a b) [
      | yes l ↦ f a b l hb w
      | no l ↦ elim (dec_lt b a) [ yes l' ↦ f b a l' ha (turn a b w) | no l' ↦ ne (omega arith) ]
    ]

-- a child by its digits
module _ (n k : ℕ) (h : k < 10) (g c : Cell Point) (r : Regular n k g) (p i : ℕ) (hp : p < 64) (hi : i < length (family p))
    (e : c.points ≡ map (point g) (digits_of p i)) where
  abbrev at : ℕ → ℕ
  at m = get_or (digits_of p i) m 0

  length-child : length c.points ≡ 4
  length-child = rw e (length-map (digits_of p i) (point g) ∙ child_four p i hp hi)

  corner_at_lem : (m : ℕ) → m < 4 → corner [] c m ≡ point g (get_or (digits_of p i) m 0)
  corner_at_lem m l = rw e (get_d_map (point g) (digits_of p i) m 0 [] (omega (arith, child_four p i hp hi)))

  rises : (a b : ℕ) → a < b → b < 4 → (at a < at b) × (at b < 10)
  rises a b ab b4 =
      let y = edge_of (digit a b) in
      let hy = between_below a b ab b4 in
      let u = digits_rise p i hp hi y hy in
      let v = digits_below_lem p i hp hi y hy in
      (rw (between_low a b ab b4, between_high a b ab b4) at u, rw (between_high a b ab b4) at v)

  at_below : (m : ℕ) → m < 4 → at m < 10
  at_below m hm = elim (dec_lt m 3) [
    | yes l ↦ omega (arith, rises m 3 l (omega arith))
    | no l ↦ let e : m ≡ 3 = omega arith in rw e
        (rises 0 3 (omega arith) (omega arith)).1
  ]

  child_differ : (a b : ℕ) → a < b → b < 4 → corner [] c a ≢ corner [] c b
  child_differ a b ab b4 q =
      let (x, y) = rises a b ab b4 in
      points_differ n k g h r (at a) (at b) x y (sym (corner_at_lem a (omega arith)) ∙ q ∙ corner_at_lem b b4)

  child_on : (j : ℕ) → suc k ≤ j → j ≤ 10 → (m : ℕ) → m < 4 → On j (corner [] c m)
  child_on j hj l m hm = rw (corner_at_lem m hm) (on_up (suc k) j (point g (at m)) hj l (point_on n k g h r (at m) (at_below m hm)))

module _ (n : ℕ) (qs : List (List ℕ)) (ss : List ℕ) (s : Sound n qs ss) (regular : (i : ℕ) → All (IfRegular n i) (lv n qs ss i).cells)
  where
    red_cell : (j : ℕ) (e : Edge) (w : RedAt n qs ss j e) → Regular n j (get_or (lv n qs ss j).cells w.u no_cell)
    red_cell j e w =
        let l = lv n qs ss j in
        regular_at n j l (regular j) w.u w.below (red_regular l (level_closed n qs ss s.closed j) w.u w.below w.red)

    old_regular : (i j : ℕ) → i < j → j ≤ 10 → (c : Cell Point) → Regular n i c → OldCell n qs ss j c
    unfolding edge
    old_regular i j h l c r =
        record {
          four = r.four;
          differ = corner_apart n i c r;
          on = λ m hm. on_up i j (corner [] c m) (omega arith) l (corner_on n i c r m hm);
          apart = either_order (λ a b. RedAt n qs ss j (corner [] c a, corner [] c b))
              (λ a b. red_turned n qs ss j (corner [] c a) (corner [] c b)) (λ a b ab b4 w.
              let q = get_or (lv n qs ss j).cells w.u no_cell in
              let (y0, y1, _) = middle_ends w.y w.small in
              let (_, _, e) = ends_same n i j c q (omega arith) l r (red_cell j (corner [] c a, corner [] c b) w) a b (low (middle w.y))
              (high (middle w.y)) ab b4 y0 y1 w.joins in
              omega arith);
        }

    -- an edge of a green cell's child
    child_apart : (k u j : ℕ) → suc k ≤ j → j ≤ 10 → u < length (lv n qs ss (suc k)).cells
        → (b : Born (lv n qs ss k).first (lv n qs ss k).cells (lv n qs ss k).statuses (get_or (lv n qs ss (suc k)).cells u no_cell))
        → redb (get_or (lv n qs ss k).statuses b.p 0) ≡ false → (x y : ℕ) → x < y → y < 4
        → RedAt n qs ss j (corner [] (get_or (lv n qs ss (suc k)).cells u no_cell) x, corner [] (get_or (lv n qs ss (suc k)).cells u no_cell) y)
        → ⊥
    child_apart k u j h l hu b green x y xy y4 w =
        let lo = lv n qs ss k in
        let up = lv n qs ss (suc k) in
        let c = get_or up.cells u no_cell in
        let g = get_or lo.cells b.p no_cell in
        let t = get_or lo.statuses b.p 0 in
        let es = red_edges [] lo.cells lo.statuses in
        let st = (closed_at lo (level_closed n qs ss s.closed k) b.p b.below).1 in
        let small = asked_small es g t st in
        let rg = regular_at n k lo (regular k) b.p b.below (status_regular es g t st b.refined) in
        let low10 = refined_low n qs ss s k b.p b.below b.refined in
        let points = ap (λ (c : Cell Point). c.points) b.is in
        let dx = get_or (digits_of (pattern_of t) b.i) x 0 in
        let dy = get_or (digits_of (pattern_of t) b.i) y 0 in
        let (xr, yb) = rises n k low10 g c rg (pattern_of t) b.i small b.child points x y xy y4 in
        let ex = corner_at_lem n k low10 g c rg (pattern_of t) b.i small b.child points x (omega arith) in
        let ey = corner_at_lem n k low10 g c rg (pattern_of t) b.i small b.child points y y4 in
        let e : Edge = (corner [] c x, corner [] c y) in
        let f : Edge = (point g dx, point g dy) in
        let ef : e ≡ f = ap₂ {B = Point} {C = Edge} (λ a b. (a, b)) ex ey in
        let q = get_or (lv n qs ss j).cells w.u no_cell in
        let rq = red_cell j e w in
        let js : T (joinsb sameb f (edge [] q w.y)) = subst (λ (e : Edge). T (joinsb sameb e (edge [] q w.y))) ef w.joins in
        ⊎_elim (λ (z : (low dx < high dx) ⊎ (low dy < high dy)).
        let jk : j ≡ suc k = next_level n k j g q low10 l rg rq dx dy (omega arith) yb z w.y w.small js in
        let w' : RedAt n qs ss (suc k) e = subst (λ (j : ℕ). RedAt n qs ss j e) jk w in
        let q' = get_or up.cells w'.u no_cell in
        let ch : ChildAt lo up b.p b.i = record { u = u; below = hu; is = b.is } in
        let z' = edge_of (digit x y) in
        let hz = between_below x y xy y4 in
        let ez : edge [] c z' ≡ e = edge_between [] c x y xy y4 in
        clash n qs ss s k b.p b.i b.below green ch z' hz
        (ap (heldb sameb (edges [] g)) (ez ∙ ef) ∙ not_own n k g low10 rg dx dy (omega arith) yb z)
        w'.u w'.below w'.red (subst (λ (e : Edge). T (heldb sameb (edges [] q') e)) (sym ez)
        (held_at [] q' sameb e w'.y w'.small w'.joins)))
        (λ (z : T (heldb sameb (edges [] g) f)).
        let (y', hy', js') = held_which [] g sameb f z in
        let (_, kj) = edge_level n k j g q (omega arith) l rg rq y' w.y hy' w.small
        (joins_trans (edge [] g y') f (edge [] q w.y) (joins_sym f (edge [] g y') js') js) in
        omega arith)
        (own_or_mid g dx dy xr yb)

    old_child_lem : (k u j : ℕ) → suc k ≤ j → j ≤ 10 → u < length (lv n qs ss (suc k)).cells
        → (get_or (lv n qs ss (suc k)).cells u no_cell).regular
        ≡ false
        → OldCell n qs ss j (get_or (lv n qs ss (suc k)).cells u no_cell)
    old_child_lem k u j h l hu irr =
        let lo = lv n qs ss k in
        let c = get_or (lv n qs ss (suc k)).cells u no_cell in
        let b = born_of lo (lv n qs ss (suc k)) (level_next n qs ss k (omega arith)) u hu in
        let g = get_or lo.cells b.p no_cell in
        let t = get_or lo.statuses b.p 0 in
        let es = red_edges [] lo.cells lo.statuses in
        let green : redb t ≡ false = sym (ap (λ (c : Cell Point). c.regular) b.is) ∙ irr in
        let st = (closed_at lo (level_closed n qs ss s.closed k) b.p b.below).1 in
        let small = asked_small es g t st in
        let rg = regular_at n k lo (regular k) b.p b.below (status_regular es g t st b.refined) in
        let low10 = refined_low n qs ss s k b.p b.below b.refined in
        let points = ap (λ (c : Cell Point). c.points) b.is in
        record {
          four = length-child n k low10 g c rg (pattern_of t) b.i small b.child points;
          differ = child_differ n k low10 g c rg (pattern_of t) b.i small b.child points;
          on = child_on n k low10 g c rg (pattern_of t) b.i small b.child points j h l;
          apart = either_order (λ x y. RedAt n qs ss j (corner [] c x, corner [] c y))
              (λ x y. red_turned n qs ss j (corner [] c x) (corner [] c y)) (child_apart k u j h l hu b green);
        }

    -- a cell of a lower level, or one that is not regular
    pub old_at_lem : (i u j : ℕ) → i ≤ j → j ≤ 10 → u < length (lv n qs ss i).cells
        → (i < j) ⊎ ((get_or (lv n qs ss i).cells u no_cell).regular ≡ false)
        → OldCell n qs ss j (get_or (lv n qs ss i).cells u no_cell)
    old_at_lem i u j h l hu z = go i h hu z (get_or (lv n qs ss i).cells u no_cell).regular refl
      where
        go : (i : ℕ) → i ≤ j → u < length (lv n qs ss i).cells → (i < j) ⊎ ((get_or (lv n qs ss i).cells u no_cell).regular ≡ false)
            → (b : Bool) → (get_or (lv n qs ss i).cells u no_cell).regular ≡ b → OldCell n qs ss j (get_or (lv n qs ss i).cells u no_cell)
        go i h hu (inl g) true q = old_regular i j g l (get_or (lv n qs ss i).cells u no_cell)
            (regular_at n i (lv n qs ss i) (regular i) u hu (rw q tt))
        go i h hu (inr g) true q = not_both (get_or (lv n qs ss i).cells u no_cell).regular q g
        go zero h hu z false q = not_both (get_or (lv n qs ss 0).cells u no_cell).regular (coarse_level n qs ss u hu) q
        go (suc k) h hu z false q = old_child_lem k u j h l hu q
