-- In a sound table no leaf edge has a corner in its middle.
-- Laws: leaves_each (the leaves by their places), red_held (the edges of red cells), unsplit (an edge that a cell's pattern does not split
-- is none of a red cell), leaf_open (a leaf's edge), sound_open.
use Rattle.std.specs.Prelude.{◌≡◌, ◌≢◌, ◌⊎◌, Bool, true, false, not, ℕ, zero, suc, ◌<◌, T, eqb}
use Rattle.std.proofs.Math.Path.{refl, sym}
use Rattle.std.proofs.Common.{◌∙◌, ap, ap₂, inl, inr, eqb-true}
use mathlib.Core.List.{List, [], ◌∷◌}
use Rattle.std.proofs.Math.Decide.{dec_lt}
use native.Mathlib.Omega.{arith}
use Rattle.std.proofs.Math.ListN.{length, get_or}
use Rattle.base.specs.Lists.{allb, sameb}
use Rattle.base.specs.Bools.{is_true, not_both}
use Rattle.cutting.specs.Rule.{low, high, digit, edge_of, split, family}
use Rattle.families.specs.Faces.{joinedb}
use Rattle.families.specs.Facts.{own_edges}
use Rattle.mesh.specs.Cells.{Cell, corner, redb, pattern_of, edge, heldb, red_edges, children, no_cell}
use Rattle.mesh.specs.Weights.{Point, point}
use Rattle.mesh.specs.Coarse.{cellsb}
use Rattle.mesh.specs.Table.{levels_of, cells_of, soundb}
use Rattle.base.specs.Every.{All, all_at, all_pass}
use Rattle.families.specs.Kuhn.{digit_ends, digit_named}
use Rattle.lattice.specs.Regular.{Regular, point_sized, children_regular}
use Rattle.families.specs.Children.{middle, middle_ends, low_digit, high_digit, digits_rise, digits_below_lem}
use Rattle.lattice.specs.Levels.{IfRegular}
use Rattle.lattice.specs.Facts.{sound_regular}
use Rattle.rows.specs.Many.{length-children, size_refined}
use Rattle.lineage.specs.Born.{child_of, Born, children_at}
use Rattle.carriers.specs.Lists.{held_at}
use Rattle.carriers.specs.Joins.{Edge, joins_trans}
use Rattle.carriers.specs.Carrier.{between_below, edge_between}
use Rattle.carriers.specs.Child.{corner_point, digits_joined, child_edge, EdgeAt, edge_child, edge_joins}
use Rattle.carriers.specs.Patterns.{split_none, split_pattern}
use Rattle.carriers.specs.Refined.{status_regular, status_green, pattern_green, asked_small}
use Rattle.soundness.specs.Held.{red_at_lem, closed_at, regular_at}
use Rattle.soundness.specs.Family.{born_of}
use Rattle.soundness.specs.Sound.{Sound, sound_parts, lv, level_closed, level_next, level_there}
use Rattle.soundness.specs.Whole.{RedAt, spot_with, coarse_level}
use Rattle.soundness.specs.Clash.{no_share}
use Rattle.conformity.specs.Leaves.{leaves_in, leaves_of, points_of, middleb, openb}
use Rattle.conformity.specs.Middles.{IsMiddle, middle_of, middle_other}
use Rattle.conformity.specs.Kinds.{Kind, refined_low, points_kinds, kind_held}
use Rattle.conformity.specs.Pairs.{Other, other_of, corners_rise}

-- the leaves by their places
pub leaves_each : (P : Cell Point → Type 0) (cs : List (Cell Point)) (ss : List ℕ)
    → ((i : ℕ) → i < length cs → i < length ss → get_or ss i 0 ≡ 0 → P (get_or cs i no_cell)) → All P (leaves_in cs ss)
unfolding leaves_in
leaves_each P [] ss f = tt
leaves_each P (c ∷ cs) [] f = tt
leaves_each P (c ∷ cs) (s ∷ ss) f = go (eqb s 0) refl (leaves_each P cs ss (λ i h g. f (suc i) (omega arith) (omega arith)))
  where
    go : (b : Bool) → eqb s 0 ≡ b → All P (leaves_in cs ss) → All P (leaves_in (c ∷ cs) (s ∷ ss))
    go true q i = rw (q, leaves_in) (f 0 (omega arith) (omega arith) (eqb-true s 0 q), i)
    go false q i = rw (q, leaves_in) i

turn : (p a b : Point) → IsMiddle p a b → IsMiddle p b a
turn p a b m = record { half = λ j. omega (arith, m.half j) }

module _ (n : ℕ) (qs : List (List ℕ)) (ss : List ℕ) (s : Sound n qs ss) where
  red_held : (j : ℕ) (e : Edge) → RedAt n qs ss j e → T (heldb sameb (red_edges [] (lv n qs ss j).cells (lv n qs ss j).statuses) e)
  red_held j e w =
      let l = lv n qs ss j in
      red_at_lem e l.cells l.statuses (record {
        i = w.u;
        below = w.below;
        known = (closed_at l (level_closed n qs ss s.closed j) w.u w.below).0;
        red = w.red;
        has = held_at [] (get_or l.cells w.u no_cell) sameb e w.y w.small w.joins;
      })

  unsplit : (j p : ℕ) → p < length (lv n qs ss j).cells → T (get_or (lv n qs ss j).cells p no_cell).regular
      → redb (get_or (lv n qs ss j).statuses p 0) ≡ false
      → (y : ℕ) → y < 6 → split (get_or (lv n qs ss j).statuses p 0) y ≡ false
      → RedAt n qs ss j (edge [] (get_or (lv n qs ss j).cells p no_cell) y) → ⊥
  unsplit j p h r green y hy f w =
      let l = lv n qs ss j in
      let c = get_or l.cells p no_cell in
      let t = get_or l.statuses p 0 in
      let es = red_edges [] l.cells l.statuses in
      let st = (closed_at l (level_closed n qs ss s.closed j) p h).1 in
      let e : split t y ≡ heldb sameb es (edge [] c y) = ap (λ (q : ℕ). split q y) (status_green es c t st r green)
      ∙ split_pattern [] sameb es c y hy in
      not_both {A = ⊥} (split t y) (e ∙ is_true (heldb sameb es (edge [] c y)) (red_held j (edge [] c y) w)) f

  module _ (regular : (i : ℕ) → All (IfRegular n i) (lv n qs ss i).cells) (x : Point) (k : Kind n qs ss x) where
    -- a regular leaf
    regular_open : (j p : ℕ) → p < length (lv n qs ss j).cells → T (get_or (lv n qs ss j).cells p no_cell).regular
        → get_or (lv n qs ss j).statuses p 0 ≡ 0
        → (y : ℕ) → y < 6 → T (middleb x (edge [] (get_or (lv n qs ss j).cells p no_cell) y)) → ⊥
    unfolding edge
    regular_open j p h r leaf y hy m =
        let l = lv n qs ss j in
        let c = get_or l.cells p no_cell in
        let rc = regular_at n j l (regular j) p h r in
        let there = level_there n qs ss j p h in
        let (a, b, _) = middle_ends y hy in
        let mid : IsMiddle x (edge [] c y).0 (edge [] c y).1 =
        middle_of x (edge [] c y).0 (edge [] c y).1 ((rc.sized (low (middle y)) (omega arith)).places
        ∙ sym (rc.sized (high (middle y)) b).places) m in
        unsplit j p h r (rw leaf refl) y hy (rw leaf (split_none y))
        (kind_held n qs ss s regular x k j (omega (arith, s.high)) c rc y hy mid)

    -- the middle of two points of a cut that the red family joins
    red_middle : (j : ℕ) → j < 10 → (p : ℕ) → p < length (lv n qs ss j).cells → T (get_or (lv n qs ss j).cells p no_cell).regular
        → redb (get_or (lv n qs ss j).statuses p 0) ≡ false
        → (d e : ℕ) → d < 10 → e < 10 → (d ≡ e → ⊥) → T (joinedb (family 63) d e)
        → IsMiddle x (point (get_or (lv n qs ss j).cells p no_cell) d) (point (get_or (lv n qs ss j).cells p no_cell) e) → ⊥
    unfolding pattern_of
    red_middle j h p hp r green d e hd he ne joined m =
        let g = get_or (lv n qs ss j).cells p no_cell in
        let up63 : 63 < 64 = omega arith in
        let w : EdgeAt 63 d e = edge_child 63 d e up63 joined ne in
        let v : Cell Point = child_of 0 g 64 w.child in
        let many : length (children 0 g 64 (point g)) ≡ length (family 63) = length-children 0 g 64 (point g)
        ∙ size_refined 64 (λ z. omega arith) in
        let rv : Regular n (suc j) v = rw (children_at 0 g 64 w.child (λ z. omega arith) w.inside) at
        (all_at (Regular n (suc j)) no_cell (children 0 g 64 (point g))
        (children_regular n j g h (regular_at n j (lv n qs ss j) (regular j) p hp r) 0) w.child (omega (arith, w.inside))) in
        let js = edge_joins 63 d e up63 w g v refl in
        let eq : edge [] v w.number ≡ (point g (low_digit 63 w.child w.number), point g (high_digit 63 w.child w.number)) =
        child_edge 63 w.child up63 w.inside w.number w.below g v refl in
        let mid : IsMiddle x (edge [] v w.number).0 (edge [] v w.number).1 = rw eq
        (ends g (low_digit 63 w.child w.number) (high_digit 63 w.child w.number) w.ends m) in
        let o = kind_held n qs ss s regular x k (suc j) (omega arith) v rv w.number w.below mid in
        no_share n qs ss s regular j h p hp r green d e hd he ne joined o.u o.below o.red o.y o.small
        (joins_trans (point g d, point g e) (edge [] v w.number) (edge [] (get_or (lv n qs ss (suc j)).cells o.u no_cell) o.y) js
        o.joins)
      where
        ends : (g : Cell Point) (a b : ℕ) → ((d ≡ a) × (e ≡ b)) ⊎ ((d ≡ b) × (e ≡ a)) → IsMiddle x (point g d) (point g e)
            → IsMiddle x (point g a) (point g b)
        ends g a b (inl (p, q)) m = rw (← p, ← q) m
        ends g a b (inr (p, q)) m = rw (← p, ← q) (turn x (point g d) (point g e) m)

    -- a green cell's child
    green_open : (j p : ℕ) → p < length (lv n qs ss j).cells → get_or (lv n qs ss j).statuses p 0 ≢ 0
        → redb (get_or (lv n qs ss j).statuses p 0) ≡ false
        → (d e : ℕ) → d < e → e < 10 → T (joinedb (family (pattern_of (get_or (lv n qs ss j).statuses p 0))) d e)
        → IsMiddle x (point (get_or (lv n qs ss j).cells p no_cell) d) (point (get_or (lv n qs ss j).cells p no_cell) e) → ⊥
    green_open j p h z green d e de he joins m =
        let l = lv n qs ss j in
        let g = get_or l.cells p no_cell in
        let t = get_or l.statuses p 0 in
        let joined : T (joinedb (family t) d e) = rw (pattern_green t green) at joins in
        let low10 = refined_low n qs ss s j p h z in
        let st = (closed_at l (level_closed n qs ss s.closed j) p h).1 in
        let small : t < 64 = rw (pattern_green t green) at (asked_small (red_edges [] l.cells l.statuses) g t st) in
        let r : T g.regular = status_regular (red_edges [] l.cells l.statuses) g t st z in
        let rg = regular_at n j l (regular j) p h r in
        let (d0, d1) = digit_ends d (omega arith) in
        let (e0, e1) = digit_ends e he in
        let mids : (low d < high d) ⊎ (low e < high e) → ⊥ =
        (λ w. let o : Other d e = other_of d e de he w in
        red_middle j low10 p h r green o.a o.b o.a_small o.b_small o.differ o.joined
        (middle_other n j g low10 rg d e o.a o.b (omega arith) he o.a_small o.b_small (λ i. o.sum (λ c. rg.coordinates c i)) x
        m)) in
        elim (dec_lt (low d) (high d)) [
          | yes w ↦ mids (inl w)
          | no w ↦ elim (dec_lt (low e) (high e)) [
            | yes w' ↦ mids (inr w')
            | no w' ↦
                let a = low d in
                let b = low e in
                let da : digit a a ≡ d = ap (digit a) (omega arith) ∙ digit_named d (omega arith) in
                let db : digit b b ≡ e = ap (digit b) (omega arith) ∙ digit_named e he in
                let pa = corner_point g d (omega arith) (omega arith) in
                let pb = corner_point g e he (omega arith) in
                let ab : a < b = corners_rise d e de he (omega arith) (omega arith) in
                let own : joinedb (family t) (digit a a) (digit b b) ≡ not (split t (edge_of (digit a b))) = own_edges t a b small ab
                (omega arith) in
                let own' : not (split t (edge_of (digit a b))) ≡ true = sym own ∙ ap₂ (joinedb (family t)) da db
                ∙ is_true (joinedb (family t) d e) joined in
                let f : split t (edge_of (digit a b)) ≡ false = not-true (split t (edge_of (digit a b))) own' in
                let y = edge_of (digit a b) in
                let hy = between_below a b ab (omega arith) in
                let eq : edge [] g y ≡ (corner [] g a, corner [] g b) = edge_between [] g a b ab (omega arith) in
                let mid : IsMiddle x (edge [] g y).0 (edge [] g y).1 = rw (eq, ← pa, ← pb) m in
                unsplit j p h r green y hy f (kind_held n qs ss s regular x k j (omega arith) g rg y hy mid)
          ]
        ]
      where
        not-true : (b : Bool) → not b ≡ true → b ≡ false
        not-true true q = not_both false q refl
        not-true false q = refl

    child_open : (j : ℕ) → (c : Cell Point) → Born (lv n qs ss j).first (lv n qs ss j).cells (lv n qs ss j).statuses c
        → c.regular ≡ false
        → (y : ℕ) → y < 6 → T (middleb x (edge [] c y)) → ⊥
    child_open j c b r y hy m =
        let l = lv n qs ss j in
        let g = get_or l.cells b.p no_cell in
        let t = get_or l.statuses b.p 0 in
        let st = (closed_at l (level_closed n qs ss s.closed j) b.p b.below).1 in
        let green : redb t ≡ false = sym (ap (λ (c : Cell Point). c.regular) b.is) ∙ r in
        let small : pattern_of t < 64 = asked_small (red_edges [] l.cells l.statuses) g t st in
        let rg : T g.regular = status_regular (red_edges [] l.cells l.statuses) g t st b.refined in
        let reg = regular_at n j l (regular j) b.p b.below rg in
        let low10 = refined_low n qs ss s j b.p b.below b.refined in
        let d = low_digit (pattern_of t) b.i y in
        let e = high_digit (pattern_of t) b.i y in
        let de = digits_rise (pattern_of t) b.i small b.child y hy in
        let he = digits_below_lem (pattern_of t) b.i small b.child y hy in
        let eq : edge [] c y ≡ (point g d, point g e) = child_edge (pattern_of t) b.i small b.child y hy g c
        (ap (λ (c : Cell Point). c.points) b.is) in
        let m' : T (middleb x (point g d, point g e)) = rw eq at m in
        let mid : IsMiddle x (point g d) (point g e) =
        middle_of x (point g d) (point g e) ((point_sized n j g low10 reg d (omega arith)).places
        ∙ sym (point_sized n j g low10 reg e he).places) m' in
        green_open j b.p b.below b.refined green d e de he (digits_joined (pattern_of t) b.i small b.child y hy) mid

    leaf_open : (j p : ℕ) → p < length (lv n qs ss j).cells → get_or (lv n qs ss j).statuses p 0 ≡ 0
        → (y : ℕ) → y < 6 → T (middleb x (edge [] (get_or (lv n qs ss j).cells p no_cell) y)) → ⊥
    leaf_open j p h leaf y hy m = go j h leaf m (get_or (lv n qs ss j).cells p no_cell).regular refl
      where
        go : (j : ℕ) → p < length (lv n qs ss j).cells → get_or (lv n qs ss j).statuses p 0 ≡ 0
            → T (middleb x (edge [] (get_or (lv n qs ss j).cells p no_cell) y))
            → (b : Bool) → (get_or (lv n qs ss j).cells p no_cell).regular ≡ b → ⊥
        go j h leaf m true q = regular_open j p h (rw q tt) leaf y hy m
        go zero h leaf m false q = not_both (get_or (lv n qs ss 0).cells p no_cell).regular (coarse_level n qs ss p h) q
        go (suc j) h leaf m false q =
            let there = level_there n qs ss (suc j) p h in
            child_open j (get_or (lv n qs ss (suc j)).cells p no_cell)
            (born_of (lv n qs ss j) (lv n qs ss (suc j)) (level_next n qs ss j (omega (arith, s.high))) p h) q y hy m

not_from : (b : Bool) → (T b → ⊥) → T (not b)
not_from true f = f tt
not_from false f = tt

pub sound_open : (n : ℕ) (qs : List (List ℕ)) (ss : List ℕ) → All (λ q. length q ≡ 4) qs → T (cellsb n qs) → T (soundb n qs ss)
    → T (openb n qs ss)
unfolding openb leaves_of
sound_open n qs ss four cells sound =
    let s = sound_parts n qs ss sound in
    let regular = sound_regular n qs ss four cells sound in
    let cs = cells_of (levels_of n qs ss) in
    all_pass Open test (λ c f. one c f) (leaves_in cs ss) (leaves_each Open cs ss (λ i h g leaf y hy x k m.
    let o = spot_with n qs ss i h in
    let c : get_or cs i no_cell ≡ get_or (lv n qs ss o.j).cells o.p no_cell = rw o.number at o.at.cell in
    let z : get_or ss i 0 ≡ get_or (lv n qs ss o.j).statuses o.p 0 = rw o.number at o.at.status in
    leaf_open n qs ss s regular x k o.j o.p o.below (sym z ∙ leaf) y hy (rw c at m)))
  where
    Open : Cell Point → Type 0
    Open c = (y : ℕ) → y < 6 → (x : Point) → Kind n qs ss x → T (middleb x (edge [] c y)) → ⊥

    test : Cell Point → Bool
    test c = allb (λ e. allb (λ p. not (middleb p (edge [] c e))) (points_of n qs ss)) (0 ∷ 1 ∷ 2 ∷ 3 ∷ 4 ∷ 5 ∷ [])

    one : (c : Cell Point) → Open c → T (test c)
    one c f =
        all_pass (λ y. y < 6) (λ e. allb (λ p. not (middleb p (edge [] c e))) (points_of n qs ss))
        (λ y hy. all_pass (Kind n qs ss) (λ p. not (middleb p (edge [] c y))) (λ x k. not_from (middleb x (edge [] c y)) (f y hy x k))
        (points_of n qs ss)
        (points_kinds n qs ss (sound_parts n qs ss sound) (sound_regular n qs ss four cells sound)))
        (0 ∷ 1 ∷ 2 ∷ 3 ∷ 4 ∷ 5 ∷ []) (omega arith)
