-- The edges of a cell's children, by the digits of their ends.
--   EdgeAt p d e                an edge of a child of the family p whose ends have the digits d and e
-- Laws: digits_joined (a child's digits), child_edge (an edge by its digits), edge_child
-- (two digits that the family joins are the ends of a child's edge), edge_joins (as points), own_or_mid (an edge of a child is the
-- cell's own, or ends in a midpoint).
use Rattle.std.specs.Prelude.{◌≡◌, ◌⊎◌, ◌&&◌, ℕ, ◌<◌, T, length}
use Rattle.std.proofs.Common.{sym, ◌∙◌, ap₂, inl, inr}
use Rattle.std.proofs.Math.Path.{ap}
use mathlib.Core.List.{[], map}
use Rattle.std.proofs.Math.Decide.{dec_lt}
use native.Mathlib.Omega.{arith}
use Rattle.std.proofs.Math.ListN.{get_or}
use Rattle.base.specs.Lists.{memberb, sameb, member_at, member_place}
use Rattle.base.specs.Bools.{and_left, and_right, and_both}
use Rattle.cutting.specs.Rule.{low, high, digit, edge_of, family}
use Rattle.families.specs.Faces.{joinedb}
use Rattle.mesh.specs.Cells.{Cell, corner, edge, edges, joinsb, heldb}
use Rattle.mesh.specs.Weights.{Point, point}
use Rattle.base.specs.Every.{get_d_map, any_place, any_at}
use Rattle.families.specs.Kuhn.{digit_ends, digit_named}
use Rattle.families.specs.Children.{middle, middle_ends, digits_of, low_digit, high_digit, child_four}
use Rattle.lattice.specs.Facts.{point_corner}
use Rattle.carriers.specs.Lists.{held_at}
use Rattle.carriers.specs.Carrier.{between_below, between_low, between_high, edge_between}
use Rattle.carriers.specs.Joins.{SameEnds, joins_from}

module _ (p i : ℕ) (hp : p < 64) (hi : i < length (family p)) (y : ℕ) (hy : y < 6) where
  pub digits_joined : T (joinedb (family p) (low_digit p i y) (high_digit p i y))
  unfolding joinedb
  digits_joined =
      let (a, b, _) = middle_ends y hy in
      any_at (λ c. memberb (low_digit p i y) c && memberb (high_digit p i y) c) [] (family p) i hi
      (and_both (memberb (low_digit p i y) (digits_of p i)) (memberb (high_digit p i y) (digits_of p i))
      (member_at (digits_of p i) (low (middle y)) (omega (arith, child_four p i hp hi)))
      (member_at (digits_of p i) (high (middle y)) (omega (arith, child_four p i hp hi))))

  pub child_edge : (g c : Cell Point) → c.points ≡ map (point g) (digits_of p i)
      → edge [] c y ≡ (point g (low_digit p i y), point g (high_digit p i y))
  unfolding edge
  child_edge g c e =
      let (a, b, _) = middle_ends y hy in
      rw e (ap₂ (λ (x z : Point). (x, z)) (get_d_map (point g) (digits_of p i) (low (middle y)) 0 [] (omega (arith, child_four p i hp hi)))
      (get_d_map (point g) (digits_of p i) (high (middle y)) 0 [] (omega (arith, child_four p i hp hi))))

-- two digits that a family joins
pub record EdgeAt (p d e : ℕ) : Type 0 where
  pub child : ℕ
  pub inside : child < length (family p)
  pub number : ℕ
  pub below : number < 6
  pub ends : ((d ≡ low_digit p child number) × (e ≡ high_digit p child number))
      ⊎ ((d ≡ high_digit p child number) × (e ≡ low_digit p child number))

module _ (p d e : ℕ) (hp : p < 64) where
  at_places : (i : ℕ) → i < length (family p) → (u v : ℕ) → u < v → v < 4 → get_or (digits_of p i) u 0 ≡ d → get_or (digits_of p i) v 0 ≡ e
      → EdgeAt p d e
  at_places i hi u v h l x y =
      record {
        child = i;
        inside = hi;
        number = edge_of (digit u v);
        below = between_below u v h l;
        ends = inl (rw (between_low u v h l) (sym x), rw (between_high u v h l) (sym y));
      }

  turned : EdgeAt p e d → EdgeAt p d e
  turned w = record { child = w.child; inside = w.inside; number = w.number; below = w.below; ends = go w.ends }
    where
      go : ((e ≡ low_digit p w.child w.number) × (d ≡ high_digit p w.child w.number))
          ⊎ ((e ≡ high_digit p w.child w.number) × (d ≡ low_digit p w.child w.number))
          → ((d ≡ low_digit p w.child w.number) × (e ≡ high_digit p w.child w.number))
          ⊎ ((d ≡ high_digit p w.child w.number) × (e ≡ low_digit p w.child w.number))
      go (inl (a, b)) = inr (b, a)
      go (inr (a, b)) = inl (b, a)

module _ (p d e : ℕ) (hp : p < 64) where
  pub edge_child : T (joinedb (family p) d e) → (d ≡ e → ⊥) → EdgeAt p d e
  unfolding joinedb
  edge_child t n =
      let (i, hi, u) = any_place (λ c. memberb d c && memberb e c) [] (family p) t in
      let (a, ha, x) = member_place d (digits_of p i) (and_left (memberb d (digits_of p i)) (memberb e (digits_of p i)) u) in
      let (b, hb, y) = member_place e (digits_of p i) (and_right (memberb d (digits_of p i)) (memberb e (digits_of p i)) u) in
      let f = child_four p i hp hi in
      elim (dec_lt a b) [
        | yes l ↦ at_places p d e hp i hi a b l (omega arith) x y
        | no l ↦ elim (dec_lt b a) [
          | yes m ↦ turned p d e hp (at_places p e d hp i hi b a m (omega arith) y x)
          | no m ↦ let z : a ≡ b = omega arith in absurd (n (sym x ∙ ap (λ (k : ℕ). get_or (digits_of p i) k 0) z ∙ y))
        ]
      ]

pub edge_joins : (p d e : ℕ) → p < 64 → (w : EdgeAt p d e) → (g c : Cell Point) → c.points ≡ map (point g) (digits_of p w.child)
    → T (joinsb sameb (point g d, point g e) (edge [] c w.number))
edge_joins p d e hp w g c x =
    rw (child_edge p w.child hp w.inside w.number w.below g c x)
    (joins_from (point g d, point g e) (point g (low_digit p w.child w.number), point g (high_digit p w.child w.number))
    (go w.ends))
  where
    go : ((d ≡ low_digit p w.child w.number) × (e ≡ high_digit p w.child w.number))
        ⊎ ((d ≡ high_digit p w.child w.number) × (e ≡ low_digit p w.child w.number))
        → SameEnds (point g d, point g e) (point g (low_digit p w.child w.number), point g (high_digit p w.child w.number))
    go (inl (a, b)) = inl (ap (point g) a, ap (point g) b)
    go (inr (a, b)) = inr (ap (point g) a, ap (point g) b)

-- two corners are joined by the cell's own edge
pub corner_point : (g : Cell Point) (d : ℕ) → d < 10 → low d ≡ high d → point g d ≡ corner [] g (low d)
corner_point g d h e =
    let x : digit (low d) (low d) ≡ d = ap (digit (low d)) e ∙ digit_named d h in
    ap (point g) (sym x) ∙ point_corner g (low d) (omega (arith, digit_ends d h))

between_corners : (g : Cell Point) (i j : ℕ) (a b : Point) → i < j → j < 4 → SameEnds (a, b) (corner [] g i, corner [] g j)
    → T (heldb sameb (edges [] g) (a, b))
between_corners g i j a b h l e =
    held_at [] g sameb (a, b) (edge_of (digit i j)) (between_below i j h l)
    (rw (edge_between [] g i j h l) (joins_from (a, b) (corner [] g i, corner [] g j) e))

pub own_or_mid : (g : Cell Point) (d e : ℕ) → d < e → e < 10
    → ((low d < high d) ⊎ (low e < high e)) ⊎ T (heldb sameb (edges [] g) (point g d, point g e))
own_or_mid g d e h l =
    let (d0, d1) = digit_ends d (omega arith) in
    let (e0, e1) = digit_ends e l in
    elim (dec_lt (low d) (high d)) [
      | yes u ↦ inl (inl u)
      | no u ↦ elim (dec_lt (low e) (high e)) [
        | yes v ↦ inl (inr v)
        | no v ↦ inr (
            let x : point g d ≡ corner [] g (low d) = corner_point g d (omega arith) (omega arith) in
            let y : point g e ≡ corner [] g (low e) = corner_point g e l (omega arith) in
            elim (dec_lt (low d) (low e)) [
              | yes w ↦ between_corners g (low d) (low e) (point g d) (point g e) w (omega arith) (inl (x, y))
              | no w ↦ elim (dec_lt (low e) (low d)) [
                | yes z ↦ between_corners g (low e) (low d) (point g d) (point g e) z (omega arith) (inr (x, y))
                | no z ↦ let q : digit (low d) (high d) ≡ digit (low e) (high e) = ap₂ digit (omega arith) (omega arith) in
                    absurd (omega (arith, digit_named d (omega arith), digit_named e l))
              ]
            ])
      ]
    ]
