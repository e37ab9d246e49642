-- A new green cell shares no edge of its cut, but its own, with a new red cell one level up.
-- Laws: no_kept (a cell that was there), no_fresh (one that was not), no_green (both).
use Rattle.std.specs.Prelude.{◌≡◌, ◌⊎◌, true, false, ℕ, suc, zero, ◌≤◌, ◌<◌, drop}
use Rattle.std.proofs.Common.{sym, ◌∙◌, ap, inl, inr, ⊎_elim, drop-cons, ne_eqb}
use mathlib.Core.List.{List, [], ◌∷◌, map}
use native.Mathlib.Omega.{arith}
use Rattle.std.proofs.Math.Dec.{T}
use Rattle.std.proofs.Math.ListN.{length, get_or}
use Rattle.base.specs.Lists.{sameb}
use Rattle.base.specs.Bools.{not_both}
use Rattle.cutting.specs.Rule.{family}
use Rattle.mesh.specs.Cells.{Cell, redb, pattern_of, edge, edges, joinsb, heldb, no_cell}
use Rattle.mesh.specs.Weights.{Point, point}
use Rattle.mesh.specs.Table.{Level, levels_of, closedb}
use Rattle.base.specs.Every.{All}
use Rattle.lattice.specs.Levels.{no_level, IfRegular}
use Rattle.lattice.specs.Regular.{Regular}
use Rattle.lineage.specs.Same.{Fresh}
use Rattle.lineage.specs.Flags.{new_red_at}
use Rattle.lineage.specs.Met.{Matched, Fostered, old_above}
use Rattle.carriers.specs.Lists.{held_which}
use Rattle.carriers.specs.Carrier.{shared_edge}
use Rattle.families.specs.Children.{digits_of, low_digit, high_digit, digits_rise, digits_below_lem}
use Rattle.carriers.specs.Child.{digits_joined, child_edge}
use Rattle.soundness.specs.Held.{red_regular, regular_at}
use Rattle.soundness.specs.Family.{RedChild, red_child}
use Rattle.soundness.specs.Turn.{turns}
use Rattle.soundness.specs.Sound.{Sound, lv, level_closed, level_next, level_there}
use Rattle.soundness.specs.Whole.{RedAt}
use Rattle.soundness.specs.Clash.{no_share}
use Rattle.soundness.specs.Meets.{Meets, point_same, edge_same, edges_alike}

module _ (n : ℕ) (qs : List (List ℕ)) (ss ms ts : List ℕ) (old : Sound n qs ss)
    (regular : (i : ℕ) → All (IfRegular n i) (lv n qs ss i).cells) where
  -- a cell that was there: it would be red
  no_kept : (j : ℕ) → j < 10 → (g r : Cell Point) (s : ℕ) → redb s ≡ false → Matched ms (old_above n qs ss j) (lv n qs ss j) g s
      → Matched ms (old_above n qs ss (suc j)) (lv n qs ss (suc j)) r 64
      → (d e : ℕ) → d < 10 → e < 10 → (d ≡ e → ⊥) → heldb sameb (edges [] g) (point g d, point g e) ≡ false
      → (y : ℕ) → y < 6 → T (joinsb sameb (point g d, point g e) (edge [] r y)) → ⊥
  no_kept j h g r s green w v d e hd he ne own y hy x =
      let l = lv n qs ss j in
      let up = lv n qs ss (suc j) in
      let c = get_or l.cells w.t no_cell in
      let q = get_or up.cells v.t no_cell in
      let x' : T (joinsb sameb (point c d, point c e) (edge [] q y)) =
      rw (point_same c g w.is.points d, point_same c g w.is.points e, edge_same q r v.is.points y) x in
      let own' : heldb sameb (edges [] c) (point c d, point c e) ≡ false =
      rw (point_same c g w.is.points d, point_same c g w.is.points e, edges_alike c g w.is.points) own in
      let a : new_red_at ms (up ∷ drop (suc (suc j)) (levels_of n qs ss)) l w.t ≡ true =
      turns n j h l up (level_next n qs ss j (omega arith)) (level_closed n qs ss old.closed j) (regular j)
      (level_closed n qs ss old.closed (suc j)) ms
      (drop (suc (suc j)) (levels_of n qs ss)) w.t w.is.below w.is.regular v.t v.is.below v.is.regular (sym v.red) y
      hy d e hd he ne x' own' in
      let b : new_red_at ms (old_above n qs ss j) l w.t ≡ true =
      ap (λ (ls : List Level). new_red_at ms ls l w.t)
      (drop-cons (levels_of n qs ss) (suc j) no_level (level_there n qs ss (suc j) v.t v.is.below)) ∙ a in
      not_both (redb s) (w.red ∙ b) green

  -- a cell that was not there
  no_fresh : (j : ℕ) → suc j < 10 → (l' : Level) (g r : Cell Point) → Regular n (suc j) g → Fostered (lv n qs ss j) l' g
      → Matched ms (old_above n qs ss (suc (suc j))) (lv n qs ss (suc (suc j))) r 64
      → (d e : ℕ) → d < 10 → e < 10 → (d ≡ e → ⊥) → (y : ℕ) → y < 6 → T (joinsb sameb (point g d, point g e) (edge [] r y)) → ⊥
  unfolding pattern_of
  no_fresh j h l' g r rg f v d e hd he ne y hy x =
      let low = lv n qs ss j in
      let l = lv n qs ss (suc j) in
      let up = lv n qs ss (suc (suc j)) in
      let q = get_or up.cells v.t no_cell in
      let up63 : 63 < 64 = omega arith in
      let w : RedChild l q = red_child l up (level_next n qs ss (suc j) (omega arith)) v.t v.is.below v.is.regular in
      let p = get_or l.cells w.p no_cell in
      let rp : Regular n (suc j) p = regular_at n (suc j) l (regular (suc j)) w.p w.below
      (red_regular l (level_closed n qs ss old.closed (suc j)) w.p w.below w.red) in
      let a = low_digit 63 w.i y in
      let b = high_digit 63 w.i y in
      let ab = digits_rise 63 w.i up63 w.inside y hy in
      let hb = digits_below_lem 63 w.i up63 w.inside y hy in
      let x' : T (joinsb sameb (point g d, point g e) (point p a, point p b)) =
      rw (← edge_same q r v.is.points y, child_edge 63 w.i up63 w.inside y hy p q w.points) at x in
      let (z, hz, u) = shared_edge n (suc j) g p h rg rp d e a b hd he (omega arith) hb (digits_joined 63 w.i up63 w.inside y hy) x'
      ne in
      let (o, ho, js) = held_which [] p sameb (edge [] g z) u in
      let G' = get_or l'.cells f.born.p no_cell in
      let G = get_or low.cells f.t no_cell in
      let i = f.born.i in
      let hi : i < length (family 63) = rw f.parent_red at f.born.child in
      let pts : g.points ≡ map (point G') (digits_of 63 i) = rw f.parent_red at (ap (λ (c : Cell Point). c.points) f.born.is) in
      let k = low_digit 63 i z in
      let m = high_digit 63 i z in
      let km = digits_rise 63 i up63 hi z hz in
      let hm = digits_below_lem 63 i up63 hi z hz in
      let js' : T (joinsb sameb (point G k, point G m) (edge [] p o)) =
      rw (point_same G G' f.is.points k, point_same G G' f.is.points m, ← child_edge 63 i up63 hi z hz G' g pts) js in
      no_share n qs ss old regular j (omega arith) f.t f.is.below f.is.regular
      (ne_eqb (get_or low.statuses f.t 0) 64 f.was) k m (omega arith) hm (λ t. omega arith)
      (digits_joined 63 i up63 hi z hz) w.p w.below w.red o ho js'

  module _ (m : Meets n qs ss ms (levels_of n qs ts)) (new : (i : ℕ) → i ≤ 10 → All (IfRegular n i) (lv n qs ts i).cells) where
    fresh_at : (j : ℕ) → j < 10 → (p : ℕ) → p < length (lv n qs ts j).cells → T (get_or (lv n qs ts j).cells p no_cell).regular
        → Fresh (lv n qs ss j) (get_or (lv n qs ts j).cells p no_cell) → (r : Cell Point)
        → Matched ms (old_above n qs ss (suc j)) (lv n qs ss (suc j)) r 64
        → (d e : ℕ) → d < 10 → e < 10 → (d ≡ e → ⊥) → (y : ℕ) → y < 6
        → T (joinsb sameb (point (get_or (lv n qs ts j).cells p no_cell) d, point (get_or (lv n qs ts j).cells p no_cell) e) (edge [] r y)) → ⊥
    fresh_at zero h p hp rp f r v d e hd he ne y hy x = m.first p hp f
    fresh_at (suc j) h p hp rp f r v d e hd he ne y hy x =
        no_fresh j h (lv n qs ts j) (get_or (lv n qs ts (suc j)).cells p no_cell) r
        (regular_at n (suc j) (lv n qs ts (suc j)) (new (suc j) (omega arith)) p hp rp)
        (m.parent j p hp rp f) v d e hd he ne y hy x

    module _ (closed : (j : ℕ) → T (closedb (lv n qs ts j))) where
      red_met : (j u : ℕ) → u < length (lv n qs ts j).cells → get_or (lv n qs ts j).statuses u 0 ≡ 64
          → Matched ms (old_above n qs ss j) (lv n qs ss j) (get_or (lv n qs ts j).cells u no_cell) 64
      red_met j u h red = go (m.each j u h (red_regular (lv n qs ts j) (closed j) u h red))
        where
          go : Matched ms (old_above n qs ss j) (lv n qs ss j) (get_or (lv n qs ts j).cells u no_cell) (get_or (lv n qs ts j).statuses u 0)
              ⊎ ((redb (get_or (lv n qs ts j).statuses u 0) ≡ false) × Fresh (lv n qs ss j) (get_or (lv n qs ts j).cells u no_cell))
              → Matched ms (old_above n qs ss j) (lv n qs ss j) (get_or (lv n qs ts j).cells u no_cell) 64
          go (inl w) = rw red at w
          go (inr (a, b)) = not_both (redb (get_or (lv n qs ts j).statuses u 0)) (ap redb red) a

      pub no_green : (j : ℕ) → j < 10 → (p : ℕ) → p < length (lv n qs ts j).cells → T (get_or (lv n qs ts j).cells p no_cell).regular
          → redb (get_or (lv n qs ts j).statuses p 0) ≡ false
          → (d e : ℕ) → d < 10 → e < 10 → (d ≡ e → ⊥)
          → heldb sameb (edges [] (get_or (lv n qs ts j).cells p no_cell))
          (point (get_or (lv n qs ts j).cells p no_cell) d, point (get_or (lv n qs ts j).cells p no_cell) e) ≡ false
          → RedAt n qs ts (suc j) (point (get_or (lv n qs ts j).cells p no_cell) d, point (get_or (lv n qs ts j).cells p no_cell) e) → ⊥
      no_green j h p hp rp green d e hd he ne own a =
          let g = get_or (lv n qs ts j).cells p no_cell in
          let r = get_or (lv n qs ts (suc j)).cells a.u no_cell in
          let v : Matched ms (old_above n qs ss (suc j)) (lv n qs ss (suc j)) r 64 = red_met (suc j) a.u a.below a.red in
          ⊎_elim (λ (w : Matched ms (old_above n qs ss j) (lv n qs ss j) g (get_or (lv n qs ts j).statuses p 0)).
          no_kept j h g r (get_or (lv n qs ts j).statuses p 0) green w v d e hd he ne own a.y a.small a.joins)
          (λ (w : (redb (get_or (lv n qs ts j).statuses p 0) ≡ false) × Fresh (lv n qs ss j) g).
          fresh_at j h p hp rp w.1 r v d e hd he ne a.y a.small a.joins)
          (m.each j p hp rp)
