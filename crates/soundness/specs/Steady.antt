-- The table that a step makes of a sound one is sound, within the limits.
-- Laws: new_apart (the third condition, for a table whose cells meet a sound one's), step_sound (the theorem).
use Rattle.std.specs.Prelude.{◌≡◌, ◌⊎◌, false, ℕ, suc, zero, ◌≤◌, ◌<◌, T, length, get_or}
use Rattle.std.proofs.Common.{sym, ◌∙◌, ap, subst, ⊎_elim, arith}
use mathlib.Core.List.{List, [], flatten}
use Rattle.base.specs.Limits.{most_cells, most_levels}
use Rattle.base.specs.Lists.{allb, sameb}
use Rattle.base.specs.Bools.{is_true, not_both}
use Rattle.cutting.specs.Rule.{low, high}
use Rattle.mesh.specs.Cells.{Cell, redb, pattern_of, edge, edges, heldb, red_edges, no_cell}
use Rattle.mesh.specs.Weights.{Point, point}
use Rattle.mesh.specs.Coarse.{cellsb}
use Rattle.mesh.specs.Table.{levels_of, cells_of, closedb, apartb, soundb}
use Rattle.mesh.specs.Step.{step_table}
use Rattle.base.specs.Every.{All}
use Rattle.lattice.specs.Levels.{IfRegular}
use Rattle.lattice.specs.Regular.{Regular}
use Rattle.lattice.specs.Facts.{level_regular, sound_regular}
use Rattle.lineage.specs.Olds.{step_by}
use Rattle.lineage.specs.Born.{Born}
use Rattle.lineage.specs.Step.{step_by_lem}
use Rattle.carriers.specs.Level.{next_level}
use Rattle.carriers.specs.Joins.{Edge}
use Rattle.families.specs.Children.{low_digit, high_digit, digits_rise, digits_below_lem}
use Rattle.carriers.specs.Child.{child_edge, own_or_mid}
use Rattle.carriers.specs.Refined.{status_regular, asked_small}
use Rattle.soundness.specs.Held.{closed_at, red_regular, regular_at}
use Rattle.soundness.specs.Apart.{parent_of, apart_from}
use Rattle.soundness.specs.Family.{born_of}
use Rattle.soundness.specs.Sound.{Sound, sound_parts, sound_from, lv, level_closed, level_next, level_there}
use Rattle.soundness.specs.Whole.{RedAt, RedSomewhere, spot_with, parent_is, red_level, coarse_level}
use Rattle.soundness.specs.Meets.{Meets, meets_step}
use Rattle.soundness.specs.Green.{no_green}
use Rattle.soundness.specs.Grown.{new_closed, new_many, new_high}

module _ (n : ℕ) (qs : List (List ℕ)) (ss ms ts : List ℕ) (old : Sound n qs ss)
    (regular : (i : ℕ) → All (IfRegular n i) (lv n qs ss i).cells)
    (closed : T (allb closedb (levels_of n qs ts))) (few : length (levels_of n qs ts) ≤ most_levels)
    (new : (i : ℕ) → i ≤ 10 → All (IfRegular n i) (lv n qs ts i).cells)
    (m : Meets n qs ss ms (levels_of n qs ts)) where
  -- an edge of a child that is not regular, by the parent's digits
  child_apart : (j : ℕ) → j < 10 → (c : Cell Point) → Born (lv n qs ts j).first (lv n qs ts j).cells (lv n qs ts j).statuses c
      → c.regular ≡ false → (y : ℕ) → y < 6
      → heldb sameb (edges [] (parent_of (cells_of (levels_of n qs ts)) ts c)) (edge [] c y) ≡ false → RedSomewhere n qs ts (edge [] c y) → ⊥
  child_apart j h c b r y hy own w =
      let l = lv n qs ts j in
      let cl = level_closed n qs ts closed in
      let g = get_or l.cells b.p no_cell in
      let s = get_or l.statuses b.p 0 in
      let st = (closed_at l (cl j) b.p b.below).1 in
      let small : pattern_of s < 64 = asked_small (red_edges [] l.cells l.statuses) g s st in
      let green : redb s ≡ false = sym (ap (λ (c : Cell Point). c.regular) b.is) ∙ r in
      let rg : T g.regular = status_regular (red_edges [] l.cells l.statuses) g s st b.refined in
      let d = low_digit (pattern_of s) b.i y in
      let e = high_digit (pattern_of s) b.i y in
      let de = digits_rise (pattern_of s) b.i small b.child y hy in
      let he = digits_below_lem (pattern_of s) b.i small b.child y hy in
      let f : Edge = (point g d, point g e) in
      let eq : edge [] c y ≡ f = child_edge (pattern_of s) b.i small b.child y hy g c (ap (λ (c : Cell Point). c.points) b.is) in
      let own' : heldb sameb (edges [] g) f ≡ false =
      rw (parent_is n qs ts j b.p b.below c (ap (λ (c : Cell Point). c.parent) b.is), eq) at own in
      let w' : RedSomewhere n qs ts f = rw eq at w in
      let u = w'.at in
      let k = w'.j in
      let q = get_or (lv n qs ts k).cells u.u no_cell in
      let rq : Regular n k q = regular_at n k (lv n qs ts k) (new k (omega (arith, w'.high))) u.u u.below
      (red_regular (lv n qs ts k) (cl k) u.u u.below u.red) in
      ⊎_elim (λ (z : (low d < high d) ⊎ (low e < high e)).
      let up : k ≡ suc j = next_level n j k g q h (omega (arith, w'.high)) (regular_at n j l (new j (omega arith)) b.p b.below rg) rq
      d e (omega arith) he z u.y u.small u.joins in
      no_green n qs ss ms ts old regular m new cl j h b.p b.below rg green d e (omega arith) he (λ t. omega arith) own'
      (subst (λ (k : ℕ). RedAt n qs ts k f) up u))
      (λ (z : T (heldb sameb (edges [] g) f)). not_both {A = ⊥} (heldb sameb (edges [] g) f) (is_true (heldb sameb (edges [] g) f) z) own')
      (own_or_mid g d e de he)

  cell_apart : (j p : ℕ) → p < length (lv n qs ts j).cells → (get_or (lv n qs ts j).cells p no_cell).regular ≡ false → (y : ℕ) → y < 6
      → heldb sameb (edges [] (parent_of (cells_of (levels_of n qs ts)) ts (get_or (lv n qs ts j).cells p no_cell)))
      (edge [] (get_or (lv n qs ts j).cells p no_cell) y) ≡ false
      → RedSomewhere n qs ts (edge [] (get_or (lv n qs ts j).cells p no_cell) y) → ⊥
  cell_apart zero p h r y hy own w = not_both (get_or (lv n qs ts 0).cells p no_cell).regular (coarse_level n qs ts p h) r
  cell_apart (suc j) p h r y hy own w =
      let top : suc j < length (levels_of n qs ts) = level_there n qs ts (suc j) p h in
      child_apart j (omega arith) (get_or (lv n qs ts (suc j)).cells p no_cell)
      (born_of (lv n qs ts j) (lv n qs ts (suc j)) (level_next n qs ts j (omega arith)) p h) r y hy own w

  new_apart : T (apartb (cells_of (levels_of n qs ts)) ts)
  new_apart =
      apart_from (cells_of (levels_of n qs ts)) ts (λ i h r y hy own held.
      let o = spot_with n qs ts i h in
      let e : get_or (cells_of (levels_of n qs ts)) i no_cell ≡ get_or (lv n qs ts o.j).cells o.p no_cell = rw o.number at
      o.at.cell in
      cell_apart o.j o.p o.below (rw e at r) y hy (rw e at own)
      (rw e at (red_level n qs ts (edge [] (get_or (cells_of (levels_of n qs ts)) i no_cell) y) held)))

sound_by : (n : ℕ) (qs : List (List ℕ)) (ss ms : List ℕ) → All (λ q. length q ≡ 4) qs → T (cellsb n qs) → T (soundb n qs ss)
    → length (step_by n qs ss ms) ≤ most_levels → length (flatten (step_by n qs ss ms)) ≤ most_cells
    → T (soundb n qs (flatten (step_by n qs ss ms)))
sound_by n qs ss ms four cells sound high few =
    let ts = flatten (step_by n qs ss ms) in
    let closed = new_closed n qs ss ms sound in
    let low : length (levels_of n qs ts) ≤ most_levels = rw (new_high n qs ss ms) high in
    sound_from n qs ts (record {
      many = new_many n qs ss ms;
      high = low;
      few = rw (← new_many n qs ss ms) few;
      closed = closed;
      apart = new_apart n qs ss ms ts (sound_parts n qs ss sound) (sound_regular n qs ss four cells sound) closed low
          (level_regular n qs ts four cells closed) (meets_step n qs ss ms sound);
    })

pub step_sound : (n : ℕ) (qs : List (List ℕ)) (ss ms : List ℕ) → All (λ q. length q ≡ 4) qs → T (cellsb n qs) → T (soundb n qs ss)
    → length (step_table n qs ss ms) ≤ most_levels → length (flatten (step_table n qs ss ms)) ≤ most_cells
    → T (soundb n qs (flatten (step_table n qs ss ms)))
step_sound n qs ss ms four cells sound = rw (step_by_lem n qs ss ms sound) (sound_by n qs ss ms four cells sound)
