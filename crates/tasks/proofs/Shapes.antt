-- The four points of a cell differ, and so its six edges have six slots.
--   PointsApart c     no two corners of the cell c are the same point
-- Laws: cell_apart (so of each cell of a sound table), edges_apart (its edges differ), slots_apart (and their slots).
use Rattle.std.specs.Prelude.{◌≡◌, true, false, List, [], map, ℕ, zero, suc, ◌<◌, T, eqb, length, get_or}
use Rattle.std.proofs.Common.{sym, ◌∙◌, ap, ap₂, ⊎_elim, arith, eqb→eq, eq-eqb}
use Rattle.std.proofs.Math.Decide.{dec_lt}
use Rattle.mesh.specs.Laws.{below_six}
use Rattle.base.specs.Lists.{belowb, belowb_at, sameb}
use Rattle.base.specs.Bools.{impb, impb_use, either, not_both}
use Rattle.base.specs.Every.{All, get_d_map}
use Rattle.cutting.specs.Rule.{low, high, digit, family}
use Rattle.families.specs.Kuhn.{digit_named}
use Rattle.families.specs.Children.{middle, middle_ends, digits_of, child_four, digits_rise, digits_below_lem}
use Rattle.mesh.specs.Cells.{Cell, corner, edge, joinsb, no_cell, red_edges, pattern_of}
use Rattle.mesh.specs.Weights.{Point, point}
use Rattle.mesh.specs.Coarse.{cellsb}
use Rattle.mesh.specs.Table.{soundb}
use Rattle.lattice.specs.Regular.{Regular}
use Rattle.lattice.specs.Edges.{corner_injective, point_injective}
use Rattle.lattice.specs.Facts.{sound_regular}
use Rattle.carriers.specs.Joins.{ends_of}
use Rattle.carriers.specs.Refined.{asked_small, status_regular}
use Rattle.soundness.specs.Held.{closed_at, regular_at}
use Rattle.soundness.specs.Family.{born_of}
use Rattle.soundness.specs.Sound.{Sound, lv, sound_parts, level_closed, level_next, level_there}
use Rattle.soundness.specs.Whole.{coarse_level}
use Rattle.base.specs.Member.{Member}
use Rattle.parts.specs.Owners.{nth_cell}
use Rattle.splitting.specs.Numbers.{numbers_of, at_level, stands}
use Rattle.split.specs.Columns.{slot_of}
use Rattle.tasks.proofs.Edges.{slots_split}

abbrev PointsApart : Cell Point → Type 0
PointsApart c = (i j : ℕ) → i < 4 → j < 4 → corner [] c i ≡ corner [] c j → i ≡ j

-- edges have their own middles
middles : T (belowb (λ e. belowb (λ f. impb (eqb (middle e) (middle f)) (eqb e f)) 6) 6)
unfolding belowb impb
middles = tt

middle_own : (e f : ℕ) → e < 6 → f < 6 → middle e ≡ middle f → e ≡ f
middle_own e f he hf q =
    eqb→eq e f (impb_use (eqb (middle e) (middle f)) (eqb e f)
    (belowb_at (λ f. impb (eqb (middle e) (middle f)) (eqb e f)) 6
    (belowb_at (λ e. belowb (λ f. impb (eqb (middle e) (middle f)) (eqb e f)) 6) 6 middles e he) f hf)
    (rw (eq-eqb (middle e) (middle f) q) tt))

edges_apart : (c : Cell Point) → PointsApart c → (e f : ℕ) → e < 6 → f < 6 → T (joinsb sameb (edge [] c e) (edge [] c f)) → e ≡ f
unfolding edge
edges_apart c a e f he hf t =
    let (x, y, z) = middle_ends e he in
    let (x', y', z') = middle_ends f hf in
    ⊎_elim
    (λ (w : (corner [] c (low (middle e)) ≡ corner [] c (low (middle f)))
    × (corner [] c (high (middle e)) ≡ corner [] c (high (middle f)))).
    middle_own e f he hf (sym (digit_named (middle e) z)
    ∙ ap₂ digit (a (low (middle e)) (low (middle f)) (omega arith) (omega arith) w.0) (a (high (middle e)) (high (middle f)) y y' w.1)
    ∙ digit_named (middle f) z'))
    (λ (w : (corner [] c (low (middle e)) ≡ corner [] c (high (middle f)))
    × (corner [] c (high (middle e)) ≡ corner [] c (low (middle f)))).
    absurd (omega (
      arith,
      a (low (middle e)) (high (middle f)) (omega arith) y' w.0,
      a (high (middle e)) (low (middle f)) y (omega arith) w.1,
    )))
    (ends_of (edge [] c e) (edge [] c f) t)

-- the digits of a child, as rising numbers
module _ (p i : ℕ) (hp : p < 64) (hi : i < length (family p)) where
  abbrev at : ℕ → ℕ
  at j = get_or (digits_of p i) j 0

  rises : (at 0 < at 1) × (at 1 < at 2) × (at 2 < at 3) × (at 3 < 10)
  unfolding low high
  rises = (
    digits_rise p i hp hi 0 (omega arith),
    digits_rise p i hp hi 3 (omega arith),
    digits_rise p i hp hi 5 (omega arith),
    digits_below_lem p i hp hi 5 (omega arith),
  )

  digit_small : (j : ℕ) → j < 4 → at j < 10
  digit_small zero h = omega (arith, rises)
  digit_small (suc zero) h = omega (arith, rises)
  digit_small (suc (suc zero)) h = omega (arith, rises)
  digit_small (suc (suc (suc zero))) h = omega (arith, rises)
  digit_small (suc (suc (suc (suc j)))) h = absurd (omega arith)

  digit_up : (j k : ℕ) → j < k → k < 4 → at j < at k
  digit_up zero (suc zero) h l = omega (arith, rises)
  digit_up zero (suc (suc zero)) h l = omega (arith, rises)
  digit_up zero (suc (suc (suc zero))) h l = omega (arith, rises)
  digit_up (suc zero) (suc (suc zero)) h l = omega (arith, rises)
  digit_up (suc zero) (suc (suc (suc zero))) h l = omega (arith, rises)
  digit_up (suc (suc zero)) (suc (suc (suc zero))) h l = omega (arith, rises)
  digit_up j zero h l = absurd (omega arith)
  digit_up (suc j) (suc zero) h l = absurd (omega arith)
  digit_up (suc (suc j)) (suc (suc zero)) h l = absurd (omega arith)
  digit_up (suc (suc (suc j))) (suc (suc (suc zero))) h l = absurd (omega arith)
  digit_up j (suc (suc (suc (suc k)))) h l = absurd (omega arith)

  digit_own : (j k : ℕ) → j < 4 → k < 4 → at j ≡ at k → j ≡ k
  digit_own j k hj hk e =
      elim (dec_lt j k) [
        | yes h ↦ absurd (omega (arith, digit_up j k h hk))
        | no h ↦ elim (dec_lt k j) [ yes g ↦ absurd (omega (arith, digit_up k j g hj)) | no g ↦ omega arith ]
      ]

  -- a child of a regular cell
  child_apart : (n k : ℕ) (c d : Cell Point) → k < 10 → Regular n k c → d.points ≡ map (point c) (digits_of p i) → PointsApart d
  child_apart n k c d h r e x y hx hy w =
      let is : (j : ℕ) → j < 4 → corner [] d j ≡ point c (at j) =
      (λ j g. ap (λ (ps : List Point). get_or ps j []) e ∙ get_d_map (point c) (digits_of p i) j 0 [] (omega (arith, child_four p i hp hi))) in
      digit_own x y hx hy (point_injective n k c r h (at x) (at y) (digit_small x hx) (digit_small y hy) (sym (is x hx) ∙ w ∙ is y hy))

module _ (n : ℕ) (qs : List (List ℕ)) (ss : List ℕ) (four : All (λ q. length q ≡ 4) qs) (accepted : T (cellsb n qs))
    (sound : T (soundb n qs ss)) where
  abbrev s : Sound n qs ss
  s = sound_parts n qs ss sound

  place_apart : (k t : ℕ) → t < length (lv n qs ss k).cells → PointsApart (get_or (lv n qs ss k).cells t no_cell)
  place_apart k t h = ⊎_elim (regular k t h) (green k t h) (either (get_or (lv n qs ss k).cells t no_cell).regular)
    where
      regular : (k t : ℕ) → t < length (lv n qs ss k).cells → (get_or (lv n qs ss k).cells t no_cell).regular ≡ true
          → PointsApart (get_or (lv n qs ss k).cells t no_cell)
      regular k t h e =
          corner_injective n k (get_or (lv n qs ss k).cells t no_cell)
          (regular_at n k (lv n qs ss k) (sound_regular n qs ss four accepted sound k) t h (rw e tt))

      green : (k t : ℕ) → t < length (lv n qs ss k).cells → (get_or (lv n qs ss k).cells t no_cell).regular ≡ false
          → PointsApart (get_or (lv n qs ss k).cells t no_cell)
      green zero t h e = not_both (get_or (lv n qs ss 0).cells t no_cell).regular (coarse_level n qs ss t h) e
      green (suc k) t h e =
          let l = lv n qs ss k in
          let top = level_there n qs ss (suc k) t h in
          let b = born_of l (lv n qs ss (suc k)) (level_next n qs ss k (omega (arith, s.high))) t h in
          let st = (closed_at l (level_closed n qs ss s.closed k) b.p b.below).1 in
          let es = red_edges [] l.cells l.statuses in
          let c = get_or l.cells b.p no_cell in
          let small = asked_small es c (get_or l.statuses b.p 0) st in
          let r = regular_at n k l (sound_regular n qs ss four accepted sound k) b.p b.below
          (status_regular es c (get_or l.statuses b.p 0) st b.refined) in
          child_apart (pattern_of (get_or l.statuses b.p 0)) b.i small b.child n k c (get_or (lv n qs ss (suc k)).cells t no_cell)
          (omega (arith, s.high)) r (ap (λ (c : Cell Point). c.points) b.is)

  cell_apart : (k c : ℕ) → Member c (numbers_of n qs ss k) → PointsApart (nth_cell n qs ss c)
  cell_apart k c m =
      let p = stands n qs ss s k c m in
      let a = at_level n qs ss s k p.t p.below in
      let e : nth_cell n qs ss c ≡ get_or (lv n qs ss k).cells p.t no_cell = ap (nth_cell n qs ss) p.number ∙ a.cell_is in
      rw e (place_apart k p.t p.below)

  pub slots_apart : (k c e f : ℕ) → Member c (numbers_of n qs ss k) → e < 6 → f < 6 → slot_of n qs ss c e ≡ slot_of n qs ss c f → e ≡ f
  slots_apart k c e f m he hf q =
      let w : eqb (slot_of n qs ss c f) (slot_of n qs ss c e) ≡ true = eq-eqb (slot_of n qs ss c f) (slot_of n qs ss c e) (sym q) in
      let u = (slots_split n qs ss four accepted sound).same k c c e f m m (below_six e he) (below_six f hf) in
      edges_apart (nth_cell n qs ss c) (cell_apart k c m) e f he hf (rw (sym u ∙ w) tt)
