-- The cells of a table by their numbers.
--   numbers_of k        the numbers of the cells of level k
--   row_by ms c         the row of the cell c, with status and mark
--   At k t             what the number of the place t of level k stands for
--   Stands k c         the place of the cell c of level k
--   Kid k c d          d is a child of the cell c of level k
-- Laws: first_zero (the coarse cells come first), at_level, stands, number_inside, level_at_lem (numbers and places), one_level, level_of_lem (each
-- cell has one level), kid and kid_in (children stand one level up and have a refined parent), kid_some (a refined cell has one),
-- row_of_cell and rows_numbers (the rows of a level).
use Rattle.std.specs.Prelude.{◌≡◌, ◌≢◌}
use Rattle.std.proofs.Math.Path.{sym, ap, ap₂}
use Rattle.std.proofs.Common.{◌∙◌, subst, eqb→eq, eq-eqb}
use mathlib.Core.List.{List, [], map}
use Prim.Native.Nat.{ℕ, zero, suc, pred, ◌+◌, ◌-◌, ◌≤◌, ◌<◌}
use Rattle.std.proofs.Math.Decide.{dec_lt}
use native.Mathlib.Omega.{arith}
use Rattle.std.proofs.Math.Dec.{eqb}
use Rattle.std.proofs.Math.ListN.{length, get_or, length-map}
use Rattle.std.proofs.Math.Seq.{ext_get_or}
use Rattle.base.specs.Range.{range, length-range, range_at, member_range, range_member}
use Rattle.families.specs.Children.{some_child}
use Rattle.mesh.specs.Cells.{Cell, none, pattern_of, red_edges, no_cell}
use Rattle.mesh.specs.Weights.{Point, coarse_cells}
use Rattle.mesh.specs.Table.{levels_of}
use Rattle.mesh.specs.Step.{Row, rows}
use Rattle.mesh.specs.Laws.{length-coarse}
use Rattle.base.specs.Every.{get_d_map}
use Rattle.lineage.specs.Paths.{coarse_at}
use Rattle.lineage.specs.Levels.{first_first, levels_first, cells_first}
use Rattle.lineage.specs.Same.{row_in}
use Rattle.lineage.specs.Flags.{no_row, rows_at, length-rows}
use Rattle.carriers.specs.Refined.{asked_small}
use Rattle.soundness.specs.Held.{closed_at, closed-length}
use Rattle.soundness.specs.Family.{born_of, family_child, child_parent}
use Rattle.soundness.specs.Sound.{Sound, lv, level_closed, level_next, level_there}
use Rattle.soundness.specs.Whole.{spot_at_lem, spot_with}
use Rattle.base.specs.Member.{Member, filtered_member, member_filtered}
use Rattle.parts.specs.Owners.{nth_cell, children_of}
use Rattle.splitting.specs.Paths.{path-length}

pub first_zero : (n : ℕ) (qs : List (List ℕ)) (ss : List ℕ) → 0 < length (levels_of n qs ss) → (lv n qs ss 0).first ≡ 0
unfolding levels_of
first_zero n qs ss h = first_first 12 0 (coarse_cells n qs) ss h

module _ (n : ℕ) (qs : List (List ℕ)) (ss : List ℕ) where
  -- the numbers of the cells of level k
  unfoldable pub numbers_of : ℕ → List ℕ
  unfolding range
  numbers_of k = range (lv n qs ss k).first (length (lv n qs ss k).cells)

  abbrev cell : ℕ → Cell Point
  cell = nth_cell n qs ss

  unfoldable pub row_by : List ℕ → ℕ → Row
  unfolding nth_cell
  row_by ms c = record { number = c; cell = cell c; status = get_or ss c 0; mark = get_or ms c 0 }

  module _ (s : Sound n qs ss) where
    -- a place of a level, by its number
    pub record At (k t : ℕ) : Type 0 where
      pub here : Member ((lv n qs ss k).first + t) (numbers_of k)
      pub inside : (lv n qs ss k).first + t < length ss
      pub cell_is : cell ((lv n qs ss k).first + t) ≡ get_or (lv n qs ss k).cells t no_cell
      pub status_is : get_or ss ((lv n qs ss k).first + t) 0 ≡ get_or (lv n qs ss k).statuses t 0

    pub at_level : (k t : ℕ) → t < length (lv n qs ss k).cells → At k t
    unfolding numbers_of nth_cell
    at_level k t h =
        let a = spot_at_lem n qs ss k t h in
        let e : a.o + t ≡ (lv n qs ss k).first + t = omega (arith, a.first) in
        record {
          here = range_member (lv n qs ss k).first (length (lv n qs ss k).cells) ((lv n qs ss k).first + t) (omega arith) (omega arith);
          inside = omega (arith, a.inside, s.many);
          cell_is = rw e at a.cell;
          status_is = rw e at a.status;
        }

    pub record Stands (k c : ℕ) : Type 0 where
      pub t : ℕ
      pub below : t < length (lv n qs ss k).cells
      pub number : c ≡ (lv n qs ss k).first + t

    pub stands : (k c : ℕ) → Member c (numbers_of k) → Stands k c
    unfolding numbers_of
    stands k c m =
        let (a, b) = member_range (lv n qs ss k).first (length (lv n qs ss k).cells) c m in
        record { t = c - (lv n qs ss k).first; below = omega arith; number = omega arith }

    pub number_inside : (k c : ℕ) → Member c (numbers_of k) → c < length ss
    number_inside k c m = let p = stands k c m in rw p.number (at_level k p.t p.below).inside

    -- the level of a number
    pub level_at_lem : (c : ℕ) → c < length ss → (k : ℕ) × Member c (numbers_of k)
    level_at_lem c h =
        let w = spot_with n qs ss c (omega (arith, s.many)) in
        let e : (lv n qs ss w.j).first + w.p ≡ c = omega (arith, w.at.first, w.number) in
        (w.j, subst (λ (x : ℕ). Member x (numbers_of w.j)) e (at_level w.j w.p w.below).here)

    -- levels stand one behind the other
    behind : (j d : ℕ) → suc (j + d) < length (levels_of n qs ss) → (lv n qs ss j).first + length (lv n qs ss j).cells ≤ (lv n qs ss
        (suc (j + d))).first
    unfolding levels_of
    behind j zero h =
        let z : suc (j + 0) ≡ suc j = omega arith in rw z (omega (arith, levels_first 12 0 (coarse_cells n qs) ss j (omega arith)))
    behind j (suc d) h =
        let z : suc (j + suc d) ≡ suc (suc (j + d)) = omega arith in
        rw z (omega (arith, levels_first 12 0 (coarse_cells n qs) ss (suc (j + d)) (omega arith), behind j d (omega arith)))

    apart_levels : (j k c : ℕ) → j < k → Member c (numbers_of j) → Member c (numbers_of k) → ⊥
    apart_levels j k c h a b =
        let x = stands j c a in
        let y = stands k c b in
        let top = level_there n qs ss k y.t y.below in
        let z : suc (j + (k - suc j)) ≡ k = omega arith in
        let w = behind j (k - suc j) (rw z top) in
        let w' : (lv n qs ss j).first + length (lv n qs ss j).cells ≤ (lv n qs ss k).first = rw z at w in
        omega (arith, x.number, x.below, y.number)

    -- a cell's level, by its path
    pub level_of_lem : (k c : ℕ) → Member c (numbers_of k) → pred (length (cell c).path) ≡ k
    level_of_lem k c m =
        let p = stands k c m in
        let a = at_level k p.t p.below in
        ap pred (ap (λ (x : ℕ). length (cell x).path) p.number ∙ ap (λ (c : Cell Point). length c.path) a.cell_is
        ∙ path-length n qs ss k p.t p.below)

    pub one_level : (j k c : ℕ) → Member c (numbers_of j) → Member c (numbers_of k) → j ≡ k
    one_level j k c a b =
        elim (dec_lt j k) [
          | yes h ↦ absurd (apart_levels j k c h a b)
          | no h ↦ elim (dec_lt k j) [ yes g ↦ absurd (apart_levels k j c g b a) | no g ↦ omega arith ]
        ]

    -- a cell that has a parent with a number
    pub record Kid (k c d : ℕ) : Type 0 where
      pub up : Member d (numbers_of (suc k))
      pub refined : get_or ss c 0 ≢ 0
      pub parent : (cell d).parent ≡ c

    coarse_parent : (t : ℕ) → t < length (lv n qs ss 0).cells → (get_or (lv n qs ss 0).cells t no_cell).parent ≡ none
    unfolding levels_of
    coarse_parent t h =
        let e : (lv n qs ss 0).cells ≡ coarse_cells n qs = cells_first 11 0 (coarse_cells n qs) ss in
        ap (λ (cs : List (Cell Point)). (get_or cs t no_cell).parent) e ∙ ap (λ (c : Cell Point). c.parent)
        (coarse_at n qs t (omega (arith, ap length e, length-coarse n qs)))

    kid_from : (j k c d : ℕ) → Member c (numbers_of k) → Member d (numbers_of j) → (cell d).parent ≡ c → Kid k c d
    kid_from zero k c d m q e =
        let p = stands 0 d q in
        let a = at_level 0 p.t p.below in
        let z : (cell d).parent ≡ none = ap (λ (x : ℕ). (cell x).parent) p.number ∙ ap (λ (c : Cell Point). c.parent) a.cell_is
        ∙ coarse_parent p.t p.below in
        absurd (omega (arith, number_inside k c m, s.many, s.few))
    kid_from (suc j) k c d m q e =
        let p = stands (suc j) d q in
        let a = at_level (suc j) p.t p.below in
        let top = level_there n qs ss (suc j) p.t p.below in
        let b = born_of (lv n qs ss j) (lv n qs ss (suc j)) (level_next n qs ss j (omega (arith, s.high))) p.t p.below in
        let o = at_level j b.p b.below in
        let z : c ≡ (lv n qs ss j).first + b.p =
        sym e ∙ ap (λ (x : ℕ). (cell x).parent) p.number ∙ ap (λ (c : Cell Point). c.parent) (a.cell_is ∙ b.is) in
        let w : j ≡ k = one_level j k c (subst (λ (x : ℕ). Member x (numbers_of j)) (sym z) o.here) m in
        record {
          up = subst (λ (x : ℕ). Member d (numbers_of (suc x))) w q;
          refined = λ y. b.refined (sym o.status_is ∙ ap (λ (x : ℕ). get_or ss x 0) (sym z) ∙ y);
          parent = e;
        }

    pub kid : (k c d : ℕ) → Member c (numbers_of k) → Member d (children_of n qs ss c) → Kid k c d
    unfolding children_of
    kid k c d m q =
        let (a, b) = filtered_member (λ d. eqb (cell d).parent c) (range 0 (length ss)) d q in
        let (_, h) = member_range 0 (length ss) d a in
        let (j, u) = level_at_lem d (omega arith) in
        kid_from j k c d m u (eqb→eq (cell d).parent c b)

    pub kid_in : (k c d : ℕ) → Member d (numbers_of k) → (cell d).parent ≡ c → Member d (children_of n qs ss c)
    unfolding children_of
    kid_in k c d m e =
        member_filtered (λ d. eqb (cell d).parent c) (range 0 (length ss)) d (range_member 0 (length ss) d (omega arith)
        (omega (arith, number_inside k d m))) (rw (eq-eqb (cell d).parent c e) tt)

    -- a refined cell has a child
    pub kid_some : (k c : ℕ) → Member c (numbers_of k) → get_or ss c 0 ≢ 0 → (d : ℕ) × Member d (children_of n qs ss c)
    kid_some k c m z =
        let p = stands k c m in
        let l = lv n qs ss k in
        let a = at_level k p.t p.below in
        let top = level_there n qs ss k p.t p.below in
        let (known, st) = closed_at l (level_closed n qs ss s.closed k) p.t p.below in
        let small = asked_small (red_edges [] l.cells l.statuses) (get_or l.cells p.t no_cell) (get_or l.statuses p.t 0) st in
        let nz : get_or l.statuses p.t 0 ≢ 0 = (λ e. z (ap (λ (x : ℕ). get_or ss x 0) p.number ∙ a.status_is ∙ e)) in
        let w = family_child l (lv n qs ss (suc k)) (level_next n qs ss k (omega (arith, s.high))) p.t 0 p.below known nz
        (some_child (pattern_of (get_or l.statuses p.t 0)) small) in
        let o = at_level (suc k) w.u w.below in (
          (lv n qs ss (suc k)).first + w.u,
          kid_in (suc k) c ((lv n qs ss (suc k)).first + w.u) o.here
              (ap (λ (c : Cell Point). c.parent) o.cell_is ∙ child_parent l (lv n qs ss (suc k)) p.t 0 w ∙ sym p.number),
        )

    -- the row of a place
    pub row_of_cell : (ms : List ℕ) (k t : ℕ) → t < length (lv n qs ss k).cells → row_by ms ((lv n qs ss k).first + t) ≡ row_in (lv n qs ss k)
        ms t
    unfolding row_by
    row_of_cell ms k t h =
        let a = at_level k t h in
        ap₂ {A = Cell Point} {B = ℕ} {C = Row}
        (λ d x. record { number = (lv n qs ss k).first + t; cell = d; status = x; mark = get_or ms ((lv n qs ss k).first + t) 0 }) a.cell_is
        a.status_is

    -- the rows of a level
    pub rows_numbers : (ms : List ℕ) (k : ℕ) → rows (lv n qs ss k) ms ≡ map (row_by ms) (numbers_of k)
    unfolding numbers_of row_by
    rows_numbers ms k =
        let l = lv n qs ss k in
        let known = closed-length l (level_closed n qs ss s.closed k) in
        let many : length (map (row_by ms) (numbers_of k)) ≡ length l.cells =
        length-map (numbers_of k) (row_by ms) ∙ length-range l.first (length l.cells) in
        ext_get_or no_row (rows l ms) (map (row_by ms) (numbers_of k)) (length-rows l ms known ∙ sym many) (λ i h.
        let g : i < length l.cells = omega (arith, length-rows l ms known) in
        rows_at l ms known i g ∙ sym (row_of_cell ms k i g)
        ∙ ap (row_by ms) (sym (range_at l.first (length l.cells) i 0 g))
        ∙ sym (get_d_map (row_by ms) (numbers_of k) i 0 no_row (omega (arith, length-range l.first (length l.cells)))))
