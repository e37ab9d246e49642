-- In a sound table a green cell's child shares no edge, but the green cell's own, with a red cell: so a cell that is not red
-- shares no edge of its red cut with a red cell one level up.
-- Laws: clash (the third condition by places), no_share.
use Rattle.std.specs.Prelude.{◌≡◌, false, List, [], ℕ, suc, ◌+◌, ◌<◌, T, length, get_or}
use Rattle.std.proofs.Common.{◌∙◌, ap, ⊎_elim, arith}
use Rattle.base.specs.Lists.{sameb}
use Rattle.base.specs.Bools.{is_true, not_both}
use Rattle.cutting.specs.Rule.{family}
use Rattle.families.specs.Faces.{joinedb}
use Rattle.mesh.specs.Cells.{Cell, redb, edge, edges, joinsb, heldb, red_edges, no_cell}
use Rattle.mesh.specs.Weights.{Point, point}
use Rattle.mesh.specs.Table.{levels_of, cells_of}
use Rattle.base.specs.Every.{All}
use Rattle.lattice.specs.Levels.{IfRegular}
use Rattle.carriers.specs.Lists.{held_at}
use Rattle.families.specs.Joining.{joined_mid}
use Rattle.carriers.specs.Level.{not_own}
use Rattle.carriers.specs.Joins.{Edge, joins_sym, joins_trans}
use Rattle.soundness.specs.Held.{red_at_lem, red_regular, regular_at}
use Rattle.soundness.specs.Whole.{spot_at_lem, parent_is}
use Rattle.soundness.specs.Apart.{parent_of, apart_at}
use Rattle.soundness.specs.Family.{ChildAt, red_child, child_parent}
use Rattle.soundness.specs.Turn.{held_not, Sharing, sharing}
use Rattle.soundness.specs.Sound.{Sound, lv, level_closed, level_next}

module _ (n : ℕ) (qs : List (List ℕ)) (ss : List ℕ) (s : Sound n qs ss) where
  pub clash : (j t i : ℕ) → t < length (lv n qs ss j).cells → redb (get_or (lv n qs ss j).statuses t 0) ≡ false
      → (w : ChildAt (lv n qs ss j) (lv n qs ss (suc j)) t i)
      → (y : ℕ) → y < 6 → heldb sameb (edges [] (get_or (lv n qs ss j).cells t no_cell))
      (edge [] (get_or (lv n qs ss (suc j)).cells w.u no_cell) y) ≡ false
      → (p : ℕ) → p < length (lv n qs ss (suc j)).cells → get_or (lv n qs ss (suc j)).statuses p 0 ≡ 64
      → T (heldb sameb (edges [] (get_or (lv n qs ss (suc j)).cells p no_cell)) (edge [] (get_or (lv n qs ss (suc j)).cells w.u no_cell) y))
      → ⊥
  clash j t i h g w y hy own p hp red has =
      let c = get_or (lv n qs ss (suc j)).cells w.u no_cell in
      let cs = cells_of (levels_of n qs ss) in
      let a = spot_at_lem n qs ss (suc j) w.u w.below in
      let b = spot_at_lem n qs ss (suc j) p hp in
      let e : get_or cs (a.o + w.u) no_cell ≡ c = a.cell in
      let r : (get_or cs (a.o + w.u) no_cell).regular ≡ false = ap (λ (c : Cell Point). c.regular) (e ∙ w.is) ∙ g in
      let f : T (heldb sameb (red_edges [] cs ss) (edge [] c y)) =
      red_at_lem (edge [] c y) cs ss (record {
        i = b.o + p;
        below = b.inside;
        known = omega (arith, b.inside, s.many);
        red = b.status
            ∙ red;
        has = rw b.cell has;
      }) in
      ⊎_elim (λ (x : T (heldb sameb (edges [] (parent_of cs ss (get_or cs (a.o + w.u) no_cell))) (edge [] (get_or cs (a.o + w.u) no_cell) y))).
      let x' : T (heldb sameb (edges [] (parent_of cs ss c)) (edge [] c y)) = rw e at x in
      let x'' : T (heldb sameb (edges [] (get_or (lv n qs ss j).cells t no_cell)) (edge [] c y)) = rw
      (parent_is n qs ss j t h c (child_parent (lv n qs ss j) (lv n qs ss (suc j)) t i w)) at x' in
      not_both {A = ⊥} (heldb sameb (edges [] (get_or (lv n qs ss j).cells t no_cell)) (edge [] c y))
      (is_true (heldb sameb (edges [] (get_or (lv n qs ss j).cells t no_cell)) (edge [] c y)) x'') own)
      (λ (x : heldb sameb (red_edges [] cs ss) (edge [] (get_or cs (a.o + w.u) no_cell) y) ≡ false).
      let x' : heldb sameb (red_edges [] cs ss) (edge [] c y) ≡ false = rw e at x in
      not_both {A = ⊥} (heldb sameb (red_edges [] cs ss) (edge [] c y)) (is_true (heldb sameb (red_edges [] cs ss) (edge [] c y)) f) x')
      (apart_at cs ss s.apart (a.o + w.u) a.inside r y hy)

  module _ (regular : (i : ℕ) → All (IfRegular n i) (lv n qs ss i).cells) where
    pub no_share : (j : ℕ) → j < 10 → (t : ℕ) → t < length (lv n qs ss j).cells → T (get_or (lv n qs ss j).cells t no_cell).regular
        → redb (get_or (lv n qs ss j).statuses t 0) ≡ false
        → (d e : ℕ) → d < 10 → e < 10 → (d ≡ e → ⊥) → T (joinedb (family 63) d e)
        → (p : ℕ) → p < length (lv n qs ss (suc j)).cells → get_or (lv n qs ss (suc j)).statuses p 0 ≡ 64
        → (x : ℕ) → x < 6 → T (joinsb sameb (point (get_or (lv n qs ss j).cells t no_cell) d, point (get_or (lv n qs ss j).cells t no_cell) e)
        (edge [] (get_or (lv n qs ss (suc j)).cells p no_cell) x)) → ⊥
    no_share j h t ht rt green d e hd he ne joined p hp red x hx js =
        let l = lv n qs ss j in
        let up = lv n qs ss (suc j) in
        let g = get_or l.cells t no_cell in
        let q = get_or up.cells p no_cell in
        let f : Edge = (point g d, point g e) in
        let nx = level_next n qs ss j (omega arith) in
        let cl = level_closed n qs ss s.closed j in
        let rp : T q.regular = red_regular up (level_closed n qs ss s.closed (suc j)) p hp red in
        let w : Sharing l up t f = sharing n j h l up nx cl (regular j) t ht rt d e hd he ne q (red_child l up nx p hp rp) x hx js in
        let c = get_or up.cells w.child.u no_cell in
        let o : Edge = edge [] c w.y in
        clash j t w.i ht green w.child w.y w.below (held_not (edges [] g) f o w.joins
        (not_own n j g h (regular_at n j l (regular j) t ht rt) d e hd he (joined_mid d e hd he joined ne))) p hp red
        (held_at [] q sameb o x hx (joins_trans o f (edge [] q x) (joins_sym f o w.joins) js))
