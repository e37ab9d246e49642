-- The step of a part, as the code makes it.
use mathlib.Core.Path.{◌≡◌, sym, ◌∙◌, ap, ap₂, subst}
use mathlib.Core.Bool.{true, ◌&&◌}
use mathlib.Core.List.{List}
use Prim.Native.Nat.{ℕ, ◌+◌, ◌*◌, ◌%◌, ◌≤◌}
use native.Mathlib.Omega.{arith}
use lib.Dec.{T, eqb, leb, leb→le}
use lib.ListN.{length, set}
use borrow.Author.Tests.{eq-eqb, ne_eqb}
use Rattle.base.specs.Bools.{and_left}
use Rattle.base.specs.Limits.{most_cells}
use Rattle.store.specs.Fields.{field, full, STAGE, CELLS, LEVELS, ROUND, RESULT, ENTRIES, TOTAL, HIGH, totals_code}
use Rattle.store.specs.Header.{stageb, headerb}
use Rattle.store.specs.Headed.{header_is, header_yes}
use Rattle.turns.specs.Loops.{each_from, SameHead}
use Rattle.turns.specs.Usable.{Usable, usable_same}
use Rattle.turns.specs.Post.{others_of, post_end}
use Rattle.turns.specs.Heads.{posted_head}
use Rattle.places.specs.Put.{place_cell}
use Rattle.places.specs.Front.{SameFront, front_on, front-set, cells_front, front_usable}
use Rattle.partstep.specs.Step.{cleared, post_totals, enter_totals}

totals_head : (x : List ℕ) → SameHead x (post_totals x)
unfolding post_totals
totals_head x = posted_head x ((totals_code + field x HIGH) % 65536) (field x TOTAL) (others_of x)

module _ (x : List ℕ) where
  cleared_front : SameFront x (cleared x)
  unfolding cleared
  cleared_front =
      front_on x (set x ENTRIES 0) (cleared x) (front-set x ENTRIES 0 (omega arith))
      (front_on (set x ENTRIES 0) (set (set x ENTRIES 0) TOTAL 0) (cleared x) (front-set (set x ENTRIES 0) TOTAL 0 (omega arith))
      (front-set (set (set x ENTRIES 0) TOTAL 0) HIGH 0 (omega arith)))

  -- on entering the round of totals: the store cleared, then the places written
  module _ (u : Usable x) (y : List ℕ) (e : y ≡ cleared x) where
    clear_usable : Usable y
    clear_usable = front_usable x y (subst (SameFront x) (sym e) cleared_front) u

    pub clear_long : full ≤ length y
    clear_long = clear_usable.long

    pub clear_cells : field y CELLS ≤ most_cells
    clear_cells = clear_usable.cells_most

    same_cells : field y CELLS ≡ field x CELLS
    same_cells = (subst (SameFront x) (sym e) cleared_front).head 5 (omega arith)

    module _ (z : List ℕ) (f : z ≡ each_from place_cell (field y CELLS) 0 y) where
      pub placed_usable : Usable z
      placed_usable = front_usable y z (subst (SameFront y) (sym f) (cells_front (field y CELLS) 0 y)) clear_usable

      pub told_usable : (w : List ℕ) → w ≡ post_totals z → Usable w
      told_usable w g = usable_same z w (subst (SameHead z) (sym g) (totals_head z)) placed_usable

      pub entered_totals : (w v : List ℕ) → w ≡ post_totals z → v ≡ post_end w → v ≡ enter_totals x
      unfolding enter_totals
      entered_totals w v g h =
          let a : z ≡ each_from place_cell (field x CELLS) 0 (cleared x) =
          f ∙ ap₂ (λ (n : ℕ) (s : List ℕ). each_from place_cell n 0 s) same_cells e in
          h ∙ ap post_end (g ∙ ap post_totals a)

  module _ (header : headerb x ≡ true) (stage : field x STAGE ≡ 1) where
    pub step_round : field x ROUND ≤ 22
    unfolding stageb
    step_round =
        let h = header_is x (rw header tt) in
        let e : stageb x ≡ (leb (field x ROUND) (2 * field x LEVELS) && eqb (field x RESULT) 0) =
        rw (ne_eqb (field x STAGE) 0 (λ z. absurd (omega (arith, z, stage))), eq-eqb (field x STAGE) 1 stage, stageb) in
        let t : T (leb (field x ROUND) (2 * field x LEVELS) && eqb (field x RESULT) 0) = rw (← e, ← header_yes x h, header) tt in
        let l = leb→le (field x ROUND) (2 * field x LEVELS)
        (and_left (leb (field x ROUND) (2 * field x LEVELS)) (eqb (field x RESULT) 0) t) in
        omega (arith, l, h.levels_most)
