-- What a part holds has room in its columns.
-- Laws: six_range (the six edges), kids_in (the children are among the cells), own_held, family_held, slot_held (what is held), member_low,
-- cell_low, slot_low (where it stands), level_is, level_inside, cells_of_level, level_member (the cells of a level).
use Rattle.std.specs.Prelude.{◌≡◌, refl, true, false, ◌&&◌, List, leb}
use Rattle.std.proofs.Common.{sym, ◌∙◌, ap, ap₂, arith, eq-eqb}
use Prim.Native.Nat.{ℕ, suc, ◌+◌, ◌-◌, ◌≤◌, ◌<◌, Fin}
use Rattle.std.proofs.Math.Nat.{min-le_right}
use Rattle.std.proofs.Math.Dec.{T, eqb}
use Rattle.base.specs.Bools.{is_true, and_both, or_first, or_second}
use Rattle.base.specs.Limits.{most_cells, most_slots}
use Rattle.base.specs.Range.{range, member_range, range_member}
use Rattle.mesh.specs.Table.{size_of}
use Rattle.mesh.specs.Layout.{edge_numbers}
use Rattle.exchange.specs.Finite.{parts}
use Rattle.base.specs.Member.{Member, any_member, member_any}
use Rattle.rounds.specs.Task.{Task, has}
use Rattle.rounds.specs.Rounds.{is_part, mine, holdsb}
use Rattle.rounds.specs.Among.{is_same}
use Rattle.store.specs.Fields.{field, CELLS, FIRST_CELL, FIRST_SLOT, STATUS, CHILD}
use Rattle.standing.specs.Busy.{HoldsCell, HoldsSlot}
use Rattle.turns.specs.Decide.{kid_count}
use Rattle.turns.specs.Start.{level_from}
use Rattle.entering.specs.Columns.{Columns}

pub six_range : range 0 6 ≡ edge_numbers
unfolding range
six_range = refl

pub kids_in : (x : List ℕ) (c : ℕ) → kid_count x c ≤ field x CELLS - field x (CHILD + c)
unfolding kid_count
kids_in x c = min-le_right (elim (leb (field x (STATUS + c)) 64) [ true ↦ size_of (field x (STATUS + c)) | false ↦ 0 ])
    (field x CELLS - field x (CHILD + c))

module _ (P : ℕ) (J : Task (Fin P)) (p : Fin P) where
  pub own_held : (k c : ℕ) → Member c (J.cells k) → J.owner c ≡ p → HoldsCell P J p c
  own_held k c m e =
      (k, m, or_first (is_part (parts P) (J.owner c) p) (is_part (parts P) (J.family c) p) (rw (is_same (parts P) (J.owner c) p e) tt))

  pub family_held : (k c : ℕ) → Member c (J.cells k) → J.family c ≡ p → HoldsCell P J p c
  family_held k c m e =
      (k, m, or_second (is_part (parts P) (J.owner c) p) (is_part (parts P) (J.family c) p) (rw (is_same (parts P) (J.family c) p e) tt))

  pub slot_held : (c e : ℕ) → HoldsCell P J p c → Member e edge_numbers → HoldsSlot P J p (J.slot c e)
  unfolding holdsb has
  slot_held c e (k, m, h) n =
      let t : T (has J c (J.slot c e)) =
      member_any (λ f. eqb (J.slot c f) (J.slot c e)) edge_numbers e n (rw (eq-eqb (J.slot c e) (J.slot c e) refl) tt) in (
        k,
        member_any (λ d. mine (parts P) J p d && has J d (J.slot c e)) (J.cells k) c m
            (and_both (mine (parts P) J p c) (has J c (J.slot c e)) h t),
      )

  module _ (x : List ℕ) (u : Columns P J p x) where
    pub level_is : (k : ℕ) → k ≤ suc J.top → level_from x k ≡ field x (FIRST_CELL + k)
    unfolding level_from
    level_is k h = omega (arith, u.cells_in k h)

    level_most_lem : (k : ℕ) → level_from x k ≤ most_cells
    unfolding level_from
    level_most_lem k = omega (arith, u.cells_few)

    pub cells_of_level : (k : ℕ) → k ≤ J.top → J.cells k ≡ range (level_from x k) (level_from x (k + 1) - level_from x k)
    cells_of_level k h =
        let a : level_from x k ≡ field x (FIRST_CELL + k) = level_is k (omega arith) in
        let z : k + 1 ≡ suc k = omega arith in
        let b : level_from x (k + 1) ≡ field x (FIRST_CELL + suc k) = ap (level_from x) z ∙ level_is (suc k) (omega arith) in
        u.cells k h ∙ sym (ap₂ (λ (i n : ℕ). range i (n - i)) a b)

    pub level_inside : (k : ℕ) → level_from x k + (level_from x (k + 1) - level_from x k) ≤ most_cells
    level_inside k = omega (arith, level_most_lem k, level_most_lem (k + 1))

    pub level_member : (k c : ℕ) → k ≤ J.top → level_from x k ≤ c → c < level_from x k + (level_from x (k + 1) - level_from x k)
        → Member c (J.cells k)
    level_member k c h a b = rw (cells_of_level k h) (range_member (level_from x k) (level_from x (k + 1) - level_from x k) c a b)

    pub member_low : (k c : ℕ) → Member c (J.cells k) → c < field x CELLS
    member_low k c m =
        let h = u.no_cells k c m in
        let (a, b) = member_range (field x (FIRST_CELL + k)) (field x (FIRST_CELL + suc k) - field x (FIRST_CELL + k)) c
        (rw (u.cells k h) at m) in
        omega (arith, a, b, u.cells_rise k h, u.cells_in (suc k) (omega arith))

    pub cell_low : (c : ℕ) → HoldsCell P J p c → c < most_cells
    cell_low c (k, m, h) = omega (arith, member_low k c m, u.cells_few)

    pub slot_low : (s : ℕ) → HoldsSlot P J p s → s < most_slots
    unfolding holdsb
    slot_low s (k, t) =
        let (c, m, r) = any_member (λ c. mine (parts P) J p c && has J c s) (J.cells k) t in
        let h = u.no_cells k c m in
        let n : Member s (J.slots k) = u.held_slot k s (is_true (holdsb (parts P) J p k s) t) in
        let (a, b) = member_range (field x (FIRST_SLOT + k)) (field x (FIRST_SLOT + suc k) - field x (FIRST_SLOT + k)) s
        (rw (u.slots k h) at n) in
        omega (arith, a, b, u.slots_rise k h, u.slots_in (suc k) (omega arith))
