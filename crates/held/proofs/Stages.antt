-- What a header that fits says, for `stage` and `held`.
use mathlib.Core.Path.{◌≡◌, refl, sym, ◌∙◌}
use mathlib.Core.Logic.{⊎_elim}
use mathlib.Core.Bool.{Bool, true, false, ◌&&◌, ◌||◌}
use mathlib.Core.List.{List, ◌++◌}
use Prim.Native.Nat.{ℕ, ◌+◌, ◌*◌, ◌≤◌}
use native.Mathlib.Nat.{zero-add}
use native.Mathlib.Omega.{arith}
use lib.Dec.{T, eqb, leb, eqb→eq}
use lib.ListN.{length, drop}
use Rattle.base.specs.Bools.{and_right, or_either}
use Rattle.base.specs.Limits.{most_cells}
use Rattle.store.specs.Fields.{field, STAGE, LEVELS, ROUND, RESULT}
use Rattle.store.specs.Header.{stageb, headerb}
use Rattle.store.specs.Headed.{header_is, header_yes}
use lib.Seq.{sets, sets-eq}
use Rattle.store.specs.Fields.{ENTRIES}
use Rattle.held.proofs.Rows.{length-rows}
use Rattle.held.specs.Held.{held_rows, full_held}

module _ (x : List ℕ) where
  -- the result of a store is 0, 8 or 9
  pub result_known : headerb x ≡ true → (field x RESULT ≡ 0 → ⊥) → (field x RESULT ≡ 8 → ⊥) → field x RESULT ≡ 9
  unfolding stageb
  result_known e a b =
      let h = header_is x (rw e tt) in
      let s : stageb x ≡ true = sym (header_yes x h) ∙ e in
      zero (eqb (field x STAGE) 0) refl s
    where
      last : T (eqb (field x RESULT) 0 || (eqb (field x RESULT) 8 || eqb (field x RESULT) 9)) → field x RESULT ≡ 9
      last t =
          ⊎_elim (λ (u : T (eqb (field x RESULT) 0)). absurd (a (eqb→eq (field x RESULT) 0 u)))
          (λ (u : T (eqb (field x RESULT) 8 || eqb (field x RESULT) 9)).
          ⊎_elim (λ (v : T (eqb (field x RESULT) 8)). absurd (b (eqb→eq (field x RESULT) 8 v)))
          (λ (v : T (eqb (field x RESULT) 9)). eqb→eq (field x RESULT) 9 v)
          (or_either (eqb (field x RESULT) 8) (eqb (field x RESULT) 9) u))
          (or_either (eqb (field x RESULT) 0) (eqb (field x RESULT) 8 || eqb (field x RESULT) 9) t)

      two : (c : Bool) → eqb (field x STAGE) 1 ≡ c
          → elim c [
            | true ↦ leb (field x ROUND) (2 * field x LEVELS) && eqb (field x RESULT) 0
            | false ↦ eqb (field x STAGE) 2 && (eqb (field x ROUND) (2 * field x LEVELS + 1)
                && (eqb (field x RESULT) 0 || (eqb (field x RESULT) 8 || eqb (field x RESULT) 9)))
          ] ≡ true → field x RESULT ≡ 9
      two true q s =
          let t : T (leb (field x ROUND) (2 * field x LEVELS) && eqb (field x RESULT) 0) = rw s tt in
          absurd (a (eqb→eq (field x RESULT) 0 (and_right (leb (field x ROUND) (2 * field x LEVELS)) (eqb (field x RESULT) 0) t)))
      two false q s =
          let t : T (eqb (field x STAGE) 2 && (eqb (field x ROUND) (2 * field x LEVELS + 1)
          && (eqb (field x RESULT) 0 || (eqb (field x RESULT) 8 || eqb (field x RESULT) 9)))) = rw s tt in
          last (and_right (eqb (field x ROUND) (2 * field x LEVELS + 1))
          (eqb (field x RESULT) 0 || (eqb (field x RESULT) 8 || eqb (field x RESULT) 9)) (and_right (eqb (field x STAGE) 2) _ t))

      zero : (c : Bool) → eqb (field x STAGE) 0 ≡ c → stageb x ≡ true → field x RESULT ≡ 9
      zero true q s =
          let s' : (eqb (field x ROUND) 0 && eqb (field x RESULT) 0) ≡ true = rw (q, stageb) at s in
          let t : T (eqb (field x ROUND) 0 && eqb (field x RESULT) 0) = rw s' tt in
          absurd (a (eqb→eq (field x RESULT) 0 (and_right (eqb (field x ROUND) 0) (eqb (field x RESULT) 0) t)))
      zero false q s = two (eqb (field x STAGE) 1) refl (rw (q, stageb) at s)

  pub entries_few : headerb x ≡ true → field x ENTRIES ≤ most_cells
  entries_few e = (header_is x (rw e tt)).entries_most

  pub rows_front : (rows : List ℕ) → headerb x ≡ true → full_held ≤ length rows
      → sets rows 0 (held_rows x) ≡ held_rows x ++ drop (length (held_rows x)) rows
  rows_front rows e g =
      let few = entries_few e in
      sets-eq (held_rows x) rows 0 (omega (arith, length-rows x)) ∙ rw (zero-add (length (held_rows x)))
