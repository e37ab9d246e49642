-- What the rounds have in common.
--   Wholes l           all other parts' messages of the round are taken
-- Laws: ends_known (the ends that are counted), head_running, head_done (the header with another round), no_result (while running),
-- even_round, odd_round, last_counts, last_round (which work a round begins with), set-reset (setting the round).
use Rattle.std.specs.Prelude.{◌≡◌, Bool, ◌||◌, List, set}
use Rattle.std.proofs.Common.{sym, ◌∙◌, length-set, get_or-set_other}
use Rattle.std.proofs.Math.Path.{ap}
use Rattle.std.proofs.Math.Bool.{true, false}
use Prim.Native.Nat.{ℕ, suc, ◌+◌, ◌-◌, ◌*◌, ◌/◌, ◌%◌, ◌≤◌, ◌<◌, Fin}
use native.Mathlib.Omega.{arith}
use Rattle.std.proofs.Math.Dec.{eqb, ltb}
use borrow.Author.Tests.{eq-eqb, ne_eqb, lt-ltb, le-ltb, eqb-true}
use Rattle.base.specs.Bools.{one_if}
use Rattle.base.specs.Limits.{most_cells}
use Rattle.exchange.specs.Finite.{parts}
use Rattle.rounds.specs.Task.{Task}
use Rattle.rounds.specs.Rounds.{phase, is_part}
use Rattle.rounds.specs.Rounded.{overb, endedb, wholeb}
use Rattle.store.specs.Fields.{field, STAGE, PART, LEVELS, ROUND, RESULT, ENTRIES, FIRST_ENDED}
use Rattle.store.specs.Header.{headerb}
use Rattle.store.specs.Headed.{Header, header_is, header_yes, running_is, done_is}
use Rattle.standing.specs.Busy.{L, Busy}
use Rattle.turns.specs.Start.{enter_marks}
use Rattle.turns.specs.Step.{enter_counts}
use Rattle.partstep.specs.Step.{round_entered, enter_totals, finished}
use Rattle.entering.specs.Turn.{Reset}

pub set-reset : (y : List ℕ) (r : ℕ) → Reset y (set y ROUND r)
set-reset y r = record { size = length-set y ROUND r; else = λ i a b c. get_or-set_other y ROUND i r 0 b }

-- the header, where the stage and the round are others
module _ (x z : List ℕ) (head : headerb x ≡ true) (low : (i : ℕ) → PART ≤ i → i < ROUND → field z i ≡ field x i)
    (few : field z ENTRIES ≤ most_cells)
  where
    header : Header z
    header =
        let h = header_is x (rw head tt) in
        let a = low 1 (omega arith) (omega arith) in
        let b = low 2 (omega arith) (omega arith) in
        let c = low 3 (omega arith) (omega arith) in
        let d = low 4 (omega arith) (omega arith) in
        let e = low 5 (omega arith) (omega arith) in
        let f = low 6 (omega arith) (omega arith) in record {
          parts_least = omega (arith, b, h.parts_least);
          parts_most = omega (arith, b, h.parts_most);
          part_least = omega (arith, a, h.part_least);
          part_most = omega (arith, a, b, h.part_most);
          corners_least = omega (arith, c, h.corners_least);
          corners_most = omega (arith, c, h.corners_most);
          coarse_least = omega (arith, d, h.coarse_least);
          coarse_most = omega (arith, d, h.coarse_most);
          cells_least = omega (arith, d, e, h.cells_least);
          cells_most = omega (arith, e, h.cells_most);
          levels_least = omega (arith, f, h.levels_least);
          levels_most = omega (arith, f, h.levels_most);
          entries_most = few;
        }

    pub head_running : field z STAGE ≡ 1 → field z ROUND ≤ 2 * field z LEVELS → field z RESULT ≡ 0 → headerb z ≡ true
    head_running s r v = header_yes z header ∙ sym (running_is z s r) ∙ eq-eqb (field z RESULT) 0 v

    pub head_done : field z STAGE ≡ 2 → field z ROUND ≡ 2 * field z LEVELS + 1
        → (eqb (field z RESULT) 0 || (eqb (field z RESULT) 8 || eqb (field z RESULT) 9)) ≡ true → headerb z ≡ true
    head_done s r v = header_yes z header ∙ sym (done_is z s r) ∙ v

-- a running store has no result
pub no_result : (x : List ℕ) → headerb x ≡ true → field x STAGE ≡ 1 → field x ROUND ≤ 2 * field x LEVELS → field x RESULT ≡ 0
no_result x h s r =
    eqb-true (field x RESULT) 0 (running_is x s r ∙ sym (header_yes x (header_is x (rw h tt))) ∙ h)

module _ (P : ℕ) (J : Task (Fin P)) (p : Fin P) (l : L P J) (x : List ℕ) (u : Busy P J p l x) where
  abbrev pub Wholes : Type 0
  Wholes = (q : Fin P) → wholeb (parts P) J l.round q p (l.got q) ≡ true

  module _ (live : overb (phase J.top l.round) ≡ false) where
    pub ends_known : Wholes → (q : Fin P) → is_part (parts P) q p ≡ false → field x (FIRST_ENDED + q.0) ≡ suc l.round
    unfolding wholeb one_if
    ends_known w q i =
        let e : wholeb (parts P) J l.round q p (l.got q) ≡ endedb (l.got q) = rw (i, live, wholeb) in
        u.ends q i live ∙ ap (λ (b : Bool). l.round + one_if b) (sym e ∙ w q) ∙ omega arith

-- which work a round begins with
module _ (x : List ℕ) (top i : ℕ) (levels : field x LEVELS ≡ suc top) (low : i ≤ top) where
  pub even_round : field x ROUND ≡ i + i → round_entered x ≡ enter_counts x (top - i)
  unfolding round_entered
  even_round e =
      let a : ltb (field x ROUND) (2 * field x LEVELS) ≡ true = lt-ltb (field x ROUND) (2 * field x LEVELS) (omega (arith, e, levels)) in
      let b : eqb (field x ROUND % 2) 0 ≡ true = eq-eqb (field x ROUND % 2) 0 (omega (arith, e)) in
      let c : field x LEVELS - 1 - field x ROUND / 2 ≡ top - i = omega (arith, e, levels) in
      rw (a, b, round_entered) (ap (enter_counts x) c)

  pub odd_round : i < top → field x ROUND ≡ suc (i + i) → round_entered x ≡ enter_marks x (top - suc i)
  unfolding round_entered
  odd_round h e =
      let a : ltb (field x ROUND) (2 * field x LEVELS) ≡ true = lt-ltb (field x ROUND) (2 * field x LEVELS) (omega (arith, e, levels)) in
      let b : eqb (field x ROUND % 2) 0 ≡ false = ne_eqb (field x ROUND % 2) 0 (λ z. absurd (omega (arith, e, z))) in
      let d : ltb (field x ROUND + 1) (2 * field x LEVELS) ≡ true =
      lt-ltb (field x ROUND + 1) (2 * field x LEVELS) (omega (arith, e, levels)) in
      let c : field x LEVELS - 2 - field x ROUND / 2 ≡ top - suc i = omega (arith, e, levels) in
      rw (a, b, d, round_entered) (ap (enter_marks x) c)

module _ (x : List ℕ) (top : ℕ) (levels : field x LEVELS ≡ suc top) where
  pub last_counts : field x ROUND ≡ suc (top + top) → round_entered x ≡ enter_totals x
  unfolding round_entered
  last_counts e =
      let a : ltb (field x ROUND) (2 * field x LEVELS) ≡ true = lt-ltb (field x ROUND) (2 * field x LEVELS) (omega (arith, e, levels)) in
      let b : eqb (field x ROUND % 2) 0 ≡ false = ne_eqb (field x ROUND % 2) 0 (λ z. absurd (omega (arith, e, z))) in
      let d : ltb (field x ROUND + 1) (2 * field x LEVELS) ≡ false =
      le-ltb (field x ROUND + 1) (2 * field x LEVELS) (omega (arith, e, levels)) in
      rw (a, b, d, round_entered)

  pub last_round : field x ROUND ≡ suc (suc (top + top)) → round_entered x ≡ finished x
  unfolding round_entered
  last_round e =
      let a : ltb (field x ROUND) (2 * field x LEVELS) ≡ false = le-ltb (field x ROUND) (2 * field x LEVELS) (omega (arith, e, levels)) in
      rw (a, round_entered)
