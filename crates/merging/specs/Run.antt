-- The rounds in lockstep on the parts 1 to Q + 1: each part ends with the serial step's answer, and its entries are its share.
--   nth_part Q o, number_of p    the part with a number, and its number
--   marks_from os given p c     the mark of the cell c that the part p started with; 0 where it is no master of p
--   task, final p              the task of a split table; what the part p knows after the last round
-- Laws: named (numbers and parts), starts_together (the marks of the starts are the serial ones); and in proofs/Run parts_once (each part
-- stands once), task_fit, entries_last (the round of totals changes no entry), run_answer_lem (each part's result is the serial step's answer).
use Rattle.std.specs.Prelude.{◌≡◌, ◌&&◌, T, ltb}
use Rattle.std.proofs.Math.Path.{sym, ap}
use Rattle.std.proofs.Common.{◌∙◌, arith}
use Rattle.std.proofs.Math.Bool.{true, false}
use mathlib.Core.List.{List}
use Prim.Native.Nat.{ℕ, zero, suc, ◌≤◌, ◌<◌, pred, min, Fin}
use Rattle.std.proofs.Math.Decide.{dec_lt}
use Rattle.std.proofs.Math.ListN.{length, get_or, get_or-eq_default}
use borrow.Author.Tests.{eq-eqb, lt-ltb, le-ltb}
use Rattle.mesh.specs.Coarse.{cellsb}
use Rattle.mesh.specs.Table.{soundb}
use Rattle.base.specs.Every.{All}
use Rattle.exchange.specs.Finite.{Finite, parts}
use Rattle.rounds.specs.Task.{Task}
use Rattle.rounds.specs.Rounds.{Body, State, sized}
use Rattle.rounds.specs.Totals.{after_totals}
use Rattle.parts.specs.Owners.{ownersb}
use Rattle.parts.specs.Held.{masterb}
use Rattle.parts.specs.Starts.{place_on, put_together}
use Rattle.splitting.specs.Admissible.{owners_counted}
use Rattle.splitting.specs.Starts.{together_at, length-together}
use Rattle.splitting.specs.Split.{Slots, task_of}
use Rattle.shares.specs.Share.{Named}
use Rattle.merging.specs.Totals.{grown_of, grown_plain}

-- parts and their numbers
abbrev pub nth_part : (Q : ℕ) → ℕ → Fin (suc Q)
nth_part Q o = (min (pred o) Q, omega arith)

abbrev pub number_of : {P : ℕ} → Fin P → ℕ
number_of p = suc p.0

pub named : (Q : ℕ) → Named (suc Q) (nth_part Q) number_of
named Q = record { back = λ p. native.Mathlib.Fin.val_path (low p.0 p.1); forth = λ o a b. number o a b }
  where
    low : (x : ℕ) → x < suc Q → min x Q ≡ x
    low x h = omega arith

    number : (o : ℕ) → 1 ≤ o → o ≤ suc Q → suc (min (pred o) Q) ≡ o
    number zero a b = absurd (omega arith)
    number (suc o) a b = omega arith

-- the marks that a part starts with, by cell
module _ (os : List ℕ) (given : ℕ → List ℕ) where
  -- Rule 15.6.
  unfoldable pub marks_from : {P : ℕ} → Fin P → ℕ → ℕ
  unfolding masterb place_on
  marks_from p c =
      elim (ltb c (length os) && masterb os (number_of p) c) [ true ↦ get_or (given (number_of p)) (place_on os c) 0 | false ↦ 0 ]

  pub starts_together : (Q n : ℕ) (qs : List (List ℕ)) (ss : List ℕ) → T (ownersb n qs ss (suc Q) os) → (p : Fin (suc Q)) (c : ℕ)
      → nth_part Q (get_or os c 0) ≡ p → marks_from p c ≡ get_or (put_together os given) c 0
  unfolding marks_from masterb
  starts_together Q n qs ss t p c e =
      elim (dec_lt c (length os)) [
        | yes h ↦
            let w = owners_counted n qs ss (suc Q) os t in
            let (a, b) = w.each c (omega (arith, w.many)) in
            let o : get_or os c 0 ≡ number_of p = sym ((named Q).forth (get_or os c 0) a b) ∙ ap (λ (x : Fin (suc Q)). number_of x) e in
            rw (lt-ltb c (length os) h, eq-eqb (get_or os c 0) (number_of p) o, marks_from)
            (ap (λ (x : ℕ). get_or (given x) (place_on os c) 0) (sym o) ∙ sym (together_at os given c h))
        | no h ↦
            rw (le-ltb c (length os) (omega arith), marks_from)
            (sym (get_or-eq_default (put_together os given) 0 {n = c} (omega (arith, length-together os given))))
      ]

module _ (Q n : ℕ) (qs : List (List ℕ)) (ss ms : List ℕ) (four : All (λ q. length q ≡ 4) qs) (accepted : T (cellsb n qs))
    (sound : T (soundb n qs ss)) (os : List ℕ) (owners : T (ownersb n qs ss (suc Q) os)) (slot : ℕ → ℕ → ℕ) (slots : ℕ → List ℕ)
    (numbered : Slots n qs ss slot slots) (ps : List (Fin (suc Q))) {Msg In : Type 0}
    (pack : Fin (suc Q) → Fin (suc Q) → ℕ → Body → Msg) (reads : Fin (suc Q) → In → ℕ → ℕ) (input : Fin (suc Q) → In)
    (starts : (p : Fin (suc Q)) (c : ℕ) → nth_part Q (get_or os c 0) ≡ p → reads p (input p) c ≡ get_or ms c 0) where
  abbrev P : ℕ
  P = suc Q

  abbrev F : Finite (Fin P)
  F = parts P

  abbrev pub task : Task (Fin P)
  task = task_of n qs ss slot slots os (nth_part Q)

  abbrev plain : (p : Fin P) (t : State) (g : ℕ × ℕ) → grown_of F task p (sized g t) ≡ grown_of F task p t
  plain = grown_plain F task

  abbrev pub final : Fin P → State
  final = after_totals P task (grown_of F task) plain ps pack reads input
