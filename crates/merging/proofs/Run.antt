-- The rounds in lockstep on the parts 1 to Q + 1: each part's result is the serial step's answer (run_answer_lem).
use Rattle.std.specs.Prelude.{◌≡◌, T, leb}
use Rattle.std.proofs.Math.Path.{sym, ap, fun_ext}
use Rattle.std.proofs.Common.{◌∙◌, ap₂, ⊎_elim, le_refl, arith}
use mathlib.Core.List.{List, Memᴰ, flatten}
use Prim.Native.Nat.{ℕ, zero, suc, ◌≤◌, ◌<◌, Fin}
use Rattle.std.proofs.Math.ListN.{length, get_or}
use Rattle.base.specs.Limits.{most_cells, most_levels}
use Rattle.base.specs.Refuse.{refuse}
use Rattle.base.specs.Answer.{Accepted}
use Rattle.mesh.specs.Coarse.{cellsb}
use Rattle.mesh.specs.Table.{soundb}
use Rattle.mesh.specs.Step.{step_table}
use Rattle.base.specs.Every.{All}
use Rattle.soundness.specs.Sound.{Sound, sound_parts}
use Rattle.exchange.specs.Finite.{Finite, step_down, fins, parts, sum_over}
use Rattle.exchange.specs.Lockstep.{lock}
use Rattle.rounds.specs.Task.{Task, Fit}
use Rattle.rounds.specs.Rounds.{Body, Phase, State, writing, taking, sized, capped, largest}
use Rattle.rounds.specs.Rounded.{phase_totals}
use Rattle.rounds.specs.Totals.{before_totals, totals_known}
use Rattle.rounds.proofs.Totals.{enough_last}
use Rattle.parts.specs.Owners.{ownersb}
use Rattle.parts.specs.Held.{Entry}
use Rattle.splitting.specs.Split.{Slots, fits, owners_fit}
use Rattle.shares.specs.Grow.{status_new, pair_held, fresh_status, staysb, master_entry, ghost_entry, anewb, child_status, child_entries}
use Rattle.shares.specs.Grow.{fresh_entries, entries}
use Rattle.base.specs.Distinct.{NoDup}
use Rattle.merging.specs.Limits.{top_of, end_of}
use Rattle.merging.specs.Complete.{master_paths}
use Rattle.merging.specs.Totals.{grown_of, grown_plain}
use Rattle.merging.proofs.Result.{serial_answer}
use Rattle.merging.specs.Run.{nth_part, number_of, named}

fins_below : (P k : ℕ) (h : k ≤ P) (p : Fin P) → Memᴰ p (fins P k h) → p.0 < k
unfolding fins
fins_below P zero h p m = absurd (mathlib.Core.List.Memᴰ.not-nil m)
fins_below P (suc k) h p m =
    ⊎_elim (λ (e : p ≡ (k, h)). let z : p.0 ≡ k = ap (λ (x : Fin P). x.0) e in omega arith)
    (λ (n : Memᴰ p (fins P k (step_down h))). let z = fins_below P k (step_down h) p n in omega arith) (mathlib.Core.List.Memᴰ.cases_cons m)

fins_once : (P k : ℕ) (h : k ≤ P) → NoDup (fins P k h)
unfolding fins
fins_once P zero h = tt
fins_once P (suc k) h = ((λ m. let z = fins_below P k (step_down h) (k, h) m in omega arith), fins_once P k (step_down h))

parts_once : (P : ℕ) → NoDup (parts P).list
parts_once P = fins_once P P (le_refl P)

module _ (Q n : ℕ) (qs : List (List ℕ)) (ss ms : List ℕ) (four : All (λ q. length q ≡ 4) qs) (accepted : T (cellsb n qs))
    (sound : T (soundb n qs ss)) (os : List ℕ) (owners : T (ownersb n qs ss (suc Q) os)) (slot : ℕ → ℕ → ℕ) (slots : ℕ → List ℕ)
    (numbered : Slots n qs ss slot slots) (ps : List (Fin (suc Q))) {Msg In : Type 0}
    (pack : Fin (suc Q) → Fin (suc Q) → ℕ → Body → Msg) (reads : Fin (suc Q) → In → ℕ → ℕ) (input : Fin (suc Q) → In)
    (starts : (p : Fin (suc Q)) (c : ℕ) → nth_part Q (get_or os c 0) ≡ p → reads p (input p) c ≡ get_or ms c 0) where
  abbrev P : ℕ
  P = suc Q

  abbrev F : Finite (Fin P)
  F = parts P

  abbrev s : Sound n qs ss
  s = sound_parts n qs ss sound

  abbrev task : Task (Fin P)
  task = Rattle.merging.specs.Run.task Q n qs ss ms four accepted sound os owners slot slots numbered ps pack reads input starts

  abbrev plain : (p : Fin P) (t : State) (g : ℕ × ℕ) → grown_of F task p (sized g t) ≡ grown_of F task p t
  plain = grown_plain F task

  abbrev before : Fin P → State
  before = before_totals P task (grown_of F task) plain ps pack reads input

  abbrev final : Fin P → State
  final = Rattle.merging.specs.Run.final Q n qs ss ms four accepted sound os owners slot slots numbered ps pack reads input starts

  task_fit : Fit task
  task_fit = fits n qs ss s slot slots numbered os (owners_fit n qs ss P os owners) (nth_part Q)

  -- the round of totals changes no entry
  entries_last : (p : Fin P) → entries F task p (final p) ≡ entries F task p (before p)
  unfolding lock taking entries master_entry ghost_entry fresh_entries anewb staysb child_entries child_status status_new fresh_status pair_held
  entries_last p =
      ap (λ (f : Phase). entries F task p (taking F task (grown_of F task) f p (before p) (λ q. writing F task f q p (before q))))
      (phase_totals task.top)

  -- each part's result is the serial step's answer
  told_masters : (p : Fin P) → (final p).total ≡ capped (sum_over (λ q. length (master_paths (entries F task q (final q)))) F.list)
  unfolding grown_of
  told_masters p =
      (totals_known P task (grown_of F task) plain ps pack reads input p).0
      ∙ ap (λ (f : Fin P → ℕ). capped (sum_over f F.list))
      (fun_ext (λ q. ap (λ (es : List Entry). length (master_paths es)) (sym (entries_last q))))

  told_top : (p : Fin P) → (final p).high ≡ largest (λ q. top_of (master_paths (entries F task q (final q)))) F.list
  unfolding grown_of
  told_top p =
      (totals_known P task (grown_of F task) plain ps pack reads input p).1
      ∙ ap (λ (f : Fin P → ℕ). largest f F.list) (fun_ext (λ q. ap (λ (es : List Entry). top_of (master_paths es)) (sym (entries_last q))))

  pub run_answer_lem : (p : Fin P) → end_of (final p).total (final p).high
      ≡ refuse 8 (leb (length (step_table n qs ss ms)) most_levels)
      (refuse 9 (leb (length (flatten (step_table n qs ss ms))) most_cells) Accepted)
  run_answer_lem p =
      ap₂ end_of (told_masters p) (told_top p)
      ∙ serial_answer F n qs ss ms four accepted sound P os owners slot slots numbered (nth_part Q) number_of (named Q) final
      (λ p. enough_last P task (grown_of F task) plain ps pack reads input p task_fit (λ c. get_or ms c 0) starts) (parts_once P)
