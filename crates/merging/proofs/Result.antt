-- The result that follows from the totals of the rounds is the serial step's answer (serial_answer).
use Rattle.std.specs.Prelude.{◌≡◌, ℕ, suc, pred, T, leb, length, get_or}
use Rattle.std.proofs.Common.{sym, ◌∙◌, ap}
use mathlib.Core.List.{List, flatten}
use Rattle.base.specs.Limits.{most_cells, most_levels}
use Rattle.base.specs.Refuse.{refuse}
use Rattle.base.specs.Answer.{Accepted}
use Rattle.mesh.specs.Coarse.{cellsb}
use Rattle.mesh.specs.Table.{levels_of, soundb}
use Rattle.mesh.specs.Step.{step_table}
use Rattle.base.specs.Every.{All}
use Rattle.lineage.specs.Step.{step_by_lem}
use Rattle.exchange.specs.Finite.{Finite, sum_over}
use Rattle.rounds.specs.Rounds.{State, capped}
use Rattle.rounds.specs.Enough.{Known}
use Rattle.parts.specs.Owners.{ownersb}
use Rattle.splitting.specs.Split.{Slots, task_of}
use Rattle.shares.specs.Settled.{Settled}
use Rattle.shares.specs.Share.{Named}
use Rattle.base.specs.Distinct.{NoDup}
use Rattle.merging.specs.Limits.{end_of}
use Rattle.merging.specs.Totals.{masters_of, high_in}
use Rattle.merging.proofs.Totals.{ends}

module _ {Part : Type 0} (F : Finite Part) (n : ℕ) (qs : List (List ℕ)) (ss ms : List ℕ) (four : All (λ q. length q ≡ 4) qs)
    (accepted : T (cellsb n qs)) (sound : T (soundb n qs ss)) (P : ℕ) (os : List ℕ) (owners : T (ownersb n qs ss P os))
    (slot : ℕ → ℕ → ℕ) (slots : ℕ → List ℕ) (numbered : Slots n qs ss slot slots) (part : ℕ → Part) (number : Part → ℕ)
    (names : Named P part number) (state : Part → State) (known : (p : Part)
    → Known F (task_of n qs ss slot slots os part) (λ c. get_or ms c 0)
    (suc (pred (length (levels_of n qs ss)))) p (state p)) where
  abbrev settle : Settled F
  settle = Rattle.merging.specs.Result.settle F n qs ss ms four accepted sound P os owners slot slots numbered part number names state known

  pub serial_answer : NoDup F.list → end_of (capped (sum_over (masters_of settle) F.list)) (high_in settle)
      ≡ refuse 8 (leb (length (step_table n qs ss ms)) most_levels)
      (refuse 9 (leb (length (flatten (step_table n qs ss ms))) most_cells) Accepted)
  serial_answer d =
      ends settle d ∙ ap (λ (t : List (List ℕ)). refuse 8 (leb (length t) most_levels)
      (refuse 9 (leb (length (flatten t)) most_cells) Accepted))
      (sym (step_by_lem n qs ss ms sound))
