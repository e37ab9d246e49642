-- What each part knows after the rounds of each level (to_counts, marking), and after those of all (enough).
use Rattle.std.specs.Prelude.{◌≡◌}
use Rattle.std.proofs.Math.Path.{subst}
use Rattle.std.proofs.Common.{sym}
use mathlib.Core.List.{List}
use Prim.Native.Nat.{ℕ, zero, suc, ◌+◌, ◌≤◌}
use native.Mathlib.Omega.{arith}
use Rattle.exchange.specs.Finite.{Finite}
use Rattle.exchange.specs.Protocol.{Protocol}
use Rattle.exchange.specs.Lockstep.{lock}
use Rattle.rounds.specs.Task.{Task, Fit}
use Rattle.rounds.specs.Rounds.{Body, marks, counts, State}
use Rattle.rounds.specs.Enough.{Known, Marking, Counting, at_start_lem, counts_known, last_known}
use Rattle.rounds.proofs.Enough.{marks_known}
use Rattle.rounds.specs.Rounded.{phase_marks, phase_counts, lock_on}

module _ {Part : Type 0} (F : Finite Part) (J : Task Part) (grown : Part → State → ℕ × ℕ) (ps : List Part) {Msg In : Type 0}
    (pack : Part → Part → ℕ → Body → Msg) (reads : Part → In → ℕ → ℕ) where
  abbrev protocol : Protocol Part In Body Msg State
  protocol = Rattle.rounds.specs.Rounded.protocol F J grown ps pack reads

  module _ (fit : Fit J) (ms : ℕ → ℕ) (input : Part → In)
      (given : (p : Part) (c : ℕ) → J.owner c ≡ p → reads p (input p) c ≡ ms c) where
    abbrev at : ℕ → Part → State
    at r p = lock F protocol input r p

    pub to_counts : (i : ℕ) → i ≤ J.top → ((p : Part) → Marking F J ms i p (at (i + i) p)) → (p : Part)
        → Counting F J ms i p (at (suc (i + i)) p)
    to_counts i h w p = rw (lock_on F J grown ps pack reads fit ms input given (i + i) (marks i) (phase_marks J.top i h) p) (marks_known F J ms fit i h (at (i + i)) w p grown)

    pub marking : (i : ℕ) → i ≤ J.top → (p : Part) → Marking F J ms i p (at (i + i) p)
    unfolding lock
    marking zero h p = at_start_lem F J ms fit p (reads p (input p)) (given p)
    marking (suc i) h p =
        let z : suc i + suc i ≡ suc (suc (i + i)) = omega arith in
        let w : (q : Part) → Counting F J ms i q (at (suc (i + i)) q) = to_counts i (omega arith) (λ q. marking i (omega arith) q) in
        subst (λ (r : ℕ). Marking F J ms (suc i) p (at r p)) (sym z)
        (rw (lock_on F J grown ps pack reads fit ms input given (suc (i + i)) (counts i) (phase_counts J.top i (omega arith)) p)
        (counts_known F J ms fit i (omega arith) (at (suc (i + i))) w p grown (omega arith)))

    pub enough : (p : Part) → Known F J ms (suc J.top) p (at (suc (suc (J.top + J.top))) p)
    enough p =
        let t = J.top in
        rw (lock_on F J grown ps pack reads fit ms input given (suc (t + t)) (counts t) (phase_counts t t (omega arith)) p)
        (last_known F J ms fit t (omega arith) (at (suc (t + t))) (to_counts t (omega arith) (marking t (omega arith))) p grown)
