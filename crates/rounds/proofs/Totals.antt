-- What a part knows of its level's edges after the last round, as the round of totals leaves it.
use Rattle.std.specs.Prelude.{◌≡◌}
use Rattle.std.proofs.Common.{sym}
use Rattle.std.proofs.Math.Path.{subst}
use mathlib.Core.List.{List}
use Prim.Native.Nat.{ℕ, suc, Fin}
use Rattle.exchange.specs.Finite.{Finite, parts}
use Rattle.rounds.specs.Task.{Task, Fit}
use Rattle.rounds.specs.Rounds.{Body, State}
use Rattle.rounds.specs.Rounds.{taking}
use Rattle.rounds.specs.Enough.{Known}
use Rattle.rounds.proofs.Rounded.{enough}
use Rattle.rounds.specs.Totals.{Plain, after_totals_lem}

module _ (P : ℕ) (J : Task (Fin P)) (grown : Fin P → State → ℕ × ℕ) (plain : Plain grown) (ps : List (Fin P)) {Msg In : Type 0}
    (pack : Fin P → Fin P → ℕ → Body → Msg) (reads : Fin P → In → ℕ → ℕ) (input : Fin P → In) where
  abbrev F : Finite (Fin P)
  F = parts P

  abbrev after_totals : Fin P → State
  after_totals = Rattle.rounds.specs.Totals.after_totals P J grown plain ps pack reads input

  -- what one part writes in the round
  module _ (p : Fin P) where
    -- flags and counts are those of the rounds before_totals
    pub enough_last : (fit : Fit J) (ms : ℕ → ℕ) → ((q : Fin P) (c : ℕ) → J.owner c ≡ q → reads q (input q) c ≡ ms c)
        → Known F J ms (suc J.top) p (after_totals p)
    unfolding taking
    enough_last fit ms given =
        let k = enough F J grown ps pack reads fit ms input given p in
        subst (Known F J ms (suc J.top) p) (sym (after_totals_lem P J grown plain ps pack reads input p)) (record { given = k.given; red = k.red; hit = k.hit; own = k.own })
