-- The round of totals: after it each part knows how many cells there will be, cut at 4,097, and their top level.
--   Plain grown, before_totals, after_totals    the own totals do not depend on totals; the states at the beginning of the round and after it
-- Laws: sized_last (a part enters the round with its own totals), totals_known (after the round it has those of all parts), enough_last
-- (proofs/Totals).
use Rattle.std.specs.Prelude.{◌≡◌}
use Rattle.std.proofs.Common.{sym, ◌∙◌}
use Rattle.std.proofs.Math.Path.{ap, subst, fun_ext}
use mathlib.Core.List.{List, [], ◌∷◌}
use Prim.Native.Nat.{ℕ, suc, ◌+◌, ◌≤◌, max, Fin}
use native.Mathlib.Omega.{arith}
use Rattle.exchange.specs.Finite.{Finite, parts, sum_over, sum_change}
use Rattle.exchange.specs.Lockstep.{lock}
use Rattle.rounds.specs.Task.{Task}
use Rattle.rounds.specs.Rounds.{Body, total, end, Phase, counts, totals, State, masters_in, top_in, capped, largest, masters_told}
use Rattle.rounds.specs.Rounds.{top_told, red_down, sum_told, counting, sized, says, writing, taking}
use Rattle.rounds.specs.Among.{sum_cut, largest_more, is_self, is_not}
use Rattle.rounds.specs.Rounded.{protocol, phase_counts, phase_totals}

-- grown tells the own totals from flags, counts and marks alone
abbrev pub Plain : {Part : Type 0} → (Part → State → ℕ × ℕ) → Type 0
Plain {Part} grown = (p : Part) (s : State) (g : ℕ × ℕ) → grown p (sized g s) ≡ grown p s

module _ (P : ℕ) (J : Task (Fin P)) (grown : Fin P → State → ℕ × ℕ) (plain : Plain grown) (ps : List (Fin P)) {Msg In : Type 0}
    (pack : Fin P → Fin P → ℕ → Body → Msg) (reads : Fin P → In → ℕ → ℕ) (input : Fin P → In) where
  abbrev F : Finite (Fin P)
  F = parts P

  -- at the beginning of the round, and after it
  abbrev pub before_totals : Fin P → State
  before_totals p = lock F (protocol F J grown ps pack reads) input (suc (suc (J.top + J.top))) p

  abbrev pub after_totals : Fin P → State
  after_totals p = lock F (protocol F J grown ps pack reads) input (suc (suc (suc (J.top + J.top)))) p

  pub sized_last : (p : Fin P) → ((before_totals p).total ≡ capped (grown p (before_totals p)).0)
      × ((before_totals p).high ≡ (grown p (before_totals p)).1)
  unfolding lock taking sized
  sized_last p =
      let r = suc (J.top + J.top) in
      let s = lock F (protocol F J grown ps pack reads) input (suc (J.top + J.top)) p in
      let got : Fin P → List Body = λ q. writing F J (counts J.top) q p
      (lock F (protocol F J grown ps pack reads) input (suc (J.top + J.top)) q) in
      let c : State = counting s (red_down F J J.top p s got) (sum_told F s got) in
      let e : before_totals p ≡ sized (grown p c) c =
      ap (λ (f : Phase). taking F J grown f p s
      (λ q. writing F J f q p (lock F (protocol F J grown ps pack reads) input (suc (J.top + J.top)) q)))
      (phase_counts J.top J.top (omega arith)) in
      let g : grown p (before_totals p) ≡ grown p c = ap (grown p) e ∙ plain p c (grown p c) in (
        ap (λ (t : State). t.total) e ∙ ap (λ (n : ℕ × ℕ). capped n.0) (sym g),
        ap (λ (t : State). t.high) e
            ∙ ap (λ (n : ℕ × ℕ). n.1) (sym g),
      )

  -- what one part writes in the round
  module _ (p : Fin P) where
    abbrev tells_total : Fin P → List Body
    tells_total q = writing F J totals q p (before_totals q)

    own_silent : tells_total p ≡ []
    unfolding writing
    own_silent = rw (is_self F p, writing)

    other_tells : (q : Fin P) → (q ≡ p → ⊥) → tells_total q ≡ total (before_totals q).total (before_totals q).high ∷ end ∷ []
    unfolding writing says
    other_tells q n = rw (is_not F q p n, writing)

    masters_other : (q : Fin P) → (q ≡ p → ⊥) → sum_over masters_in (tells_total q) ≡ (before_totals q).total
    unfolding sum_over masters_in
    masters_other q n = ap (sum_over masters_in) (other_tells q n) ∙ omega arith

    masters_own : sum_over masters_in (tells_total p) ≡ 0
    unfolding sum_over
    masters_own = ap (sum_over masters_in) own_silent

    top_other : (q : Fin P) → (q ≡ p → ⊥) → largest top_in (tells_total q) ≡ (before_totals q).high
    unfolding largest top_in
    top_other q n = ap (largest top_in) (other_tells q n) ∙ omega arith

    top_own : largest top_in (tells_total p) ≡ 0
    unfolding largest
    top_own = ap (largest top_in) own_silent

    masters_all : (before_totals p).total + masters_told F tells_total ≡ sum_over (λ q. (before_totals q).total) F.list
    unfolding masters_told
    masters_all =
        omega (
          arith,
          masters_own,
          sum_change P (λ q. sum_over masters_in (tells_total q)) (λ q. (before_totals q).total) p
              (λ q n. masters_other q n),
        )

    tops_all : max (before_totals p).high (top_told F tells_total) ≡ largest (λ q. (before_totals q).high) F.list
    unfolding top_told
    tops_all =
        omega (
          arith,
          largest_more (λ q. largest top_in (tells_total q)) (λ q. (before_totals q).high) p (before_totals p).high low most
              (omega arith)
              F.list (F.all p),
        )
      where
        low : (q : Fin P) → largest top_in (tells_total q) ≤ (before_totals q).high
        low q = elim (F.same? q p) [
          | yes e ↦ subst (λ r. largest top_in (tells_total r) ≤ (before_totals r).high) (sym e) (omega (arith, top_own))
          | no n ↦ omega (arith, top_other q n)
        ]

        most : (q : Fin P) → (before_totals q).high ≤ max (largest top_in (tells_total q)) (before_totals p).high
        most q = elim (F.same? q p) [
          | yes e ↦ subst (λ r. (before_totals r).high ≤ max (largest top_in (tells_total r)) (before_totals p).high) (sym e) (omega arith)
          | no n ↦ omega (arith, top_other q n)
        ]

    pub after_totals_lem : after_totals p ≡ taking F J grown totals p (before_totals p) tells_total
    unfolding lock
    after_totals_lem = ap (λ (f : Phase). taking F J grown f p (before_totals p) (λ q. writing F J f q p (before_totals q)))
        (phase_totals J.top)

    -- THE TOTALS of all parts
    pub totals_known : ((after_totals p).total ≡ capped (sum_over (λ q. (grown q (before_totals q)).0) F.list))
        × ((after_totals p).high ≡ largest (λ q. (grown q (before_totals q)).1) F.list)
    unfolding taking
    totals_known = (
      ap (λ (t : State). t.total) after_totals_lem ∙ ap capped (masters_all ∙ sum_agree (λ q. (sized_last q).0) F.list)
          ∙ sum_cut (λ q. (grown q (before_totals q)).0) F.list,
      ap (λ (t : State). t.high) after_totals_lem ∙ tops_all ∙ largest_agree (λ q. (sized_last q).1) F.list,
    )
      where
        sum_agree : {f g : Fin P → ℕ} → ((q : Fin P) → f q ≡ g q) → (l : List (Fin P)) → sum_over f l ≡ sum_over g l
        sum_agree {f} {g} h l = ap (λ (k : Fin P → ℕ). sum_over k l) (fun_ext h)

        largest_agree : {f g : Fin P → ℕ} → ((q : Fin P) → f q ≡ g q) → (l : List (Fin P)) → largest f l ≡ largest g l
        largest_agree {f} {g} h l = ap (λ (k : Fin P → ℕ). largest k l) (fun_ext h)
