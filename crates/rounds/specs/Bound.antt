-- How many messages the parts write, and how many calls can move an exchange on (rule 15.19).
--   sum_to f n        f 0 + .. + f (n - 1)
--   room f           the most messages of one part for another in a round; pair_most J in all rounds: one for each cell and each slot, an
--                    end for each round, and a total
--   calls_most P m    24 P + 2 P (P - 1) (7 m + 24): a start and at most 23 steps for each part; each message of a pair fetched and taken
-- Laws: writing_few (one round), pair_few (all rounds), pair_most_lem (m cells), own_none (a part writes nothing for itself), calls_few.
use Rattle.std.specs.Prelude.{◌≡◌, ◌&&◌, eqb}
use Rattle.std.proofs.Math.Path.{refl, ap, subst}
use Rattle.std.proofs.Common.{sym, le_refl}
use Rattle.std.proofs.Math.Bool.{Bool, true, false, not}
use mathlib.Core.List.{List, [], ◌∷◌, map}
use Prim.Native.Nat.{ℕ, zero, suc, ◌+◌, ◌-◌, ◌*◌, ◌≤◌, ◌<◌, Fin}
use Rattle.std.proofs.Math.Nat.{le_trans}
use native.Mathlib.Omega.{arith}
use Rattle.std.proofs.Math.ListN.{length, length-append, length-map}
use Rattle.base.specs.Each.{filter_few}
use Rattle.base.specs.Lists.{filterb}
use Rattle.exchange.specs.Finite.{Finite, parts, fins, step_down, sum_over, sum_le, sum_change, upd, upd_all, upd_same, upd_other}
use Rattle.exchange.specs.Protocol.{Protocol}
use Rattle.exchange.specs.Lockstep.{lock, mail_count}
use Rattle.rounds.specs.Task.{Task}
use Rattle.rounds.specs.Rounds.{Body, mark, count, end, Phase, marks, counts, totals, over, phase, State, is_part, holdsb, ghost_marks}
use Rattle.rounds.specs.Rounds.{edge_counts, says, writing}
use Rattle.rounds.specs.Among.{is_self}
use Rattle.rounds.specs.Rounded.{protocol, phase_marks, phase_counts, phase_totals}

unfoldable pub sum_to : (ℕ → ℕ) → ℕ → ℕ
sum_to f zero = 0
sum_to f (suc n) = sum_to f n + f n

module _ {Part : Type 0} (F : Finite Part) (J : Task Part) where
  unfoldable room : Phase → ℕ
  room (marks i) = suc (length (J.cells (J.top - i)))
  room (counts i) = suc (length (J.slots (J.top - i)))
  room totals = 2
  room over = 0

  says_few : (f : Phase) (p q : Part) (s : State) → length (says F J f p q s) ≤ room f
  unfolding says ghost_marks edge_counts room
  says_few (marks i) p q s =
      let g : ℕ → Bool = λ c. is_part F (J.family c) p && is_part F (J.owner c) q in
      omega (
        arith,
        length-append (map (λ c. mark c (s.red c)) (filterb g (J.cells (J.top - i)))) (end ∷ []),
        length-map (filterb g (J.cells (J.top - i))) (λ c. mark c (s.red c)),
        filter_few g (J.cells (J.top - i)),
      )
  says_few (counts i) p q s =
      let g : ℕ → Bool = λ x. holdsb F J p (J.top - i) x && (holdsb F J q (J.top - i) x && not (eqb (s.own x) 0)) in
      omega (
        arith,
        length-append (map (λ x. count x (s.own x)) (filterb g (J.slots (J.top - i)))) (end ∷ []),
        length-map (filterb g (J.slots (J.top - i))) (λ x. count x (s.own x)),
        filter_few g (J.slots (J.top - i)),
      )
  says_few totals p q s = omega arith
  says_few over p q s = omega arith

  writing_few : (f : Phase) (p q : Part) (s : State) → length (writing F J f p q s) ≤ room f
  unfolding writing
  writing_few f p q s = go (is_part F p q) refl
    where
      go : (b : Bool) → is_part F p q ≡ b → length (writing F J f p q s) ≤ room f
      go true e = rw (e, writing) (omega arith)
      go false e = rw (e, writing) (says_few f p q s)

  -- one for each cell and slot of the levels so far, and two ends a level
  unfoldable pub level_most : ℕ → ℕ
  level_most i = suc (length (J.cells (J.top - i))) + suc (length (J.slots (J.top - i)))

  unfoldable pub pair_most : ℕ
  unfolding sum_to level_most
  pair_most = sum_to level_most (suc J.top) + 2

  module _ (grown : Part → State → ℕ × ℕ) (ps : List Part) {Msg In : Type 0} (pack : Part → Part → ℕ → Body → Msg)
      (reads : Part → In → ℕ → ℕ) (input : Part → In) (q p : Part) where
    abbrev many : ℕ → ℕ
    many r = mail_count F (protocol F J grown ps pack reads) input r q p

    many_on : (r : ℕ) (f : Phase) → phase J.top r ≡ f → many (suc r) ≤ many r + room f
    unfolding mail_count
    many_on r f e =
        let w = writing_few (phase J.top r) q p (lock F (protocol F J grown ps pack reads) input r q) in
        let z : room (phase J.top r) ≡ room f = ap room e in omega arith

    room_level : (i : ℕ) → room (marks i) + room (counts i) ≡ level_most i
    unfolding room level_most
    room_level i = refl

    sum_on : (i : ℕ) → sum_to level_most (suc i) ≡ sum_to level_most i + level_most i
    unfolding sum_to
    sum_on i = refl

    levels_few : (i : ℕ) → i ≤ suc J.top → many (i + i) ≤ sum_to level_most i
    unfolding mail_count sum_to
    levels_few zero h = omega arith
    levels_few (suc i) h =
        let z : suc i + suc i ≡ suc (suc (i + i)) = omega arith in
        let a = many_on (i + i) (marks i) (phase_marks J.top i (omega arith)) in
        let b = many_on (suc (i + i)) (counts i) (phase_counts J.top i (omega arith)) in
        let c = levels_few i (omega arith) in
        let d = room_level i in
        let e = sum_on i in
        subst (λ (r : ℕ). many r ≤ sum_to level_most (suc i)) (sym z) (omega arith)

    pub pair_few : many (suc (suc (suc (J.top + J.top)))) ≤ pair_most
    unfolding pair_most room
    pair_few =
        let t = J.top in
        let z : suc t + suc t ≡ suc (suc (t + t)) = omega arith in
        let a : many (suc (suc (J.top + J.top))) ≤ sum_to level_most (suc J.top) =
        subst (λ (r : ℕ). many r ≤ sum_to level_most (suc J.top)) z (levels_few (suc J.top) (omega arith)) in
        let b = many_on (suc (suc (J.top + J.top))) totals (phase_totals J.top) in
        omega arith

  -- with m cells and at most six slots for each, on at most eleven levels
  pub record SmallTask (m : ℕ) : Type 0 where
    pub levels : J.top ≤ 10
    pub cells : sum_to (λ i. length (J.cells (J.top - i))) (suc J.top) ≤ m
    pub slots : sum_to (λ i. length (J.slots (J.top - i))) (suc J.top) ≤ 6 * m

  levels_sum : (n : ℕ) → sum_to level_most n ≡ n + n + sum_to (λ i. length (J.cells (J.top - i))) n
      + sum_to (λ i. length (J.slots (J.top - i))) n
  unfolding sum_to level_most
  levels_sum zero = refl
  levels_sum (suc n) = omega (arith, levels_sum n)

  pub pair_most_lem : (m : ℕ) → SmallTask m → pair_most ≤ 7 * m + 24
  unfolding pair_most
  pair_most_lem m h = omega (arith, levels_sum (suc J.top), h.levels, h.cells, h.slots)

  module _ (grown : Part → State → ℕ × ℕ) (ps : List Part) {Msg In : Type 0} (pack : Part → Part → ℕ → Body → Msg)
      (reads : Part → In → ℕ → ℕ) (input : Part → In) (p : Part) where
    own_none : (r : ℕ) → mail_count F (protocol F J grown ps pack reads) input r p p ≡ 0
    unfolding mail_count writing
    own_none zero = refl
    own_none (suc r) =
        omega (arith, own_none r, ap length (silent_own (phase J.top r) (lock F (protocol F J grown ps pack reads) input r p)))
      where
        silent_own : (f : Phase) (s : State) → writing F J f p p s ≡ []
        silent_own f s = rw (is_self F p, writing)

-- Rule 15.19.
unfoldable pub calls_most : ℕ → ℕ → ℕ
calls_most P m = 24 * P + 2 * P * (P - 1) * (7 * m + 24)

-- sums over all parts
module _ (P c : ℕ) where
  sum_same : (k : ℕ) (h : k ≤ P) → sum_over (λ (q : Fin P). c) (fins P k h) ≡ k * c
  unfolding sum_over fins
  sum_same zero h = omega arith
  sum_same (suc k) h = omega (arith, sum_same k (step_down h))

  sum_most : (f : Fin P → ℕ) → ((q : Fin P) → f q ≤ c) → sum_over f (parts P).list ≤ P * c
  sum_most f h = omega (arith, sum_le f (λ q. c) h (parts P).list, sum_same P (le_refl P))

  -- where one of the numbers is 0
  sum_but : (f : Fin P → ℕ) (p : Fin P) → f p ≡ 0 → ((q : Fin P) → f q ≤ c) → sum_over f (parts P).list + c ≤ P * c
  sum_but f p z h =
      omega (
        arith,
        z,
        sum_change P f (upd (parts P) f p c) p (λ q n. sym (upd_other (parts P) f p c q n)),
        upd_same (parts P) f p c,
        sum_most (upd (parts P) f p c) (upd_all (parts P) {C = ℕ} (λ q n _. n ≤ c) f f p c 0 (le_refl c) h),
      )

module _ (P : ℕ) (J : Task (Fin P)) (grown : Fin P → State → ℕ × ℕ) (ps : List (Fin P)) {Msg In : Type 0}
    (pack : Fin P → Fin P → ℕ → Body → Msg) (reads : Fin P → In → ℕ → ℕ) (input : Fin P → In) (m : ℕ)
    (small : SmallTask (parts P) J m) where
  abbrev Q : Protocol (Fin P) In Body Msg State
  Q = protocol (parts P) J grown ps pack reads

  abbrev pub mailed : Fin P → Fin P → ℕ
  mailed q p = mail_count (parts P) Q input Q.rounds q p

  one_few : (q p : Fin P) → mailed q p ≤ 7 * m + 24
  one_few q p = le_trans (pair_few (parts P) J grown ps pack reads input q p) (pair_most_lem (parts P) J m small)

  each_few : (p : Fin P) → suc Q.rounds + sum_over (λ q. mailed q p) (parts P).list + sum_over (λ q. mailed p q) (parts P).list
      ≤ 24 + 2 * ((P - 1) * (7 * m + 24))
  each_few p =
      let c = 7 * m + 24 in
      let own : mailed p p ≡ 0 = own_none (parts P) J grown ps pack reads input p Q.rounds in
      let a = sum_but P (7 * m + 24) (λ q. mailed q p) p own (λ q. one_few q p) in
      let b = sum_but P (7 * m + 24) (λ q. mailed p q) p own (λ q. one_few p q) in
      let z : P * (7 * m + 24) ≡ (P - 1) * (7 * m + 24) + (7 * m + 24) = one_less P (7 * m + 24) p.1 in
      omega (arith, small.levels, a, b, z)
    where
      one_less : (n c : ℕ) {k : ℕ} → k < n → n * c ≡ (n - 1) * c + c
      one_less zero c h = absurd (omega arith)
      one_less (suc n) c h = let y : suc n - 1 ≡ n = omega arith in rw y (omega arith)

  -- THE BOUND of a whole exchange
  pub calls_few : sum_over (λ p. suc Q.rounds + sum_over (λ q. mailed q p) (parts P).list + sum_over (λ q. mailed p q) (parts P).list)
      (parts P).list
      ≤ calls_most P m
  unfolding calls_most
  calls_few = le_trans (sum_most P (24 + 2 * ((P - 1) * (7 * m + 24)))
      (λ p. suc Q.rounds + sum_over (λ q. mailed q p) (parts P).list + sum_over (λ q. mailed p q) (parts P).list) each_few)
      (shape (P - 1))
    where
      shape : (k : ℕ) → P * (24 + 2 * (k * (7 * m + 24))) ≤ 24 * P + 2 * P * k * (7 * m + 24)
      shape k = omega arith
