-- Every place that a lawful exchange leads to has room in a store.
--   Limits P J      what holds of the task: cells, slots and levels are within the limits, slots of a level stand once
-- Law: fitting (the theorem).
use Rattle.std.specs.Prelude.{◌≡◌, ◌&&◌, List, [], ◌∷◌, T, length, take}
use Rattle.std.proofs.Math.Path.{refl}
use Rattle.std.proofs.Common.{sym, ◌∙◌, ap, subst, le_trans}
use Rattle.std.proofs.Math.Bool.{true, false}
use Prim.Native.Nat.{ℕ, zero, suc, ◌+◌, ◌-◌, ◌*◌, ◌≤◌, ◌<◌, Fin}
use native.Mathlib.Omega.{arith}
use Rattle.std.proofs.Math.Decide.{dec_lt}
use Rattle.base.specs.Bools.{and_right, not_both, or_first}
use Rattle.base.specs.Limits.{most_cells, most_slots, too_many, most_levels}
use Rattle.exchange.specs.Finite.{Finite, parts}
use Rattle.exchange.specs.Protocol.{Protocol}
use Rattle.exchange.specs.Lockstep.{lock, mail, mail_count, local}
use Rattle.exchange.specs.Theorem.{Can}
use Rattle.base.specs.Member.{Member, any_member}
use Rattle.rounds.specs.Task.{Task, Fit, has}
use Rattle.rounds.specs.Rounds.{Body, mark, count, total, end, Phase, marks, counts, totals, over, phase, State, is_part, mine, holdsb, told}
use Rattle.rounds.specs.Rounds.{tells, worth, added}
use Rattle.rounds.specs.Among.{is_same}
use Rattle.rounds.specs.Enough.{has_slot_lem}
use Rattle.rounds.specs.Rounded.{protocol, phase_marks, phase_counts, phase_over, silent}
use Rattle.rounds.specs.Upward.{ups}
use Rattle.rounds.specs.Totals.{sized_last}
use Rattle.rounds.specs.Bound.{sum_to, SmallTask, pair_few, pair_most_lem}
use Rattle.rounds.specs.Said.{Said, taken, taken_last, untold, uncounted, counts_tell, totals_tell, over_tell, marks_count, totals_count}
use Rattle.rounds.specs.Said.{over_count}
use Rattle.rounds.specs.Turns.{Turn, in_marks, in_counts, in_totals, in_over, turn_of, marks_totals, counts_totals, over_totals}
use Rattle.rounds.specs.Sums.{cells_down, SlotsOnce}
use Rattle.rounds.proofs.Sums.{own_few, own_sum, sum_few}
use Rattle.standing.specs.Busy.{pack, CanTake}
use Rattle.merging.specs.Totals.{grown_of, grown_plain}
use Rattle.entering.specs.Fits.{Fitted, of_marksb, of_countsb}
use Rattle.outcome.specs.High.{Levelled, masters_high}

pub record Limits (P : ℕ) (J : Task (Fin P)) : Type 0 where
  pub cells : (k c : ℕ) → Member c (J.cells k) → c < most_cells
  pub slots : (k s : ℕ) → k ≤ J.top → Member s (J.slots k) → s < most_slots
  pub slots_once : SlotsOnce J
  pub no_cells : (k c : ℕ) → Member c (J.cells k) → k ≤ J.top
  pub paths : (k c : ℕ) → Member c (J.cells k) → length (J.path c) ≡ suc k

take-few : {A : Type 0} (n : ℕ) (l : List A) → length (take n l) ≤ length l
take-few zero l = omega arith
take-few (suc n) [] = omega arith
take-few (suc n) (x ∷ l) = omega (arith, take-few n l)

-- one level of all
sum_at : (f : ℕ → ℕ) (n i : ℕ) → i < n → f i ≤ sum_to f n
unfolding sum_to
sum_at f zero i h = absurd (omega arith)
sum_at f (suc n) i h =
    elim (dec_lt i n) [
      | yes l ↦ omega (arith, sum_at f n i l)
      | no l ↦ let e : i ≡ n = omega arith in omega (arith, ap f e)
    ]

module _ (P : ℕ) (J : Task (Fin P)) (fit : Fit J) (lim : Limits P J) (m : ℕ) (small : SmallTask (parts P) J m) (m_few : m ≤ most_cells)
    {In : Type 0} (reads : Fin P → In → ℕ → ℕ) (input : Fin P → In) where
  abbrev F : Finite (Fin P)
  F = parts P

  abbrev Q : Protocol (Fin P) In Body (List ℕ) State
  Q = protocol (parts P) J (grown_of (parts P) J) (ups P) (pack P J) reads

  abbrev at : ℕ → Fin P → State
  at r p = lock F Q input r p

  levelled : Levelled J
  levelled = record { levels = small.levels; no_cells = lim.no_cells; paths = lim.paths }

  -- counters of messages
  module _ (q p : Fin P) where
    abbrev many : ℕ → ℕ
    many r = mail_count F Q input r q p

    many_on : (r : ℕ) → many (suc r) ≡ many r + length (mail F Q input r q p)
    unfolding mail_count
    many_on r = refl

    many_rise : (r d : ℕ) → many r ≤ many (d + r)
    many_rise r zero = let z : 0 + r ≡ r = omega arith in rw z (omega arith)
    many_rise r (suc d) = let z : suc d + r ≡ suc (d + r) = omega arith in rw z (omega (arith, many_on (d + r), many_rise r d))

    many_last : many Q.rounds ≤ 7 * m + 24
    many_last = le_trans (pair_few F J (grown_of F J) (ups P) (pack P J) reads input q p) (pair_most_lem F J m small)

    many_few : (r : ℕ) → r ≤ Q.rounds → many (suc r) < 65536
    many_few r h =
        elim (dec_lt r Q.rounds) [
          | yes l ↦
              let z : (Q.rounds - suc r) + suc r ≡ Q.rounds = omega arith in
              let a : many (suc r) ≤ many Q.rounds =
              subst (λ (n : ℕ). many (suc r) ≤ many n) z (many_rise (suc r) (Q.rounds - suc r)) in
              omega (arith, a, many_last, m_few)
          | no l ↦
              let z : r ≡ Q.rounds = omega arith in
              rw z (omega (arith, many_on Q.rounds, ap length (silent F J q p (at Q.rounds q)), many_last, m_few))
        ]

  -- counts, totals and the highest level
  cells_few : (k : ℕ) → k ≤ J.top → length (J.cells k) ≤ most_cells
  cells_few k h =
      let z : J.top - (J.top - k) ≡ k = omega arith in
      omega (
        arith,
        sum_at (cells_down J) (suc J.top) (J.top - k) (omega arith),
        ap (λ (k : ℕ). length (J.cells k)) z,
        small.cells,
        m_few,
      )

  count_few : (r : ℕ) → r ≤ Q.rounds → (q : Fin P) (s : ℕ) → (at r q).own s ≤ most_cells
  count_few r h q s = omega (
    arith,
    own_few P J fit lim.slots_once (grown_of F J) (ups P) (pack P J) reads input q s r h,
    small.cells,
    m_few,
  )

  last_total : (q : Fin P) → (at (suc (suc (J.top + J.top))) q).total ≤ too_many
  last_total q = omega (arith, (sized_last P J (grown_of F J) (grown_plain F J) (ups P) (pack P J) reads input q).0)

  last_high : (q : Fin P) → (at (suc (suc (J.top + J.top))) q).high ≤ most_levels
  unfolding grown_of
  last_high q =
      omega (
        arith,
        (sized_last P J (grown_of F J) (grown_plain F J) (ups P) (pack P J) reads input q).1,
        masters_high F J fit levelled q (at (suc (suc (J.top + J.top))) q),
      )

  in_last : (C : ℕ → Type 0) → C (suc (suc (J.top + J.top))) → (r : ℕ) → r ≤ Q.rounds → phase J.top r ≡ totals → C r
  in_last C c r h f = go (turn_of J.top r h)
    where
      go : Turn J.top r → C r
      go (in_marks i l e) = marks_totals i (sym (phase_marks J.top i l) ∙ ap (phase J.top) (sym e) ∙ f)
      go (in_counts i l e) = counts_totals i (sym (phase_counts J.top i l) ∙ ap (phase J.top) (sym e) ∙ f)
      go (in_totals e) = subst C (sym e) c
      go (in_over e) = over_totals (sym (phase_over J.top) ∙ ap (phase J.top) (sym e) ∙ f)

  total_few : (r : ℕ) → r ≤ Q.rounds → phase J.top r ≡ totals → (q : Fin P) → (at r q).total ≤ too_many
  total_few r h f q = in_last (λ (r : ℕ). (at r q).total ≤ too_many) (last_total q) r h f

  high_few : (r : ℕ) → r ≤ Q.rounds → phase J.top r ≡ totals → (q : Fin P) → (at r q).high ≤ most_levels
  high_few r h f q = in_last (λ (r : ℕ). (at r q).high ≤ most_levels) (last_high q) r h f

  -- what is written for a part it can take
  can-take : (r : ℕ) → r ≤ Q.rounds → (f : Phase) → phase J.top r ≡ f → (q p : Fin P) (b : Body) → Said F J f q p (at r q) b
      → CanTake P J p b
  unfolding Said CanTake
  can-take r h (marks i) f q p (mark c v) t = (
    lim.cells (J.top - i) c t.0,
    (J.top - i, t.0, or_first (is_part F (J.owner c) p) (is_part F (J.family c) p) (rw (is_same F (J.owner c) p t.2) tt)),
  )
  can-take r h (marks i) f q p (count s n) t = absurd t
  can-take r h (marks i) f q p (total n k) t = absurd t
  can-take r h (marks i) f q p end t = tt
  can-take r h (counts i) f q p (mark c v) t = absurd t
  can-take r h (counts i) f q p (count s n) t = (
    lim.slots (J.top - i) s (omega arith) t.0,
    (J.top - i, t.1),
    omega (arith, t.3),
    omega (arith, t.2, count_few r h q s),
  )
  can-take r h (counts i) f q p (total n k) t = absurd t
  can-take r h (counts i) f q p end t = tt
  can-take r h totals f q p (mark c v) t = absurd t
  can-take r h totals f q p (count s n) t = absurd t
  can-take r h totals f q p (total n k) t = (omega (arith, t.0, total_few r h f q), omega (arith, t.1, high_few r h f q))
  can-take r h totals f q p end t = tt
  can-take r h over f q p b t = absurd t

  -- a slot that a part holds is one of a level
  slot_there : (p : Fin P) (s k : ℕ) → T (holdsb F J p k s) → (k ≤ J.top) × Member s (J.slots k)
  unfolding holdsb
  slot_there p s k t =
      let (c, a, b) = any_member (λ c. mine F J p c && has J c s) (J.cells k) t in
      (lim.no_cells k c a, has_slot_lem F J fit k c s a (and_right (mine F J p c) (has J c s) b))

  module _ (r : ℕ) (h : r ≤ Q.rounds) (p : Fin P) (n : Fin P → ℕ) where
    abbrev got : Fin P → List Body
    got = taken F J (phase J.top r) (at r) p n

    -- kinds of messages by kind of round
    quiet_marks : of_marksb (phase J.top r) ≡ false → (c : ℕ) → told F got c ≡ false
    unfolding of_marksb
    quiet_marks o c = untold F J (phase J.top r) (at r) p n c (λ q b t. go (phase J.top r) o q b t)
      where
        go : (f : Phase) → of_marksb f ≡ false → (q : Fin P) (b : Body) → Said F J f q p (at r q) b → tells c b ≡ false
        go (marks i) o q b t = not_both true refl o
        go (counts i) o q b t = counts_tell F J i q p (at r q) c b t
        go totals o q b t = totals_tell F J q p (at r q) c b t
        go over o q b t = over_tell F J q p (at r q) c b t

    quiet_counts : of_countsb (phase J.top r) ≡ false → (s : ℕ) → added F got s ≡ 0
    unfolding of_countsb
    quiet_counts o s = uncounted F J (phase J.top r) (at r) p n s (λ q b t. go (phase J.top r) o q b t)
      where
        go : (f : Phase) → of_countsb f ≡ false → (q : Fin P) (b : Body) → Said F J f q p (at r q) b → worth s b ≡ 0
        go (marks i) o q b t = marks_count F J i q p (at r q) s b t
        go (counts i) o q b t = not_both true refl o
        go totals o q b t = totals_count F J q p (at r q) s b t
        go over o q b t = over_count F J q p (at r q) s b t

  -- THE THEOREM
  pub fitting : (p : Fin P) (r : ℕ) (n : Fin P → ℕ) (f : ℕ) → Can F Q input p r n f → Fitted P J p (local F Q input p r n f)
  fitting p r n f can =
      let h = can.in_rounds in
      record {
        good = record {
          few = λ q.
              omega (arith, many_few q p r h, many_on q p r, take-few (n q - many q p r) (mail F Q input r q p));
          fits = λ q b w e.
              can-take r h (phase J.top r) refl q p b
              (taken_last F J (phase J.top r) (at r) p (λ q. n q - many q p r) q b w e);
          sums = λ s t.
              let (k, u) = t in
              let (a, b) = slot_there p s k u in
              omega (
                arith,
                sum_few P J fit lim.slots_once (grown_of F J) (ups P) (pack P J) reads input p s (λ q. n q - many q p r) k a b r h,
                cells_few k a,
              );
          rounds = omega (arith, h, small.levels);
        };
        sent = λ q. many_few p q r h;
        own = λ i s e a b. own_sum P J fit lim.slots_once (grown_of F J) (ups P) (pack P J) reads input p s r h i e a;
        count = count_few r h p;
        total = λ e. total_few r h e p;
        high = λ e. high_few r h e p;
        no_marks = quiet_marks r h p (λ q. n q - many q p r);
        no_counts = quiet_counts r h p (λ q. n q - many q p r);
      }
