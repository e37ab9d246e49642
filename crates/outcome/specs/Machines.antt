-- The laws of one part alone, of the calls on stores.
--   machine         the calls, and which stores stand for what
-- Law: alone.
use Rattle.std.specs.Prelude.{◌≡◌, ◌≢◌, Bool, ◌&&◌, ◌||◌, eqb, ltb, get_or, take, drop}
use Rattle.std.proofs.Math.Path.{refl, sym, ap, subst}
use Rattle.std.proofs.Common.{◌∙◌, length-append}
use Rattle.std.proofs.Math.Bool.{true, false, not}
use Rattle.std.proofs.Math.Option.{Option, none, some}
use mathlib.Core.List.{List, [], ◌∷◌, ◌++◌}
use Prim.Native.Nat.{ℕ, zero, suc, ◌+◌, ◌-◌, ◌*◌, ◌%◌, ◌≤◌, ◌<◌, Fin}
use Rattle.std.proofs.Math.Decide.{ℕ_discrete, dec_lt}
use native.Mathlib.Omega.{arith}
use Rattle.std.proofs.Math.Dec.{T, leb, leb→le}
use Rattle.std.proofs.Math.ListN.{length}
use Rattle.std.proofs.lemmas.List.Edits.{sets, sets-eq}
use Rattle.std.proofs.Math.Seq.{take-append_seam}
use borrow.Author.Tests.{eq-eqb, ne_eqb, le-leb, eqb-true}
use Rattle.base.specs.Bools.{one_if, and_left, and_right, not_both, is_true}
use Rattle.base.specs.Limits.{most_cells}
use Rattle.base.specs.Refuse.{refuse}
use Rattle.base.specs.Answer.{Answer}
use Rattle.base.specs.Answer.{Accepted, Refused}
use Rattle.exchange.specs.Calls.{Start, Step, Fetch, Hand}
use Rattle.exchange.specs.Finite.{parts}
use Rattle.exchange.specs.Protocol.{Protocol, Machine, Alone, Gives, following, at_start, with_queue, with_body}
use Rattle.rounds.specs.Task.{Task, Fit}
use Rattle.rounds.specs.Rounds.{Body, State, phase, is_part}
use Rattle.rounds.specs.Rounded.{protocol, overb, endedb, wholeb, silent, whole_is, whole_all, phase_marks, phase_counts, phase_totals}
use Rattle.rounds.specs.Among.{is_self, is_eq}
use Rattle.rounds.specs.Order.{ordered}
use Rattle.rounds.specs.Upward.{ups, once}
use Rattle.rounds.specs.Turns.{Turn, in_marks, in_counts, in_totals, in_over, turn_of}
use Rattle.store.specs.Fields.{field, full, STAGE, PART, PARTS, LEVELS, ROUND, ENDED, GIVEN, FIRST_ENDED, end_code, totals_code}
use Rattle.store.specs.Header.{headerb, stageb}
use Rattle.store.specs.Headed.{header_is, header_yes, running_no}
use Rattle.store.specs.Message.{two, message_of, head_of, body_of}
use Rattle.store.specs.Fetch.{code_at, value_at, fetch_bytes, fetch_after, next_to_give, given}
use Rattle.store.proofs.Fetching.{before_start}
use Rattle.store.specs.Hand.{hand_answer, hand_after}
use Rattle.store.specs.Handing.{refuse_on}
use Rattle.store.specs.Fetched.{Fetched}
use Rattle.standing.specs.Busy.{L, pack, HoldsCell, Busy, hand_is, fetch_nothing}
use Rattle.standing.proofs.Busy.{fetch_some}
use Rattle.merging.specs.Totals.{grown_of}
use Rattle.turns.specs.Loops.{some_from}
use Rattle.turns.specs.Start.{start_answer, start_after}
use Rattle.partstep.specs.Step.{waits_for, readyb, part_answer, part_after, part_stepped, turned_in}
use Rattle.entering.specs.Fits.{Fitted}
use Rattle.entering.specs.Standing.{Standing, Idle}
use Rattle.entering.specs.Turn.{Q}
use Rattle.entering.specs.Entered.{Stay, stay_on}
use Rattle.entering.specs.Steps.{Wholes}
use Rattle.entering.proofs.Begins.{start_fine, begins, begins_stay}
use Rattle.entering.specs.ToCounts.{into_counts, counts_stay}
use Rattle.entering.specs.ToMarks.{into_marks, marks_stay}
use Rattle.entering.specs.ToTotals.{into_totals, totals_stay}
use Rattle.entering.proofs.ToEnd.{into_end, end_stay}
use Rattle.entering.specs.Passing.{fetched, fetch_stay, handed, hand_stay}
use Rattle.outcome.specs.Program.{yields, gives, nine, act, phase_of}

-- an answer that is accepted, and one that is not
refused_none : (a : Answer) (y : List ℕ) → (a ≡ Accepted → ⊥) → yields a y ≡ none
unfolding yields
refused_none Accepted y h = absurd (h refl)
refused_none (Refused k) y h = refl

accepted_some : (a : Answer) (y : List ℕ) → a ≡ Accepted → yields a y ≡ some (y, [])
unfolding yields
accepted_some a y e = ap (λ (b : Answer). yields b y) e

pub some_accepted : (a : Answer) (y : List ℕ) (w : List ℕ × List (List ℕ)) → yields a y ≡ some w → a ≡ Accepted
unfolding yields
some_accepted Accepted y w e = refl
some_accepted (Refused k) y w e = no_some e
  where
    no_some : {A B : Type 0} {v : B} → ◌≡◌ {A = Option B} none (some v) → A
    no_some e = let z : ◌≡◌ {A = ℕ} 0 1 = cc in absurd (omega arith)

-- a message is taken by a part that has started alone
hand_started : (x m : List ℕ) → hand_answer x m ≡ Accepted → field x STAGE ≡ 0 → ⊥
unfolding hand_answer
hand_started x m e z =
    let (a, f) = refuse_on 15 (leb full (length x)) _ e in
    let (b, g) = refuse_on 16 (headerb x && not (eqb (field x STAGE) 0)) _ f in
    let t : T (headerb x && not (eqb (field x STAGE) 0)) = rw b tt in
    let n = and_right (headerb x) (not (eqb (field x STAGE) 0)) t in
    not_yet (eqb (field x STAGE) 0) (eq-eqb (field x STAGE) 0 z) n
  where
    not_yet : (b : Bool) → b ≡ true → T (not b) → ⊥
    not_yet true e t = t
    not_yet false e t = not_both false e refl

-- and a part is started that has not
start_stage : (x ms : List ℕ) → start_answer x ms ≡ Accepted → field x STAGE ≡ 0
unfolding start_answer
start_stage x ms e =
    let (a, f) = refuse_on 15 (leb full (length x)) _ e in
    let (b, g) = refuse_on 16 (headerb x && eqb (field x STAGE) 0) _ f in
    let t : T (headerb x && eqb (field x STAGE) 0) = rw b tt in
    eqb-true (field x STAGE) 0 (is_true (eqb (field x STAGE) 0) (and_right (headerb x) (eqb (field x STAGE) 0) t))

-- the step's test
module _ (x : List ℕ) where
  step_accepted : part_answer x ≡ Accepted → (full ≤ length x) × (headerb x ≡ true) × (field x STAGE ≡ 1) × (readyb x ≡ true)
  unfolding part_answer
  step_accepted e =
      let (a, f) = refuse_on 15 (leb full (length x)) _ e in
      let (b, g) = refuse_on 16 (headerb x && (eqb (field x STAGE) 1 && readyb x)) Accepted f in
      let t : T (headerb x && (eqb (field x STAGE) 1 && readyb x)) = rw b tt in
      let c = and_left (headerb x) (eqb (field x STAGE) 1 && readyb x) t in
      let d = and_right (headerb x) (eqb (field x STAGE) 1 && readyb x) t in (
        leb_le a,
        is_true (headerb x) c,
        eqb-true (field x STAGE) 1 (is_true (eqb (field x STAGE) 1) (and_left (eqb (field x STAGE) 1) (readyb x) d)),
        is_true (readyb x) (and_right (eqb (field x STAGE) 1) (readyb x) d),
      )
    where
      leb_le : leb full (length x) ≡ true → full ≤ length x
      leb_le e = leb→le full (length x) (rw e tt)

  step_accepts : full ≤ length x → headerb x ≡ true → field x STAGE ≡ 1 → readyb x ≡ true → part_answer x ≡ Accepted
  unfolding part_answer refuse
  step_accepts l h s r = rw (le-leb full (length x) l, h, eq-eqb (field x STAGE) 1 s, r, part_answer)

-- a test of numbers that follow each other
some_none : (f : ℕ → Bool) (n e : ℕ) → ((i : ℕ) → e ≤ i → i < e + n → f i ≡ false) → some_from f n e ≡ false
unfolding some_from
some_none f zero e h = refl
some_none f (suc n) e h = rw (h e (omega arith) (omega arith), some_from) (some_none f n (suc e) (λ i a b. h i (omega arith) (omega arith)))

none_some : (f : ℕ → Bool) (n e : ℕ) → some_from f n e ≡ false → (i : ℕ) → e ≤ i → i < e + n → f i ≡ false
unfolding some_from
none_some f zero e h i a b = absurd (omega arith)
none_some f (suc n) e h i a b = go (f e) refl (ℕ_discrete i e) (λ g c. none_some f n (suc e) g i c (omega arith))
  where
    go : (c : Bool) → f e ≡ c → Dec (i ≡ e) → (some_from f n (suc e) ≡ false → suc e ≤ i → f i ≡ false) → f i ≡ false
    go true p d r =
        let z : some_from f (suc n) e ≡ true = rw (p, some_from) in
        not_both (some_from f (suc n) e) z h
    go false p (yes d) r = ap f d ∙ p
    go false p (no d) r =
        let z : some_from f (suc n) e ≡ some_from f n (suc e) = rw (p, some_from) in
        r (sym z ∙ h) (omega (arith, d))

module _ (P : ℕ) (J : Task (Fin P)) (p : Fin P) (l : L P J) (x : List ℕ) (st : Standing P J p l x) where
  abbrev u : Busy P J p l x
  u = st.busy

  -- a part waits for those whose round is not whole
  waits_not : (live : overb (phase J.top l.round) ≡ false) (q : Fin P) → wholeb (parts P) J l.round q p (l.got q) ≡ true
      → waits_for x (suc q.0) ≡ false
  unfolding waits_for wholeb one_if
  waits_not live q w = go (is_part (parts P) q p) refl
    where
      go : (b : Bool) → is_part (parts P) q p ≡ b → waits_for x (suc q.0) ≡ false
      go true e =
          let z : q ≡ p = is_eq (parts P) q p (rw e tt) in
          rw (eq-eqb (suc q.0) (field x PART) (ap (λ (r : Fin P). suc r.0) z ∙ sym u.part))
      go false e =
          let f : wholeb (parts P) J l.round q p (l.got q) ≡ endedb (l.got q) = rw (e, live, wholeb) in
          let g : field x (FIRST_ENDED + q.0) ≡ suc l.round =
          u.ends q e live ∙ ap (λ (b : Bool). l.round + one_if b) (sym f ∙ w) ∙ omega arith in
          let i : ENDED + suc q.0 ≡ FIRST_ENDED + q.0 = omega arith in
          let h : field x (ENDED + suc q.0) ≡ field x ROUND + 1 = ap (field x) i ∙ g ∙ omega (arith, u.round) in
          rw (eq-eqb (field x (ENDED + suc q.0)) (field x ROUND + 1) h) (or_not (eqb (suc q.0) (field x PART)))
        where
          or_not : (b : Bool) → not (b || true) ≡ false
          or_not true = refl
          or_not false = refl

  not_waits : (live : overb (phase J.top l.round) ≡ false) (q : Fin P) → waits_for x (suc q.0) ≡ false
      → wholeb (parts P) J l.round q p (l.got q) ≡ true
  unfolding waits_for wholeb one_if
  not_waits live q w = go (is_part (parts P) q p) refl (endedb (l.got q)) refl
    where
      go : (b : Bool) → is_part (parts P) q p ≡ b → (c : Bool) → endedb (l.got q) ≡ c → wholeb (parts P) J l.round q p (l.got q) ≡ true
      go true e c d = rw (e, wholeb)
      go false e true d = rw (e, live, d, wholeb)
      go false e false d =
          let i : ENDED + suc q.0 ≡ FIRST_ENDED + q.0 = omega arith in
          let h : field x (ENDED + suc q.0) ≢ field x ROUND + 1 =
          (λ z. absurd (omega (arith, ap (field x) i, z, u.ends q e live, ap one_if d, u.round))) in
          let o : suc q.0 ≢ field x PART =
          (λ z. not_both (is_part (parts P) q p) (ap (λ (r : Fin P). is_part (parts P) r p) (native.Mathlib.Fin.val_path (omega (arith, z, u.part)))
          ∙ is_self (parts P) p) e) in
          let t : waits_for x (suc q.0) ≡ true =
          rw (ne_eqb (suc q.0) (field x PART) o, ne_eqb (field x (ENDED + suc q.0)) (field x ROUND + 1) h, waits_for) in
          not_both (waits_for x (suc q.0)) t w

  ready_now : (live : overb (phase J.top l.round) ≡ false) → Wholes P J p l x st.busy → readyb x ≡ true
  unfolding readyb
  ready_now live w =
      let e : some_from (waits_for x) (field x PARTS) 1 ≡ false =
      some_none (waits_for x) (field x PARTS) 1 (λ i a b. waits i a (omega (arith, u.many))) in
      ap not e
    where
      waits : (i : ℕ) → 1 ≤ i → i < 1 + P → waits_for x i ≡ false
      waits zero a b = absurd (omega arith)
      waits (suc i) a b = waits_not live (i, omega arith) (w (i, omega arith))

  wholes : (live : overb (phase J.top l.round) ≡ false) → readyb x ≡ true → Wholes P J p l x st.busy
  unfolding readyb
  wholes live r q =
      let h : q.0 < P = q.1 in
      not_waits live q (none_some (waits_for x) (field x PARTS) 1 (not-true (some_from (waits_for x) (field x PARTS) 1) r) (suc q.0)
      (omega arith) (omega (arith, u.many)))
    where
      not-true : (b : Bool) → not b ≡ true → b ≡ false
      not-true true e = sym e
      not-true false e = refl

  -- the rounds
  abbrev last : ℕ
  last = suc (suc (suc (J.top + J.top)))

  running_low : field x STAGE ≡ 1 → l.round < last
  running_low s =
      elim (dec_lt (2 * field x LEVELS) (field x ROUND)) [
        | yes h ↦ not_both (stageb x) (sym (header_yes x (header_is x (rw u.header tt))) ∙ u.header) (sym (running_no x s h))
        | no h ↦ omega (arith, u.round, st.columns.levels)
      ]

  live_below : l.round < last → overb (phase J.top l.round) ≡ false
  unfolding overb
  live_below h = go (turn_of J.top l.round (omega arith))
    where
      go : Turn J.top l.round → overb (phase J.top l.round) ≡ false
      go (in_marks i a e) = ap overb (ap (phase J.top) e ∙ phase_marks J.top i a)
      go (in_counts i a e) = ap overb (ap (phase J.top) e ∙ phase_counts J.top i a)
      go (in_totals e) = ap overb (ap (phase J.top) e ∙ phase_totals J.top)
      go (in_over e) = absurd (omega (arith, e))

  stage_some : field x STAGE ≢ 0
  stage_some z = go (overb (phase J.top l.round)) refl
    where
      go : (b : Bool) → overb (phase J.top l.round) ≡ b → ⊥
      go true e = omega (arith, z, u.done e)
      go false e = omega (arith, z, u.running e)

  module _ (fit : Fit J) {In : Type 0} (reads : Fin P → In → ℕ → ℕ) (low : l.round < last) (w : Wholes P J p l x st.busy)
      (fits : Fitted P J p (following (parts P) (Q P J reads p) p l)) where
    turned_stands : Standing P J p (following (parts P) (Q P J reads p) p l) (part_stepped x)
    turned_stands = go (turn_of J.top l.round (omega arith))
      where
        go : Turn J.top l.round → Standing P J p (following (parts P) (Q P J reads p) p l) (part_stepped x)
        go (in_marks i a e) = into_counts P J reads p l x st i a e w fits
        go (in_counts i a e) = elim (dec_lt i J.top) [
          | yes h ↦ into_marks P J fit reads p l x st i h e w fits
          | no h ↦ into_totals P J fit reads p l x st (omega (arith, e)) w fits
        ]
        go (in_totals e) = into_end P J reads p l x st e w fits
        go (in_over e) = absurd (omega (arith, e))

    turned_stay : Stay x (part_stepped x)
    turned_stay = go (turn_of J.top l.round (omega arith))
      where
        go : Turn J.top l.round → Stay x (part_stepped x)
        go (in_marks i a e) = counts_stay P J reads p l x st i a e w fits
        go (in_counts i a e) = elim (dec_lt i J.top) [
          | yes h ↦ marks_stay P J fit reads p l x st i h e w fits
          | no h ↦ totals_stay P J fit reads p l x st (omega (arith, e)) w fits
        ]
        go (in_totals e) = end_stay P J reads p l x st e w fits
        go (in_over e) = absurd (omega (arith, e))

    steps : (part_answer x ≡ Accepted) × Standing P J p (following (parts P) (Q P J reads p) p l) (part_after x) × Stay x (part_after x)
    unfolding part_after turned_in
    steps =
        let live = live_below low in
        let a = step_accepts x u.long u.header (u.running live) (ready_now live w) in
        let e : part_after x ≡ part_stepped x = ap (λ (b : Answer). turned_in b x) a in
        (a, subst (Standing P J p (following (parts P) (Q P J reads p) p l)) (sym e) turned_stands, subst (Stay x) (sym e) turned_stay)

-- a fetched message has at most nine bytes
body_short : (c v : ℕ) → length (body_of c v) ≤ 4
unfolding body_of
body_short c v = go (ltb c most_cells) (ltb c totals_code) (ltb c end_code)
  where
    go : (a b d : Bool) → length {A = ℕ} (elim a [
      | true ↦ two c ++ (v % 256 ∷ [])
      | false ↦ elim b [
        | true ↦ two (c - most_cells) ++ two v
        | false ↦ elim d [ true ↦ two v ++ ((c - totals_code) ∷ []) | false ↦ [] ]
      ]
    ]) ≤ 4
    go true b d = omega arith
    go false true d = omega arith
    go false false true = omega arith
    go false false false = omega arith

head_five : (p q k c : ℕ) → length (head_of p q k c) ≡ 5
unfolding head_of
head_five p q k c = refl

message_short : (p q k c v : ℕ) → length (message_of p q k c v) ≤ 9
unfolding message_of
message_short p q k c v = omega (arith, length-append (head_of p q k c) (body_of c v), head_five p q k c, body_short c v)

-- what is stored first is read again
pub take_sets : (m out : List ℕ) → length m ≤ length out → take (length m) (sets out 0 m) ≡ m
take_sets m out h =
    ap (take (length m)) (sets-eq m out 0 (omega arith)) ∙ take-append_seam m (drop (0 + length m) out)

pub given_short : (x : List ℕ) → length (given x (next_to_give x)) ≤ 9
unfolding given
given_short x = message_short (field x PART) ((next_to_give x).bit + 1) (field x (GIVEN + (next_to_give x).bit)) (code_at x (next_to_give x).entry)
    (value_at x (next_to_give x).entry)

-- first are the stores of the split
module _ (P : ℕ) (J : Task (Fin P)) (fit : Fit J) (reads : Fin P → List ℕ → ℕ → ℕ) (place : ℕ → ℕ) (takes : Fin P → List ℕ → Bool)
    (first : Fin P → List ℕ)
    (read : (p : Fin P) (ms : List ℕ) (c : ℕ) → HoldsCell P J p c → J.owner c ≡ p → reads p ms c ≡ get_or ms (place c) 0) where
  abbrev pub rounds : Protocol (Fin P) (List ℕ) Body (List ℕ) State
  rounds = protocol (parts P) J (grown_of (parts P) J) (ups P) (pack P J) reads

  abbrev pub machine : Machine (Fin P) (List ℕ) Body (List ℕ) State (List ℕ)
  machine = record {
    act = act;
    Idle = λ p x. Idle P J p place (takes p) x × Stay (first p) x;
    Busy = λ p l x. Standing P J p l x × Stay (first p) x;
    phase_of_lem = λ p x. phase_of x;
  }

  abbrev pub Fine : Fin P → List ℕ → Type 0
  Fine p ms = takes p ms ≡ true

  -- a part that has not started
  module _ (p : Fin P) (x : List ℕ) (is : Idle P J p place (takes p) x × Stay (first p) x) where
    abbrev i : Idle P J p place (takes p) x
    i = is.0

    not_running : field x STAGE ≡ 1 → ⊥
    not_running z = omega (arith, z, i.stage)

    no_step : act Step x ≡ none
    unfolding act
    no_step = refused_none (part_answer x) (part_after x) (λ e. not_running (step_accepted x e).2)

    no_fetch : act Fetch x ≡ none
    unfolding act gives
    no_fetch =
        let f = before_start x nine i.columns.long (omega arith) i.header i.stage in
        ap (λ (r : Fetched). gives r (fetch_bytes x nine) (fetch_after x nine)) (sym f.answer)

    no_hand : (m : List ℕ) → act (Hand m) x ≡ none
    unfolding act
    no_hand m = refused_none (hand_answer x m) (hand_after x m) (λ e. hand_started x m e i.stage)

    idle_starts : (ms : List ℕ) → takes p ms ≡ true → Fitted P J p (at_start (parts P) rounds p ms)
        → Gives (parts P) rounds machine (Start ms) x (λ y. Standing P J p (at_start (parts P) rounds p ms) y × Stay (first p) y) []
    unfolding act
    idle_starts ms e f =
        let (a, b) = begins P J fit reads p place (takes p) x i ms e (read p ms) f in
        record {
          after = start_after x ms;
          does = accepted_some (start_answer x ms) (start_after x ms) a;
          stands = (b, stay_on (first p) x (start_after x ms) is.1 (begins_stay P J fit reads p place (takes p) x i ms e (read p ms) f));
        }

    idle_takes : (ms : List ℕ) (y : List ℕ × List (List ℕ)) → act (Start ms) x ≡ some y → takes p ms ≡ true
    unfolding act
    idle_takes ms y e =
        let a = some_accepted (start_answer x ms) (start_after x ms) y e in
        sym (i.marks ms) ∙ start_fine x ms i.columns.long i.header i.stage a

    idle_phase : phase_of x ≡ 0
    unfolding phase_of
    idle_phase = rw (eq-eqb (field x STAGE) 0 i.stage, phase_of)

  -- a part that has
  module _ (p : Fin P) (l : L P J) (x : List ℕ) (sts : Standing P J p l x × Stay (first p) x) where
    abbrev st : Standing P J p l x
    st = sts.0

    busy_phase : phase_of x ≡ suc l.round
    unfolding phase_of
    busy_phase = rw (ne_eqb (field x STAGE) 0 (stage_some P J p l x st), phase_of) (ap suc st.busy.round)

    no_start : (ms : List ℕ) → act (Start ms) x ≡ none
    unfolding act
    no_start ms = refused_none (start_answer x ms) (start_after x ms) (λ e. stage_some P J p l x st (start_stage x ms e))

    step_was : (y : List ℕ × List (List ℕ)) → act Step x ≡ some y
        → (l.round < rounds.rounds) × ((q : Fin P) → wholeb (parts P) J l.round q p (l.got q) ≡ true)
    unfolding act
    step_was y e =
        let a = step_accepted x (some_accepted (part_answer x) (part_after x) y e) in
        let low = running_low P J p l x st a.2 in
        (low, wholes P J p l x st (live_below P J p l x st low) a.3)

    step_goes : Fitted P J p (following (parts P) rounds p l) → l.round < rounds.rounds
        → ((q : Fin P) → wholeb (parts P) J l.round q p (l.got q) ≡ true)
        → Gives (parts P) rounds machine Step x (λ y. Standing P J p (following (parts P) rounds p l) y × Stay (first p) y) []
    unfolding act
    step_goes f low w =
        let (a, b, c) = steps P J p l x st fit reads low w f in
        record {
          after = part_after x;
          does = accepted_some (part_answer x) (part_after x) a;
          stands = (b, stay_on (first p) x (part_after x) sts.1 c);
        }

    fetch_empty : l.queue ≡ [] → act Fetch x ≡ none
    unfolding act gives
    fetch_empty e =
        let (a, b, c) = fetch_nothing P J p l x st.busy nine (omega arith) e in
        ap (λ (r : Fetched). gives r (fetch_bytes x nine) (fetch_after x nine)) a

    fetch_first : (m : List ℕ) (w : List (List ℕ)) → l.queue ≡ m ∷ w
        → Gives (parts P) rounds machine Fetch x (λ y. Standing P J p (with_queue l w) y × Stay (first p) y) (m ∷ [])
    unfolding act gives
    fetch_first m w e =
        let (a, b, c) = fetched P J p l x st nine (omega arith) m w e in
        let (g, h, o) = fetch_some P J p l x st.busy m w e in
        let short : length m ≤ 9 = subst (λ (v : List ℕ). length v ≤ 9) h (given_short x) in
        record {
          after = fetch_after x nine;
          does = ap (λ (r : Fetched). gives r (fetch_bytes x nine) (fetch_after x nine)) a
              ∙ ap (λ (v : List ℕ). some (fetch_after x nine, v ∷ [])) (ap (take (length m)) b ∙ take_sets m nine short);
          stands = (c, stay_on (first p) x (fetch_after x nine) sts.1 (fetch_stay P J p l x st nine (omega arith) m w e));
        }

    hand_was : (q p' : Fin P) (k : ℕ) (b : Body) (y : List ℕ × List (List ℕ)) → act (Hand (pack P J q p' k b)) x ≡ some y
        → (p' ≡ p) × (wholeb (parts P) J l.round q p (l.got q) ≡ false) × (k ≡ l.before q + length (l.got q))
    unfolding act
    hand_was q p' k b y e =
        hand_is P J p l x st.busy q p' k b (some_accepted (hand_answer x (pack P J q p' k b)) (hand_after x (pack P J q p' k b)) y e)

    hand_goes : (q : Fin P) (b : Body) → Fitted P J p (with_body (parts P) l q b) → wholeb (parts P) J l.round q p (l.got q) ≡ false
        → Gives (parts P) rounds machine (Hand (pack P J q p (l.before q + length (l.got q)) b)) x
        (λ y. Standing P J p (with_body (parts P) l q b) y × Stay (first p) y) []
    unfolding act
    hand_goes q b f w =
        let (a, c) = handed P J p l x st q b f w in
        let m = pack P J q p (l.before q + length (l.got q)) b in
        record {
          after = hand_after x m;
          does = accepted_some (hand_answer x m) (hand_after x m) a;
          stands = (c, stay_on (first p) x (hand_after x m) sts.1 (hand_stay P J p l x st q b f w));
        }

  -- THE LAWS of one part alone
  pub alone : Alone (parts P) rounds machine (Fitted P J) Fine
  alone = record {
    ordered = λ r p q s. ordered (parts P) J (ups P) (once P J) (phase J.top r) p q s;
    silent = silent (parts P) J;
    whole_is = whole_is (parts P) J;
    whole_all = whole_all (parts P) J;
    phase_idle = idle_phase;
    phase_busy = busy_phase;
    idle_start = λ p x i ms e f. idle_starts p x i ms e f;
    idle_fine = idle_takes;
    idle_step = no_step;
    idle_fetch = no_fetch;
    idle_hand = no_hand;
    busy_start = no_start;
    step_is = step_was;
    step_does = λ p l x st f low w. step_goes p l x st f low w;
    fetch_none = fetch_empty;
    fetch_some = fetch_first;
    hand_is = hand_was;
    hand_does = hand_goes;
  }
