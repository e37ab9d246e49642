-- Entering a round of marks: at the start, and after a round of counts.
-- Laws: enter_marks_lem, enter_stay (of any store that stands at a place), into_marks, marks_stay (after a round of counts).
use Rattle.std.specs.Prelude.{◌≡◌, ◌⊎◌, ◌≢◌, Bool, false, ◌&&◌, ◌||◌, eqb, length, set}
use Rattle.std.proofs.Math.Path.{refl, sym, ap, ap₂, subst}
use Rattle.std.proofs.Common.{◌∙◌, inl, inr, length-append, get_or-set_same, get_or-set_other, lt-ltb}
use Rattle.std.proofs.Math.Bool.{not, or-false}
use mathlib.Core.List.{List, [], ◌∷◌, ◌++◌, map}
use Prim.Native.Nat.{ℕ, suc, ◌+◌, ◌-◌, ◌*◌, ◌≤◌, ◌<◌, Fin}
use native.Mathlib.Omega.{arith}
use Rattle.std.proofs.lemmas.List.{length-map}
use Rattle.base.specs.Bools.{one_if, not_both}
use Rattle.base.specs.Limits.{most_cells, most_slots}
use Rattle.base.specs.Range.{range, length-range}
use Rattle.exchange.specs.Finite.{parts}
use Rattle.exchange.specs.Protocol.{following}
use Rattle.rounds.specs.Task.{Task, Fit, rule}
use Rattle.rounds.specs.Rounds.{Phase, marks, counts, phase, State, is_part, red_told, sum_told, decides, red_down, sized}
use Rattle.rounds.specs.Rounds.{counting, taking}
use Rattle.rounds.specs.Rounded.{overb, sizedb, phase_marks, phase_counts}
use Rattle.rounds.specs.Order.{order_of}
use Rattle.rounds.specs.Upward.{ups}
use Rattle.merging.specs.Totals.{grown_of}
use Rattle.store.specs.Fields.{field, STAGE, CELLS, LEVELS, ROUND, RESULT, ENTRIES, WRITTEN, FIRST_CELL, FIRST_SLOT, RED, SUM, MARK}
use Rattle.store.specs.Fields.{CODE, CORNER, CURSOR, FIRST_ENDED, FREE, OWNER, PART, PLACE_HEAD, most_entries}
use Rattle.store.specs.Headed.{header_is}
use Rattle.standing.specs.Busy.{L, Busy, HoldsCell, HoldsSlot}
use Rattle.turns.specs.Loops.{each_from}
use Rattle.turns.specs.Decide.{hitb}
use Rattle.turns.specs.Post.{mark_one, post_end}
use Rattle.turns.specs.Start.{level_from, enter_marks}
use Rattle.partstep.specs.Step.{round_entered, part_stepped}
use Rattle.entering.specs.Columns.{Columns, MarksIn}
use Rattle.entering.specs.Fits.{Fitted, of_marksb, of_countsb}
use Rattle.entering.specs.Within.{level_is, cells_of_level, level_inside, cell_low, slot_low}
use Rattle.entering.specs.Deciding.{decided_at, decided, decided_else, decided-length}
use Rattle.entering.specs.Writing.{WroteLines}
use Rattle.entering.specs.Lines.{mark_line, end_line, marks_written, marks_order}
use Rattle.entering.specs.Entered.{Stay, columns_stay, told_none, added_none}
use Rattle.entering.specs.Standing.{Spent, Holding, Standing}
use Rattle.entering.specs.Turn.{Worked, Reset, Q, entering, turn}
use Rattle.entering.specs.Steps.{set-reset, head_running, no_result, Wholes, ends_known, odd_round}

module _ (P : ℕ) (J : Task (Fin P)) (fit : Fit J) {In : Type 0} (reads : Fin P → In → ℕ → ℕ) (p : Fin P) (l : L P J) (x : List ℕ)
    (u : Busy P J p l x) (co : Columns P J p x) (g : ℕ → ℕ) (marked : MarksIn P J p g x) (h : ℕ → Bool)
    (hits : (i : ℕ) → HoldsSlot P J p i → hitb x i ≡ h i) (red : ℕ → Bool)
    (flags : (c : ℕ) → HoldsCell P J p c → field x (RED + c) ≡ one_if (red c)) (j : ℕ) (low : j ≤ J.top) where
  abbrev k : ℕ
  k = J.top - j

  -- the state that the part enters the round r with
  module _ (r : ℕ) (here : phase J.top r ≡ marks j) (bound : r ≤ 2 * suc J.top) (s : State)
      (red_is : (c : ℕ) → s.red c ≡ (red c || (decides (parts P) J p k c && rule J h g c)))
      (sum_is_lem : (i : ℕ) → HoldsSlot P J p i → field x (SUM + i) ≡ s.sum i) (given_is : s.given ≡ g)
      (ends : (q : Fin P) → is_part (parts P) q p ≡ false → field x (FIRST_ENDED + q.0) ≡ r)
      (spent : field x WRITTEN + field x (FIRST_CELL + suc k) + field x (FIRST_SLOT + suc k)
      ≤ field x CELLS + field x (FIRST_SLOT + suc J.top) + (j + j))
      (sent : (q : Fin P) → (entering P J reads p r s l).sent q < 65536) where
    abbrev x1 : List ℕ
    x1 = decided_at x k

    far : (i : ℕ) → (i < RED) ⊎ (RED + most_cells ≤ i) → field x1 i ≡ field x i
    far i e = decided_else P J p x co k i e

    stay : Stay x x1
    stay = record { size = decided-length P J p x co k; else = λ i e. far i (where_is i e) }
      where
        where_is : (i : ℕ) → ((PART ≤ i) × (i < ROUND)) ⊎ (((FIRST_CELL ≤ i) × (i < FREE))
            ⊎ (((OWNER ≤ i) × (i < MARK)) ⊎ ((CORNER ≤ i) × (i < SUM))))
            → (i < RED) ⊎ (RED + most_cells ≤ i)
        where_is i (inl (a, b)) = inl (omega arith)
        where_is i (inr (inl (a, b))) = inl (omega arith)
        where_is i (inr (inr (inl (a, b)))) = inl (omega arith)
        where_is i (inr (inr (inr (a, b)))) = inr (omega arith)

    abbrev co1 : Columns P J p x1
    co1 = columns_stay P J p x x1 stay co

    work : Worked x x1
    work = record { size = decided-length P J p x co k; else = λ i e. far i (where_is i e) }
      where
        where_is : (i : ℕ) → (i < ENTRIES) ⊎ (((CURSOR ≤ i) × (i < RED)) ⊎ (((CORNER ≤ i) × (i < SUM)) ⊎ ((CODE ≤ i) × (i < PLACE_HEAD))))
            → (i < RED) ⊎ (RED + most_cells ≤ i)
        where_is i (inl a) = inl (omega arith)
        where_is i (inr (inl (a, b))) = inl (omega arith)
        where_is i (inr (inr (inl (a, b)))) = inr (omega arith)
        where_is i (inr (inr (inr (a, b)))) = inr (omega arith)

    new_flags : (c : ℕ) → HoldsCell P J p c → field x1 (RED + c) ≡ one_if (s.red c)
    new_flags c e = decided P J fit p x co h hits g marked k (omega arith) red flags c e ∙ ap one_if (sym (red_is c))

    abbrev a : ℕ
    a = level_from x k

    abbrev n : ℕ
    n = level_from x (k + 1) - level_from x k

    up : k + 1 ≡ suc k
    up = omega arith

    end_at : level_from x (k + 1) ≡ field x (FIRST_CELL + suc k)
    end_at = ap (level_from x) up ∙ level_is P J p x co (suc k) (omega arith)

    begin_at : level_from x k ≡ field x (FIRST_CELL + k)
    begin_at = level_is P J p x co k (omega arith)

    room : field x1 WRITTEN + (n + 1) ≤ most_entries
    room =
        omega (
          arith,
          far WRITTEN (inl (omega arith)),
          spent,
          begin_at,
          end_at,
          co.cells_rise k (omega arith),
          co.slots_in (suc J.top) (omega arith),
          co.cells_few,
          co.levels_few,
        )

    abbrev y : List ℕ
    y = post_end (each_from mark_one n a x1)

    wrote : WroteLines P co1.parts_few J p x1 y
        (map (mark_line P J p x1 co1 s.red new_flags) (range a n) ++ (end_line P J p x1 co1 ∷ []))
    wrote = marks_written P J p x1 co1 s.red new_flags k a n (cells_of_level P J p x co k (omega arith)) (level_inside P J p x co k) room

    lines_many : length (map (mark_line P J p x1 co1 s.red new_flags) (range a n) ++ (end_line P J p x1 co1 ∷ [])) ≡ n + 1
    lines_many =
        length-append (map (mark_line P J p x1 co1 s.red new_flags) (range a n)) (end_line P J p x1 co1 ∷ [])
        ∙ ap (λ (m : ℕ). m + 1) (length-map (range a n) (mark_line P J p x1 co1 s.red new_flags) ∙ length-range a n)

    entered_is : enter_marks x k ≡ y
    unfolding enter_marks
    entered_is = refl

    pub enter_keeps : (i : ℕ) → i ≢ WRITTEN → i < RED → field (enter_marks x k) i ≡ field x i
    enter_keeps i b c = ap (λ (w : List ℕ). field w i) entered_is ∙ wrote.same.else i b (inl (omega arith)) ∙ far i (inl c)

    enter_size : length (enter_marks x k) ≡ length x
    enter_size = ap length entered_is ∙ wrote.same.size ∙ work.size

    -- the store after, where the round is set
    module _ (z : List ℕ) (reset : Reset (enter_marks x k) z) (round : field z ROUND ≡ r) (stage : field z STAGE ≡ 1)
        (result : field z RESULT ≡ 0) where
      reset_y : Reset y z
      reset_y = subst (λ (w : List ℕ). Reset w z) entered_is reset

      z_else : (i : ℕ) → i ≢ STAGE → i ≢ ROUND → i ≢ RESULT → field z i ≡ field y i
      z_else i = reset_y.else i

      z_is : (i : ℕ) → i ≢ STAGE → i ≢ ROUND → i ≢ RESULT → i ≢ WRITTEN → (i < RED) ⊎ (RED + most_cells ≤ i) → i < CODE
          → field z i ≡ field x i
      z_is i b c d e f m = z_else i b c d ∙ wrote.same.else i e (inl m) ∙ far i f

      z_low : (i : ℕ) → PART ≤ i → i < ROUND → field z i ≡ field x i
      z_low i b c = z_is i (λ e. absurd (omega (arith, e))) (λ e. absurd (omega (arith, e))) (λ e. absurd (omega (arith, e)))
          (λ e. absurd (omega (arith, e))) (inl (omega arith)) (omega arith)

      z_far : (i : ℕ) → WRITTEN < i → (i < RED) ⊎ (RED + most_cells ≤ i) → i < CODE → field z i ≡ field x i
      z_far i b f m = z_is i (λ e. absurd (omega (arith, e))) (λ e. absurd (omega (arith, e))) (λ e. absurd (omega (arith, e)))
          (λ e. absurd (omega (arith, e))) f m

      z_entries : field z ENTRIES ≡ field x ENTRIES
      z_entries = z_is ENTRIES (λ e. absurd (omega (arith, e))) (λ e. absurd (omega (arith, e))) (λ e. absurd (omega (arith, e)))
          (λ e. absurd (omega (arith, e))) (inl (omega arith)) (omega arith)

      pub enter_stay : Stay x z
      enter_stay = record { size = reset_y.size ∙ wrote.same.size ∙ work.size; else = λ i e. go i e }
        where
          go : (i : ℕ) → ((PART ≤ i) × (i < ROUND)) ⊎ (((FIRST_CELL ≤ i) × (i < FREE))
              ⊎ (((OWNER ≤ i) × (i < MARK)) ⊎ ((CORNER ≤ i) × (i < SUM))))
              → field z i ≡ field x i
          go i (inl (b, c)) = z_low i b c
          go i (inr (inl (b, c))) = z_far i (omega arith) (inl (omega arith)) (omega arith)
          go i (inr (inr (inl (b, c)))) = z_far i (omega arith) (inl (omega arith)) (omega arith)
          go i (inr (inr (inr (b, c)))) = z_far i (omega arith) (inr (omega arith)) (omega arith)

      spent_now : Spent P J (marks j) z
      unfolding Spent
      spent_now =
          omega (
            arith,
            z_else WRITTEN (λ e. absurd (omega (arith, e))) (λ e. absurd (omega (arith, e))) (λ e. absurd (omega (arith, e))),
            wrote.written,
            wrote.few,
            lines_many,
            far WRITTEN (inl (omega arith)),
            spent,
            begin_at,
            end_at,
            co.cells_rise k (omega arith),
            z_far (FIRST_CELL + k) (omega arith) (inl (omega (arith, co.levels_few))) (omega (arith, co.levels_few)),
            z_far (FIRST_SLOT + suc k) (omega arith) (inl (omega (arith, co.levels_few))) (omega (arith, co.levels_few)),
            z_far (FIRST_SLOT + suc J.top) (omega arith) (inl (omega (arith, co.levels_few))) (omega (arith, co.levels_few)),
            z_low CELLS (omega arith) (omega arith),
          )

      live : overb (phase J.top r) ≡ false
      unfolding overb
      live = ap overb here

      small : sizedb (phase J.top r) ≡ false
      unfolding sizedb
      small = ap sizedb here

      pub enter_marks_lem : Standing P J p (entering P J reads p r s l) z
      unfolding Holding of_marksb of_countsb
      enter_marks_lem = record {
        busy = turn P J reads p co1.parts_few l x u x1 y z
            (map (mark_line P J p x1 co1 s.red new_flags) (range a n) ++ (end_line P J p x1 co1 ∷ [])) work wrote reset_y r s
            (marks_order P J p x1 co1 s.red new_flags j a n s refl (cells_of_level P J p x co k (omega arith))
            ∙ ap (λ (f : Phase). order_of (parts P) J (ups P) f p s) (sym here))
            (head_running x z u.header z_low (omega (arith, z_entries, (header_is x (rw u.header tt)).entries_most)) stage
            (omega (arith, round, z_low LEVELS (omega arith) (omega arith), co.levels, bound)) result) round (λ o. stage)
            (λ o. not_both (overb (phase J.top r)) o live) (λ q i o. ends q i)
            (λ c e. z_else (RED + c) (λ e. absurd (omega (arith, e))) (λ e. absurd (omega (arith, e))) (λ e. absurd (omega (arith, e)))
            ∙ wrote.same.else (RED + c) (λ e. absurd (omega (arith, e))) (inl (omega (arith, cell_low P J p x co c e))) ∙ new_flags c e)
            (λ i e. z_far (SUM + i) (omega arith) (inr (omega arith)) (omega (arith, slot_low P J p x co i e)) ∙ sum_is_lem i e)
            (λ o. not_both (sizedb (phase J.top r)) o small) sent;
        columns = columns_stay P J p x z enter_stay co;
        marked = λ c e o.
            z_far (MARK + c) (omega arith) (inl (omega (arith, cell_low P J p x co c e))) (omega (arith, cell_low P J p x co c e))
            ∙ marked c e o ∙ ap (λ (f : ℕ → ℕ). f c) (sym given_is);
        no_marks = λ o c. told_none P c;
        no_counts = λ o i. added_none P i;
        spent = subst (λ (f : Phase). Spent P J f z) (sym here) spent_now;
        holding = subst (λ (f : Phase). Holding P J p f s z) (sym here) tt;
      }

-- after a round of counts
module _ (P : ℕ) (J : Task (Fin P)) (fit : Fit J) {In : Type 0} (reads : Fin P → In → ℕ → ℕ) (p : Fin P) (l : L P J) (x : List ℕ)
    (st : Standing P J p l x) (i : ℕ) (low : i < J.top) (odd : l.round ≡ suc (i + i)) (whole : Wholes P J p l x st.busy)
    (fits : Fitted P J p (following (parts P) (Q P J reads p) p l)) where
  abbrev counted : State
  counted = counting l.state (red_down (parts P) J i p l.state l.got) (sum_told (parts P) l.state l.got)

  abbrev after : State
  after = taking (parts P) J (grown_of (parts P) J) (phase J.top l.round) p l.state l.got

  now : phase J.top l.round ≡ counts i
  now = ap (phase J.top) odd ∙ phase_counts J.top i (omega arith)

  next_phase : phase J.top (suc l.round) ≡ marks (suc i)
  next_phase =
      let z : suc l.round ≡ suc i + suc i = omega (arith, odd) in
      ap (phase J.top) z ∙ phase_marks J.top (suc i) (omega arith)

  taken : after ≡ sized (grown_of (parts P) J p counted) counted
  unfolding taking
  taken = ap (λ (f : Phase). taking (parts P) J (grown_of (parts P) J) f p l.state l.got) now

  hit : ℕ → Bool
  hit v = not (eqb (sum_told (parts P) l.state l.got v) 0)

  after_red : (c : ℕ) → after.red c
      ≡ (l.state.red c || (decides (parts P) J p (J.top - suc i) c && rule J hit l.state.given c))
  unfolding sized red_down hit
  after_red c =
      ap (λ (t : State). t.red c) taken
      ∙ ap (λ (b : Bool). l.state.red c || (b && (decides (parts P) J p (J.top - suc i) c && rule J hit l.state.given c)))
      (lt-ltb i J.top low)

  after_sum : (v : ℕ) → after.sum v ≡ sum_told (parts P) l.state l.got v
  unfolding sized
  after_sum v = ap (λ (t : State). t.sum v) taken

  after_given : after.given ≡ l.state.given
  unfolding sized
  after_given = ap (λ (t : State). t.given) taken

  quiet : of_marksb (phase J.top l.round) ≡ false
  unfolding of_marksb
  quiet = ap of_marksb now

  live_now : overb (phase J.top l.round) ≡ false
  unfolding overb
  live_now = ap overb now

  old_flags : (c : ℕ) → HoldsCell P J p c → field x (RED + c) ≡ one_if (l.state.red c)
  unfolding red_told
  old_flags c h =
      st.busy.red c h
      ∙ ap one_if (ap (λ (b : Bool). l.state.red c || b) (st.no_marks quiet c) ∙ or-false (l.state.red c))

  hits_are : (v : ℕ) → HoldsSlot P J p v → hitb x v ≡ hit v
  unfolding hitb hit
  hits_are v h =
      ap₂ (λ (b : Bool) (m : ℕ). b && not (eqb m 0)) (lt-ltb v most_slots (slot_low P J p x st.columns v h)) (st.busy.sum v h)

  spent_before : Spent P J (counts i) x
  spent_before = subst (λ (f : Phase). Spent P J f x) now st.spent

  spent_is : field x WRITTEN + field x (FIRST_CELL + suc (J.top - suc i)) + field x (FIRST_SLOT + suc (J.top - suc i))
      ≤ field x CELLS + field x (FIRST_SLOT + suc J.top) + (suc i + suc i)
  unfolding Spent
  spent_is =
      let z : suc (J.top - suc i) ≡ J.top - i = omega arith in
      let e : suc i + suc i ≡ suc (suc (i + i)) = omega arith in
      rw (z, e) spent_before

  abbrev k' : ℕ
  k' = J.top - suc i

  keeps : (v : ℕ) → v ≢ 14 → v < RED → field (enter_marks x k') v ≡ field x v
  keeps =
      enter_keeps P J fit reads p l x st.busy st.columns l.state.given st.marked hit hits_are l.state.red old_flags (suc i)
      (omega arith) (suc l.round) next_phase (omega (arith, odd)) after after_red (λ v h. st.busy.sum v h ∙ sym (after_sum v))
      after_given
      (λ q j. ends_known P J p l x st.busy live_now whole q j) spent_is fits.sent

  size_is : length (enter_marks x k') ≡ length x
  size_is =
      enter_size P J fit reads p l x st.busy st.columns l.state.given st.marked hit hits_are l.state.red old_flags (suc i)
      (omega arith) (suc l.round) next_phase (omega (arith, odd)) after after_red (λ v h. st.busy.sum v h ∙ sym (after_sum v))
      after_given
      (λ q j. ends_known P J p l x st.busy live_now whole q j) spent_is fits.sent

  abbrev z' : List ℕ
  z' = set (enter_marks x k') ROUND (field x ROUND + 1)

  entered_is' : round_entered x ≡ enter_marks x k'
  entered_is' = odd_round x J.top i st.columns.levels (omega arith) low (st.busy.round ∙ odd)

  round_is : field z' ROUND ≡ suc l.round
  round_is =
      get_or-set_same (enter_marks x k') ROUND (field x ROUND + 1) 0 (omega (arith, size_is, st.busy.long)) ∙ omega (arith, st.busy.round)

  stage_is : field z' STAGE ≡ 1
  stage_is =
      get_or-set_other (enter_marks x k') ROUND STAGE (field x ROUND + 1) 0 (λ e. absurd (omega (arith, e)))
      ∙ keeps STAGE (λ e. absurd (omega (arith, e))) (omega arith) ∙ st.busy.running live_now

  result_is : field z' RESULT ≡ 0
  result_is =
      get_or-set_other (enter_marks x k') ROUND RESULT (field x ROUND + 1) 0 (λ e. absurd (omega (arith, e)))
      ∙ keeps RESULT (λ e. absurd (omega (arith, e))) (omega arith)
      ∙ no_result x st.busy.header (st.busy.running live_now) (omega (arith, st.busy.round, odd, st.columns.levels))

  pub marks_stay : Stay x (part_stepped x)
  unfolding part_stepped
  marks_stay =
      subst (λ (w : List ℕ). Stay x (set w ROUND (field x ROUND + 1))) (sym entered_is')
      (enter_stay P J fit reads p l x st.busy st.columns l.state.given st.marked hit hits_are l.state.red old_flags (suc i)
      (omega arith) (suc l.round) next_phase (omega (arith, odd)) after after_red (λ v h. st.busy.sum v h ∙ sym (after_sum v))
      after_given
      (λ q j. ends_known P J p l x st.busy live_now whole q j) spent_is fits.sent z'
      (set-reset (enter_marks x k') (field x ROUND + 1)) round_is stage_is result_is)

  pub into_marks : Standing P J p (following (parts P) (Q P J reads p) p l) (part_stepped x)
  unfolding part_stepped
  into_marks =
      subst (λ (w : List ℕ). Standing P J p (following (parts P) (Q P J reads p) p l) (set w ROUND (field x ROUND + 1))) (sym entered_is')
      (enter_marks_lem P J fit reads p l x st.busy st.columns l.state.given st.marked hit hits_are l.state.red old_flags
      (suc i)
      (omega arith) (suc l.round) next_phase (omega (arith, odd)) after after_red (λ v h. st.busy.sum v h ∙ sym (after_sum v))
      after_given
      (λ q j. ends_known P J p l x st.busy live_now whole q j) spent_is fits.sent z'
      (set-reset (enter_marks x k') (field x ROUND + 1)) round_is stage_is result_is)
