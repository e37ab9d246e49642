-- Entering a round of counts.
-- Laws: into_counts, counts_stay.
use Rattle.std.specs.Prelude.{◌≡◌, ◌⊎◌, ◌≢◌, true, false, length, set}
use Rattle.std.proofs.Math.Path.{refl, ap, subst}
use Rattle.std.proofs.Common.{sym, ◌∙◌, ap₂, inl, inr, length-append, get_or-set_same, get_or-set_other}
use mathlib.Core.List.{List, [], ◌∷◌, ◌++◌, map}
use Prim.Native.Nat.{ℕ, suc, ◌+◌, ◌-◌, ◌*◌, ◌≤◌, ◌<◌, Fin}
use native.Mathlib.Omega.{arith}
use Rattle.std.proofs.lemmas.List.{length-map}
use Rattle.base.specs.Bools.{one_if, not_both}
use Rattle.base.specs.Limits.{most_slots}
use Rattle.base.specs.Range.{length-range}
use Rattle.base.specs.Range.{range}
use Rattle.exchange.specs.Finite.{parts}
use Rattle.exchange.specs.Protocol.{following}
use Rattle.base.specs.Member.{Member}
use Rattle.rounds.specs.Task.{Task}
use Rattle.rounds.specs.Rounds.{Phase, marks, counts, phase, State, red_told, sum_told}
use Rattle.rounds.specs.Rounds.{tally, holdsb}
use Rattle.rounds.specs.Rounds.{taking}
use Rattle.rounds.specs.Rounded.{overb, sizedb, phase_marks, phase_counts}
use Rattle.rounds.specs.Order.{order_of}
use Rattle.rounds.specs.Upward.{ups}
use Rattle.merging.specs.Totals.{grown_of}
use Rattle.store.specs.Fields.{field, STAGE, CELLS, LEVELS, ROUND, RESULT, ENTRIES, WRITTEN, FIRST_CELL, FIRST_SLOT, RED, SUM, MARK}
use Rattle.store.specs.Fields.{CODE, CORNER, CURSOR, PLACE_HEAD, most_entries}
use Rattle.store.specs.Headed.{header_is}
use Rattle.standing.specs.Busy.{L, HoldsCell, HoldsSlot}
use Rattle.turns.specs.Loops.{each_from}
use Rattle.turns.specs.Post.{count_one, post_end}
use Rattle.turns.specs.Step.{slot_from, tallied, enter_counts}
use Rattle.partstep.specs.Step.{round_entered, part_stepped}
use Rattle.entering.specs.Columns.{Columns}
use Rattle.entering.specs.Fits.{Fitted, of_marksb, of_countsb}
use Rattle.entering.specs.Within.{cell_low, slot_low}
use Rattle.entering.specs.Tallying.{tallied_sum, tallied_else, tallied-length}
use Rattle.entering.specs.Writing.{WroteLines}
use Rattle.entering.specs.Lines.{count_line, end_line, counts_written, counts_order}
use Rattle.entering.specs.Entered.{Stay, columns_stay, static_low, told_none, added_none}
use Rattle.entering.specs.Standing.{Spent, Holding, Standing}
use Rattle.entering.specs.Turn.{Worked, Q, turn}
use Rattle.entering.specs.Steps.{set-reset, head_running, no_result, Wholes, ends_known, even_round}

module _ (P : ℕ) (J : Task (Fin P)) {In : Type 0} (reads : Fin P → In → ℕ → ℕ) (p : Fin P) (l : L P J) (x : List ℕ)
    (st : Standing P J p l x) (i : ℕ) (low : i ≤ J.top) (even : l.round ≡ i + i) (whole : Wholes P J p l x st.busy)
    (fits : Fitted P J p (following (parts P) (Q P J reads p) p l)) where
  abbrev co : Columns P J p x
  co = st.columns

  abbrev k : ℕ
  k = J.top - i

  abbrev s : State
  s = taking (parts P) J (grown_of (parts P) J) (phase J.top l.round) p l.state l.got

  here : phase J.top l.round ≡ marks i
  here = ap (phase J.top) even ∙ phase_marks J.top i low

  next : phase J.top (suc l.round) ≡ counts i
  next = ap (λ (r : ℕ). phase J.top (suc r)) even ∙ phase_counts J.top i low

  taken : s ≡ taking (parts P) J (grown_of (parts P) J) (marks i) p l.state l.got
  taken = ap (λ (f : Phase). taking (parts P) J (grown_of (parts P) J) f p l.state l.got) here

  red_is : (c : ℕ) → s.red c ≡ red_told (parts P) l.state l.got c
  unfolding taking
  red_is c = ap (λ (t : State). t.red c) taken

  sum_is : (j : ℕ) → s.sum j ≡ l.state.sum j + tally (parts P) J p (red_told (parts P) l.state l.got) k j
  unfolding taking
  sum_is j = ap (λ (t : State). t.sum j) taken

  given_is : s.given ≡ l.state.given
  unfolding taking
  given_is = ap (λ (t : State). t.given) taken

  live : overb (phase J.top l.round) ≡ false
  unfolding overb
  live = ap overb here

  abbrev x1 : List ℕ
  x1 = tallied x k

  far : (j : ℕ) → (j < SUM) ⊎ (SUM + most_slots ≤ j) → field x1 j ≡ field x j
  far j h = tallied_else P J p x co k j h

  stay : Stay x x1
  stay = record { size = tallied-length P J p x co k; else = λ j h. far j (inl (static_low j h).0) }

  abbrev co1 : Columns P J p x1
  co1 = columns_stay P J p x x1 stay co

  work : Worked x x1
  work = record { size = tallied-length P J p x co k; else = λ j h. far j (where_is j h) }
    where
      where_is : (j : ℕ) → (j < ENTRIES) ⊎ (((CURSOR ≤ j) × (j < RED)) ⊎ (((CORNER ≤ j) × (j < SUM)) ⊎ ((CODE ≤ j) × (j < PLACE_HEAD))))
          → (j < SUM) ⊎ (SUM + most_slots ≤ j)
      where_is j (inl a) = inl (omega arith)
      where_is j (inr (inl (a, b))) = inl (omega arith)
      where_is j (inr (inr (inl (a, b)))) = inl (omega arith)
      where_is j (inr (inr (inr (a, b)))) = inr (omega arith)

  -- the sums
  sum_few : (j : ℕ) → HoldsSlot P J p j → s.sum j < 65536
  unfolding sum_told
  sum_few j h = omega (arith, fits.good.sums j h)

  quiet : of_countsb (phase J.top l.round) ≡ false
  unfolding of_countsb
  quiet = ap of_countsb here

  sums : (j : ℕ) → HoldsSlot P J p j → field x1 (SUM + j) ≡ s.sum j
  unfolding sum_told
  sums j h =
      let a : field x (SUM + j) ≡ l.state.sum j = st.busy.sum j h ∙ omega (arith, st.no_counts quiet j) in
      tallied_sum P J p x co k (omega arith) (red_told (parts P) l.state l.got) (λ c g. st.busy.red c g) j
      (omega (arith, a, sum_is j, sum_few j h)) ∙ omega (arith, a, sum_is j)

  flags : (c : ℕ) → HoldsCell P J p c → field x1 (RED + c) ≡ one_if (s.red c)
  flags c h = far (RED + c) (inl (omega (arith, cell_low P J p x co c h))) ∙ st.busy.red c h ∙ ap one_if (sym (red_is c))

  -- the slots of the level
  slot_from_lem : (j : ℕ) → j ≤ suc J.top → slot_from x j ≡ field x (FIRST_SLOT + j)
  unfolding slot_from
  slot_from_lem j h = let a = co.slots_in j h in omega arith

  abbrev a : ℕ
  a = slot_from x k

  abbrev n : ℕ
  n = slot_from x (k + 1) - slot_from x k

  up : k + 1 ≡ suc k
  up = omega arith

  end_at : slot_from x (k + 1) ≡ field x (FIRST_SLOT + suc k)
  end_at = ap (slot_from x) up ∙ slot_from_lem (suc k) (omega arith)

  slots_are : J.slots k ≡ range a n
  slots_are =
      co.slots k (omega arith)
      ∙ ap₂ (λ (b c : ℕ). range b (c - b)) (sym (slot_from_lem k (omega arith))) (sym end_at)

  inside : a + n ≤ most_slots
  inside = omega (arith, slot_from_lem k (omega arith), end_at, co.slots_in (suc k) (omega arith), co.slots_rise k (omega arith))

  spent : Spent P J (marks i) x
  spent = subst (λ (f : Phase). Spent P J f x) here st.spent

  spent_is : field x WRITTEN + field x (FIRST_CELL + k) + field x (FIRST_SLOT + suc k)
      ≤ field x CELLS + field x (FIRST_SLOT + suc J.top) + suc (i + i)
  unfolding Spent
  spent_is = spent

  room : field x1 WRITTEN + (n + 1) ≤ most_entries
  room =
      omega (
        arith,
        far WRITTEN (inl (omega arith)),
        spent_is,
        slot_from_lem k (omega arith),
        end_at,
        co.slots_rise k (omega arith),
        co.slots_in (suc J.top) (omega arith),
        co.cells_few,
        co.levels_few,
      )

  own_sums : (j : ℕ) → Member j (J.slots k) → holdsb (parts P) J p k j ≡ true → field x1 (SUM + j) ≡ s.own j
  own_sums j m h = sums j (k, rw h tt) ∙ sym (fits.own i j next m h)

  abbrev y : List ℕ
  y = post_end (each_from count_one n a x1)

  wrote : WroteLines P co1.parts_few J p x1 y
      (map (count_line P J p x1 co1 s.own k fits.count own_sums) (range a n) ++ (end_line P J p x1 co1 ∷ []))
  wrote = counts_written P J p x1 co1 s.own k fits.count own_sums a n slots_are inside room

  abbrev z : List ℕ
  z = set y ROUND (field x ROUND + 1)

  z_else : (j : ℕ) → j ≢ ROUND → field z j ≡ field y j
  z_else j h = get_or-set_other y ROUND j (field x ROUND + 1) 0 h

  y_else : (j : ℕ) → j ≢ WRITTEN → j < CODE → field y j ≡ field x1 j
  y_else j h g = wrote.same.else j h (inl g)

  -- what stands outside of sums and entries
  z_is : (j : ℕ) → j ≢ ROUND → j ≢ WRITTEN → j < SUM → field z j ≡ field x j
  z_is j g h b = z_else j g ∙ y_else j h (omega arith) ∙ far j (inl b)

  round_is : field z ROUND ≡ suc l.round
  round_is =
      get_or-set_same y ROUND (field x ROUND + 1) 0 (omega (arith, wrote.same.size, work.size, st.busy.long))
      ∙ omega (arith, st.busy.round)

  running : field x STAGE ≡ 1
  running = st.busy.running live

  rounds_few : field x ROUND ≤ 2 * field x LEVELS
  rounds_few = omega (arith, st.busy.round, even, co.levels)

  levels_same : field z LEVELS ≡ field x LEVELS
  levels_same = z_is LEVELS (λ e. absurd (omega (arith, e))) (λ e. absurd (omega (arith, e))) (omega arith)

  stage_is : field z STAGE ≡ 1
  stage_is = z_is STAGE (λ e. absurd (omega (arith, e))) (λ e. absurd (omega (arith, e))) (omega arith) ∙ running

  lines_many : length (map (count_line P J p x1 co1 s.own k fits.count own_sums) (range a n) ++ (end_line P J p x1 co1 ∷ [])) ≡ n + 1
  lines_many =
      length-append (map (count_line P J p x1 co1 s.own k fits.count own_sums) (range a n)) (end_line P J p x1 co1 ∷ [])
      ∙ ap (λ (m : ℕ). m + 1) (length-map (range a n) (count_line P J p x1 co1 s.own k fits.count own_sums) ∙ length-range a n)

  spent_now : Spent P J (counts i) z
  unfolding Spent
  spent_now =
      omega (
        arith,
        z_else WRITTEN (λ e. absurd (omega (arith, e))),
        wrote.written,
        wrote.few,
        lines_many,
        far WRITTEN (inl (omega arith)),
        spent_is,
        slot_from_lem k (omega arith),
        end_at,
        co.slots_rise k (omega arith),
        z_is (FIRST_CELL + k) (λ e. absurd (omega (arith, e))) (λ e. absurd (omega (arith, e))) (omega (arith, co.levels_few)),
        z_is (FIRST_SLOT + k) (λ e. absurd (omega (arith, e))) (λ e. absurd (omega (arith, e))) (omega (arith, co.levels_few)),
        z_is (FIRST_SLOT + suc J.top) (λ e. absurd (omega (arith, e))) (λ e. absurd (omega (arith, e))) (omega (arith, co.levels_few)),
        z_is CELLS (λ e. absurd (omega (arith, e))) (λ e. absurd (omega (arith, e))) (omega arith),
      )

  z_stay : Stay x z
  z_stay = record {
    size = (set-reset y (field x ROUND + 1)).size ∙ wrote.same.size ∙ work.size;
    else = λ j h. let (a, b, c) = static_low j h in z_is j b c a;
  }

  entered_is : round_entered x ≡ y
  unfolding enter_counts
  entered_is = even_round x J.top i co.levels low (st.busy.round ∙ even)

  pub counts_stay : Stay x (part_stepped x)
  unfolding part_stepped
  counts_stay = subst (λ (w : List ℕ). Stay x (set w ROUND (field x ROUND + 1))) (sym entered_is) z_stay

  pub into_counts : Standing P J p (following (parts P) (Q P J reads p) p l) (part_stepped x)
  unfolding part_stepped enter_counts sizedb overb Spent Holding of_marksb of_countsb
  into_counts =
      subst (λ (w : List ℕ). Standing P J p (following (parts P) (Q P J reads p) p l) (set w ROUND (field x ROUND + 1))) (sym entered_is)
      (record {
        busy = turn P J reads p co1.parts_few l x st.busy x1 y z
            (map (count_line P J p x1 co1 s.own k fits.count own_sums) (range a n) ++ (end_line P J p x1 co1 ∷ [])) work wrote
            (set-reset y (field x ROUND + 1)) (suc l.round) s
            (counts_order P J p x1 co1 s.own k fits.count own_sums i a n s refl refl slots_are
            ∙ ap (λ (f : Phase). order_of (parts P) J (ups P) f p s) (sym next))
            (head_running x z st.busy.header
            (λ j b c. z_is j (λ e. absurd (omega (arith, e))) (λ e. absurd (omega (arith, e))) (omega arith))
            (omega (
              arith,
              z_is ENTRIES (λ e. absurd (omega (arith, e))) (λ e. absurd (omega (arith, e))) (omega arith),
              (header_is x (rw st.busy.header tt)).entries_most,
            )) stage_is
            (omega (arith, round_is, levels_same, co.levels, even))
            (z_is RESULT (λ e. absurd (omega (arith, e))) (λ e. absurd (omega (arith, e))) (omega arith)
            ∙ no_result x st.busy.header running rounds_few)) round_is (λ o. stage_is)
            (λ o. not_both (overb (phase J.top (suc l.round))) o (ap overb next))
            (λ q j o. ends_known P J p l x st.busy live whole q j)
            (λ c h. z_else (RED + c) (λ e. absurd (omega (arith, e))) ∙ y_else (RED + c) (λ e. absurd (omega (arith, e)))
            (omega (arith, cell_low P J p x co c h)) ∙ flags c h)
            (λ j h. z_else (SUM + j) (λ e. absurd (omega (arith, e))) ∙ y_else (SUM + j) (λ e. absurd (omega (arith, e)))
            (omega (arith, slot_low P J p x co j h)) ∙ sums j h)
            (λ o. not_both (sizedb (phase J.top (suc l.round))) o (ap sizedb next)) fits.sent;
        columns = columns_stay P J p x z z_stay co;
        marked = λ c h o.
            z_is (MARK + c) (λ e. absurd (omega (arith, e))) (λ e. absurd (omega (arith, e))) (omega (arith, cell_low P J p x co c h))
            ∙ st.marked c h o ∙ ap (λ (f : ℕ → ℕ). f c) (sym given_is);
        no_marks = λ o c. told_none P c;
        no_counts = λ o j. added_none P j;
        spent = subst (λ (f : Phase). Spent P J f z) (sym next) spent_now;
        holding = subst (λ (f : Phase). Holding P J p f s z) (sym next) tt;
      })
