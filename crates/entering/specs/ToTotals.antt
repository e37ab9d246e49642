-- Entering the round of totals: the masters and ghosts after the step are written, and the own totals told.
-- Laws: into_totals, totals_stay.
use Rattle.std.specs.Prelude.{◌≡◌, ◌⊎◌, ◌≢◌, Bool, false, ◌&&◌, ◌||◌, eqb, set}
use Rattle.std.proofs.Math.Path.{sym, ap, subst}
use Rattle.std.proofs.Common.{◌∙◌, inl, inr, get_or-set_same, get_or-set_other, le-ltb}
use Rattle.std.proofs.Math.Bool.{not, or-false}
use mathlib.Core.List.{List, [], ◌∷◌}
use Prim.Native.Nat.{ℕ, suc, ◌+◌, ◌-◌, ◌*◌, ◌≤◌, ◌<◌, Fin}
use native.Mathlib.Omega.{arith}
use Rattle.base.specs.Bools.{one_if, not_both}
use Rattle.exchange.specs.Finite.{parts}
use Rattle.exchange.specs.Protocol.{following}
use Rattle.rounds.specs.Task.{Task, Fit, rule}
use Rattle.rounds.specs.Rounds.{Phase, counts, totals, phase, State, red_told, sum_told, decides, red_down, sized}
use Rattle.rounds.specs.Rounds.{counting, taking}
use Rattle.rounds.specs.Rounds.{capped}
use Rattle.rounds.specs.Rounded.{overb, sizedb, phase_counts, phase_totals}
use Rattle.rounds.specs.Order.{order_of}
use Rattle.rounds.specs.Upward.{ups}
use Rattle.merging.specs.Totals.{grown_of, grown_plain}
use Rattle.store.specs.Fields.{field, STAGE, LEVELS, ROUND, RESULT, ENTRIES, TOTAL, HIGH, WRITTEN, FIRST_CELL, RED}
use Rattle.store.specs.Fields.{SUM, MARK, CODE, CORNER, CURSOR, FREE, OWNER, PART, PLACE_HEAD, most_entries}
use Rattle.standing.specs.Busy.{L, Busy}
use Rattle.turns.specs.Post.{post_end}
use Rattle.partstep.specs.Step.{post_totals, enter_totals, round_entered, part_stepped}
use Rattle.held.specs.Held.{held_in}
use Rattle.entering.specs.Columns.{Columns, Heard}
use Rattle.entering.specs.Fits.{Fitted, of_marksb, of_countsb}
use Rattle.entering.specs.Within.{cell_low, slot_low}
use Rattle.entering.specs.Writing.{WroteLines}
use Rattle.entering.specs.Lines.{total_line, end_line, totals_written, totals_order}
use Rattle.entering.specs.Entered.{Stay, columns_stay, told_none, added_none}
use Rattle.entering.specs.Standing.{Spent, Holding, Standing}
use Rattle.entering.specs.Placing.{held_same}
use Rattle.entering.specs.PlacingCells.{placed_by, placed_else, placed_size, placed_total, placed_high, placed_entries, placed_held}
use Rattle.entering.specs.Turn.{Worked, Q, turn}
use Rattle.entering.specs.Steps.{set-reset, head_running, no_result, Wholes, ends_known, last_counts}

module _ (P : ℕ) (J : Task (Fin P)) (fit : Fit J) {In : Type 0} (reads : Fin P → In → ℕ → ℕ) (p : Fin P) (l : L P J) (x : List ℕ)
    (st : Standing P J p l x) (odd : l.round ≡ suc (J.top + J.top)) (whole : Wholes P J p l x st.busy)
    (fits : Fitted P J p (following (parts P) (Q P J reads p) p l)) where
  abbrev co : Columns P J p x
  co = st.columns

  abbrev u : Busy P J p l x
  u = st.busy

  abbrev counted : State
  counted = counting l.state (red_down (parts P) J J.top p l.state l.got) (sum_told (parts P) l.state l.got)

  abbrev s : State
  s = taking (parts P) J (grown_of (parts P) J) (phase J.top l.round) p l.state l.got

  now : phase J.top l.round ≡ counts J.top
  now = ap (phase J.top) odd ∙ phase_counts J.top J.top (omega arith)

  next : phase J.top (suc l.round) ≡ totals
  next = ap (λ (r : ℕ). phase J.top (suc r)) odd ∙ phase_totals J.top

  taken : s ≡ sized (grown_of (parts P) J p counted) counted
  unfolding taking
  taken = ap (λ (f : Phase). taking (parts P) J (grown_of (parts P) J) f p l.state l.got) now

  s_red : (c : ℕ) → s.red c ≡ l.state.red c
  unfolding sized red_down
  s_red c =
      ap (λ (t : State). t.red c) taken
      ∙ ap (λ (b : Bool). l.state.red c || (b && (decides (parts P) J p (J.top - suc J.top) c
      && rule J (λ v. not (eqb (sum_told (parts P) l.state l.got v) 0)) l.state.given c)))
      (le-ltb J.top J.top (omega arith))
      ∙ or-false (l.state.red c)

  s_sum : (v : ℕ) → s.sum v ≡ sum_told (parts P) l.state l.got v
  unfolding sized
  s_sum v = ap (λ (t : State). t.sum v) taken

  s_given : s.given ≡ l.state.given
  unfolding sized
  s_given = ap (λ (t : State). t.given) taken

  grown_same : grown_of (parts P) J p s ≡ grown_of (parts P) J p counted
  grown_same = ap (grown_of (parts P) J p) taken ∙ grown_plain (parts P) J p counted (grown_of (parts P) J p counted)

  s_total : s.total ≡ capped (grown_of (parts P) J p s).0
  unfolding sized
  s_total = ap (λ (t : State). t.total) taken ∙ ap (λ (g : ℕ × ℕ). capped g.0) (sym grown_same)

  s_high : s.high ≡ (grown_of (parts P) J p s).1
  unfolding sized
  s_high = ap (λ (t : State). t.high) taken ∙ ap (λ (g : ℕ × ℕ). g.1) (sym grown_same)

  quiet : of_marksb (phase J.top l.round) ≡ false
  unfolding of_marksb
  quiet = ap of_marksb now

  live : overb (phase J.top l.round) ≡ false
  unfolding overb
  live = ap overb now

  known : Heard P J p s.red s.sum x
  unfolding red_told
  known = record {
    flags = λ c h. u.red c h
        ∙ ap one_if (ap (λ (b : Bool). l.state.red c || b) (st.no_marks quiet c) ∙ or-false (l.state.red c) ∙ sym (s_red c));
    sums = λ v h. u.sum v h ∙ sym (s_sum v);
  }

  abbrev x1 : List ℕ
  x1 = placed_by P J fit p x co s known

  far : (i : ℕ) → i < ENTRIES ⊎ ((CURSOR ≤ i) × (i < PLACE_HEAD)) → field x1 i ≡ field x i
  far = placed_else P J fit p x co s known

  work : Worked x x1
  work = record { size = placed_size P J fit p x co s known; else = λ i h. go i h }
    where
      go : (i : ℕ) → (i < ENTRIES) ⊎ (((CURSOR ≤ i) × (i < RED)) ⊎ (((CORNER ≤ i) × (i < SUM)) ⊎ ((CODE ≤ i) × (i < PLACE_HEAD))))
          → field x1 i ≡ field x i
      go i (inl a) = far i (inl a)
      go i (inr (inl (a, b))) = far i (inr (a, omega arith))
      go i (inr (inr (inl (a, b)))) = far i (inr (omega arith, omega arith))
      go i (inr (inr (inr (a, b)))) = far i (inr (omega arith, b))

  stay : Stay x x1
  stay = record { size = placed_size P J fit p x co s known; else = λ i h. go i h }
    where
      go : (i : ℕ) → ((PART ≤ i) × (i < ROUND)) ⊎ (((FIRST_CELL ≤ i) × (i < FREE))
          ⊎ (((OWNER ≤ i) × (i < MARK)) ⊎ ((CORNER ≤ i) × (i < SUM))))
          → field x1 i ≡ field x i
      go i (inl (a, b)) = far i (inl (omega arith))
      go i (inr (inl (a, b))) = far i (inr (omega arith, omega arith))
      go i (inr (inr (inl (a, b)))) = far i (inr (omega arith, omega arith))
      go i (inr (inr (inr (a, b)))) = far i (inr (omega arith, omega arith))

  abbrev co1 : Columns P J p x1
  co1 = columns_stay P J p x x1 stay co

  spent_before : Spent P J (counts J.top) x
  spent_before = subst (λ (f : Phase). Spent P J f x) now st.spent

  room : field x1 WRITTEN + 2 ≤ most_entries
  unfolding Spent
  room =
      omega (
        arith,
        far WRITTEN (inr (omega arith, omega arith)),
        spent_before,
        co.slots_in (suc J.top) (omega arith),
        co.cells_few,
        co.levels_few,
      )

  total_is : field x1 TOTAL ≡ s.total
  total_is = placed_total P J fit p x co s known ∙ sym s_total

  high_is : field x1 HIGH ≡ s.high
  high_is = placed_high P J fit p x co s known ∙ sym s_high

  abbrev y : List ℕ
  y = post_end (post_totals x1)

  wrote : WroteLines P co1.parts_few J p x1 y (total_line P J p x1 co1 s.total s.high ∷ end_line P J p x1 co1 ∷ [])
  wrote = totals_written P J p x1 co1 s.total s.high total_is high_is (fits.total next) (fits.high next) room

  abbrev z : List ℕ
  z = set y ROUND (field x ROUND + 1)

  z_y : (i : ℕ) → i ≢ ROUND → field z i ≡ field y i
  z_y i h = get_or-set_other y ROUND i (field x ROUND + 1) 0 h

  z_x1 : (i : ℕ) → i ≢ ROUND → i ≢ WRITTEN → (i < CODE) ⊎ (PLACE_HEAD ≤ i) → field z i ≡ field x1 i
  z_x1 i a b c = z_y i a ∙ wrote.same.else i b c

  z_is : (i : ℕ) → i ≢ ROUND → i ≢ WRITTEN → i < ENTRIES ⊎ ((CURSOR ≤ i) × (i < CODE)) → field z i ≡ field x i
  z_is i a b (inl c) = z_x1 i a b (inl (omega arith)) ∙ far i (inl c)
  z_is i a b (inr (c, d)) = z_x1 i a b (inl d) ∙ far i (inr (c, omega arith))

  z_low : (i : ℕ) → i < ROUND → field z i ≡ field x i
  z_low i h = z_is i (λ e. absurd (omega (arith, e))) (λ e. absurd (omega (arith, e))) (inl (omega arith))

  z_far : (i : ℕ) → WRITTEN < i → i < CODE → field z i ≡ field x i
  z_far i a b = z_is i (λ e. absurd (omega (arith, e))) (λ e. absurd (omega (arith, e))) (inr (omega arith, b))

  stage_is : field z STAGE ≡ 1
  stage_is = z_low STAGE (omega arith) ∙ u.running live

  round_is : field z ROUND ≡ suc l.round
  round_is =
      get_or-set_same y ROUND (field x ROUND + 1) 0 (omega (arith, wrote.same.size, work.size, u.long)) ∙ omega (arith, u.round)

  entries_is : field z ENTRIES ≡ field x1 ENTRIES
  entries_is = z_x1 ENTRIES (λ e. absurd (omega (arith, e))) (λ e. absurd (omega (arith, e))) (inl (omega arith))

  z_stay : Stay x z
  z_stay = record { size = (set-reset y (field x ROUND + 1)).size ∙ wrote.same.size ∙ work.size; else = λ i h. go i h }
    where
      go : (i : ℕ) → ((PART ≤ i) × (i < ROUND)) ⊎ (((FIRST_CELL ≤ i) × (i < FREE))
          ⊎ (((OWNER ≤ i) × (i < MARK)) ⊎ ((CORNER ≤ i) × (i < SUM))))
          → field z i ≡ field x i
      go i (inl (a, b)) = z_low i b
      go i (inr (inl (a, b))) = z_far i (omega arith) (omega arith)
      go i (inr (inr (inl (a, b)))) = z_far i (omega arith) (omega arith)
      go i (inr (inr (inr (a, b)))) = z_far i (omega arith) (omega arith)

  held_z : held_in z ≡ held_in x1
  held_z = held_same x1 z entries_is (λ i h. z_x1 i (λ e. absurd (omega (arith, e))) (λ e. absurd (omega (arith, e))) (inr h))

  holds : Holding P J p totals s z
  unfolding Holding
  holds = (s_high, λ h. held_z ∙ placed_held P J fit p x co s known (omega (arith, h, s_high)))

  entered_is : round_entered x ≡ y
  unfolding enter_totals
  entered_is = last_counts x J.top co.levels (u.round ∙ odd)

  pub totals_stay : Stay x (part_stepped x)
  unfolding part_stepped
  totals_stay = subst (λ (w : List ℕ). Stay x (set w ROUND (field x ROUND + 1))) (sym entered_is) z_stay

  pub into_totals : Standing P J p (following (parts P) (Q P J reads p) p l) (part_stepped x)
  unfolding part_stepped enter_totals sizedb overb Spent of_marksb of_countsb
  into_totals =
      let low_round : field x ROUND ≤ 2 * field x LEVELS = omega (arith, u.round, odd, co.levels) in
      let t : s.total ≡ capped s.total = let h = fits.total next in omega arith in
      subst (λ (w : List ℕ). Standing P J p (following (parts P) (Q P J reads p) p l) (set w ROUND (field x ROUND + 1))) (sym entered_is)
      (record {
        busy = turn P J reads p co1.parts_few l x u x1 y z (total_line P J p x1 co1 s.total s.high ∷ end_line P J p x1 co1 ∷ []) work
            wrote (set-reset y (field x ROUND + 1)) (suc l.round) s
            (totals_order P J p x1 co1 s ∙ ap (λ (f : Phase). order_of (parts P) J (ups P) f p s) (sym next))
            (head_running x z u.header (λ i a b. z_low i b) (omega (arith, entries_is, placed_entries P J fit p x co s known)) stage_is
            (omega (arith, round_is, z_low LEVELS (omega arith), co.levels, odd))
            (z_is RESULT (λ e. absurd (omega (arith, e))) (λ e. absurd (omega (arith, e))) (inl (omega arith))
            ∙ no_result x u.header (u.running live) low_round)) round_is (λ o. stage_is)
            (λ o. not_both (overb (phase J.top (suc l.round))) o (ap overb next))
            (λ q j o. ends_known P J p l x u live whole q j)
            (λ c h. z_far (RED + c) (omega arith) (omega (arith, cell_low P J p x co c h)) ∙ known.flags c h)
            (λ v h. z_far (SUM + v) (omega arith) (omega (arith, slot_low P J p x co v h)) ∙ known.sums v h)
            (λ o. (
              z_x1 TOTAL (λ e. absurd (omega (arith, e))) (λ e. absurd (omega (arith, e))) (inl (omega arith)) ∙ total_is ∙ t,
              z_x1 HIGH (λ e. absurd (omega (arith, e))) (λ e. absurd (omega (arith, e))) (inl (omega arith)) ∙ high_is,
            )) fits.sent;
        columns = columns_stay P J p x z z_stay co;
        marked = λ c h o.
            z_far (MARK + c) (omega arith) (omega (arith, cell_low P J p x co c h)) ∙ st.marked c h o
            ∙ ap (λ (f : ℕ → ℕ). f c) (sym s_given);
        no_marks = λ o c. told_none P c;
        no_counts = λ o i. added_none P i;
        spent = subst (λ (f : Phase). Spent P J f z) (sym next) tt;
        holding = subst (λ (f : Phase). Holding P J p f s z) (sym next) holds;
      })
