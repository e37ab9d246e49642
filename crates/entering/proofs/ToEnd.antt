-- The end of a part: from the totals of all parts comes the result, and beside 8 or 9 the old masters and ghosts.
-- Laws: into_end, end_stay.
use Rattle.std.specs.Prelude.{◌≡◌, ◌⊎◌, ◌≢◌, Bool, ◌||◌, leb, length, set, take}
use Rattle.std.proofs.Math.Path.{refl, sym, ap, ap₂, subst}
use Rattle.std.proofs.Common.{◌∙◌, inl, inr, length-set, length-append, get_or-set_same, get_or-set_other}
use Rattle.std.proofs.Math.Bool.{true, false, or-false}
use mathlib.Core.List.{List, [], ◌∷◌, flat_map}
use Prim.Native.Nat.{ℕ, zero, suc, ◌+◌, ◌≤◌, ◌<◌, max, Fin}
use Rattle.std.proofs.Math.Decide.{dec_lt}
use native.Mathlib.Omega.{arith}
use Rattle.std.proofs.Math.Dec.{eqb}
use borrow.Author.Tests.{eq-eqb, ne_eqb, le-leb, lt-leb}
use Rattle.base.specs.Bools.{one_if, not_both}
use Rattle.base.specs.Limits.{most_cells, most_levels, top_level}
use Rattle.base.specs.Range.{range}
use Rattle.exchange.specs.Finite.{parts}
use Rattle.exchange.specs.Protocol.{following}
use Rattle.rounds.specs.Task.{Task}
use Rattle.rounds.specs.Rounds.{Phase, totals, over, phase, State, is_part, red_told, sum_told, masters_told, top_told, taking}
use Rattle.rounds.specs.Rounds.{capped}
use Rattle.rounds.specs.Rounded.{overb, sizedb, phase_totals, phase_over}
use Rattle.rounds.specs.Order.{order_of}
use Rattle.rounds.specs.Upward.{ups}
use Rattle.parts.specs.Held.{Entry}
use Rattle.shares.specs.Grow.{status_new, pair_held, fresh_status, staysb, master_entry, ghost_entry, anewb, child_status, child_entries}
use Rattle.shares.specs.Grow.{fresh_entries}
use Rattle.shares.specs.Grow.{entry_by, entries}
use Rattle.merging.specs.Totals.{grown_of}
use Rattle.store.specs.Fields.{field, STAGE, CELLS, LEVELS, ROUND, RESULT, ENTRIES, TOTAL, HIGH, RED, SUM, MARK}
use Rattle.store.specs.Fields.{CODE, CORNER, CURSOR, FIRST_CELL, FREE, OWNER, PART, PLACE_HEAD}
use Rattle.store.specs.Headed.{header_is}
use Rattle.standing.specs.Busy.{L, Busy, HoldsCell, HoldsSlot}
use Rattle.partstep.specs.Step.{end_number, old_places, finished, round_entered, part_stepped}
use Rattle.held.specs.Held.{held_in}
use Rattle.entering.specs.Columns.{Columns}
use Rattle.entering.specs.Fits.{Fitted, of_marksb, of_countsb}
use Rattle.entering.specs.Within.{cell_low, slot_low}
use Rattle.entering.specs.Writing.{wrote_none, orders_of}
use Rattle.entering.specs.Entered.{Stay, columns_stay, told_none, added_none}
use Rattle.entering.specs.Standing.{result_of, old_entry, olds, Spent, Holding, Standing}
use Rattle.entering.specs.Placing.{held_same}
use Rattle.entering.proofs.PlacingKept.{kept_else, kept_size, kept_entries, kept_held}
use Rattle.entering.specs.Turn.{Worked, Reset, Q, turn}
use Rattle.entering.specs.Steps.{head_done, Wholes, last_round}

-- no result says that both limits hold; the result is one of three
module _ (n h : ℕ) where
  result_none : result_of n h ≡ 0 → (h ≤ top_level) × (n ≤ most_cells)
  unfolding result_of
  result_none e = elim (dec_lt top_level h) [
    | yes k ↦
        let z : result_of n h ≡ 8 = rw (le-leb most_levels h k, result_of) in
        absurd (omega (arith, z, e))
    | no k ↦ elim (dec_lt most_cells n) [
      | yes m ↦
          let z : result_of n h ≡ 9 = rw (lt-leb most_levels h (omega arith), lt-leb n most_cells m, result_of) in
          absurd (omega (arith, z, e))
      | no m ↦ (omega arith, omega arith)
    ]
  ]

  result_kind : (eqb (result_of n h) 0 || (eqb (result_of n h) 8 || eqb (result_of n h) 9)) ≡ true
  unfolding result_of
  result_kind = go (leb most_levels h) (leb n most_cells)
    where
      go : (a b : Bool) → (eqb (elim a [ true ↦ 8 | false ↦ elim b [ true ↦ 0 | false ↦ 9 ] ]) 0
          || (eqb (elim a [ true ↦ 8 | false ↦ elim b [ true ↦ 0 | false ↦ 9 ] ]) 8
          || eqb (elim a [ true ↦ 8 | false ↦ elim b [ true ↦ 0 | false ↦ 9 ] ]) 9)) ≡ true
      go true b = refl
      go false true = refl
      go false false = refl

-- no more masters and ghosts than cells
one_entry : (P : ℕ) (J : Task (Fin P)) (p : Fin P) (c : ℕ) → length (old_entry P J p c) ≤ 1
unfolding old_entry
one_entry P J p c = go (is_part (parts P) (J.owner c) p) (is_part (parts P) (J.family c) p)
  where
    go : (a b : Bool) → length {A = Entry} (elim a [
      | true ↦ entry_by (J.path c) (J.status c) false ∷ []
      | false ↦ elim b [ true ↦ entry_by (J.path c) (J.status c) true ∷ [] | false ↦ [] ]
    ]) ≤ 1
    go true b = omega arith
    go false true = omega arith
    go false false = omega arith

olds_few : (P : ℕ) (J : Task (Fin P)) (p : Fin P) (n a : ℕ) → length (flat_map (old_entry P J p) (range a n)) ≤ n
unfolding range flat_map
olds_few P J p zero a = omega arith
olds_few P J p (suc n) a =
    omega (
      arith,
      length-append (old_entry P J p a) (flat_map (old_entry P J p) (range (suc a) n)),
      olds_few P J p n (suc a),
      one_entry P J p a,
    )

module _ (P : ℕ) (J : Task (Fin P)) {In : Type 0} (reads : Fin P → In → ℕ → ℕ) (p : Fin P) (l : L P J) (x : List ℕ)
    (st : Standing P J p l x) (last : l.round ≡ suc (suc (J.top + J.top))) (whole : Wholes P J p l x st.busy)
    (fits : Fitted P J p (following (parts P) (Q P J reads p) p l)) where
  abbrev co : Columns P J p x
  co = st.columns

  abbrev u : Busy P J p l x
  u = st.busy

  abbrev s : State
  s = taking (parts P) J (grown_of (parts P) J) (phase J.top l.round) p l.state l.got

  now : phase J.top l.round ≡ totals
  now = ap (phase J.top) last ∙ phase_totals J.top

  next : phase J.top (suc l.round) ≡ over
  next = ap (λ (r : ℕ). phase J.top (suc r)) last ∙ phase_over J.top

  taken : s ≡ taking (parts P) J (grown_of (parts P) J) totals p l.state l.got
  taken = ap (λ (f : Phase). taking (parts P) J (grown_of (parts P) J) f p l.state l.got) now

  s_red : (c : ℕ) → s.red c ≡ l.state.red c
  unfolding taking
  s_red c = ap (λ (t : State). t.red c) taken

  s_sum : (v : ℕ) → s.sum v ≡ l.state.sum v
  unfolding taking
  s_sum v = ap (λ (t : State). t.sum v) taken

  s_given : s.given ≡ l.state.given
  unfolding taking
  s_given = ap (λ (t : State). t.given) taken

  s_total : s.total ≡ capped (l.state.total + masters_told (parts P) l.got)
  unfolding taking
  s_total = ap (λ (t : State). t.total) taken

  s_high : s.high ≡ max l.state.high (top_told (parts P) l.got)
  unfolding taking
  s_high = ap (λ (t : State). t.high) taken

  same_entries : entries (parts P) J p s ≡ entries (parts P) J p l.state
  unfolding taking entries master_entry ghost_entry fresh_entries anewb staysb child_entries child_status status_new fresh_status pair_held
  same_entries = ap (entries (parts P) J p) taken

  quiet_marks : of_marksb (phase J.top l.round) ≡ false
  unfolding of_marksb
  quiet_marks = ap of_marksb now

  quiet_counts : of_countsb (phase J.top l.round) ≡ false
  unfolding of_countsb
  quiet_counts = ap of_countsb now

  known : sizedb (phase J.top l.round) ≡ true
  unfolding sizedb
  known = ap sizedb now

  total_is : field x TOTAL ≡ s.total
  total_is = u.total known ∙ sym s_total

  high_is : field x HIGH ≡ s.high
  high_is = u.high known ∙ sym s_high

  flags : (c : ℕ) → HoldsCell P J p c → field x (RED + c) ≡ one_if (s.red c)
  unfolding red_told
  flags c h =
      u.red c h
      ∙ ap one_if (ap (λ (b : Bool). l.state.red c || b) (st.no_marks quiet_marks c) ∙ or-false (l.state.red c) ∙ sym (s_red c))

  sums : (v : ℕ) → HoldsSlot P J p v → field x (SUM + v) ≡ s.sum v
  unfolding sum_told
  sums v h = u.sum v h ∙ omega (arith, st.no_counts quiet_counts v, s_sum v)

  number_is : end_number x ≡ result_of s.total s.high
  unfolding end_number result_of
  number_is = ap₂ (λ (n h : ℕ). elim (leb most_levels h) [
    | true ↦ 8
    | false ↦ elim
        (leb n most_cells) [ true ↦ 0 | false ↦ 9 ]
  ]) total_is high_is

  -- the store with what it holds at the end
  abbrev x1 : List ℕ
  x1 = elim (eqb (end_number x) 0) [ true ↦ x | false ↦ old_places x ]

  record Ends (w : List ℕ) : Type 0 where
    pub size : length w ≡ length x
    pub else : (i : ℕ) → i ≢ ENTRIES → i < PLACE_HEAD → field w i ≡ field x i
    pub few : field w ENTRIES ≤ most_cells

  ends_x : Ends x
  ends_x = record { size = refl; else = λ i a b. refl; few = (header_is x (rw u.header tt)).entries_most }

  ends_kept : Ends (old_places x)
  unfolding olds
  ends_kept = record {
    size = kept_size P J p x co;
    else = kept_else P J p x co;
    few = omega (arith, kept_entries P J p x co, olds_few P J p (field x CELLS) 0, co.cells_few);
  }

  ends : Ends x1
  ends = go (eqb (end_number x) 0)
    where
      go : (b : Bool) → Ends (elim b [ true ↦ x | false ↦ old_places x ])
      go true = ends_x
      go false = ends_kept

  work : Worked x x1
  work = record { size = ends.size; else = λ i h. go i h }
    where
      go : (i : ℕ) → (i < ENTRIES) ⊎ (((CURSOR ≤ i) × (i < RED)) ⊎ (((CORNER ≤ i) × (i < SUM)) ⊎ ((CODE ≤ i) × (i < PLACE_HEAD))))
          → field x1 i ≡ field x i
      go i (inl a) = ends.else i (λ e. absurd (omega (arith, e))) (omega arith)
      go i (inr (inl (a, b))) = ends.else i (λ e. absurd (omega (arith, e))) (omega arith)
      go i (inr (inr (inl (a, b)))) = ends.else i (λ e. absurd (omega (arith, e))) (omega arith)
      go i (inr (inr (inr (a, b)))) = ends.else i (λ e. absurd (omega (arith, e))) (omega arith)

  abbrev v1 : List ℕ
  v1 = set x1 RESULT (end_number x)

  abbrev v2 : List ℕ
  v2 = set v1 STAGE 2

  abbrev z : List ℕ
  z = set v2 ROUND (field x ROUND + 1)

  size_v1 : length v1 ≡ length x1
  size_v1 = length-set x1 RESULT (end_number x)

  size_v2 : length v2 ≡ length x1
  size_v2 = length-set v1 STAGE 2 ∙ size_v1

  size_z : length z ≡ length x1
  size_z = length-set v2 ROUND (field x ROUND + 1) ∙ size_v2

  reset : Reset x1 z
  reset = record {
    size = size_z;
    else = λ i a b c. get_or-set_other v2 ROUND i (field x ROUND + 1) 0 b ∙ get_or-set_other v1 STAGE i 2 0 a
        ∙ get_or-set_other x1 RESULT i (end_number x) 0 c;
  }

  z_x : (i : ℕ) → i ≢ STAGE → i ≢ ROUND → i ≢ RESULT → i ≢ ENTRIES → i < PLACE_HEAD → field z i ≡ field x i
  z_x i a b c d e = reset.else i a b c ∙ ends.else i d e

  z_far : (i : ℕ) → ENTRIES < i → i < PLACE_HEAD → field z i ≡ field x i
  z_far i a b = z_x i (λ e. absurd (omega (arith, e))) (λ e. absurd (omega (arith, e))) (λ e. absurd (omega (arith, e)))
      (λ e. absurd (omega (arith, e))) b

  z_low : (i : ℕ) → PART ≤ i → i < ROUND → field z i ≡ field x i
  z_low i a b = z_x i (λ e. absurd (omega (arith, e))) (λ e. absurd (omega (arith, e))) (λ e. absurd (omega (arith, e)))
      (λ e. absurd (omega (arith, e))) (omega arith)

  stage_is : field z STAGE ≡ 2
  stage_is =
      get_or-set_other v2 ROUND STAGE (field x ROUND + 1) 0 (λ e. absurd (omega (arith, e)))
      ∙ get_or-set_same v1 STAGE 2 0 (omega (arith, size_v1, ends.size, u.long))

  result_is : field z RESULT ≡ end_number x
  result_is =
      get_or-set_other v2 ROUND RESULT (field x ROUND + 1) 0 (λ e. absurd (omega (arith, e)))
      ∙ get_or-set_other v1 STAGE RESULT 2 0 (λ e. absurd (omega (arith, e)))
      ∙ get_or-set_same x1 RESULT (end_number x) 0 (omega (arith, ends.size, u.long))

  round_is : field z ROUND ≡ suc l.round
  round_is = get_or-set_same v2 ROUND (field x ROUND + 1) 0 (omega (arith, size_v2, ends.size, u.long)) ∙ omega (arith, u.round)

  z_stay : Stay x z
  z_stay = record { size = size_z ∙ ends.size; else = λ i h. go i h }
    where
      go : (i : ℕ) → ((PART ≤ i) × (i < ROUND)) ⊎ (((FIRST_CELL ≤ i) × (i < FREE))
          ⊎ (((OWNER ≤ i) × (i < MARK)) ⊎ ((CORNER ≤ i) × (i < SUM))))
          → field z i ≡ field x i
      go i (inl (a, b)) = z_low i a b
      go i (inr (inl (a, b))) = z_far i (omega arith) (omega arith)
      go i (inr (inr (inl (a, b)))) = z_far i (omega arith) (omega arith)
      go i (inr (inr (inr (a, b)))) = z_far i (omega arith) (omega arith)

  held_z : held_in z ≡ held_in x1
  held_z =
      held_same x1 z (reset.else ENTRIES (λ e. absurd (omega (arith, e))) (λ e. absurd (omega (arith, e)))
      (λ e. absurd (omega (arith, e))))
      (λ i h. reset.else i (λ e. absurd (omega (arith, e))) (λ e. absurd (omega (arith, e))) (λ e. absurd (omega (arith, e))))

  x1_same : end_number x ≡ 0 → x1 ≡ x
  x1_same e = ap (λ (b : Bool). elim b [ true ↦ x | false ↦ old_places x ]) (eq-eqb (end_number x) 0 e)

  x1_kept : end_number x ≢ 0 → x1 ≡ old_places x
  x1_kept e = ap (λ (b : Bool). elim b [ true ↦ x | false ↦ old_places x ]) (ne_eqb (end_number x) 0 e)

  before : (l.state.high ≡ (grown_of (parts P) J p l.state).1) × (l.state.high ≤ top_level
      → held_in x ≡ take most_cells (entries (parts P) J p l.state))
  unfolding Holding
  before = subst (λ (f : Phase). Holding P J p f l.state x) now st.holding

  holds : Holding P J p over s z
  unfolding Holding
  holds = (
    result_is ∙ number_is,
    (
      λ e.
          let n : end_number x ≡ 0 = sym result_is ∙ e in
          let h : l.state.high ≤ top_level = omega (arith, (result_none s.total s.high (sym number_is ∙ n)).0, s_high) in
          held_z ∙ ap held_in (x1_same n) ∙ before.1 h ∙ ap (take most_cells) (sym same_entries),
      λ e.
          held_z ∙ ap held_in (x1_kept (λ n. e (result_is ∙ n))) ∙ kept_held P J p x co
          ∙ ap (olds P J p) (sym (z_low CELLS (omega arith) (omega arith))),
    ),
  )

  lines : orders_of P co.parts_few J p [] ≡ order_of (parts P) J (ups P) (phase J.top (suc l.round)) p s
  unfolding orders_of order_of flat_map
  lines = ap (λ (f : Phase). order_of (parts P) J (ups P) f p s) (sym next)

  entered_is : round_entered x ≡ v2
  unfolding finished
  entered_is = last_round x J.top co.levels (u.round ∙ last)

  pub end_stay : Stay x (part_stepped x)
  unfolding part_stepped
  end_stay = subst (λ (w : List ℕ). Stay x (set w ROUND (field x ROUND + 1))) (sym entered_is) z_stay

  pub into_end : Standing P J p (following (parts P) (Q P J reads p) p l) (part_stepped x)
  unfolding part_stepped finished sizedb overb Spent of_marksb of_countsb
  into_end =
      subst (λ (w : List ℕ). Standing P J p (following (parts P) (Q P J reads p) p l) (set w ROUND (field x ROUND + 1))) (sym entered_is)
      (record {
        busy = turn P J reads p co.parts_few l x u x1 x1 z [] work (wrote_none P co.parts_few J p x1) reset (suc l.round) s lines
            (head_done x z u.header z_low
            (omega (
              arith,
              reset.else ENTRIES (λ e. absurd (omega (arith, e))) (λ e. absurd (omega (arith, e))) (λ e. absurd (omega (arith, e))),
              ends.few,
            )) stage_is (omega (arith, round_is, z_low LEVELS (omega arith) (omega arith), co.levels, last))
            (subst (λ (n : ℕ). (eqb n 0 || (eqb n 8 || eqb n 9)) ≡ true) (sym (result_is ∙ number_is)) (result_kind s.total s.high)))
            round_is (λ o. not_both (overb (phase J.top (suc l.round))) (ap overb next) o) (λ o. stage_is)
            (λ q j o. not_both (overb (phase J.top (suc l.round))) (ap overb next) o)
            (λ c h. z_far (RED + c) (omega arith) (omega (arith, cell_low P J p x co c h)) ∙ flags c h)
            (λ v h. z_far (SUM + v) (omega arith) (omega (arith, slot_low P J p x co v h)) ∙ sums v h)
            (λ o. (
              z_far TOTAL (omega arith) (omega arith) ∙ total_is ∙ capped_twice,
              z_far HIGH (omega arith) (omega arith) ∙ high_is,
            )) fits.sent;
        columns = columns_stay P J p x z z_stay co;
        marked = λ c h o.
            z_far (MARK + c) (omega arith) (omega (arith, cell_low P J p x co c h)) ∙ st.marked c h o
            ∙ ap (λ (f : ℕ → ℕ). f c) (sym s_given);
        no_marks = λ o c. told_none P c;
        no_counts = λ o i. added_none P i;
        spent = subst (λ (f : Phase). Spent P J f z) (sym next) tt;
        holding = subst (λ (f : Phase). Holding P J p f s z) (sym next) holds;
      })
    where
      capped_twice : s.total ≡ capped s.total
      capped_twice = omega (arith, s_total)
