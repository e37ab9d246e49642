-- The start of a part.
-- Laws: marked_else, marked_at (what setting the marks changes), start_fine (which starts are accepted), begins and begins_stay (where an
-- accepted start leads).
use Rattle.std.specs.Prelude.{◌≡◌, ◌⊎◌, ◌≢◌, Bool, ◌&&◌, ◌||◌, List, [], ltb, set}
use Rattle.std.proofs.Math.Path.{refl, sym, ap, ap₂, subst}
use Rattle.std.proofs.Common.{◌∙◌, inl, inr, ltb→lt, length-set, get_or-set_same}
use Rattle.std.proofs.Math.Bool.{true, false}
use Prim.Native.Nat.{ℕ, zero, suc, ◌+◌, ◌-◌, ◌≤◌, ◌<◌, Fin}
use Rattle.std.proofs.Math.Decide.{ℕ_discrete}
use native.Mathlib.Omega.{arith}
use Rattle.std.proofs.Math.Dec.{T, eqb}
use Rattle.std.proofs.Math.ListN.{length, get_or}
use Rattle.std.proofs.Math.Seq.{get_or-set_other}
use borrow.Author.Tests.{eq-eqb, lt-ltb, le-leb, eqb-true}
use Rattle.base.specs.Bools.{one_if, and_left, and_right, not_both, is_true}
use Rattle.base.specs.Limits.{most_cells, most_slots, most_parts}
use Rattle.base.specs.Refuse.{refuse}
use Rattle.base.specs.Answer.{Answer}
use Rattle.base.specs.Answer.{Accepted, Refused}
use Rattle.exchange.specs.Finite.{parts}
use Rattle.exchange.specs.Protocol.{at_start}
use Rattle.rounds.specs.Task.{Task, Fit, rule}
use Rattle.rounds.specs.Rounds.{marks, phase, State, is_part, red_told, sum_told, decides, starting, holdsb}
use Rattle.rounds.specs.Rounded.{overb, sizedb, endedb, phase_marks}
use Rattle.store.specs.Fields.{field, full, STAGE, PART, CELLS, LEVELS, ROUND, RESULT, ENTRIES, WRITTEN, CURSOR, BIT, FIRST_CELL}
use Rattle.store.specs.Fields.{FIRST_SLOT, OWNER, MARK, RED, HOLDERS, SUM, GIVEN}
use Rattle.store.specs.Fields.{CORNER, FIRST_ENDED, FIRST_TAKEN, FREE, most_entries}
use Rattle.store.specs.Header.{headerb, stageb}
use Rattle.store.specs.Headed.{header_is, header_yes, split_is, split_no}
use Rattle.store.specs.Fetch.{entry_count, bitb}
use Rattle.store.specs.declared.Spot.{Spot}
use Rattle.standing.specs.Walk.{queue_of, left_of, given_after, given_to, stream, spots_from}
use Rattle.standing.specs.Busy.{L, Busy, HoldsCell, HoldsSlot}
use Rattle.turns.specs.Decide.{hitb}
use Rattle.turns.specs.Start.{ownb, mark_ok, mark_at, next_mark, marks_due, mark_set, marked_from, enter_marks, start_answer, started_store}
use Rattle.turns.specs.Start.{started_in, start_after}
use Rattle.entering.specs.Columns.{Columns, MarksIn, count_before}
use Rattle.entering.specs.Fits.{Fitted}
use Rattle.entering.specs.Within.{member_low, slot_low}
use Rattle.entering.specs.Bits.{bit_none}
use Rattle.entering.specs.Lines.{part_same}
use Rattle.entering.specs.Entered.{Stay, stay_on, columns_stay, told_none, added_none}
use Rattle.entering.specs.Standing.{Standing, Idle}
use Rattle.entering.specs.Turn.{Q}
use Rattle.entering.specs.Steps.{head_running}
use Rattle.entering.specs.ToMarks.{enter_marks_lem, enter_stay, enter_keeps}

-- one mark
set_else : (x ms : List ℕ) (c j i : ℕ) → i ≢ MARK + c → field (mark_set x ms c j) i ≡ field x i
unfolding mark_set
set_else x ms c j i h = go (ownb x c && ltb j (length ms)) refl
  where
    go : (b : Bool) → ownb x c && ltb j (length ms) ≡ b → field (mark_set x ms c j) i ≡ field x i
    go true e = rw (e, mark_set) (get_or-set_other x (MARK + c) i (get_or ms j 0) 0 h)
    go false e = rw (e, mark_set)

set-size : (x ms : List ℕ) (c j : ℕ) → length (mark_set x ms c j) ≡ length x
unfolding mark_set
set-size x ms c j = go (ownb x c && ltb j (length ms)) refl
  where
    go : (b : Bool) → ownb x c && ltb j (length ms) ≡ b → length (mark_set x ms c j) ≡ length x
    go true e = rw (e, mark_set) (length-set x (MARK + c) (get_or ms j 0))
    go false e = rw (e, mark_set)

mark_few : (x ms : List ℕ) (c j : ℕ) → ownb x c ≡ true → T (mark_at x ms c j) → j < length ms
unfolding mark_at
mark_few x ms c j h t =
    let e : mark_at x ms c j ≡ (ltb j (length ms) && mark_ok x c (get_or ms j 0)) = rw (h, mark_at) in
    ltb→lt j (length ms) (and_left (ltb j (length ms)) (mark_ok x c (get_or ms j 0)) (rw e at t))

set_own : (x ms : List ℕ) (c j : ℕ) → ownb x c ≡ true → j < length ms → MARK + c < length x
    → field (mark_set x ms c j) (MARK + c) ≡ get_or ms j 0
unfolding mark_set
set_own x ms c j h k l = rw (h, lt-ltb j (length ms) k, mark_set) (get_or-set_same x (MARK + c) (get_or ms j 0) 0 l)

-- all marks
marked_size : (ms : List ℕ) (n c j : ℕ) (x : List ℕ) → length (marked_from x ms n c j) ≡ length x
unfolding marked_from
marked_size ms zero c j x = refl
marked_size ms (suc n) c j x = marked_size ms n (suc c) (next_mark x c j) (mark_set x ms c j) ∙ set-size x ms c j

marked_else : (ms : List ℕ) (n c j : ℕ) (x : List ℕ) (i : ℕ) → (i < MARK + c) ⊎ (MARK + (c + n) ≤ i)
    → field (marked_from x ms n c j) i ≡ field x i
unfolding marked_from
marked_else ms zero c j x i h = refl
marked_else ms (suc n) c j x i h = marked_else ms n (suc c) (next_mark x c j) (mark_set x ms c j) i (on h) ∙ set_else x ms c j i (not_here h)
  where
    on : (i < MARK + c) ⊎ (MARK + (c + suc n) ≤ i) → (i < MARK + suc c) ⊎ (MARK + (suc c + n) ≤ i)
    on (inl a) = inl (omega arith)
    on (inr a) = inr (omega arith)

    not_here : (i < MARK + c) ⊎ (MARK + (c + suc n) ≤ i) → i ≢ MARK + c
    not_here (inl a) e = omega (arith, e)
    not_here (inr a) e = omega (arith, e)

module _ (x₀ ms : List ℕ) where
  own_same : (x : List ℕ) → ((i : ℕ) → i < MARK → field x i ≡ field x₀ i) → (c : ℕ) → c < most_cells → ownb x c ≡ ownb x₀ c
  unfolding ownb
  own_same x h c l = ap₂ eqb (h (OWNER + c) (omega arith)) (h PART (omega arith))

  before_on : (c j : ℕ) → j ≡ count_before x₀ c → (x : List ℕ) → ownb x c ≡ ownb x₀ c → next_mark x c j ≡ count_before x₀ (suc c)
  unfolding next_mark count_before one_if
  before_on c j e x o = go (ownb x₀ c) refl
    where
      go : (b : Bool) → ownb x₀ c ≡ b → next_mark x c j ≡ count_before x₀ (suc c)
      go true f = rw (o ∙ f, next_mark) (omega (arith, e, ap one_if f))
      go false f = rw (o ∙ f, next_mark) (omega (arith, e, ap one_if f))

  next_same : (x : List ℕ) (c j : ℕ) → ownb x c ≡ ownb x₀ c → next_mark x c j ≡ next_mark x₀ c j
  unfolding next_mark
  next_same x c j o = ap (λ (b : Bool). elim b [ true ↦ suc j | false ↦ j ]) o

  marked_at : (n c j : ℕ) (x : List ℕ) → c + n ≤ most_cells → full ≤ length x → ((i : ℕ) → i < MARK → field x i ≡ field x₀ i)
      → j ≡ count_before x₀ c → marks_due x₀ ms n c j ≡ true → (d : ℕ) → c ≤ d → d < c + n → ownb x₀ d ≡ true
      → field (marked_from x ms n c j) (MARK + d) ≡ get_or ms (count_before x₀ d) 0
  unfolding marked_from marks_due
  marked_at zero c j x low long same e due d a b o = absurd (omega arith)
  marked_at (suc n) c j x low long same e due d a b o =
      let t : T (mark_at x₀ ms c j && marks_due x₀ ms n (suc c) (next_mark x₀ c j)) = rw due tt in
      let first = and_left (mark_at x₀ ms c j) (marks_due x₀ ms n (suc c) (next_mark x₀ c j)) t in
      let rest = and_right (mark_at x₀ ms c j) (marks_due x₀ ms n (suc c) (next_mark x₀ c j)) t in
      go (ℕ_discrete d c) first (marked_at n (suc c) (next_mark x c j) (mark_set x ms c j) (omega arith) (omega (arith, set-size x ms c j))
      (λ i h. set_else x ms c j i (λ z. absurd (omega (arith, z))) ∙ same i h) (before_on c j e x (own_same x same c (omega arith)))
      (ap (marks_due x₀ ms n (suc c)) (next_same x c j (own_same x same c (omega arith)))
      ∙ is_true (marks_due x₀ ms n (suc c) (next_mark x₀ c j)) rest) d)
    where
      go : Dec (d ≡ c) → T (mark_at x₀ ms c j) → (suc c ≤ d → d < suc c + n → ownb x₀ d ≡ true
          → field (marked_from (mark_set x ms c j) ms n (suc c) (next_mark x c j)) (MARK + d) ≡ get_or ms (count_before x₀ d) 0)
          → field (marked_from (mark_set x ms c j) ms n (suc c) (next_mark x c j)) (MARK + d) ≡ get_or ms (count_before x₀ d) 0
      go (no f) t r = r (omega (arith, f)) (omega arith) o
      go (yes f) t r =
          let here : ownb x c ≡ true = own_same x same c (omega arith) ∙ ap (ownb x₀) (sym f) ∙ o in
          let here₀ : ownb x₀ c ≡ true = ap (ownb x₀) (sym f) ∙ o in
          marked_else ms n (suc c) (next_mark x c j) (mark_set x ms c j) (MARK + d) (inl (omega (arith, f)))
          ∙ ap (λ (v : ℕ). field (mark_set x ms c j) (MARK + v)) f ∙ set_here here (mark_low here₀ t)
          ∙ ap (λ (v : ℕ). get_or ms v 0) (e ∙ ap (count_before x₀) (sym f))
        where
          mark_low : ownb x₀ c ≡ true → T (mark_at x₀ ms c j) → j < length ms
          mark_low h t = mark_few x₀ ms c j h t

          set_here : ownb x c ≡ true → j < length ms → field (mark_set x ms c j) (MARK + c) ≡ get_or ms j 0
          set_here h k = set_own x ms c j h k (omega arith)

refused_not : {A : Type 0} → Refused 7 ≡ Accepted → A
refused_not e = let z : ◌≡◌ {A = ℕ} 0 1 = cc in absurd (omega arith)

before_zero : (x : List ℕ) → 0 ≡ count_before x 0
unfolding count_before
before_zero x = refl

-- a store that was split has no round and no result
split_rest : (x : List ℕ) → headerb x ≡ true → field x STAGE ≡ 0 → (field x ROUND ≡ 0) × (field x RESULT ≡ 0)
split_rest x h s = go (ℕ_discrete (field x ROUND) 0)
  where
    stage : stageb x ≡ true
    stage = sym (header_yes x (header_is x (rw h tt))) ∙ h

    go : Dec (field x ROUND ≡ 0) → (field x ROUND ≡ 0) × (field x RESULT ≡ 0)
    go (yes e) = (e, eqb-true (field x RESULT) 0 (split_is x s e ∙ stage))
    go (no n) = not_both (stageb x) stage (sym (split_no x s n))

-- nothing written
no_entries : (x : List ℕ) → field x WRITTEN ≡ 0 → entry_count x ≡ 0
unfolding entry_count
no_entries x e = ap (λ (n : ℕ). elim (ltb n most_entries) [ true ↦ n | false ↦ most_entries ]) e

empty_queue : (x : List ℕ) → field x WRITTEN ≡ 0 → field x CURSOR ≡ 0 → ((q : ℕ) → q < most_parts → field x (GIVEN + q) ≡ 0)
    → (queue_of x ≡ []) × ((q : ℕ) → q < most_parts → given_after (given_to x) (left_of x) q ≡ 0)
unfolding queue_of left_of spots_from stream given_after
empty_queue x w c g =
    let z : entry_count x - field x CURSOR ≡ 0 = omega (arith, no_entries x w, c) in
    let e : left_of x ≡ [] = ap (λ (n : ℕ). spots_from x n (field x CURSOR) (field x BIT)) z in
    (ap (stream x (given_to x)) e, λ q h. ap (λ (l : List Spot). given_after (given_to x) l q) e ∙ g q h)

-- which starts are accepted
module _ (x ms : List ℕ) (long : full ≤ length x) (head : headerb x ≡ true) (stage : field x STAGE ≡ 0) where
  accepted : start_answer x ms ≡ refuse 7 (marks_due x ms (field x CELLS) 0 0) Accepted
  unfolding start_answer refuse
  accepted = rw (le-leb full (length x) long, head, eq-eqb (field x STAGE) 0 stage, start_answer)

  pub start_yes : marks_due x ms (field x CELLS) 0 0 ≡ true → start_answer x ms ≡ Accepted
  unfolding refuse
  start_yes e = accepted ∙ rw e

  pub start_fine : start_answer x ms ≡ Accepted → marks_due x ms (field x CELLS) 0 0 ≡ true
  unfolding refuse
  start_fine e = go (marks_due x ms (field x CELLS) 0 0) refl
    where
      go : (b : Bool) → marks_due x ms (field x CELLS) 0 0 ≡ b → marks_due x ms (field x CELLS) 0 0 ≡ true
      go true f = f
      go false f =
          let z : start_answer x ms ≡ Refused 7 = accepted ∙ rw f in
          refused_not (sym z ∙ e)

  start_after_lem : start_answer x ms ≡ Accepted → start_after x ms ≡ started_store x ms
  unfolding start_after started_in
  start_after_lem e = ap (λ (a : Answer). started_in a x ms) e

module _ (P : ℕ) (J : Task (Fin P)) (fit : Fit J) (reads : Fin P → List ℕ → ℕ → ℕ) (p : Fin P) (place : ℕ → ℕ) (takes : List ℕ → Bool)
    (x : List ℕ) (idle : Idle P J p place takes x) (ms : List ℕ) (fine : takes ms ≡ true)
    (read : (c : ℕ) → HoldsCell P J p c → J.owner c ≡ p → reads p ms c ≡ get_or ms (place c) 0)
    (fits : Fitted P J p (at_start (parts P) (Q P J reads p) p ms)) where
  abbrev co : Columns P J p x
  co = idle.columns

  abbrev m : List ℕ
  m = marked_from x ms (field x CELLS) 0 0

  -- the store with its marks, running
  abbrev x0 : List ℕ
  x0 = set m STAGE 1

  due : marks_due x ms (field x CELLS) 0 0 ≡ true
  due = idle.marks ms ∙ fine

  else : (i : ℕ) → i ≢ STAGE → (i < MARK) ⊎ (MARK + most_cells ≤ i) → field x0 i ≡ field x i
  else i h (inl a) = get_or-set_other m STAGE i 1 0 h ∙ marked_else ms (field x CELLS) 0 0 x i (inl (omega arith))
  else i h (inr a) = get_or-set_other m STAGE i 1 0 h ∙ marked_else ms (field x CELLS) 0 0 x i (inr (omega (arith, co.cells_few)))

  size : length x0 ≡ length x
  size = length-set m STAGE 1 ∙ marked_size ms (field x CELLS) 0 0 x

  below : (i : ℕ) → PART ≤ i → i < MARK → field x0 i ≡ field x i
  below i a b = else i (λ e. absurd (omega (arith, e))) (inl b)

  stay : Stay x x0
  stay = record { size = size; else = λ i h. go i h }
    where
      go : (i : ℕ) → ((PART ≤ i) × (i < ROUND)) ⊎ (((FIRST_CELL ≤ i) × (i < FREE))
          ⊎ (((OWNER ≤ i) × (i < MARK)) ⊎ ((CORNER ≤ i) × (i < SUM))))
          → field x0 i ≡ field x i
      go i (inl (a, b)) = below i a (omega arith)
      go i (inr (inl (a, b))) = below i (omega arith) (omega arith)
      go i (inr (inr (inl (a, b)))) = below i (omega arith) (omega arith)
      go i (inr (inr (inr (a, b)))) = else i (λ e. absurd (omega (arith, e))) (inr (omega arith))

  abbrev co0 : Columns P J p x0
  co0 = columns_stay P J p x x0 stay co

  stage_is : field x0 STAGE ≡ 1
  stage_is = get_or-set_same m STAGE 1 0 (omega (arith, marked_size ms (field x CELLS) 0 0 x, co.long))

  marked : MarksIn P J p (reads p ms) x0
  unfolding ownb
  marked c h o =
      let own : ownb x c ≡ true = ap₂ eqb (co.owner c h) co.part ∙ part_same P (J.owner c) p o in
      let low : c < field x CELLS = member_low P J p x co h.0 c h.1 in
      get_or-set_other m STAGE (MARK + c) 1 0 (λ e. absurd (omega (arith, e)))
      ∙ marked_at x ms (field x CELLS) 0 0 x (omega (arith, co.cells_few)) co.long (λ i l. refl) first due c (omega arith) (omega arith)
      own
      ∙ ap (λ (v : ℕ). get_or ms v 0) (idle.places c h o) ∙ sym (read c h o)
    where
      first : 0 ≡ count_before x 0
      first = before_zero x

  no_round : (field x ROUND ≡ 0) × (field x RESULT ≡ 0)
  no_round = split_rest x idle.header idle.stage

  -- where the part stands before its first work
  s0 : State
  s0 = record { given = reads p ms; red = λ c. false; own = λ j. 0; sum = λ j. 0; total = 0; high = 0 }

  abbrev l0 : L P J
  l0 = record { round = 0; state = s0; before = λ q. 0; got = λ q. []; sent = λ q. 0; queue = [] }

  here : phase J.top 0 ≡ marks 0
  here = phase_marks J.top 0 (omega arith)

  flags : (c : ℕ) → HoldsCell P J p c → field x0 (RED + c) ≡ 0
  flags c h = else (RED + c) (λ e. absurd (omega (arith, e))) (inr (omega arith)) ∙ idle.flags c h

  sums : (j : ℕ) → HoldsSlot P J p j → field x0 (SUM + j) ≡ 0
  sums j h = else (SUM + j) (λ e. absurd (omega (arith, e))) (inr (omega arith)) ∙ idle.sums j h

  nothing : (queue_of x0 ≡ []) × ((q : ℕ) → q < most_parts → given_after (given_to x0) (left_of x0) q ≡ 0)
  nothing =
      empty_queue x0 (below WRITTEN (omega arith) (omega arith) ∙ idle.written) (below CURSOR (omega arith) (omega arith) ∙ idle.cursor)
      (λ q h. below (GIVEN + q) (omega arith) (omega arith) ∙ idle.no_counts (GIVEN + q) (omega arith) (omega arith))

  busy0 : Busy P J p l0 x0
  unfolding overb sizedb red_told sum_told endedb one_if s0
  busy0 = record {
    long = omega (arith, size, co.long);
    header = head_running x x0 idle.header (λ i a b. below i a (omega arith))
        (omega (arith, below ENTRIES (omega arith) (omega arith), (header_is x (rw idle.header tt)).entries_most)) stage_is
        (omega (arith, below ROUND (omega arith) (omega arith), no_round.0)) (below RESULT (omega arith) (omega arith) ∙ no_round.1);
    running = λ o. stage_is;
    done = λ o. not_both (overb (phase J.top 0)) o (ap overb here);
    part = co0.part;
    many = co0.many;
    round = below ROUND (omega arith) (omega arith) ∙ no_round.0;
    taken = λ q.
        let h : q.0 < P = q.1 in
        below (FIRST_TAKEN + q.0) (omega arith) (omega (arith, co.parts_few))
        ∙ idle.no_counts (FIRST_TAKEN + q.0) (omega arith) (omega (arith, co.parts_few));
    ends = λ q i o.
        let h : q.0 < P = q.1 in
        below (FIRST_ENDED + q.0) (omega arith) (omega (arith, co.parts_few))
        ∙ idle.no_counts (FIRST_ENDED + q.0) (omega arith) (omega (arith, co.parts_few));
    queue = nothing.0;
    sent = λ q. let h : q.0 < P = q.1 in nothing.1 q.0 (omega (arith, co.parts_few));
    cursor =
        (omega (arith, below CURSOR (omega arith) (omega arith), idle.cursor), λ e. below BIT (omega arith) (omega arith) ∙ idle.bit);
    cells = λ c h. (
      subst (λ (n : ℕ). c < n) (sym (below CELLS (omega arith) (omega arith))) (member_low P J p x co h.0 c h.1),
      λ e. absurd (omega (arith, co0.owner c h, e)),
    );
    slots = λ j h. (slot_low P J p x co j h, λ e. holder_there j h e);
    red = λ c h. flags c h ∙ ap one_if (sym (told_none P c));
    sum = λ j h. sums j h ∙ omega (arith, added_none P j);
    total = λ o. not_both (sizedb (phase J.top 0)) o (ap sizedb here);
    high = λ o. not_both (sizedb (phase J.top 0)) o (ap sizedb here);
  }
    where
      holder_there : (j : ℕ) → HoldsSlot P J p j → field x0 (HOLDERS + j) ≡ 0 → ⊥
      holder_there j (k, t) e =
          let h : holdsb (parts P) J p k j ≡ true = is_true (holdsb (parts P) J p k j) t in
          let b : bitb (field x0 (HOLDERS + j)) p.0 ≡ true = co0.holders k j (co0.held_slot k j h) h p ∙ h in
          not_both (bitb 0 p.0) (ap (λ (v : ℕ). bitb v p.0) (sym e) ∙ b) (bit_none p.0)

  hits : (i : ℕ) → HoldsSlot P J p i → hitb x0 i ≡ false
  unfolding hitb
  hits i h = rw (sums i h) (and_none (ltb i most_slots))
    where
      and_none : (b : Bool) → (b && false) ≡ false
      and_none true = refl
      and_none false = refl

  no_flags : (c : ℕ) → HoldsCell P J p c → field x0 (RED + c) ≡ one_if false
  unfolding one_if
  no_flags c h = flags c h

  first_red : (c : ℕ) → (starting (parts P) J p (reads p ms)).red c
      ≡ (false || (decides (parts P) J p (J.top - 0) c && rule J (λ i. false) (reads p ms) c))
  unfolding starting
  first_red c =
      let z : J.top ≡ J.top - 0 = omega arith in
      ap (λ (k : ℕ). decides (parts P) J p k c && rule J (λ i. false) (reads p ms) c) z

  can_start : start_answer x ms ≡ Accepted
  can_start = start_yes x ms co.long idle.header idle.stage due

  abbrev z : List ℕ
  z = enter_marks x0 (J.top - 0)

  after_is : start_after x ms ≡ z
  unfolding started_store
  after_is =
      let lv : field x LEVELS - 1 ≡ J.top - 0 = omega (arith, co.levels) in
      start_after_lem x ms co.long idle.header idle.stage can_start ∙ ap (enter_marks x0) lv

  spent : field x0 WRITTEN + field x0 (FIRST_CELL + suc (J.top - 0)) + field x0 (FIRST_SLOT + suc (J.top - 0))
      ≤ field x0 CELLS + field x0 (FIRST_SLOT + suc J.top) + (0 + 0)
  spent =
      let z : suc (J.top - 0) ≡ suc J.top = omega arith in
      rw z (omega (arith, below WRITTEN (omega arith) (omega arith), idle.written, co0.last_cell))

  live : overb (phase J.top 0) ≡ false
  unfolding overb
  live = ap overb here

  no_ends : (q : Fin P) → is_part (parts P) q p ≡ false → field x0 (FIRST_ENDED + q.0) ≡ 0
  unfolding one_if endedb
  no_ends q j = busy0.ends q j live

  keep : (i : ℕ) → i ≢ WRITTEN → i < RED → field z i ≡ field x0 i
  unfolding starting
  keep = enter_keeps P J fit reads p l0 x0 busy0 co0 (reads p ms) marked (λ i. false) hits (λ c. false) no_flags 0 (omega arith) 0 here
      (omega arith) (starting (parts P) J p (reads p ms)) first_red (λ i h. sums i h) refl no_ends spent fits.sent

  round_is : field z ROUND ≡ 0
  round_is = keep ROUND (λ e. absurd (omega (arith, e))) (omega arith) ∙ busy0.round

  stage_now : field z STAGE ≡ 1
  stage_now = keep STAGE (λ e. absurd (omega (arith, e))) (omega arith) ∙ stage_is

  result_is : field z RESULT ≡ 0
  result_is = keep RESULT (λ e. absurd (omega (arith, e))) (omega arith) ∙ below RESULT (omega arith) (omega arith) ∙ no_round.1

  pub begins_stay : Stay x (start_after x ms)
  unfolding starting
  begins_stay =
      subst (Stay x) (sym after_is) (stay_on x x0 z stay
      (enter_stay P J fit reads p l0 x0 busy0 co0 (reads p ms) marked (λ i. false) hits (λ c. false) no_flags 0 (omega arith) 0 here
      (omega arith) (starting (parts P) J p (reads p ms)) first_red (λ i h. sums i h) refl no_ends spent fits.sent
      z (record { size = refl; else = λ i a b c. refl }) round_is stage_now result_is))

  pub begins : (start_answer x ms ≡ Accepted) × Standing P J p (at_start (parts P) (Q P J reads p) p ms) (start_after x ms)
  unfolding starting
  begins = (
    can_start,
    subst (Standing P J p (at_start (parts P) (Q P J reads p) p ms)) (sym after_is)
        (enter_marks_lem P J fit reads p l0 x0 busy0 co0 (reads p ms) marked (λ i. false) hits (λ c. false) no_flags 0 (omega arith) 0 here
        (omega arith) (starting (parts P) J p (reads p ms)) first_red (λ i h. sums i h) refl no_ends spent fits.sent
        z (record { size = refl; else = λ i a b c. refl }) round_is stage_now result_is),
  )
