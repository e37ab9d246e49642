-- What all parts of a split come to when they are done.
-- Laws: any_marks (serial marks can be started with), starts_serial (the marks of the starts are the serial ones), serial_is (the
-- serial step's answer from the limits), result_is (each part ended
-- with its number), says_accepted and says_refused (and says so), held_new (what a part holds where the step is accepted), held_old (where
-- it is not).
use Rattle.std.specs.Prelude.{◌≡◌, ◌≢◌, Bool, ◌&&◌, not, ltb, leb, take, ℤ}
use Rattle.std.proofs.Math.Path.{refl, sym, ap, subst}
use Rattle.std.proofs.Common.{◌∙◌, ap₂, inl}
use Rattle.std.proofs.Math.Bool.{true, false}
use mathlib.Core.List.{List, [], ◌∷◌, ◌++◌, map, flat_map}
use Prim.Native.Nat.{ℕ, zero, suc, ◌+◌, ◌≤◌, ◌<◌, Fin}
use native.Mathlib.Omega.{arith}
use Rattle.std.proofs.Math.Dec.{T, eqb, leb→le}
use Rattle.std.proofs.Math.ListN.{length, get_or}
use Rattle.std.proofs.Math.Seq.{take_all}
use Rattle.base.specs.Limits.{most_cells, most_levels}
use Rattle.base.specs.Bools.{and_right, and_both, is_true}
use Rattle.base.specs.Every.{All}
use Rattle.base.specs.Each.{all_filter}
use Rattle.base.specs.Fours.{fours}
use Rattle.base.specs.Range.{range}
use Rattle.base.specs.Refuse.{refuse, and_then, code_of, passed}
use Rattle.base.specs.Answer.{Accepted, Refused}
use Rattle.mesh.specs.Coarse.{coarse_corner_count}
use Rattle.mesh.specs.Step.{step_table}
use Rattle.mesh.specs.Answers.{table_answer, markb, marksb, new_table, limits_answer, marked_answer}
use Rattle.exchange.specs.Calls.{Lawful}
use Rattle.exchange.specs.Finite.{parts}
use Rattle.rounds.specs.Rounds.{State, is_part}
use Rattle.rounds.specs.Enough.{Known}
use Rattle.rounds.specs.Rounded.{phase_over}
use Rattle.rounds.proofs.Totals.{enough_last}
use Rattle.rounds.specs.Upward.{ups}
use Rattle.parts.specs.Owners.{family_of}
use Rattle.parts.specs.Held.{Entry, masterb, ghostb, entry_of, entries_of}
use Rattle.parts.specs.Starts.{masters_on, startb, place_on, put_together, marks_on}
use Rattle.splitting.specs.Starts.{each_at, together_is, together_fits}
use Rattle.shares.specs.Grow.{entries}
use Rattle.shares.specs.Settled.{Settled, entries_in}
use Rattle.merging.specs.Limits.{end_of}
use Rattle.merging.specs.Totals.{grown_of, grown_plain}
use Rattle.merging.specs.Result.{settle, share_few}
use Rattle.merging.specs.Run.{nth_part, number_of, named, marks_from, starts_together, final}
use Rattle.merging.proofs.Run.{run_answer_lem}
use Rattle.store.specs.Fields.{field, CELLS, RESULT}
use Rattle.split.specs.Columns.{slot_of}
use Rattle.split.specs.Split.{split_answer}
use Rattle.standing.specs.Busy.{pack}
use Rattle.entering.specs.Entered.{Stay}
use Rattle.entering.specs.Standing.{result_of, old_entry, olds, Holding, Standing}
use Rattle.tasks.specs.Edges.{slots_on}
use Rattle.tasks.specs.Holders.{split_task, part_numbered, owner_ranged, family_ranged}
use Rattle.tasks.specs.Accepted.{Splits, split_store_lem, split_table}
use Rattle.tasks.proofs.Accepted.{split_slots}
use Rattle.held.specs.Held.{held_in}
use Rattle.held.specs.Progress as progress
use Rattle.outcome.specs.Program.{act, phase_of}
use Rattle.agreement.specs.Terms.{Calls, marks_given, serial_marks}
use Rattle.held.specs.Says.{says_of}
use Rattle.agreement.specs.Says.{says_done, says_ended}
use Rattle.agreement.specs.Exchanges.{fit, reads}
use Rattle.agreement.specs.Agreed.{g, split_store, world, J, R, input_of, store_of, ending, at_end_lem, phase_done, input_fine}

-- any marks that the serial step takes can be started with: each part gets those of its masters
each-length : (ss ms : List ℕ) → T (marksb ss ms) → length ms ≡ length ss
unfolding marksb
each-length [] [] t = refl
each-length [] (m ∷ ms) t = absurd t
each-length (s ∷ ss) [] t = absurd t
each-length (s ∷ ss) (m ∷ ms) t = ap suc (each-length ss ms (and_right (markb s m) (marksb ss ms) t))

each_chosen : (ss ms l : List ℕ) → T (marksb ss ms) → All (λ c. c < length ss) l
    → T (marksb (map (λ c. get_or ss c 0) l) (map (λ c. get_or ms c 0) l))
unfolding marksb
each_chosen ss ms [] t a = tt
each_chosen ss ms (c ∷ l) t a =
    and_both (markb (get_or ss c 0) (get_or ms c 0)) (marksb (map (λ c. get_or ss c 0) l) (map (λ c. get_or ms c 0) l))
    (each_at ss ms t c a.0) (each_chosen ss ms l t a.1)

all_below : (m a b : ℕ) → a + m ≤ b → All (λ c. c < b) (range a m)
unfolding range
all_below zero a b h = tt
all_below (suc m) a b h = (omega arith, all_below m (suc a) b (omega arith))

pub any_marks : (ss os ms : List ℕ) → length os ≡ length ss → T (marksb ss ms)
    → ((p : ℕ) → T (startb ss os p (marks_on os ms p))) × (put_together os (marks_on os ms) ≡ ms)
unfolding startb marks_on masters_on
any_marks ss os ms e t = (
  λ p. each_chosen ss ms (masters_on os p) t
      (all_filter (masterb os p) (λ c. c < length ss) (range 0 (length os)) (all_below (length os) 0 (length ss) (omega arith))),
  together_is os ms (each-length ss ms t ∙ sym e),
)

-- the number of a result
result_code : (t h : ℕ) → result_of t h ≡ code_of (end_of t h)
unfolding result_of end_of code_of refuse
result_code t h = go (leb most_levels h) (leb t most_cells)
  where
    go : (a b : Bool) → elim a [ true ↦ 8 | false ↦ elim b [ true ↦ 0 | false ↦ 9 ] ] ≡ code_of (refuse 8 (not a) (refuse 9 b Accepted))
    go true b = refl
    go false true = refl
    go false false = refl

flat_agree : (f h : ℕ → List Entry) (m a : ℕ) → ((c : ℕ) → a ≤ c → c < a + m → f c ≡ h c) → flat_map f (range a m) ≡ flat_map h (range a m)
unfolding range flat_map
flat_agree f h zero a e = refl
flat_agree f h (suc m) a e =
    ap₂ ◌++◌ (e a (omega arith) (omega arith)) (flat_agree f h m (suc a) (λ c i j. e c (omega arith) (omega arith)))

-- a part's old masters and ghosts are those of the table
module _ (Q n : ℕ) (qs : List (List ℕ)) (ss os : List ℕ) (g : Splits Q n qs ss os) (p : Fin (suc Q)) where
  old_is : (c : ℕ) → c < length ss → old_entry (suc Q) (split_task Q n qs ss os) p c ≡ entry_of n qs ss os (suc p.0) c
  unfolding old_entry entry_of masterb ghostb
  old_is c h =
      let (a, b) = owner_ranged Q n qs ss os g.sound g.owners c h in
      let (d, e) = family_ranged Q n qs ss os g.sound g.owners c h in
      go (eqb (get_or os c 0) (suc p.0)) refl (eqb (family_of n qs ss os c) (suc p.0)) refl
      (part_numbered Q (get_or os c 0) p a b) (part_numbered Q (family_of n qs ss os c) p d e)
    where
      go : (u : Bool) → eqb (get_or os c 0) (suc p.0) ≡ u → (v : Bool) → eqb (family_of n qs ss os c) (suc p.0) ≡ v
          → is_part (parts (suc Q)) (nth_part Q (get_or os c 0)) p ≡ eqb (get_or os c 0) (suc p.0)
          → is_part (parts (suc Q)) (nth_part Q (family_of n qs ss os c)) p ≡ eqb (family_of n qs ss os c) (suc p.0)
          → old_entry (suc Q) (split_task Q n qs ss os) p c ≡ entry_of n qs ss os (suc p.0) c
      go true i v j x y = rw (x ∙ i, i, old_entry, entry_of)
      go false i true j x y = rw (x ∙ i, y ∙ j, old_entry, i, entry_of, ghostb, i, j)
      go false i false j x y = rw (x ∙ i, y ∙ j, old_entry, i, entry_of, ghostb, i, j)

  olds_are : olds (suc Q) (split_task Q n qs ss os) p (length ss) ≡ entries_of n qs ss os (suc p.0)
  unfolding olds entries_of
  olds_are = go (length ss) 0 (omega arith)
    where
      go : (m a : ℕ) → a + m ≤ length ss
          → flat_map (old_entry (suc Q) (split_task Q n qs ss os) p) (range a m) ≡ flat_map (entry_of n qs ss os (suc p.0)) (range a m)
      go m a h =
          flat_agree (old_entry (suc Q) (split_task Q n qs ss os) p) (entry_of n qs ss os (suc p.0)) m a (λ c i j. old_is c (omega arith))

-- the marks of the starts are the serial ones
module _ (ps : List ℤ) (ts ss : List ℕ) (Q : ℕ) (os b : List ℕ) (behind : ℕ → List ℕ)
    (e : split_answer ps ts ss (suc Q) os b ≡ Accepted) (cs : Calls) where
  given_is : (p : Fin (suc Q)) → marks_given os cs (world ps ts ss Q os b behind e) (suc p.0) ≡ input_of ps ts ss Q os b behind e cs p
  unfolding marks_given
  given_is p = refl

  pub starts_serial : (p : Fin (suc Q)) (c : ℕ) → nth_part Q (get_or os c 0) ≡ p
      → reads Q (coarse_corner_count ps) (fours ts) ss os (g ps ts ss Q os b behind e) p (input_of ps ts ss Q os b behind e cs p) c
      ≡ get_or (serial_marks os cs (world ps ts ss Q os b behind e)) c 0
  unfolding serial_marks marks_from
  starts_serial p c h =
      ap (λ (l : List ℕ). elim (ltb c (length os) && masterb os (number_of p) c) [ true ↦ get_or l (place_on os c) 0 | false ↦ 0 ])
      (sym (given_is p))
      ∙ starts_together os (marks_given os cs (world ps ts ss Q os b behind e)) Q (coarse_corner_count ps) (fours ts) ss
      (g ps ts ss Q os b behind e).owners p c h

module _ (ps : List ℤ) (ts ss : List ℕ) (Q : ℕ) (os b : List ℕ) (behind : ℕ → List ℕ)
    (e : split_answer ps ts ss (suc Q) os b ≡ Accepted) (cs : Calls)
    (lawful : Lawful act cs (world ps ts ss Q os b behind e))
    (done : (p : Fin (suc Q)) → phase_of (store_of ps ts ss Q os b behind e cs p) ≡ suc (R ps ts ss Q os b behind e).rounds) where
  abbrev nn : ℕ
  nn = coarse_corner_count ps

  abbrev cells : List (List ℕ)
  cells = fours ts

  abbrev gg : Splits Q nn cells ss os
  gg = g ps ts ss Q os b behind e

  abbrev pub ms : List ℕ
  ms = serial_marks os cs (world ps ts ss Q os b behind e)

  abbrev input : Fin (suc Q) → List ℕ
  input = input_of ps ts ss Q os b behind e cs

  pub starts : (p : Fin (suc Q)) (c : ℕ) → nth_part Q (get_or os c 0) ≡ p → reads Q nn cells ss os gg p (input p) c ≡ get_or ms c 0
  starts = starts_serial ps ts ss Q os b behind e cs

  -- what each part knows after the rounds
  abbrev last : Fin (suc Q) → State
  last = final Q nn cells ss ms gg.four gg.mesh gg.sound os gg.owners (slot_of nn cells ss) (slots_on nn cells ss)
      (split_slots Q nn cells ss os gg) (ups (suc Q)) (pack (suc Q) (J ps ts ss Q os b behind e)) (reads Q nn cells ss os gg) input starts

  pub known : (p : Fin (suc Q))
      → Known (parts (suc Q)) (J ps ts ss Q os b behind e) (λ c. get_or ms c 0) (suc (J ps ts ss Q os b behind e).top) p (last p)
  known p =
      enough_last (suc Q) (J ps ts ss Q os b behind e) (grown_of (parts (suc Q)) (J ps ts ss Q os b behind e))
      (grown_plain (parts (suc Q)) (J ps ts ss Q os b behind e))
      (ups (suc Q)) (pack (suc Q) (J ps ts ss Q os b behind e)) (reads Q nn cells ss os gg) input p (fit Q nn cells ss os gg)
      (λ c. get_or ms c 0)
      starts

  -- the split table after the rounds
  abbrev pub X : Settled (parts (suc Q))
  X =
      settle (parts (suc Q)) nn cells ss ms gg.four gg.mesh gg.sound (suc Q) os gg.owners (slot_of nn cells ss)
      (slots_on nn cells ss)
      (split_slots Q nn cells ss os gg) (nth_part Q) number_of (named Q) last known

  -- THE SERIAL ANSWER
  table_accepted : table_answer ps ts ss ≡ Accepted
  table_accepted = split_table ps ts ss Q os b e

  marks_fit : marksb ss ms ≡ true
  unfolding serial_marks
  marks_fit =
      is_true (marksb ss ms) (together_fits nn cells ss (suc Q) os (marks_given os cs (world ps ts ss Q os b behind e)) gg.owners
      each_fits)
    where
      each_fits : (q : ℕ) → 1 ≤ q → q ≤ suc Q → T (startb ss os q (marks_given os cs (world ps ts ss Q os b behind e) q))
      each_fits zero a c = absurd (omega arith)
      each_fits (suc j) a c =
          let p : Fin (suc Q) = (j, omega arith) in
          rw (given_is ps ts ss Q os b behind e cs (j, omega arith), input_fine ps ts ss Q os b behind e cs lawful (j, omega arith)) tt

  pub serial_is : marked_answer ps ts ss ms ≡ limits_answer nn cells ss ms
  unfolding marked_answer and_then refuse
  serial_is = rw (table_accepted, marks_fit, marked_answer)

  ended_is : (p : Fin (suc Q)) → end_of (last p).total (last p).high ≡ marked_answer ps ts ss ms
  unfolding limits_answer
  ended_is p =
      run_answer_lem Q nn cells ss ms gg.four gg.mesh gg.sound os gg.owners (slot_of nn cells ss) (slots_on nn cells ss)
      (split_slots Q nn cells ss os gg) (ups (suc Q)) (pack (suc Q) (J ps ts ss Q os b behind e)) (reads Q nn cells ss os gg) input starts p
      ∙ sym serial_is

  -- the store of a done part
  abbrev x : Fin (suc Q) → List ℕ
  x = store_of ps ts ss Q os b behind e cs

  pub end_stands : (p : Fin (suc Q)) → Standing (suc Q) (J ps ts ss Q os b behind e) p
      (ending ps ts ss Q os b behind e cs lawful p (at_end_lem ps ts ss Q os b behind e cs lawful p (done p)).0) (x p)
  end_stands p = (at_end_lem ps ts ss Q os b behind e cs lawful p (done p)).1

  pub split_stays : (p : Fin (suc Q)) → Stay (split_store ps ts ss Q os b behind e p) (x p)
  split_stays p = (at_end_lem ps ts ss Q os b behind e cs lawful p (done p)).2

  holds : (p : Fin (suc Q)) → (field (x p) RESULT ≡ result_of (last p).total (last p).high)
      × ((field (x p) RESULT ≡ 0 → held_in (x p) ≡ take most_cells (entries (parts (suc Q)) (J ps ts ss Q os b behind e) p (last p)))
      × (field (x p) RESULT ≢ 0 → held_in (x p) ≡ olds (suc Q) (J ps ts ss Q os b behind e) p (field (x p) CELLS)))
  unfolding Holding
  holds p =
      subst (λ f. Holding (suc Q) (J ps ts ss Q os b behind e) p f (last p) (x p)) (phase_over (J ps ts ss Q os b behind e).top)
      (end_stands p).holding

  -- EACH PART ENDED WITH THE SERIAL STEP'S NUMBER
  pub result_is : (p : Fin (suc Q)) → field (x p) RESULT ≡ code_of (marked_answer ps ts ss ms)
  result_is p = (holds p).0 ∙ result_code (last p).total (last p).high ∙ ap code_of (ended_is p)

  -- and says so
  says : (p : Fin (suc Q)) → (field (x p) RESULT ≡ 0 → says_of (x p) ≡ progress.Done)
      × ((k : ℕ) → k ≢ 0 → field (x p) RESULT ≡ k → says_of (x p) ≡ progress.Ended k)
  says p =
      let u = (end_stands p).busy in
      let s = phase_done ps ts ss Q os b behind e cs lawful p (done p) in
      (says_done (x p) u.long u.header s, says_ended (x p) u.long u.header s)

  module _ (yes : marked_answer ps ts ss ms ≡ Accepted) where
    pub says_accepted : (p : Fin (suc Q)) → says_of (x p) ≡ progress.Done
    unfolding code_of
    says_accepted p = (says p).0 (result_is p ∙ ap code_of yes)

    pub limits : (length (step_table nn cells ss ms) ≤ most_levels) × (length (new_table nn cells ss ms) ≤ most_cells)
    unfolding limits_answer
    limits =
        let t : limits_answer nn cells ss ms ≡ Accepted = sym serial_is ∙ yes in
        let (a, r) =
        passed 8 (leb (length (step_table nn cells ss ms)) most_levels)
        (refuse 9 (leb (length (new_table nn cells ss ms)) most_cells) Accepted) t in (
          leb→le (length (step_table nn cells ss ms)) most_levels a,
          leb→le (length (new_table nn cells ss ms)) most_cells (passed 9 (leb (length (new_table nn cells ss ms)) most_cells) Accepted r).0,
        )

    pub held_new : (p : Fin (suc Q)) → held_in (x p) ≡ entries_in X p
    unfolding code_of
    held_new p =
        let z : field (x p) RESULT ≡ 0 = result_is p ∙ ap code_of yes in
        let few : length (entries_in X p) ≤ length (new_table nn cells ss ms) =
        share_few (parts (suc Q)) nn cells ss ms gg.four gg.mesh gg.sound (suc Q) os gg.owners (slot_of nn cells ss)
        (slots_on nn cells ss) (split_slots Q nn cells ss os gg) (nth_part Q) number_of (named Q) last known limits.0 limits.1 p in
        (holds p).1.0 z ∙ take_all most_cells (entries_in X p) (omega (arith, few, limits.1))

  pub says_refused : (k : ℕ) → marked_answer ps ts ss ms ≡ Refused (suc k) → (p : Fin (suc Q)) → says_of (x p) ≡ progress.Ended (suc k)
  unfolding code_of
  says_refused k f p = (says p).1 (suc k) (λ z. omega arith) (result_is p ∙ ap code_of f)

  pub held_old : (k : ℕ) → marked_answer ps ts ss ms ≡ Refused (suc k) → (p : Fin (suc Q))
      → held_in (x p) ≡ entries_of nn cells ss os (suc p.0)
  unfolding code_of
  held_old k f p =
      let z : field (x p) RESULT ≢ 0 = (λ y. absurd (omega (arith, y, result_is p ∙ ap code_of f))) in
      let c : field (x p) CELLS ≡ length ss = (split_stays p).else CELLS (inl (omega arith, omega arith)) ∙ first_cells p in
      (holds p).1.1 z ∙ ap (olds (suc Q) (J ps ts ss Q os b behind e) p) c ∙ olds_are Q nn cells ss os gg p
    where
      first_cells : (p : Fin (suc Q)) → field (split_store ps ts ss Q os b behind e p) CELLS ≡ length ss
      first_cells p = (split_store_lem ps ts ss Q os b e (behind (suc p.0)) p).cells
