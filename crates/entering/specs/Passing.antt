-- Fetching and handing over on a store that stands at a place.
-- Laws: fetch_keeps (what a fetch leaves), fetched and fetch_stay (where a fetch leads), handed and
-- hand_stay (where a message that is taken leads).
use Rattle.std.specs.Prelude.{◌≡◌, ◌⊎◌, ◌≢◌, Bool, List, ◌∷◌, T, eqb, ltb}
use Rattle.std.proofs.Math.Path.{refl, ap}
use Rattle.std.proofs.Common.{sym, ◌∙◌, inl, inr}
use Rattle.std.proofs.Math.Bool.{true, false}
use Prim.Native.Nat.{ℕ, suc, ◌+◌, ◌-◌, ◌≤◌, ◌<◌, Fin}
use native.Mathlib.Omega.{arith}
use Rattle.std.proofs.Math.Dec.{ltb→lt}
use Rattle.std.proofs.Math.ListN.{length}
use Rattle.std.proofs.lemmas.List.Edits.{sets}
use Rattle.base.specs.Bools.{and_right}
use Rattle.base.specs.Limits.{most_levels}
use Rattle.base.specs.Answer.{Accepted}
use Rattle.exchange.specs.Finite.{parts}
use Rattle.exchange.specs.Protocol.{with_queue, with_body}
use Rattle.rounds.specs.Task.{Task}
use Rattle.rounds.specs.Rounds.{Body, Phase, marks, counts, totals, over, phase, State}
use Rattle.rounds.specs.Rounded.{wholeb}
use Rattle.store.specs.Fields.{field, CELLS, RESULT, ENTRIES, WRITTEN, FIRST_CELL, FIRST_SLOT, MARK}
use Rattle.store.specs.Fields.{BIT, CODE, CORNER, CURSOR, FIRST_TAKEN, FREE, GIVEN, OWNER, PART, PLACE_HEAD, RED, ROUND, SUM, TOTAL}
use Rattle.store.specs.Fetched.{Message}
use Rattle.store.specs.Fetch.{fetch_refusal, next_to_give, givesb, fetch_answer, fetch_bytes, fetch_after}
use Rattle.store.specs.Hand.{hand_answer, hand_after}
use Rattle.standing.specs.Walk.{passed_else, passed_length}
use Rattle.standing.specs.Busy.{L, pack}
use Rattle.standing.proofs.Busy.{fetch_gives}
use Rattle.standing.proofs.Absorbs.{hand_does, hand-length, hand_else}
use Rattle.held.specs.Held.{held_in}
use Rattle.entering.specs.Fits.{Fitted}
use Rattle.entering.specs.Within.{cell_low}
use Rattle.entering.specs.Entered.{Stay, columns_stay}
use Rattle.entering.specs.Standing.{olds, Spent, Holding, Standing}
use Rattle.entering.specs.Placing.{held_same}

module _ (x out : List ℕ) where
  gives_low : T (givesb x out) → (next_to_give x).bit < 16
  unfolding givesb
  gives_low t = ltb→lt (next_to_give x).bit 16 (and_right (eqb (fetch_refusal x out) 0) (ltb (next_to_give x).bit 16) t)

  fetch_keeps : (i : ℕ) → i ≢ CURSOR → i ≢ BIT → (i < GIVEN) ⊎ (OWNER ≤ i) → field (fetch_after x out) i ≡ field x i
  unfolding fetch_after
  fetch_keeps i a b c = go (givesb x out) refl c
    where
      go : (g : Bool) → givesb x out ≡ g → (i < GIVEN) ⊎ (OWNER ≤ i) → field (fetch_after x out) i ≡ field x i
      go true e (inl h) = rw (e, fetch_after) (passed_else x (next_to_give x) i a b (λ z. absurd (omega (arith, z))))
      go true e (inr h) =
          let l = gives_low (rw e tt) in
          rw (e, fetch_after) (passed_else x (next_to_give x) i a b (λ z. absurd (omega (arith, z, l))))
      go false e h = rw (e, fetch_after)

  fetch_size : length (fetch_after x out) ≡ length x
  unfolding fetch_after
  fetch_size = go (givesb x out) refl
    where
      go : (g : Bool) → givesb x out ≡ g → length (fetch_after x out) ≡ length x
      go true e = rw (e, fetch_after) (passed_length x (next_to_give x))
      go false e = rw (e, fetch_after)

-- what stands in a store beside its place, where columns, entries and places are as they were
module _ (P : ℕ) (J : Task (Fin P)) (p : Fin P) (x y : List ℕ) (few : J.top < most_levels)
    (low : (i : ℕ) → i < TOTAL → field y i ≡ field x i) (written : field y WRITTEN ≡ field x WRITTEN)
    (levels : (i : ℕ) → FIRST_CELL ≤ i → i < FREE → field y i ≡ field x i) (far : (i : ℕ) → PLACE_HEAD ≤ i → field y i ≡ field x i) where
  spent_same : (f : Phase) → Spent P J f x → Spent P J f y
  unfolding Spent
  spent_same (marks i) h =
      omega (
        arith,
        h,
        written,
        low CELLS (omega arith),
        levels (FIRST_CELL + (J.top - i)) (omega arith) (omega arith),
        levels (FIRST_SLOT + suc (J.top - i)) (omega arith) (omega arith),
        levels (FIRST_SLOT + suc J.top) (omega arith) (omega arith),
      )
  spent_same (counts i) h =
      omega (
        arith,
        h,
        written,
        low CELLS (omega arith),
        levels (FIRST_CELL + (J.top - i)) (omega arith) (omega arith),
        levels (FIRST_SLOT + (J.top - i)) (omega arith) (omega arith),
        levels (FIRST_SLOT + suc J.top) (omega arith) (omega arith),
      )
  spent_same totals h = tt
  spent_same over h = tt

  held : held_in y ≡ held_in x
  held = held_same x y (low ENTRIES (omega arith)) far

  holding_same : (f : Phase) (s : State) → Holding P J p f s x → Holding P J p f s y
  unfolding Holding
  holding_same (marks i) s h = tt
  holding_same (counts i) s h = tt
  holding_same totals s (a, b) = (a, λ e. held ∙ b e)
  holding_same over s (a, (b, c)) =
      let r = low RESULT (omega arith) in
      (r ∙ a, (λ e. held ∙ b (sym r ∙ e), λ e. held ∙ c (λ z. e (r ∙ z)) ∙ ap (olds P J p) (sym (low CELLS (omega arith)))))

module _ (P : ℕ) (J : Task (Fin P)) (p : Fin P) (l : L P J) (x : List ℕ) (st : Standing P J p l x) where
  -- FETCH
  module _ (out : List ℕ) (room : 9 ≤ length out) (m : List ℕ) (w : List (List ℕ)) (e : l.queue ≡ m ∷ w) where
    abbrev y : List ℕ
    y = fetch_after x out

    keeps : (i : ℕ) → i ≢ CURSOR → i ≢ BIT → (i < GIVEN) ⊎ (OWNER ≤ i) → field y i ≡ field x i
    keeps = fetch_keeps x out

    fetch_low : (i : ℕ) → i < TOTAL → field y i ≡ field x i
    fetch_low i h = keeps i (λ z. absurd (omega (arith, z))) (λ z. absurd (omega (arith, z))) (inl (omega arith))

    fetch_mid : (i : ℕ) → WRITTEN ≤ i → (i < GIVEN) ⊎ (OWNER ≤ i) → field y i ≡ field x i
    fetch_mid i h = keeps i (λ z. absurd (omega (arith, z))) (λ z. absurd (omega (arith, z)))

    pub fetch_stay : Stay x y
    fetch_stay = record { size = fetch_size x out; else = λ i h. go i h }
      where
        go : (i : ℕ) → ((PART ≤ i) × (i < ROUND)) ⊎ (((FIRST_CELL ≤ i) × (i < FREE))
            ⊎ (((OWNER ≤ i) × (i < MARK)) ⊎ ((CORNER ≤ i) × (i < SUM))))
            → field y i ≡ field x i
        go i (inl (a, b)) = fetch_low i (omega arith)
        go i (inr (inl (a, b))) = fetch_mid i (omega arith) (inl (omega arith))
        go i (inr (inr (inl (a, b)))) = fetch_mid i (omega arith) (inr (omega arith))
        go i (inr (inr (inr (a, b)))) = fetch_mid i (omega arith) (inr (omega arith))

    pub fetched : (fetch_answer x out ≡ Message (length m)) × (fetch_bytes x out ≡ sets out 0 m)
        × Standing P J p (with_queue l w) (fetch_after x out)
    fetched =
        let (a, b, c) = fetch_gives P J p l x st.busy out room m w e in (
          a,
          b,
          record {
            busy = c;
            columns = columns_stay P J p x y fetch_stay st.columns;
            marked = λ d h o. fetch_mid (MARK + d) (omega arith) (inr (omega arith)) ∙ st.marked d h o;
            no_marks = st.no_marks;
            no_counts = st.no_counts;
            spent = spent_same P J p x y st.columns.levels_few fetch_low (fetch_mid WRITTEN (omega arith) (inl (omega arith)))
                (λ i a b. fetch_mid i (omega arith) (inl (omega arith))) (λ i a. fetch_mid i (omega arith) (inr (omega arith)))
                (phase J.top l.round) st.spent;
            holding = holding_same P J p x y st.columns.levels_few fetch_low (fetch_mid WRITTEN (omega arith) (inl (omega arith)))
                (λ i a b. fetch_mid i (omega arith) (inl (omega arith))) (λ i a. fetch_mid i (omega arith) (inr (omega arith)))
                (phase J.top l.round) l.state st.holding;
          },
        )

  -- HAND OVER
  module _ (q : Fin P) (b : Body) (fits : Fitted P J p (with_body (parts P) l q b))
      (w : wholeb (parts P) J l.round q p (l.got q) ≡ false) where
    abbrev k : ℕ
    k = l.before q + length (l.got q)

    abbrev z : List ℕ
    z = hand_after x (pack P J q p k b)

    hand_keeps : (i : ℕ) → (i < TOTAL) ⊎ (((CURSOR ≤ i) × (i < FIRST_TAKEN))
        ⊎ (((OWNER ≤ i) × (i < RED)) ⊎ (((CORNER ≤ i) × (i < SUM)) ⊎ (CODE ≤ i))))
        → field z i ≡ field x i
    hand_keeps = hand_else P J p l x st.busy q b fits.good w

    pub hand_stay : Stay x z
    hand_stay = record { size = hand-length P J p l x st.busy q b fits.good w; else = λ i h. go i h }
      where
        go : (i : ℕ) → ((PART ≤ i) × (i < ROUND)) ⊎ (((FIRST_CELL ≤ i) × (i < FREE))
            ⊎ (((OWNER ≤ i) × (i < MARK)) ⊎ ((CORNER ≤ i) × (i < SUM))))
            → field z i ≡ field x i
        go i (inl (a, d)) = hand_keeps i (inl (omega arith))
        go i (inr (inl (a, d))) = hand_keeps i (inr (inl (omega arith, omega arith)))
        go i (inr (inr (inl (a, d)))) = hand_keeps i (inr (inr (inl (a, omega arith))))
        go i (inr (inr (inr (a, d)))) = hand_keeps i (inr (inr (inr (inl (a, d)))))

    pub handed : (hand_answer x (pack P J q p k b) ≡ Accepted) × Standing P J p (with_body (parts P) l q b) (hand_after x (pack P J q p k b))
    handed =
        let (a, c) = hand_does P J p l x st.busy q b fits.good w in (
          a,
          record {
            busy = c;
            columns = columns_stay P J p x z hand_stay st.columns;
            marked = λ d h o. hand_keeps (MARK + d) (inr (inr (inl (omega arith, omega (arith, cell_low P J p x st.columns d h)))))
                ∙ st.marked d h o;
            no_marks = fits.no_marks;
            no_counts = fits.no_counts;
            spent =
                spent_same P J p x z st.columns.levels_few (λ i h. hand_keeps i (inl h))
                (hand_keeps WRITTEN (inr (inl (omega arith, omega arith))))
                (λ i a d. hand_keeps i (inr (inl (omega arith, omega arith)))) (λ i a. hand_keeps i (inr (inr (inr (inr (omega arith))))))
                (phase J.top l.round) st.spent;
            holding = holding_same P J p x z st.columns.levels_few (λ i h. hand_keeps i (inl h))
                (hand_keeps WRITTEN (inr (inl (omega arith, omega arith))))
                (λ i a d. hand_keeps i (inr (inl (omega arith, omega arith)))) (λ i a. hand_keeps i (inr (inr (inr (inr (omega arith))))))
                (phase J.top l.round) l.state st.holding;
          },
        )
