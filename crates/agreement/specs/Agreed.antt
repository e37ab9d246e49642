-- What any lawful list of calls on the stores of a split comes to: the theorem of the exchange, said of the stores.
--   split_store p, world      the stores of the split, with what is lent behind each
--   input_of cs p             the marks that the calls start a part with; 0 for each master where they do not
-- Laws: done_phase and phase_done (a done part is one past the last round), at_end_lem (what a done part's store stands for), starts_taken
-- (which starts are accepted), moves_most, moves_on and completed (what can be called next), all_fetched and letters_fetched (where a part
-- has none to send), only_written (which messages were given),
-- all_phases and phases_all (all parts say that they are done just where all are past the last round).
use Rattle.std.proofs.Math.Path.{◌≡◌, refl, sym}
use Rattle.std.proofs.Common.{◌∙◌, ap, subst, inl, inr, le_trans, arith}
use Rattle.std.specs.Prelude.{◌⊎◌, ◌≢◌, Bool, true, false, T, length, get_or, drop, ℤ}
use Rattle.std.proofs.Math.Option.{Option, none, some, Option-elim}
use mathlib.Core.List.{List, [], ◌∷◌, ◌++◌, append-nil, Memᴰ}
use Prim.Native.Nat.{ℕ, suc, ◌+◌, ◌≤◌, ◌<◌, Fin}
use Rattle.std.proofs.lemmas.List.{length-map}
use Rattle.base.specs.Every.{all_each, get_d_map}
use Rattle.base.specs.Lists.{allb_at}
use Rattle.base.specs.Range.{range, length-range, range_at}
use Rattle.base.specs.Fours.{fours}
use Rattle.base.specs.Answer.{Answer}
use Rattle.base.specs.Answer.{Accepted, Refused}
use Rattle.mesh.specs.Coarse.{coarse_corner_count}
use Rattle.exchange.specs.Calls.{Start, Fetch, Call, play, moves, acceptsb, started_with, Lawful}
use Rattle.exchange.specs.Finite.{parts}
use Rattle.exchange.specs.Protocol.{Alone, Machine, Protocol}
use Rattle.exchange.specs.Lockstep.{lock, mail_count, post, letters, local, post_letter, letter_post}
use Rattle.exchange.specs.Played.{play-length}
use Rattle.exchange.specs.Begun.{first_fine}
use Rattle.exchange.specs.Theorem.{Can, Allowed}
use Rattle.exchange.proofs.Theorem.{deterministic, begun_with, result, done_stays, moves_few, completion, all_given}
use Rattle.exchange.proofs.Theorem.{given_post}
use Rattle.exchange.proofs.Theorem.{onward as moved_on}
use Rattle.rounds.specs.Rounds.{Body, end, State, phase}
use Rattle.rounds.specs.Task.{Task}
use Rattle.rounds.specs.Rounded.{protocol, overb, phase_marks, phase_counts, phase_totals, phase_over}
use Rattle.rounds.specs.Turns.{Turn, in_marks, in_counts, in_totals, in_over, turn_of}
use Rattle.rounds.specs.Upward.{ups}
use Rattle.rounds.specs.Bound.{calls_most, calls_few}
use Rattle.parts.specs.Starts.{startb, place_on}
use Rattle.merging.specs.Totals.{grown_of}
use Rattle.store.specs.Fields.{field, STAGE, ROUND}
use Rattle.store.specs.Stores.{store_in}
use Rattle.split.specs.Split.{split_answer, split_after}
use Rattle.split.specs.Stored.{Stored}
use Rattle.standing.specs.Busy.{pack, L}
use Rattle.entering.specs.Fits.{Fitted}
use Rattle.entering.specs.Entered.{Stay}
use Rattle.entering.specs.Standing.{Standing}
use Rattle.entering.proofs.Begins.{start_yes, start_fine}
use Rattle.tasks.specs.Holders.{split_task}
use Rattle.tasks.specs.Accepted.{Splits, splits_from, split_store_lem}
use Rattle.tasks.proofs.Accepted.{split_columns, split_bound}
use Rattle.turns.specs.Start.{start_answer, start_after}
use Rattle.outcome.specs.Program.{yields, act, phase_of}
use Rattle.outcome.specs.Limited.{fitting_of}
use Rattle.outcome.specs.Machines.{machine, alone}
use Rattle.agreement.specs.Terms.{Calls, Stores, after_split, alldoneb}
use Rattle.held.specs.Says.{says_of, doneb}
use Rattle.agreement.specs.Says.{says_so}
use Rattle.held.proofs.Says.{says_stage}
use Rattle.agreement.specs.Exchanges.{fit, reads, takes, reads_mark, first_idle, wanted, wanted_fit}

-- a store that stands as it stood
stay_self : (x : List ℕ) → Stay x x
stay_self x = record { size = refl; else = λ i h. refl }

-- an answer that is accepted just where a test passes
accepts_by : (a : Answer) (y : List ℕ) (b : Bool) → (b ≡ true → a ≡ Accepted) → (a ≡ Accepted → b ≡ true) → acceptsb act (yields a y) ≡ b
unfolding yields acceptsb
accepts_by Accepted y b f g = sym (g refl)
accepts_by (Refused k) y true f g = let e = f refl in let z : ◌≡◌ {A = ℕ} 0 1 = cc in absurd (omega arith)
accepts_by (Refused k) y false f g = refl

-- the last round
over_last : (top r : ℕ) → r ≤ suc (suc (suc (top + top))) → overb (phase top r) ≡ true → r ≡ suc (suc (suc (top + top)))
unfolding overb
over_last top r h o = go (turn_of top r h)
  where
    differ : {A : Type 0} → false ≡ true → A
    differ e = let z : ◌≡◌ {A = ℕ} 0 1 = cc in absurd (omega arith)

    go : Turn top r → r ≡ suc (suc (suc (top + top)))
    go (in_marks i a e) = differ (sym (ap overb (ap (phase top) e ∙ phase_marks top i a)) ∙ o)
    go (in_counts i a e) = differ (sym (ap overb (ap (phase top) e ∙ phase_counts top i a)) ∙ o)
    go (in_totals e) = differ (sym (ap overb (ap (phase top) e ∙ phase_totals top)) ∙ o)
    go (in_over e) = e

module _ (ps : List ℤ) (ts ss : List ℕ) (Q : ℕ) (os b : List ℕ) (behind : ℕ → List ℕ)
    (e : split_answer ps ts ss (suc Q) os b ≡ Accepted) where
  abbrev pub n : ℕ
  n = coarse_corner_count ps

  abbrev pub qs : List (List ℕ)
  qs = fours ts

  abbrev pub g : Splits Q (coarse_corner_count ps) (fours ts) ss os
  g = splits_from ps ts ss Q os b e

  abbrev pub split_store : Fin (suc Q) → List ℕ
  split_store p = store_in (split_after ps ts ss (suc Q) os b) p.0 ++ behind (suc p.0)

  abbrev pub world : Stores
  world = after_split (suc Q) (split_after ps ts ss (suc Q) os b) behind

  stored : (p : Fin (suc Q)) → Stored n qs ss (suc Q) os (suc p.0) (split_store p)
  stored p = split_store_lem ps ts ss Q os b e (behind (suc p.0)) p

  abbrev pub J : Task (Fin (suc Q))
  J = split_task Q (coarse_corner_count ps) (fours ts) ss os

  abbrev M : Machine (Fin (suc Q)) (List ℕ) Body (List ℕ) State (List ℕ)
  M =
      machine (suc Q) J (fit Q n qs ss os g) (reads Q n qs ss os g) (place_on os) (takes Q n qs ss os g) split_store
      (reads_mark Q n qs ss os g)

  abbrev pub R : Protocol (Fin (suc Q)) (List ℕ) Body (List ℕ) State
  R = protocol (parts (suc Q)) J (grown_of (parts (suc Q)) J) (ups (suc Q)) (pack (suc Q) J) (reads Q n qs ss os g)

  abbrev Fi : Fin (suc Q) → List ℕ → Type 0
  Fi p ms = takes Q n qs ss os g p ms ≡ true

  A : Alone (parts (suc Q)) R M (Fitted (suc Q) J) Fi
  A = alone (suc Q) J (fit Q n qs ss os g) (reads Q n qs ss os g) (place_on os) (takes Q n qs ss os g) split_store (reads_mark Q n qs ss os g)

  all : length world.stores ≡ suc Q
  all = length-map (range 0 (suc Q)) (λ j. store_in (split_after ps ts ss (suc Q) os b) j ++ behind (suc j)) ∙ length-range 0 (suc Q)

  store_there : (p : Fin (suc Q)) → get_or world.stores p.0 [] ≡ split_store p
  store_there p =
      let h : p.0 < suc Q = p.1 in
      get_d_map (λ j. store_in (split_after ps ts ss (suc Q) os b) j ++ behind (suc j)) (range 0 (suc Q)) p.0 0 []
      (omega (arith, length-range 0 (suc Q)))
      ∙ ap (λ (j : ℕ). store_in (split_after ps ts ss (suc Q) os b) j ++ behind (suc j))
      (range_at 0 (suc Q) p.0 0 p.1 ∙ let z : 0 + p.0 ≡ p.0 = omega arith in z)

  idle : (p : Fin (suc Q)) → M.Idle p (get_or world.stores p.0 [])
  idle p = subst (M.Idle p) (sym (store_there p))
      (first_idle Q n qs ss os g p (split_store p) (stored p), stay_self (split_store p))

  -- the marks that the calls start a part with
  abbrev pub input_of : Calls → Fin (suc Q) → List ℕ
  input_of cs p = Option-elim (started_with act cs world p.0) (wanted Q n qs ss os g p) (λ ms. ms)

  fine : (cs : Calls) (p : Fin (suc Q)) → Fi p (input_of cs p)
  unfolding Option-elim
  fine cs p = go (started_with act cs world p.0) refl
    where
      go : (o : Option (List ℕ)) → started_with act cs world p.0 ≡ o → Fi p (Option-elim o (wanted Q n qs ss os g p) (λ ms. ms))
      go none f = wanted_fit Q n qs ss os g p
      go (some ms) f =
          first_fine (suc Q) R M (Fitted (suc Q) J) Fi A [] p ms cs world (subst (λ (k : ℕ). p.0 < k) (sym all) p.1) (idle p) f

  pub good : (cs : Calls) (p : Fin (suc Q)) (r : ℕ) (k : Fin (suc Q) → ℕ) (f : ℕ) → Can (parts (suc Q)) R (input_of cs) p r k f
      → Fitted (suc Q) J p (local (parts (suc Q)) R (input_of cs) p r k f)
  good cs p r k f c =
      fitting_of (suc Q) J p (split_store p) (split_columns Q n qs ss os g p (split_store p) (stored p)) (fit Q n qs ss os g)
      (reads Q n qs ss os g)
      (input_of cs) p r k f c

  -- the store of a part after calls
  abbrev pub store_of : Calls → Fin (suc Q) → List ℕ
  store_of cs p = get_or (play act cs world).stores p.0 []

  module _ (cs : Calls) (lawful : Lawful act cs world) where
    abbrev Al : Calls → Type 0
    Al ds = Allowed (suc Q) R M (Fitted (suc Q) J) Fi A (input_of cs) (fine cs) end [] [] (good cs) world all idle refl ds

    allowed : Al cs
    unfolding Option-elim
    allowed =
        record {
          lawful = lawful;
          inputs = λ p i f. sym (ap (λ (o : Option (List ℕ)). Option-elim o (wanted Q n qs ss os g p) (λ ms. ms)) f);
        }

    -- a part that is done is past the last round
    done_phase : (p : Fin (suc Q)) → field (store_of cs p) STAGE ≡ 2 → phase_of (store_of cs p) ≡ suc R.rounds
    done_phase p d =
        go (deterministic (suc Q) R M (Fitted (suc Q) J) Fi A (input_of cs) (fine cs) end [] [] (good cs) world all idle refl cs allowed p)
      where
        go : M.Idle p (store_of cs p)
            ⊎ ((r : ℕ) × (k : Fin (suc Q) → ℕ) × (f : ℕ) × Can (parts (suc Q)) R (input_of cs) p r k f
            × M.Busy p (local (parts (suc Q)) R (input_of cs) p r k f) (store_of cs p)
            × ((j : ℕ) → j < f → Memᴰ (get_or (post (parts (suc Q)) R (input_of cs) (suc R.rounds) p) j [])
            (play act cs world).given))
            → phase_of (store_of cs p) ≡ suc R.rounds
        go (inl i) = absurd (omega (arith, i.0.stage, d))
        go (inr (r, k, f, c, t, v)) =
            A.phase_busy p (local (parts (suc Q)) R (input_of cs) p r k f) (store_of cs p) t
            ∙ ap suc (over_last J.top r c.in_rounds (over (overb (phase J.top r)) refl))
          where
            over : (o : Bool) → overb (phase J.top r) ≡ o → overb (phase J.top r) ≡ true
            over true q = q
            over false q = absurd (omega (arith, t.0.busy.running q, d))

    -- what a part stands at in the end, where f of its messages were fetched
    abbrev pub ending : Fin (suc Q) → ℕ → L (suc Q) J
    ending p f = record {
      round = R.rounds;
      state = lock (parts (suc Q)) R (input_of cs) R.rounds p;
      before = λ q. mail_count (parts (suc Q)) R (input_of cs) R.rounds q p;
      got = λ q. [];
      sent = λ q. mail_count (parts (suc Q)) R (input_of cs) (suc R.rounds) p q;
      queue = drop f (post (parts (suc Q)) R (input_of cs) (suc R.rounds) p);
    }

    -- and one past the last round is done
    pub at_end_lem : (p : Fin (suc Q)) → phase_of (store_of cs p) ≡ suc R.rounds
        → (f : ℕ) × Standing (suc Q) J p (ending p f) (store_of cs p) × Stay (split_store p) (store_of cs p)
    at_end_lem p h =
        let (f, t) =
        result (suc Q) R M (Fitted (suc Q) J) Fi A (input_of cs) (fine cs) end [] [] (good cs) world all idle refl cs allowed p h in
        (f, t.0, t.1)

    pub phase_done : (p : Fin (suc Q)) → phase_of (store_of cs p) ≡ suc R.rounds → field (store_of cs p) STAGE ≡ 2
    unfolding overb
    phase_done p h = let (f, t, s) = at_end_lem p h in t.busy.done (ap overb (phase_over J.top))

    done_says : (p : Fin (suc Q)) → phase_of (store_of cs p) ≡ suc R.rounds → doneb (says_of (store_of cs p)) ≡ true
    done_says p h =
        let (f, t, s) = at_end_lem p h in
        says_so (store_of cs p) t.busy.long t.busy.header (phase_done p h)

    pub input_fine : (p : Fin (suc Q)) → takes Q n qs ss os g p (input_of cs p) ≡ true
    input_fine p = fine cs p

    -- WHICH STARTS ARE ACCEPTED: a part that was not started takes the marks of its masters, and no others
    pub starts_taken : (p : Fin (suc Q)) → started_with act cs world p.0 ≡ none → (ms : List ℕ)
        → acceptsb act (act (Start ms) (store_of cs p)) ≡ startb ss os (suc p.0) ms
    unfolding act
    starts_taken p h ms =
        go (deterministic (suc Q) R M (Fitted (suc Q) J) Fi A (input_of cs) (fine cs) end [] [] (good cs) world all idle refl cs allowed p)
      where
        go : M.Idle p (store_of cs p)
            ⊎ ((r : ℕ) × (k : Fin (suc Q) → ℕ) × (f : ℕ) × Can (parts (suc Q)) R (input_of cs) p r k f
            × M.Busy p (local (parts (suc Q)) R (input_of cs) p r k f) (store_of cs p)
            × ((j : ℕ) → j < f → Memᴰ (get_or (post (parts (suc Q)) R (input_of cs) (suc R.rounds) p) j [])
            (play act cs world).given))
            → acceptsb act (act (Start ms) (store_of cs p)) ≡ startb ss os (suc p.0) ms
        go (inl (i, s)) =
            let x = store_of cs p in
            accepts_by (start_answer x ms) (start_after x ms) (takes Q n qs ss os g p ms)
            (λ f. start_yes x ms i.columns.long i.header i.stage (i.marks ms ∙ f))
            (λ f. sym (i.marks ms) ∙ start_fine x ms i.columns.long i.header i.stage f)
        go (inr (r, k, f, c, t, v)) =
            let b = A.phase_busy p (local (parts (suc Q)) R (input_of cs) p r k f) (store_of cs p) t in
            let w = begun_with (suc Q) R M (Fitted (suc Q) J) Fi A (input_of cs) (fine cs) end [] [] (good cs) world all idle refl cs allowed
            p (omega (arith, b)) in
            let z : ◌≡◌ {A = ℕ} 0 1 = cc in
            absurd (omega arith)

    -- THE BOUND
    pub moves_most : moves act cs world ≤ calls_most (suc Q) (length ss)
    moves_most =
        le_trans (moves_few (suc Q) R M (Fitted (suc Q) J) Fi A (input_of cs) (fine cs) end [] [] (good cs) world all idle refl cs allowed)
        (calls_few (suc Q) J (grown_of (parts (suc Q)) J) (ups (suc Q)) (pack (suc Q) J) (reads Q n qs ss os g) (input_of cs) (length ss)
        (split_bound Q n qs ss os g))

    -- SOME CALL MOVES IT ON, until all parts are done
    pub moves_on : ((p : Fin (suc Q)) → phase_of (store_of cs p) ≡ suc R.rounds)
        ⊎ ((c : Call (List ℕ) (List ℕ)) × Lawful act (cs ++ (c ∷ [])) world × (moves act (cs ++ (c ∷ [])) world ≡ suc (moves act cs world)))
    moves_on = go (moved_on (suc Q) R M (Fitted (suc Q) J) Fi A (input_of cs) (fine cs) end [] [] (good cs) world all idle refl cs allowed)
      where
        go : ((p : Fin (suc Q)) → phase_of (store_of cs p) ≡ suc R.rounds)
            ⊎ ((c : Call (List ℕ) (List ℕ)) × Al (cs ++ (c ∷ [])) × (moves act (cs ++ (c ∷ [])) world ≡ suc (moves act cs world)))
            → ((p : Fin (suc Q)) → phase_of (store_of cs p) ≡ suc R.rounds)
            ⊎ ((c : Call (List ℕ) (List ℕ)) × Lawful act (cs ++ (c ∷ [])) world
            × (moves act (cs ++ (c ∷ [])) world ≡ suc (moves act cs world)))
        go (inl a) = inl a
        go (inr (c, a, m)) = inr (c, a.lawful, m)

    pub completed : (ds : Calls) × Lawful act (cs ++ ds) world × ((p : Fin (suc Q)) → phase_of (store_of (cs ++ ds) p) ≡ suc R.rounds)
    completed =
        let (ds, a, d) =
        completion (suc Q) R M (Fitted (suc Q) J) Fi A (input_of cs) (fine cs) end [] [] (good cs) world all idle refl cs allowed in
        (ds, a.lawful, d)

    -- NONE TO SEND: all that the part wrote up to its round is given
    all_fetched : (p : Fin (suc Q)) → act Fetch (store_of cs p) ≡ none → field (store_of cs p) STAGE ≢ 0
        → (m : List ℕ) → Memᴰ m (post (parts (suc Q)) R (input_of cs) (suc (field (store_of cs p) ROUND)) p)
        → Memᴰ m (play act cs world).given
    all_fetched p h s =
        go (all_given (suc Q) R M (Fitted (suc Q) J) Fi A (input_of cs) (fine cs) end [] [] (good cs) world all idle refl cs allowed p h)
      where
        go : M.Idle p (store_of cs p)
            ⊎ ((r : ℕ) × (k : Fin (suc Q) → ℕ)
            × M.Busy p (local (parts (suc Q)) R (input_of cs) p r k (length (post (parts (suc Q)) R (input_of cs) (suc r) p))) (store_of cs p)
            × ((m : List ℕ) → Memᴰ m (post (parts (suc Q)) R (input_of cs) (suc r) p) → Memᴰ m (play act cs world).given))
            → (m : List ℕ) → Memᴰ m (post (parts (suc Q)) R (input_of cs) (suc (field (store_of cs p) ROUND)) p)
            → Memᴰ m (play act cs world).given
        go (inl i) = absurd (s i.0.stage)
        go (inr (r, k, t, v)) =
            subst (λ (j : ℕ). (m : List ℕ) → Memᴰ m (post (parts (suc Q)) R (input_of cs) (suc j) p)
            → Memᴰ m (play act cs world).given)
            (sym t.0.busy.round) v

    pub phase_most : (p : Fin (suc Q)) → phase_of (store_of cs p) ≤ suc R.rounds
    phase_most p =
        subst (λ (ds : Calls). phase_of (store_of ds p) ≤ suc R.rounds) (append-nil cs)
        (done_stays (suc Q) R M (Fitted (suc Q) J) Fi A (input_of cs) (fine cs) end [] [] (good cs) world all idle refl cs []
        (subst Al (sym (append-nil cs)) allowed) p).1

    -- AND NO OTHERS: each message that was given is one that its sender wrote up to its round for some part
    pub only_written : (m : List ℕ) → Memᴰ m (play act cs world).given
        → (p : Fin (suc Q)) × (q : Fin (suc Q)) × (phase_of (store_of cs p) ≤ suc R.rounds)
        × Memᴰ m (letters (parts (suc Q)) R (input_of cs) (phase_of (store_of cs p)) p q)
    only_written m i =
        let (p, t) = given_post (suc Q) R M (Fitted (suc Q) J) Fi A (input_of cs) (fine cs) end [] [] (good cs) world all idle refl cs
        allowed m i in
        let (q, u) = post_letter (parts (suc Q)) R (input_of cs) M end [] A.ordered (phase_of (store_of cs p)) p m t in
        (p, q, phase_most p, u)

    pub letters_fetched : (p q : Fin (suc Q)) → act Fetch (store_of cs p) ≡ none → field (store_of cs p) STAGE ≢ 0
        → (m : List ℕ) → Memᴰ m (letters (parts (suc Q)) R (input_of cs) (suc (field (store_of cs p) ROUND)) p q)
        → Memᴰ m (play act cs world).given
    letters_fetched p q h s m i =
        all_fetched p h s m
        (letter_post (parts (suc Q)) R (input_of cs) M end [] A.ordered (suc (field (store_of cs p) ROUND)) p q m i)

  -- all parts are done, as the stores say and by the rounds
  pub many_now : (cs : Calls) → length (play act cs world).stores ≡ suc Q
  many_now cs = play-length act cs world ∙ all

  pub all_phases : (cs : Calls) → Lawful act cs world → T (alldoneb (play act cs world))
      → (p : Fin (suc Q)) → phase_of (store_of cs p) ≡ suc R.rounds
  unfolding alldoneb
  all_phases cs h t p =
      done_phase cs h p (says_stage (store_of cs p)
      (allb_at (λ x. doneb (says_of x)) [] (play act cs world).stores t p.0
      (subst (λ (k : ℕ). p.0 < k) (sym (many_now cs)) p.1)))

  pub phases_all : (cs : Calls) → Lawful act cs world → ((p : Fin (suc Q)) → phase_of (store_of cs p) ≡ suc R.rounds)
      → T (alldoneb (play act cs world))
  unfolding alldoneb
  phases_all cs h d =
      all_each (λ x. doneb (says_of x)) [] (play act cs world).stores
      (λ i l. let k : i < suc Q = omega (arith, l, many_now cs) in rw (done_says cs h (i, k) (d (i, k))) tt)
