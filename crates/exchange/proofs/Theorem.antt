-- The theorem of the exchange on whole lists of calls: determinism, done stays, bound, progress, completion, what was given (specs/Theorem).
use Prim.Native.Nat.{ℕ, zero, suc, ◌+◌, ◌-◌, ◌≤◌, ◌<◌, Fin}
use native.Mathlib.Omega.{arith}
use Rattle.std.proofs.Math.Nat.{le_trans}
use Rattle.std.proofs.Math.Decide.{dec_lt}
use Rattle.std.specs.Prelude.{◌≡◌, ◌⊎◌, length, get_or}
use Rattle.std.proofs.Common.{sym, ap, ◌∙◌, drop-cons}
use Rattle.std.proofs.Math.Path.{subst, fun_ext}
use Rattle.std.proofs.Math.Logic.{inl, inr}
use Rattle.std.proofs.Math.Option.{Option, none, some}
use mathlib.Core.List.{List, [], ◌∷◌, ◌++◌, Memᴰ}
use Rattle.std.proofs.Math.ListN.{drop}
use Rattle.std.proofs.Math.Seq.{take-nil}
use Rattle.exchange.specs.Calls.{Fetch, Call, World, play, moves, started_with}
use Rattle.exchange.specs.Finite.{Finite, parts, sum_over, sum_le}
use Rattle.exchange.specs.Places.{Plan, Ok, Laws, Live}
use Rattle.exchange.specs.Exchange.{store_at, AtHome, most, Goes}
use Rattle.exchange.proofs.Exchange.{determined, given_only, ended, rises_only, bounded, progress}
use Rattle.exchange.proofs.Exchange.{started}
use Rattle.exchange.specs.Exchange.{more_lawful, call_of}
use Rattle.exchange.proofs.Exchange.{more_moves, more_inputs, completes}
use Rattle.exchange.specs.Protocol.{Protocol, Machine, Local, Alone}
use Rattle.exchange.specs.Played.{get_d_mem, mem_get_d}
use Rattle.exchange.specs.Lockstep.{lock, mail_count, post, local, place, plan, at_place, laws, live, post-length, prefix}
use Rattle.exchange.specs.Theorem.{Can}

module _ {In Body Msg St Store : Type 0} (P : ℕ) (Q : Protocol (Fin P) In Body Msg St) (Z : Machine (Fin P) In Body Msg St Store)
    (Good : Fin P → Local (Fin P) Body Msg St → Type 0) (Fine : Fin P → In → Type 0) (A : Alone (parts P) Q Z Good Fine)
    (input : Fin P → In) (fine : (p : Fin P) → Fine p (input p)) (blank : Body) (junk : Msg) (void : Store)
    (good : (p : Fin P) (r : ℕ) (n : Fin P → ℕ) (f : ℕ) → Can (parts P) Q input p r n f → Good p (local (parts P) Q input p r n f))
    (w : World Msg Store) (all : length w.stores ≡ P) (idle : (p : Fin P) → Z.Idle p (store_at void w p)) (empty : w.given ≡ []) where
  abbrev F : Finite (Fin P)
  F = parts P

  abbrev E : Plan (Fin P) In Msg Store
  E = plan F Q input Z blank junk

  can : (p : Fin P) (r : ℕ) (n : Fin P → ℕ) (f : ℕ) → Ok E p (at_place F Q input Z blank junk (suc r) n f) → Can F Q input p r n f
  can p r n f o = record { in_rounds = omega (arith, o.top); low = o.low; high = o.high; sent = o.sent }

  K : Laws F Z.act E
  K = laws F Q input Z blank junk Good Fine A fine (λ p r n f o. good p r n f (can p r n f o))

  G : Live F Z.act E
  G = live F Q input Z blank junk Good Fine A fine (λ p r n f o. good p r n f (can p r n f o))

  home : AtHome P Z.act void E w
  unfolding place
  home = record { all = all; homes = idle; empty = empty }

  abbrev store_after : List (Call In Msg) → Fin P → Store
  store_after = Rattle.exchange.specs.Theorem.store_after P Q Z Good Fine A input fine blank junk void good w all idle empty

  abbrev phase_after : List (Call In Msg) → Fin P → ℕ
  phase_after = Rattle.exchange.specs.Theorem.phase_after P Q Z Good Fine A input fine blank junk void good w all idle empty

  abbrev Allowed : (cs : List (Call In Msg)) → Type 0
  Allowed = Rattle.exchange.specs.Theorem.Allowed P Q Z Good Fine A input fine blank junk void good w all idle empty

  -- DETERMINISM
  pub deterministic : (cs : List (Call In Msg)) → Allowed cs → (p : Fin P)
      → Z.Idle p (store_after cs p)
      ⊎ ((r : ℕ) × (n : Fin P → ℕ) × (f : ℕ) × Can F Q input p r n f × Z.Busy p (local F Q input p r n f) (store_after cs p)
      × ((j : ℕ) → j < f → Memᴰ (get_or (post F Q input (suc Q.rounds) p) j junk) (play Z.act cs w).given))
  unfolding place
  deterministic cs h p =
      let d = determined P Z.act void E K w home cs h.lawful h.inputs p in
      go d.0.phase d.0.taken d.0.fetched d.1 d.2 d.3
    where
      go : (φ : ℕ) (n : Fin P → ℕ) (f : ℕ) → Ok E p (at_place F Q input Z blank junk φ n f)
          → place F Q input Z blank junk p φ n f (store_after cs p)
          → ((j : ℕ) → j < f → Memᴰ (get_or (post F Q input (suc Q.rounds) p) j junk) (play Z.act cs w).given)
          → Z.Idle p (store_after cs p)
          ⊎ ((r : ℕ) × (n : Fin P → ℕ) × (f : ℕ) × Can F Q input p r n f × Z.Busy p (local F Q input p r n f) (store_after cs p)
          × ((j : ℕ) → j < f → Memᴰ (get_or (post F Q input (suc Q.rounds) p) j junk) (play Z.act cs w).given))
      go zero n f o a t = inl a
      go (suc r) n f o a t = inr (r, n, f, can p r n f o, a, t)

  pub begun_with : (cs : List (Call In Msg)) → Allowed cs → (p : Fin P) → 0 < phase_after cs p
      → started_with Z.act cs w p.0 ≡ some (input p)
  begun_with cs h p l =
      let (i, e) = started P Z.act void E K w home cs h.lawful h.inputs p l in
      e ∙ ap some (h.inputs p i e)

  abbrev at_end : Fin P → ℕ → Local (Fin P) Body Msg St
  at_end = Rattle.exchange.specs.Theorem.at_end P Q Z Good Fine A input fine blank junk void good w all idle empty

  pub result : (cs : List (Call In Msg)) → Allowed cs → (p : Fin P) → phase_after cs p ≡ suc Q.rounds → (f : ℕ)
      × Z.Busy p (at_end p f) (store_after cs p)
  unfolding place
  result cs h p e =
      let d = ended P Z.act void E K w home cs h.lawful h.inputs p e in (
        d.0,
        subst (λ t. Z.Busy p (record {
          round = Q.rounds;
          state = lock F Q input Q.rounds p;
          before =
              λ q. mail_count F Q input Q.rounds q p;
          got = t;
          sent = λ q. mail_count F Q input (suc Q.rounds) p q;
          queue =
              drop d.0 (post F Q input (suc Q.rounds) p);
        }) (store_after cs p))
            (fun_ext (λ q. rw (A.silent q p (lock F Q input Q.rounds q))
            (take-nil (mail_count F Q input (suc Q.rounds) q p - mail_count F Q input Q.rounds q p)))) d.2,
      )

  -- DONE STAYS
  pub done_stays : (cs ds : List (Call In Msg)) → Allowed (cs ++ ds) → (p : Fin P)
      → (phase_after cs p ≤ phase_after (cs ++ ds) p) × (phase_after (cs ++ ds) p ≤ suc Q.rounds)
  done_stays cs ds h p = rises_only P Z.act void E K w home cs ds h.lawful h.inputs p

  quiet : (q p : Fin P) → mail_count F Q input (suc Q.rounds) q p ≤ mail_count F Q input Q.rounds q p
  unfolding mail_count
  quiet q p = rw (A.silent q p (lock F Q input Q.rounds q)) (omega arith)

  -- BOUND: the rounds and the start of each part, and each message twice, once fetched and once taken
  pub moves_few : (cs : List (Call In Msg)) → Allowed cs
      → moves Z.act cs w ≤ sum_over (λ p. suc Q.rounds + sum_over (λ q. mail_count F Q input Q.rounds q p) F.list
      + sum_over (λ q. mail_count F Q input Q.rounds p q) F.list) F.list
  unfolding most
  moves_few cs h = le_trans (bounded P Z.act void E K w home cs h.lawful h.inputs) (sum_le _ _ (λ p. omega (
    arith,
    post-length F Q input Z blank junk A.ordered (suc Q.rounds) p,
    sum_le (λ q. mail_count F Q input (suc Q.rounds) q p) (λ q. mail_count F Q input Q.rounds q p) (λ q. quiet q p) F.list,
    sum_le (λ q. mail_count F Q input (suc Q.rounds) p q) (λ q. mail_count F Q input Q.rounds p q) (λ q. quiet p q) F.list,
  )) F.list)

  -- PROGRESS
  pub onward : (cs : List (Call In Msg)) → Allowed cs → ((p : Fin P) → phase_after cs p ≡ suc Q.rounds)
      ⊎ ((c : Call In Msg) × Allowed (cs ++ (c ∷ [])) × (moves Z.act (cs ++ (c ∷ [])) w ≡ suc (moves Z.act cs w)))
  onward cs h = go (progress P Z.act void E K G w home cs h.lawful h.inputs)
    where
      go : ((p : Fin P) → phase_after cs p ≡ suc Q.rounds) ⊎ Goes P Z.act void E K G (play Z.act cs w)
          → ((p : Fin P) → phase_after cs p ≡ suc Q.rounds)
          ⊎ ((c : Call In Msg) × Allowed (cs ++ (c ∷ [])) × (moves Z.act (cs ++ (c ∷ [])) w ≡ suc (moves Z.act cs w)))
      go (inl a) = inl a
      go (inr k) = inr (
        call_of P Z.act void E K G (play Z.act cs w) k,
        record {
          lawful = more_lawful P Z.act void E K G w home cs h.lawful h.inputs k;
          inputs = more_inputs P Z.act void E K G w home cs h.lawful h.inputs k;
        },
        more_moves P Z.act void E K G w home cs h.lawful h.inputs k,
      )

  -- COMPLETION
  pub completion : (cs : List (Call In Msg)) → Allowed cs
      → (ds : List (Call In Msg)) × Allowed (cs ++ ds) × ((p : Fin P) → phase_after (cs ++ ds) p ≡ suc Q.rounds)
  completion cs h =
      let (ds, a, i, d) = completes P Z.act void E K G w home cs h.lawful h.inputs in
      (ds, record { lawful = a; inputs = i }, d)

  -- NONE TO SEND: then the part has not started, or all that it has written up to its round was fetched
  pub all_given : (cs : List (Call In Msg)) → Allowed cs → (p : Fin P) → Z.act Fetch (store_after cs p) ≡ none
      → Z.Idle p (store_after cs p) ⊎ ((r : ℕ) × (n : Fin P → ℕ)
      × Z.Busy p (local F Q input p r n (length (post F Q input (suc r) p))) (store_after cs p)
      × ((m : Msg) → Memᴰ m (post F Q input (suc r) p) → Memᴰ m (play Z.act cs w).given))
  all_given cs h p e = go (deterministic cs h p)
    where
      last : (r : ℕ) (n : Fin P → ℕ) (f : ℕ) → Can F Q input p r n f → Z.Busy p (local F Q input p r n f) (store_after cs p)
          → Dec (f < length (post F Q input (suc r) p)) → f ≡ length (post F Q input (suc r) p)
      last r n f c b (no l) = omega (arith, c.sent)
      last r n f c b (yes l) =
          let g = A.fetch_some p (local F Q input p r n f) (store_after cs p) b _ _ (drop-cons (post F Q input (suc r) p) f junk l) in
          let y : ◌≡◌ {A = Option (Store × List Msg)} none (some (g.after, get_or (post F Q input (suc r) p) f junk ∷ [])) = sym e
          ∙ g.does in
          let z : ◌≡◌ {A = ℕ} 0 1 = cc in absurd (omega arith)

      go : Z.Idle p (store_after cs p)
          ⊎ ((r : ℕ) × (n : Fin P → ℕ) × (f : ℕ) × Can F Q input p r n f × Z.Busy p (local F Q input p r n f) (store_after cs p)
          × ((j : ℕ) → j < f → Memᴰ (get_or (post F Q input (suc Q.rounds) p) j junk) (play Z.act cs w).given))
          → Z.Idle p (store_after cs p) ⊎ ((r : ℕ) × (n : Fin P → ℕ)
          × Z.Busy p (local F Q input p r n (length (post F Q input (suc r) p))) (store_after cs p)
          × ((m : Msg) → Memᴰ m (post F Q input (suc r) p) → Memᴰ m (play Z.act cs w).given))
      go (inl a) = inl a
      go (inr (r, n, f, c, b, t)) =
          let l = last r n f c b (dec_lt f (length (post F Q input (suc r) p))) in inr (
            r,
            n,
            subst (λ (k : ℕ). Z.Busy p (local F Q input p r n k) (store_after cs p)) l b,
            λ m i.
                let (j, h, e) = get_d_mem junk i in
                let a = prefix F Q input Z blank junk p j (suc r) (suc Q.rounds) (omega (arith, c.in_rounds)) h in
                subst (λ v. Memᴰ v (play Z.act cs w).given) (a.1 ∙ e) (t j (omega (arith, l, h))),
          )

  pub given_post : (cs : List (Call In Msg)) → Allowed cs → (m : Msg) → Memᴰ m (play Z.act cs w).given
      → (q : Fin P) × Memᴰ m (post F Q input (phase_after cs q) q)
  given_post cs h m i =
      let (q, j, t, b, e) = given_only P Z.act void E K w home cs h.lawful h.inputs m i in
      let a = prefix F Q input Z blank junk q j (phase_after cs q) (suc Q.rounds) t b in
      let i = mem_get_d junk (post F Q input (phase_after cs q) q) j b in
      (q, subst (λ v. Memᴰ v (post F Q input (phase_after cs q) q)) (sym (e ∙ a.1)) i)
