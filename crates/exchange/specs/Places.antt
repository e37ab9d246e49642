-- Where a part of an exchange is, and what a program owes. A part's phase is 0 before its start, r + 1 in round r, `last` when it is done.
--   Place                      the phase, how many messages were taken from each part, and how many of the own ones were fetched
--   Plan                       the exchange that the inputs determine: the messages, and which store stands at a place
--   Ok p g                     the places that a part can be at
--   Counted, Laws, Live        laws of the numbers of messages, of what is accepted, and that nothing gets stuck
-- Laws: ok_on, ok_begin, ok_give, ok-take (the places that a call leads to).
use Rattle.std.specs.Prelude.{ℕ, suc, ◌≤◌, ◌<◌, pred, ◌≡◌, List, [], ◌∷◌}
use Rattle.std.proofs.Common.{arith, subst}
use Rattle.std.proofs.Math.Option.{some}
use Rattle.exchange.specs.Calls.{Request, Start, Step, Fetch, Hand, Program}
use Rattle.exchange.specs.Finite.{Finite, upd, upd_all}

pub record Place (Part : Type 0) : Type 0 where
  pub phase : ℕ
  pub taken : Part → ℕ
  pub fetched : ℕ

pub record Plan (Part In Msg Store : Type 0) : Type 1 where
  pub input : Part → In
  pub last : ℕ
  pub count : ℕ → Part → Part → ℕ  -- count φ q p: how many messages q has written for p once q is at phase φ
  pub written : ℕ → Part → ℕ  -- written φ q: how many messages q has written in all once q is at phase φ
  pub msg : Part → ℕ → Msg  -- msg q j: the j-th message that q writes
  pub Is : Part → Place Part → Store → Type 0  -- the store is one of the part at the place
  pub phase_of_lem : Part → Store → ℕ  -- the phase that a store shows

pub record Ok {Part In Msg Store : Type 0} (E : Plan Part In Msg Store) (p : Part) (g : Place Part) : Type 0 where
  pub top : g.phase ≤ E.last
  pub low : (q : Part) → E.count (pred g.phase) q p ≤ g.taken q
  pub high : (q : Part) → g.taken q ≤ E.count g.phase q p
  pub sent : g.fetched ≤ E.written g.phase p

-- a part that has not started, and the three ways on from a place
abbrev pub home : {Part : Type 0} → Part → Place Part
home p = record { phase = 0; taken = λ q. 0; fetched = 0 }

abbrev pub on : {Part : Type 0} → Place Part → Place Part
on g = record { phase = suc g.phase; taken = g.taken; fetched = g.fetched }

abbrev pub took : {Part : Type 0} → Finite Part → Part → Place Part → Place Part
took F q g = record { phase = g.phase; taken = upd F g.taken q (suc (g.taken q)); fetched = g.fetched }

abbrev pub gave : {Part : Type 0} → Place Part → Place Part
gave g = record { phase = g.phase; taken = g.taken; fetched = suc g.fetched }

pub record Counted {Part In Msg Store : Type 0} (E : Plan Part In Msg Store) : Type 0 where
  pub count_up : (φ : ℕ) (q p : Part) → E.count φ q p ≤ E.count (suc φ) q p
  pub written_up : (φ : ℕ) (q : Part) → E.written φ q ≤ E.written (suc φ) q
  pub none_yet : (q p : Part) → E.count 0 q p ≤ 0
  pub some_phase : 0 < E.last
  pub quiet : (q p : Part) → E.count E.last q p ≤ E.count (pred E.last) q p

module _ {Part In Msg Store : Type 0} (F : Finite Part) (E : Plan Part In Msg Store) (N : Counted E) (p : Part) (g : Place Part)
    (o : Ok E p g) where
  pub ok_on : g.phase < E.last → ((q : Part) → E.count g.phase q p ≤ g.taken q) → Ok E p (on g)
  ok_on l h = record {
    top = l;
    low = h;
    high = λ q. omega (arith, o.high q, N.count_up g.phase q p);
    sent =
        omega (arith, o.sent, N.written_up g.phase p);
  }

  pub ok_begin : g.phase ≡ 0 → Ok E p (on g)
  ok_begin e =
      let z : pred g.phase ≡ g.phase = omega arith in
      ok_on (omega (arith, N.some_phase)) (λ q. subst (λ φ. E.count φ q p ≤ g.taken q) z (o.low q))

  pub ok_give : g.fetched < E.written g.phase p → Ok E p (gave g)
  ok_give h = record { top = o.top; low = o.low; high = o.high; sent = h }

  pub ok-take : (q : Part) → g.taken q < E.count g.phase q p → Ok E p (took F q g)
  ok-take q l = record {
    top = o.top;
    low = upd_all F {C = ℕ} (λ r a _. E.count (pred g.phase) r p ≤ a) g.taken g.taken q (suc (g.taken q)) 0
        (omega (arith, o.low q)) o.low;
    high = upd_all F {C = ℕ} (λ r a _. a ≤ E.count g.phase r p) g.taken g.taken q (suc (g.taken q)) 0 l o.high;
    sent = o.sent;
  }

module _ {Part In Msg Store : Type 0} (F : Finite Part) (act : Program In Msg Store) (E : Plan Part In Msg Store) where
  -- what is accepted, and where it leads
  pub record Laws : Type 0 where
    pub counted : Counted E
    pub phase_is : (p : Part) (g : Place Part) (x : Store) → E.Is p g x → E.phase_of_lem p x ≡ g.phase
    pub start_is : (p : Part) (g : Place Part) → Ok E p g → (x : Store) → E.Is p g x → (i : In) (y : Store × List Msg)
        → act (Start i) x ≡ some y
        → (g.phase ≡ 0) × (i ≡ E.input p → (E.Is p (on g) y.0 × (y.1 ≡ [])))
    pub step_is : (p : Part) (g : Place Part) → Ok E p g → (x : Store) → E.Is p g x → (y : Store × List Msg) → act Step x ≡ some y
        → (0 < g.phase) × (g.phase < E.last) × ((q : Part) → E.count g.phase q p ≤ g.taken q) × E.Is p (on g) y.0 × (y.1 ≡ [])
    pub fetch_is : (p : Part) (g : Place Part) → Ok E p g → (x : Store) → E.Is p g x → (y : Store × List Msg) → act Fetch x ≡ some y
        → (0 < g.phase) × (g.fetched < E.written g.phase p) × E.Is p (gave g) y.0 × (y.1 ≡ E.msg p g.fetched ∷ [])
    pub hand_is : (p : Part) (g : Place Part) → Ok E p g → (x : Store) → E.Is p g x → (q : Part) (j : ℕ) → j < E.written E.last q
        → (y : Store × List Msg) → act (Hand (E.msg q j)) x ≡ some y
        → (0 < g.phase) × (g.taken q < E.count g.phase q p) × E.Is p (took F q g) y.0 × (y.1 ≡ [])

  abbrev pub Accepts : Request In Msg → Store → Type 0
  Accepts c x = (y : Store × List Msg) × (act c x ≡ some y)

  -- nothing gets stuck
  pub record Live : Type 0 where
    pub start_does : (p : Part) (g : Place Part) → Ok E p g → (x : Store) → E.Is p g x → g.phase ≡ 0 → Accepts (Start (E.input p)) x
    pub step_does : (p : Part) (g : Place Part) → Ok E p g → (x : Store) → E.Is p g x → 0 < g.phase → g.phase < E.last
        → ((q : Part) → E.count g.phase q p ≤ g.taken q) → Accepts Step x
    pub fetch_does : (p : Part) (g : Place Part) → Ok E p g → (x : Store) → E.Is p g x → g.fetched < E.written g.phase p
        → Accepts Fetch x
    pub hand_does : (p : Part) (g : Place Part) → Ok E p g → (x : Store) → E.Is p g x → (q : Part) → g.taken q < E.count g.phase q p
        → (j : ℕ) × (j < E.written g.phase q) × Accepts (Hand (E.msg q j)) x
