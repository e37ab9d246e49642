-- What the parts of an exchange are to do, and the laws of one part alone.
--   Local                        what a part's store stands for once it has started
--   Protocol                     rounds, messages and states
--   Machine                      a program, and which stores stand for what
--   only F q l                   the messages of a list for one part
--   numbered, parcel             messages with their counts; what a part writes in a round
--   at_start, following, with_queue, with_body    where a call leads
--   Alone                        the laws, where Good says what has room in a store, and Fine which inputs a part takes
-- Laws: only_same, only_other.
use Rattle.std.specs.Prelude.{ℕ, suc, ◌+◌, ◌≤◌, ◌<◌, ◌≡◌, Bool, true, false, length, take}
use Rattle.std.proofs.Math.Path.{refl}
use Rattle.std.proofs.Math.Option.{none, some}
use mathlib.Core.List.{List, [], ◌∷◌, ◌++◌}
use Rattle.exchange.specs.Calls.{Request, Start, Step, Fetch, Hand, Program}
use Rattle.exchange.specs.Finite.{Finite, upd}

-- what a part's store holds once it has started
pub record Local (Part Body Msg St : Type 0) : Type 0 where
  pub round : ℕ
  pub state : St  -- at the round's beginning
  pub before : Part → ℕ  -- how many messages from each part the earlier rounds had
  pub got : Part → List Body  -- what was taken in this round
  pub sent : Part → ℕ  -- how many messages were written for each part
  pub queue : List Msg  -- what is to be fetched

-- what the parts are to do
pub record Protocol (Part In Body Msg St : Type 0) : Type 0 where
  pub rounds : ℕ
  pub init : Part → In → St
  pub out : ℕ → Part → Part → St → List Body  -- out r p q s: what p writes for q in round r
  pub order : ℕ → Part → St → List (Part × Body)  -- all that p writes in round r, in the order written
  pub next : ℕ → Part → St → (Part → List Body) → St
  pub whole : ℕ → Part → Part → List Body → Bool  -- whole r q p l: l is all that q writes for p in round r
  pub pack : Part → Part → ℕ → Body → Msg  -- from, to, count

-- a program, and what its stores stand for
pub record Machine (Part In Body Msg St Store : Type 0) : Type 1 where
  pub act : Program In Msg Store
  pub Idle : Part → Store → Type 0  -- the store is one of a part that has not started
  pub Busy : Part → Local Part Body Msg St → Store → Type 0  -- the store is one of a part that has started
  pub phase_of_lem : Part → Store → ℕ

-- with another queue; with one message more taken
abbrev pub with_queue : {Part Body Msg St : Type 0} → Local Part Body Msg St → List Msg → Local Part Body Msg St
with_queue l w = record { round = l.round; state = l.state; before = l.before; got = l.got; sent = l.sent; queue = w }

abbrev pub with_body : {Part Body Msg St : Type 0} → Finite Part → Local Part Body Msg St → Part → Body → Local Part Body Msg St
with_body F l q b = record {
  round = l.round;
  state = l.state;
  before = l.before;
  got = upd F l.got q (l.got q ++ (b ∷ []));
  sent = l.sent;
  queue = l.queue;
}

module _ {Part Body : Type 0} (F : Finite Part) where
  -- the messages of a list for one part
  unfoldable pub only : Part → List (Part × Body) → List Body
  only q [] = []
  only q (t ∷ l) = elim (F.same? q t.0) [ yes e ↦ t.1 ∷ only q l | no n ↦ only q l ]

  pub only_same : (q : Part) (b : Body) (l : List (Part × Body)) → only q ((q, b) ∷ l) ≡ b ∷ only q l
  unfolding only
  only_same q b l = go (F.same? q q)
    where
      go : (d : Dec (q ≡ q)) → elim d [ yes e ↦ b ∷ only q l | no n ↦ only q l ] ≡ b ∷ only q l
      go (yes e) = refl
      go (no n) = absurd (n refl)

  pub only_other : (q t : Part) (b : Body) (l : List (Part × Body)) → ¬ (q ≡ t) → only q ((t, b) ∷ l) ≡ only q l
  unfolding only
  only_other q t b l h = go (F.same? q t)
    where
      go : (d : Dec (q ≡ t)) → elim d [ yes e ↦ b ∷ only q l | no n ↦ only q l ] ≡ only q l
      go (yes e) = absurd (h e)
      go (no n) = refl

module _ {Part Body Msg : Type 0} (F : Finite Part) (pack : Part → Part → ℕ → Body → Msg) where
  -- the messages of a list, where o counts those written before for each part
  unfoldable pub numbered : Part → (Part → ℕ) → List (Part × Body) → List Msg
  unfolding upd
  numbered p o [] = []
  numbered p o (t ∷ l) = pack p t.0 (o t.0) t.1 ∷ numbered p (upd F o t.0 (suc (o t.0))) l

module _ {Part In Body Msg St : Type 0} (F : Finite Part) (Q : Protocol Part In Body Msg St) where
  abbrev pub Ordered : Type 0
  Ordered = (r : ℕ) (p q : Part) (s : St) → only F q (Q.order r p s) ≡ Q.out r p q s

  -- what p writes in round r, with `o` messages written before
  unfoldable pub parcel : ℕ → Part → St → (Part → ℕ) → List Msg
  unfolding numbered
  parcel r p s o = numbered F Q.pack p o (Q.order r p s)

  abbrev pub enter : ℕ → Part → St → (Part → ℕ) → (Part → ℕ) → List Msg → Local Part Body Msg St
  enter r p s b o w = record {
    round = r;
    state = s;
    before = b;
    got = λ q. [];
    sent = λ q. o q + length (Q.out r p q s);
    queue = w
        ++ parcel r p s o;
  }

  abbrev pub at_start : Part → In → Local Part Body Msg St
  at_start p i = enter 0 p (Q.init p i) (λ q. 0) (λ q. 0) []

  abbrev pub following : Part → Local Part Body Msg St → Local Part Body Msg St
  following p l = enter (suc l.round) p (Q.next l.round p l.state l.got) (λ q. l.before q + length (l.got q)) l.sent
      l.queue

  module _ {Store : Type 0} (Z : Machine Part In Body Msg St Store) where
    -- the call is accepted, leads to such a store and gives out these messages
    pub record Gives (c : Request In Msg) (x : Store) (B : Store → Type 0) (w : List Msg) : Type 0 where
      pub after : Store
      pub does : Z.act c x ≡ some (after, w)
      pub stands : B after

    -- the laws of one part alone; Good says which locals have room in a store, Fine which inputs a part takes
    pub record Alone (Good : Part → Local Part Body Msg St → Type 0) (Fine : Part → In → Type 0) : Type 0 where
      pub ordered : Ordered
      pub silent : (p q : Part) (s : St) → Q.out Q.rounds p q s ≡ []
      pub whole_is : (r : ℕ) (q p : Part) (s : St) (k : ℕ) → k ≤ length (Q.out r q p s) → Q.whole r q p (take k (Q.out r q p s)) ≡ true
          → length (Q.out r q p s) ≤ k
      pub whole_all : (r : ℕ) (q p : Part) (s : St) → Q.whole r q p (Q.out r q p s) ≡ true
      pub phase_idle : (p : Part) (x : Store) → Z.Idle p x → Z.phase_of_lem p x ≡ 0
      pub phase_busy : (p : Part) (l : Local Part Body Msg St) (x : Store) → Z.Busy p l x → Z.phase_of_lem p x ≡ suc l.round
      pub idle_start : (p : Part) (x : Store) → Z.Idle p x → (i : In) → Fine p i → Good p (at_start p i)
          → Gives (Start i) x (Z.Busy p (at_start p i)) []
      pub idle_fine : (p : Part) (x : Store) → Z.Idle p x → (i : In) (y : Store × List Msg) → Z.act (Start i) x ≡ some y → Fine p i
      pub idle_step : (p : Part) (x : Store) → Z.Idle p x → Z.act Step x ≡ none
      pub idle_fetch : (p : Part) (x : Store) → Z.Idle p x → Z.act Fetch x ≡ none
      pub idle_hand : (p : Part) (x : Store) → Z.Idle p x → (m : Msg) → Z.act (Hand m) x ≡ none
      pub busy_start : (p : Part) (l : Local Part Body Msg St) (x : Store) → Z.Busy p l x → (i : In) → Z.act (Start i) x ≡ none
      pub step_is : (p : Part) (l : Local Part Body Msg St) (x : Store) → Z.Busy p l x → (y : Store × List Msg) → Z.act Step x ≡ some y
          → (l.round < Q.rounds) × ((q : Part) → Q.whole l.round q p (l.got q) ≡ true)
      pub step_does : (p : Part) (l : Local Part Body Msg St) (x : Store) → Z.Busy p l x → Good p (following p l) → l.round < Q.rounds
          → ((q : Part) → Q.whole l.round q p (l.got q) ≡ true) → Gives Step x (Z.Busy p (following p l)) []
      pub fetch_none : (p : Part) (l : Local Part Body Msg St) (x : Store) → Z.Busy p l x → l.queue ≡ [] → Z.act Fetch x ≡ none
      pub fetch_some : (p : Part) (l : Local Part Body Msg St) (x : Store) → Z.Busy p l x → (m : Msg) (w : List Msg) → l.queue ≡ m ∷ w
          → Gives Fetch x (Z.Busy p (with_queue l w)) (m ∷ [])
      pub hand_is : (p : Part) (l : Local Part Body Msg St) (x : Store) → Z.Busy p l x
          → (q p' : Part) (k : ℕ) (b : Body) (y : Store × List Msg) → Z.act (Hand (Q.pack q p' k b)) x ≡ some y
          → (p' ≡ p) × (Q.whole l.round q p (l.got q) ≡ false) × (k ≡ l.before q + length (l.got q))
      pub hand_does : (p : Part) (l : Local Part Body Msg St) (x : Store) → Z.Busy p l x → (q : Part) (b : Body)
          → Good p (with_body F l q b)
          → Q.whole l.round q p (l.got q) ≡ false
          → Gives (Hand (Q.pack q p (l.before q + length (l.got q)) b)) x (Z.Busy p (with_body F l q b)) []
