-- The theorem of the exchange on whole lists of calls, from the laws of one part alone (`Alone`) and the rounds in lockstep (`lock`).
--   Can        the rounds, and the numbers of messages taken and fetched, that a started part can be at
-- Laws (proofs/Theorem), for a world of idle stores, a lawful list of calls, and an input for each part that is what the list starts it with:
--   deterministic   a part has not started, or its store is the one of the rounds in lockstep
--   begun_with      a part that has started was started by the list
--   result          a done part knows what it knows after the last round in lockstep
--   done_stays      no part's round ever falls, or passes the last
--   moves_few       how many calls can move the exchange on
--   onward          all parts are done, or some call moves the exchange on
--   completion      further calls bring every part to the end
--   all_given       where a fetch gives none, all that the part has written was fetched, and so was given
--   given_post      each message that was given is one that its sender has written up to its round
use Prim.Native.Nat.{ℕ, suc, ◌≤◌, Fin}
use Rattle.std.specs.Prelude.{◌≡◌, length}
use Rattle.std.proofs.Math.Option.{some}
use mathlib.Core.List.{List, []}
use Rattle.std.proofs.Math.ListN.{drop}
use Rattle.exchange.specs.Calls.{Call, World, play, started_with, Lawful}
use Rattle.exchange.specs.Finite.{Finite, parts}
use Rattle.exchange.specs.Exchange.{store_at}
use Rattle.exchange.specs.Protocol.{Protocol, Machine, Local, Alone}
use Rattle.exchange.specs.Lockstep.{lock, mail_count, post, local}

pub record Can {Part In Body Msg St : Type 0} (F : Finite Part) (Q : Protocol Part In Body Msg St) (input : Part
    → In) (p : Part) (r : ℕ) (n : Part → ℕ) (f : ℕ) : Type 0 where
  pub in_rounds : r ≤ Q.rounds
  pub low : (q : Part) → mail_count F Q input r q p ≤ n q
  pub high : (q : Part) → n q ≤ mail_count F Q input (suc r) q p
  pub sent : f ≤ length (post F Q input (suc r) p)

module _ {In Body Msg St Store : Type 0} (P : ℕ) (Q : Protocol (Fin P) In Body Msg St) (Z : Machine (Fin P) In Body Msg St Store)
    (Good : Fin P → Local (Fin P) Body Msg St → Type 0) (Fine : Fin P → In → Type 0) (A : Alone (parts P) Q Z Good Fine)
    (input : Fin P → In) (fine : (p : Fin P) → Fine p (input p)) (blank : Body) (junk : Msg) (void : Store)
    (good : (p : Fin P) (r : ℕ) (n : Fin P → ℕ) (f : ℕ) → Can (parts P) Q input p r n f → Good p (local (parts P) Q input p r n f))
    (w : World Msg Store) (all : length w.stores ≡ P) (idle : (p : Fin P) → Z.Idle p (store_at void w p)) (empty : w.given ≡ []) where
  abbrev F : Finite (Fin P)
  F = parts P

  -- the store of a part after the calls, and its phase
  abbrev pub store_after : List (Call In Msg) → Fin P → Store
  store_after cs p = store_at void (play Z.act cs w) p

  abbrev pub phase_after : List (Call In Msg) → Fin P → ℕ
  phase_after cs p = Z.phase_of_lem p (store_after cs p)

  -- Rule 15.17: a list of calls as demand 3 has it
  pub record Allowed (cs : List (Call In Msg)) : Type 0 where
    pub lawful : Lawful Z.act cs w
    pub inputs : (p : Fin P) (i : In) → started_with Z.act cs w p.0 ≡ some i → i ≡ input p

  -- what a done part's store stands for: only how many of its messages were fetched is open
  abbrev pub at_end : Fin P → ℕ → Local (Fin P) Body Msg St
  at_end p f = record {
    round = Q.rounds;
    state = lock F Q input Q.rounds p;
    before = λ q. mail_count F Q input Q.rounds q p;
    got = λ q. [];
    sent = λ q. mail_count F Q input (suc Q.rounds) p q;
    queue = drop f (post F Q input (suc Q.rounds) p);
  }
