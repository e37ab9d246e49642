-- Whatever the order of the calls, each part's store is the one that its phase and the numbers of messages taken and fetched determine;
-- some call moves the exchange on until every part is at the end; and such calls are bounded.
--   AtHome w      each store of the world is one that has not started, and no message is given
--   Inputs cs w   each part that the calls start is started with its input
-- Laws (proofs/Exchange), of lawful lists of calls on such a world: determined, given_only (no other messages are given), started (a part
-- past its start was started), ended (a part at the end has taken all), rises_only (done stays), bounded, progress, completes.
use Prim.Native.Nat.{ℕ, ◌+◌, Fin}
use Rattle.std.proofs.Math.Path.{◌≡◌}
use Rattle.std.specs.Prelude.{get_or}
use Rattle.std.proofs.Math.Option.{some}
use mathlib.Core.List.{List, [], ◌∷◌, ◌++◌}
use Rattle.std.proofs.Math.ListN.{length}
use Rattle.exchange.specs.Calls.{Request, Start, Call, World, Program, play}
use Rattle.exchange.specs.Calls.{started_with, Fair, Lawful}
use Rattle.exchange.specs.Played.{lawful_append}
use Rattle.exchange.specs.Finite.{Finite, parts, sum_over}
use Rattle.exchange.specs.Places.{Plan, Laws, Live, Accepts, home}

-- the store of a part
abbrev pub store_at : {Msg Store : Type 0} {P : ℕ} → Store → World Msg Store → Fin P → Store
store_at void w p = get_or w.stores p.0 void

module _ {In Msg Store : Type 0} (P : ℕ) (act : Program In Msg Store) (void : Store) (E : Plan (Fin P) In Msg Store) where
  abbrev F : Finite (Fin P)
  F = parts P

  -- before any call
  pub record AtHome (w : World Msg Store) : Type 0 where
    pub all : length w.stores ≡ P
    pub homes : (p : Fin P) → E.Is p (home p) (store_at void w p)
    pub empty : w.given ≡ []

  module _ (K : Laws F act E) where
    -- each part that the list starts is started with its input
    abbrev pub Inputs : List (Call In Msg) → World Msg Store → Type 0
    Inputs cs w = (p : Fin P) (i : In) → started_with act cs w p.0 ≡ some i → i ≡ E.input p

    -- Rule 15.19: the most calls that can move the exchange on
    unfoldable pub most : ℕ
    most = sum_over (λ p. E.last + sum_over (λ q. E.count E.last q p) F.list + E.written E.last p) F.list

    module _ (G : Live F act E) where
      -- Rule 15.19: a call that would move the exchange on, of a part that is started with its input
      pub record Goes (w : World Msg Store) : Type 0 where
        pub part : Fin P
        pub request : Request In Msg
        pub fair : Fair act request w
        pub input : (i : In) → request ≡ Start i → i ≡ E.input part
        pub accepts : Accepts F act E request (store_at void w part)

      abbrev pub AllDone : World Msg Store → Type 0
      AllDone w = (p : Fin P) → E.phase_of_lem p (store_at void w p) ≡ E.last

      -- one call more
      abbrev pub call_of : (w : World Msg Store) → Goes w → Call In Msg
      call_of w k = record { part = k.part.0; request = k.request }

      module _ (w : World Msg Store) (b : AtHome w) (cs : List (Call In Msg)) (h : Lawful act cs w) (m : Inputs cs w)
          (k : Goes (play act cs w)) where
        abbrev one : List (Call In Msg)
        one = call_of (play act cs w) k ∷ []

        pub more_lawful : Lawful act (cs ++ one) w
        unfolding Lawful
        more_lawful = lawful_append act cs one w h ((λ _. k.fair), tt)

      abbrev pub Ending : World Msg Store → List (Call In Msg) → Type 0
      Ending w cs = (ds : List (Call In Msg)) × Lawful act (cs ++ ds) w × Inputs (cs ++ ds) w × AllDone (play act (cs ++ ds) w)
