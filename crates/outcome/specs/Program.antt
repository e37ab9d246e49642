-- The calls as a program of the exchange: what each answers to a store, and what it gives out.
--   nine         a lent table of nine bytes, which a fetch writes its message to
--   act          the calls: none where the call is refused, or a fetch has none to send
--   yields, gives    what an answer comes to in `act`: the store after it, and of a fetch the message
--   phase_of x    how many rounds the part has begun: 0 before its start
use Rattle.std.specs.Prelude.{true, false, List, [], ◌∷◌, ℕ, suc, eqb, take, replicate}
use Rattle.std.proofs.Math.Option.{Option, none, some}
use Rattle.base.specs.Answer.{Answer}
use Rattle.base.specs.Answer.{Accepted, Refused}
use Rattle.exchange.specs.Calls.{Start, Step, Fetch, Hand, Program}
use Rattle.store.specs.Fields.{field, STAGE, ROUND}
use Rattle.store.specs.Fetched.{Fetched}
use Rattle.store.specs.Fetched.{Message, Nothing, Refused as FetchRefused}
use Rattle.store.specs.Fetch.{fetch_answer, fetch_bytes, fetch_after}
use Rattle.store.specs.Hand.{hand_answer, hand_after}
use Rattle.turns.specs.Start.{start_answer, start_after}
use Rattle.partstep.specs.Step.{part_answer, part_after}

unfoldable pub yields : Answer → List ℕ → Option (List ℕ × List (List ℕ))
yields Accepted y = some (y, [])
yields (Refused k) y = none

unfoldable pub gives : Fetched → List ℕ → List ℕ → Option (List ℕ × List (List ℕ))
gives (Message n) bytes y = some (y, take n bytes ∷ [])
gives Nothing bytes y = none
gives (FetchRefused k) bytes y = none

abbrev pub nine : List ℕ
nine = replicate 9 0

-- Rule 15.17.
unfoldable pub act : Program (List ℕ) (List ℕ) (List ℕ)
unfolding yields gives start_answer start_after part_answer part_after fetch_answer fetch_bytes fetch_after hand_answer hand_after
act (Start ms) x = yields (start_answer x ms) (start_after x ms)
act Step x = yields (part_answer x) (part_after x)
act Fetch x = gives (fetch_answer x nine) (fetch_bytes x nine) (fetch_after x nine)
act (Hand m) x = yields (hand_answer x m) (hand_after x m)

-- Rule 15.7.
unfoldable pub phase_of : List ℕ → ℕ
phase_of x = elim (eqb (field x STAGE) 0) [ true ↦ 0 | false ↦ suc (field x ROUND) ]
