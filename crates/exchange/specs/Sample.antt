-- A small program whose calls are played out by computing. A store is empty before its start; then it has its number, how many messages
-- it has still to give (each is its number), and what it took. It takes one message, and only after its start.
use Rattle.std.specs.Prelude.{ℕ, zero, suc, ◌≡◌, refl, List, [], ◌∷◌}
use Rattle.std.proofs.Math.Option.{none, some, Option-elim}
use Rattle.exchange.specs.Calls.{Request, Start, Step, Fetch, Hand, Call, World, Program, answer_at, answer, changed, play, acceptsb}
use Rattle.exchange.specs.Calls.{moves, begun, started_with, to_come}

does : Program ℕ ℕ (List ℕ)
does (Start v) [] = some (v ∷ 1 ∷ [], [])
does (Start v) (n ∷ l) = none
does Step x = none
does Fetch [] = none
does Fetch (v ∷ []) = none
does Fetch (v ∷ zero ∷ l) = none
does Fetch (v ∷ suc n ∷ l) = some (v ∷ n ∷ l, v ∷ [])
does (Hand m) [] = none
does (Hand m) (v ∷ []) = none
does (Hand m) (v ∷ n ∷ []) = some (v ∷ n ∷ m ∷ [], [])
does (Hand m) (v ∷ n ∷ k ∷ l) = none

call : ℕ → Request ℕ ℕ → Call ℕ ℕ
call p c = record { part = p; request = c }

-- part 0 starts and is fetched from; part 1 gets the message too early, starts, takes it, gets it again; part 0 starts again; there is no
-- part 2
calls : List (Call ℕ ℕ)
unfolding call
calls =
    call 0 (Start 5) ∷ call 0 Fetch ∷ call 1 (Hand 5) ∷ call 1 (Start 7) ∷ call 1 (Hand 5) ∷ call 1 (Hand 5) ∷ call 0 (Start 9)
    ∷ call 2 Fetch ∷ []

begin : World ℕ (List ℕ)
begin = record { stores = [] ∷ [] ∷ []; given = [] }

after_calls : play does calls begin ≡ record { stores = (5 ∷ 0 ∷ []) ∷ (7 ∷ 1 ∷ 5 ∷ []) ∷ []; given = 5 ∷ [] }
unfolding play changed answer answer_at does calls begin
after_calls = refl

four_moved : moves does calls begin ≡ 4
unfolding moves changed answer answer_at acceptsb does calls begin
four_moved = refl

first_start : started_with does calls begin 0 ≡ some 5
unfolding started_with begun changed answer answer_at acceptsb does calls begin
first_start = refl

one_to_come : to_come does 3 (7 ∷ 1 ∷ 5 ∷ []) ≡ 7 ∷ []
unfolding to_come does Option-elim
one_to_come = refl
