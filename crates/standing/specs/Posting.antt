-- Writing: entries put behind those of a store are messages put behind its queue, and they are the parcel of the exchange.
--   Longer x y n         y has what x has written, and n entries more
--   Matches l w          the entries at the places w hold the bodies of the list l, for its receivers
-- Laws (proofs/Posting): queue_more, stream_number, step_queue, step_sent (how many messages are then written for each part).
use Rattle.std.specs.Prelude.{◌≡◌}
use Rattle.std.proofs.Math.Bool.{true}
use mathlib.Core.List.{List, [], ◌∷◌}
use Prim.Native.Nat.{ℕ, suc, ◌+◌, ◌<◌, Fin}
use Rattle.std.proofs.Math.ListN.{length}
use Rattle.exchange.specs.Finite.{parts}
use Rattle.exchange.specs.Protocol.{only}
use Rattle.rounds.specs.Task.{Task}
use Rattle.rounds.specs.Rounds.{Body}
use Rattle.store.specs.Fields.{field, PART, CURSOR, BIT}
use Rattle.store.specs.declared.Spot.{Spot}
use Rattle.store.specs.Fetch.{entry_count, code_at, value_at, receivers_at}
use Rattle.standing.specs.Walk.{given_to}
use Rattle.standing.specs.Packed.{bodyb, entry_code, entry_value}

pub record Longer (x y : List ℕ) (n : ℕ) : Type 0 where
  pub part : field y PART ≡ field x PART
  pub entry : field y CURSOR ≡ field x CURSOR
  pub bit : field y BIT ≡ field x BIT
  pub counts : (b : ℕ) → b < 16 → given_to y b ≡ given_to x b
  pub many : entry_count y ≡ entry_count x + n
  pub codes : (j : ℕ) → j < entry_count x → code_at y j ≡ code_at x j
  pub values : (j : ℕ) → j < entry_count x → value_at y j ≡ value_at x j
  pub receivers : (j : ℕ) → j < entry_count x → receivers_at y j ≡ receivers_at x j

-- ENTRIES ARE THE PARCEL: places whose entries hold the bodies of a list with its receivers are that list's messages
module _ (P : ℕ) (J : Task (Fin P)) (p : Fin P) (y : List ℕ) (own : field y PART ≡ suc p.0) where
  unfoldable pub Matches : List (Fin P × Body) → List Spot → Type 0
  Matches [] [] = Unit
  Matches [] (s ∷ w) = ⊥
  Matches (t ∷ l) [] = ⊥
  Matches (t ∷ l) (s ∷ w) = (s.bit ≡ t.0.0) × (code_at y s.entry ≡ entry_code t.1) × (value_at y s.entry ≡ entry_value t.1)
      × (bodyb t.1 ≡ true) × Matches l w

  abbrev pub CountRoom : (Fin P → ℕ) → List (Fin P × Body) → Type 0
  CountRoom u l = (q : Fin P) → u q + length (only (parts P) q l) < 65536
