-- What demand 3 speaks of.
--   after_split P b behind  the world after a split: the stores of the parts 1 to P in the lent table b, each lent with whatever stands
--                          behind it, and no message given
--   marks_given os cs w p   the marks that the calls cs started the part p with, from 1; 0 for each master where they did not start it
--   serial_marks os cs w    these marks put together: what the serial step is given
--   last_store cs w p       the store of the part p, from 1, after the calls
--   alldoneb w             all parts say that they are done
use Rattle.std.specs.Prelude.{Bool, List, [], ◌++◌, map, ℕ, suc, pred, length, get_or, replicate}
use Rattle.std.proofs.Math.Option.{Option-elim}
use Rattle.base.specs.Lists.{allb}
use Rattle.base.specs.Range.{range}
use Rattle.parts.specs.Starts.{masters_on, put_together}
use Rattle.exchange.specs.Calls.{Call, World, play, started_with}
use Rattle.store.specs.Stores.{store_in}
use Rattle.held.specs.Says.{says_of, doneb}
use Rattle.outcome.specs.Program.{act}

-- Rule 15.17: a call on a store takes marks or bytes
abbrev pub Calls : Type 0
Calls = List (Call (List ℕ) (List ℕ))

abbrev pub Stores : Type 0
Stores = World (List ℕ) (List ℕ)

-- Rule 15.17.
abbrev pub after_split : ℕ → List ℕ → (ℕ → List ℕ) → Stores
after_split P b behind = record { stores = map (λ j. store_in b j ++ behind (suc j)) (range 0 P); given = [] }

-- Rule 15.6.
unfoldable pub marks_given : List ℕ → Calls → Stores → ℕ → List ℕ
unfolding started_with act masters_on
marks_given os cs w p = Option-elim (started_with act cs w (pred p)) (replicate (length (masters_on os p)) 0) (λ ms. ms)

-- Rule 15.6.
unfoldable pub serial_marks : List ℕ → Calls → Stores → List ℕ
unfolding put_together marks_given
serial_marks os cs w = put_together os (marks_given os cs w)

-- Rule 15.17.
abbrev pub last_store : Calls → Stores → ℕ → List ℕ
last_store cs w p = get_or (play act cs w).stores (pred p) []

-- Rule 15.18.
unfoldable pub alldoneb : Stores → Bool
unfolding allb says_of doneb
alldoneb w = allb (λ x. doneb (says_of x)) w.stores
