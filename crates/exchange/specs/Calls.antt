-- Lists of calls on the stores of one split, of which demand 3 speaks as a whole; for any program on any stores.
--   Request, Call             start, step, fetch, hand a message over; the part, from 0, that it goes to
--   World                     the stores in the order of the parts, and the messages that fetches gave, the latest first
--   Program                   what is answered to a request at a store: none where it is refused or there is none to send
--   answer act c w            the answer to a call
--   play act cs w             the world after the calls
--   moves act cs w            how many of them moved the exchange on
--   started_with act cs w p    what the part p was started with
--   to_come act n x            what n fetches put next would give
--   IsWritten act w m         m was written: an earlier fetch gave it, or fetches put next would
--   Lawful act cs w           each message that is taken was written
use Rattle.std.specs.Prelude.{◌⊎◌, Bool, true, false, ℕ, zero, suc, ◌+◌, T, eqb, set}
use Rattle.std.proofs.Math.Option.{Option, none, some, Option-elim}
use mathlib.Core.List.{List, [], ◌∷◌, ◌++◌, Memᴰ}
use Rattle.base.specs.Bools.{one_if}

-- Rule 15.17.
pub data Request (In Msg : Type 0) : Type 0 where
  Start : In → Request In Msg
  Step : Request In Msg
  Fetch : Request In Msg
  Hand : Msg → Request In Msg

-- Rule 15.17.
pub record Call (In Msg : Type 0) : Type 0 where
  pub part : ℕ
  pub request : Request In Msg

-- Rule 15.17.
pub record World (Msg Store : Type 0) : Type 0 where
  pub stores : List Store
  pub given : List Msg

-- the store after, and what is given out
abbrev pub Program : Type 0 → Type 0 → Type 0 → Type 0
Program In Msg Store = Request In Msg → Store → Option (Store × List Msg)

module _ {In Msg Store : Type 0} (act : Program In Msg Store) where
  -- the answer of the store that has this number; where there is none, none
  unfoldable pub answer_at : Request In Msg → List Store → ℕ → Option (Store × List Msg)
  answer_at c [] p = none
  answer_at c (x ∷ xs) zero = act c x
  answer_at c (x ∷ xs) (suc p) = answer_at c xs p

  unfoldable pub answer : Call In Msg → World Msg Store → Option (Store × List Msg)
  unfolding answer_at
  answer c w = answer_at c.request w.stores c.part

  -- Rule 15.17: a call changes its own part's store alone, a refused one nothing
  unfoldable pub changed : ℕ → World Msg Store → Option (Store × List Msg) → World Msg Store
  changed p w none = w
  changed p w (some y) = record { stores = set w.stores p y.0; given = y.1 ++ w.given }

  abbrev pub apply : Call In Msg → World Msg Store → World Msg Store
  apply c w = changed c.part w (answer c w)

  -- Rule 15.17.
  unfoldable pub play : List (Call In Msg) → World Msg Store → World Msg Store
  unfolding changed answer
  play [] w = w
  play (c ∷ cs) w = play cs (apply c w)

  unfoldable pub acceptsb : Option (Store × List Msg) → Bool
  acceptsb none = false
  acceptsb (some y) = true

  -- Rule 15.19.
  unfoldable pub moves : List (Call In Msg) → World Msg Store → ℕ
  unfolding changed answer acceptsb one_if
  moves [] w = 0
  moves (c ∷ cs) w = one_if (acceptsb (answer c w)) + moves cs (apply c w)

  -- the input of the first accepted start of the part, where there is one
  unfoldable pub begun : ℕ → ℕ → Request In Msg → Bool → Option In → Option In
  begun p q (Start i) true r = elim (eqb p q) [ true ↦ some i | false ↦ r ]
  begun p q (Start i) false r = r
  begun p q Step b r = r
  begun p q Fetch b r = r
  begun p q (Hand m) b r = r

  -- Rule 15.6.
  unfoldable pub started_with : List (Call In Msg) → World Msg Store → ℕ → Option In
  unfolding changed answer acceptsb begun
  started_with [] w p = none
  started_with (c ∷ cs) w p = begun p c.part c.request (acceptsb (answer c w)) (started_with cs (apply c w) p)

  -- Rule 15.17.
  unfoldable pub to_come : ℕ → Store → List Msg
  to_come zero x = []
  to_come (suc n) x = Option-elim (act Fetch x) [] (λ y. y.1 ++ to_come n y.0)

  -- Rule 15.17.
  unfoldable pub IsWritten : World Msg Store → Msg → Type 0
  unfolding to_come
  IsWritten w m = Memᴰ m w.given ⊎ ((x : Store) × Memᴰ x w.stores × (n : ℕ) × Memᴰ m (to_come n x))

  -- Rule 15.17.
  unfoldable pub Fair : Request In Msg → World Msg Store → Type 0
  unfolding IsWritten
  Fair (Start i) w = Unit {0}
  Fair Step w = Unit {0}
  Fair Fetch w = Unit {0}
  Fair (Hand m) w = IsWritten w m

  -- Rule 15.17.
  unfoldable pub Lawful : List (Call In Msg) → World Msg Store → Type 0
  unfolding changed answer acceptsb Fair
  Lawful [] w = Unit {0}
  Lawful (c ∷ cs) w = (T (acceptsb (answer c w)) → Fair c.request w) × Lawful cs (apply c w)
