-- Case B (section 14 of the method) on two parts, cell 0 with part 1 and its family with part 2: the rounds in lockstep, computed.
--   B           the split table as a task; Tied compares it with `split_task`
--   after ms p  what the part p knows after the last round, where the marks are ms; share what it then holds; mail what it wrote
-- Laws: emptied and kept (all eight marked 2 leave part 2 empty, and the coarse cell a leaf), refined and divided (cell 1 marked 1 gives
-- the masters of case C, and the coarse cell's ghost beside its family), told (the bytes that part 2 then writes for part 1).
-- And calls in no such order, played out on stores that say only what the stores of a split stand for:
--   Short, does  a part that has not started, or what it holds; what each call answers
--   calls        starts, steps, fetches and messages handed over; some too early, twice, to the wrong part, or with too few marks
-- Laws: played_out (what the calls lead to, field by field), lawful_calls (each message taken was given before).
use Rattle.std.specs.Prelude.{◌≡◌, refl, Bool, false, ◌&&◌, ◌||◌, eqb, ltb, length, get_or, replicate}
use Rattle.std.proofs.Math.Logic.{inl, ⊎_elim}
use Rattle.std.proofs.Math.Bool.{true, not}
use Rattle.std.proofs.Math.Option.{Option, none, some, Option-elim}
use mathlib.Core.List.{List, [], ◌∷◌, ◌++◌, map, reverse, Memᴰ}
use Prim.Native.Nat.{ℕ, zero, suc, ◌+◌, ◌-◌, ◌*◌, Fin}
use Rattle.std.proofs.Common.{arith}
use Rattle.std.proofs.Math.Decide.{Fin-discrete}
use Rattle.std.proofs.Math.Dec.{T}
use Rattle.base.specs.Bools.{or_either, and_left, and_right}
use Rattle.base.specs.Lists.{allb, anyb, sameb, sameb_eq}
use Rattle.base.specs.Range.{range}
use Rattle.cutting.specs.Rule.{family}
use Rattle.mesh.specs.Answers.{markb, marksb}
use Rattle.exchange.specs.Calls.{Request, Start, Step, Fetch, Hand, Call, World, Program, answer_at, answer, changed, apply, play, acceptsb}
use Rattle.exchange.specs.Calls.{moves, begun, started_with, to_come, Fair, Lawful, IsWritten}
use Rattle.exchange.specs.Finite.{parts, fins, pick, upd}
use Rattle.exchange.specs.Protocol.{Local, Protocol, parcel, numbered, at_start, following, with_queue, with_body}
use Rattle.exchange.specs.Lockstep.{lock, mail_count, post}
use Rattle.rounds.specs.Task.{Task}
use Rattle.rounds.specs.Rounds.{Body, mark, count, total, end, State, phase, writing, taking, starting}
use Rattle.rounds.specs.Rounded.{protocol, wholeb}
use Rattle.rounds.specs.Order.{order_of}
use Rattle.rounds.specs.Upward.{ups, up_from}
use Rattle.parts.specs.Held.{Entry}
use Rattle.parts.specs.Starts.{startb, put_together}
use Rattle.shares.specs.Grow.{entries, entry_by}
use Rattle.merging.specs.Totals.{grown_of}
use Rattle.mesh.specs.Table.{levels_of}
use Rattle.parts.specs.Owners.{nth_cell, children_of, family_of}
use Rattle.splitting.specs.Numbers.{numbers_of}
use Rattle.split.specs.Columns.{slot_of, keys_at}
use Rattle.tasks.specs.Holders.{split_task}
use Rattle.merging.specs.Run.{marks_from}
use Rattle.store.specs.Hand.{number_at}
use Rattle.standing.specs.Busy.{pack}
use Rattle.standing.specs.Packed.{packed}

pt : ℕ → Fin 2
pt zero = (0, omega arith)
pt (suc n) = (1, omega arith)

slots_of_b : List ℕ
slots_of_b =
    0 ∷ 1 ∷ 2 ∷ 3 ∷ 4 ∷ 5 ∷ 6 ∷ 7 ∷ 8 ∷ 9 ∷ 10 ∷ 11 ∷ 9 ∷ 10 ∷ 12 ∷ 11 ∷ 13 ∷ 14 ∷ 9 ∷ 15 ∷ 12 ∷ 16 ∷ 13 ∷ 17 ∷ 18 ∷ 15 ∷ 12 ∷ 19 ∷
    20 ∷ 17 ∷ 11 ∷ 13 ∷ 21 ∷ 14 ∷ 22 ∷ 23 ∷ 16 ∷ 13 ∷ 21 ∷ 17 ∷ 24 ∷ 23 ∷ 16 ∷ 25 ∷ 21 ∷ 26 ∷ 24 ∷ 27 ∷ 14 ∷ 22 ∷ 28 ∷ 23 ∷ 29 ∷ 30 ∷ []

paths_of_b : List (List ℕ)
paths_of_b = (0 ∷ []) ∷ map (λ i. 0 ∷ i ∷ []) (range 0 8)

B : Task (Fin 2)
unfolding range slots_of_b paths_of_b pt
B =
    record {
      top = 1;
      cells = λ k. get_or (range 0 1 ∷ range 1 8 ∷ []) k [];
      slots = λ k. get_or (range 0 6 ∷ range 6 25 ∷ []) k [];
      status = λ c. get_or (64 ∷ []) c 0;
      regular = λ c. true;
      kids = λ c. get_or (range 1 8 ∷ []) c [];
      inner = λ c e. true;
      slot = λ c e. get_or slots_of_b (6 * c + e) 0;
      path = λ c. get_or paths_of_b c [];
      parent = λ c. get_or (65535 ∷ []) c 0;
      owner = λ c. pt (get_or (0 ∷ 1 ∷ 1 ∷ 1 ∷ 1 ∷ 1 ∷ 1 ∷ 1 ∷ 1 ∷ []) c 0);
      family = λ c. pt 1;
    }

-- it is the task of the split table (the numbers of edges in slots_of_b are too long to compute here)
owners_of_b : List ℕ
owners_of_b = 1 ∷ replicate 8 2

abbrev task : Task (Fin 2)
task = split_task 1 4 ((0 ∷ 1 ∷ 2 ∷ 3 ∷ []) ∷ []) (64 ∷ replicate 8 0) owners_of_b

record Tied : Type 0 where
  levels : task.top ≡ B.top
  cells : map task.cells (0 ∷ 1 ∷ []) ≡ map B.cells (0 ∷ 1 ∷ [])
  slots : map task.slots (0 ∷ 1 ∷ []) ≡ map B.slots (0 ∷ 1 ∷ [])
  kids : task.kids 0 ≡ B.kids 0
  owners : map (λ c. (task.owner c).0) (range 0 9) ≡ map (λ c. (B.owner c).0) (range 0 9)
  family : (task.family 0).0 ≡ (B.family 0).0

tied : Tied
unfolding owners_of_b B pt slots_of_b paths_of_b family slot_of keys_at range children_of family_of numbers_of nth_cell levels_of
tied = record { levels = refl; cells = refl; slots = refl; kids = refl; owners = refl; family = refl }

after : (ℕ → ℕ) → Fin 2 → State
unfolding lock B
after ms p = lock (parts 2) (protocol (parts 2) B (grown_of (parts 2) B) (ups 2) (pack 2 B) (λ p i. i)) (λ q. ms) 5 p

share : (ℕ → ℕ) → Fin 2 → List Entry
unfolding after entries
share ms p = entries (parts 2) B p (after ms p)

mail : (ℕ → ℕ) → Fin 2 → List (List ℕ)
unfolding post B
mail ms p = post (parts 2) (protocol (parts 2) B (grown_of (parts 2) B) (ups 2) (pack 2 B) (λ p i. i)) (λ q. ms) 5 p

emptied : share (λ c. 2) (pt 1) ≡ []
unfolding share after B pt slots_of_b paths_of_b family fins Fin-discrete taking phase starting writing grown_of
emptied = refl

kept : share (λ c. 2) (pt 0) ≡ entry_by (0 ∷ []) 0 false ∷ []
unfolding share after B pt slots_of_b paths_of_b family fins Fin-discrete taking phase starting writing grown_of
kept = refl

first : ℕ → ℕ
first c = elim (eqb c 1) [ true ↦ 1 | false ↦ 0 ]

refined : share first (pt 0) ≡ entry_by (0 ∷ []) 64 false ∷ []
unfolding first share after B pt slots_of_b paths_of_b family fins Fin-discrete taking phase starting writing grown_of
refined = refl

leaves : List ℕ → ℕ → List Entry
leaves l n = map (λ i. entry_by (l ++ (i ∷ [])) 0 false) (range 0 n)

divided : share first (pt 1) ≡
    entry_by (0 ∷ []) 64 true
    ∷ entry_by (0 ∷ 0 ∷ []) 64 false ∷ leaves (0 ∷ 0 ∷ []) 8
    ++ entry_by (0 ∷ 1 ∷ []) 11 false ∷ leaves (0 ∷ 1 ∷ []) 4
    ++ entry_by (0 ∷ 2 ∷ []) 1 false ∷ leaves (0 ∷ 2 ∷ []) 2
    ++ entry_by (0 ∷ 3 ∷ []) 0 false
    ∷ entry_by (0 ∷ 4 ∷ []) 1 false ∷ leaves (0 ∷ 4 ∷ []) 2
    ++ map (λ i. entry_by (0 ∷ i ∷ []) 0 false) (5 ∷ 6 ∷ 7 ∷ [])
unfolding first share after B pt slots_of_b paths_of_b leaves family fins Fin-discrete taking phase starting writing grown_of
divided = refl

-- an end, an end, the mark of cell 0 and an end, an end, its 24 masters with level 2 and an end
told : mail first (pt 1) ≡
    (4 ∷ 2 ∷ 1 ∷ 0 ∷ 0 ∷ [])
    ∷ (4 ∷ 2 ∷ 1 ∷ 1 ∷ 0 ∷ [])
    ∷ (1 ∷ 2 ∷ 1 ∷ 2 ∷ 0 ∷ 0 ∷ 0 ∷ 1 ∷ [])
    ∷ (4 ∷ 2 ∷ 1 ∷ 3 ∷ 0 ∷ [])
    ∷ (4 ∷ 2 ∷ 1 ∷ 4 ∷ 0 ∷ [])
    ∷ (3 ∷ 2 ∷ 1 ∷ 5 ∷ 0 ∷ 24 ∷ 0 ∷ 2 ∷ [])
    ∷ (4 ∷ 2 ∷ 1 ∷ 6 ∷ 0 ∷ [])
    ∷ []
unfolding first mail B pt slots_of_b paths_of_b family fins Fin-discrete taking phase starting writing grown_of order_of up_from packed parcel
    mail_count lock pick
told = refl

-- LISTS OF CALLS
abbrev rounds : Protocol (Fin 2) (List ℕ) Body (List ℕ) State
rounds = protocol (parts 2) B (grown_of (parts 2) B) (ups 2) (pack 2 B) (λ p ms c. marks_from owners_of_b (λ o. ms) p c)

data Short : Type 0 where
  fresh : Fin 2 → Short
  busy : Fin 2 → Local (Fin 2) Body (List ℕ) State → Short

body_in : List ℕ → Body
body_in m =
    elim (eqb (get_or m 0 0) 1) [
      | true ↦ mark (number_at m 5) (eqb (get_or m 7 0) 1)
      | false ↦ elim (eqb (get_or m 0 0) 2) [
        | true ↦ count (number_at m 5) (number_at m 7)
        | false ↦ elim (eqb (get_or m 0 0) 3) [ true ↦ total (number_at m 5) (get_or m 7 0) | false ↦ end ]
      ]
    ]

whole_from : Fin 2 → Local (Fin 2) Body (List ℕ) State → Fin 2 → Bool
unfolding wholeb B
whole_from p l q = wholeb (parts 2) B l.round q p (l.got q)

given : Fin 2 → Local (Fin 2) Body (List ℕ) State → List (List ℕ) → Option (Short × List (List ℕ))
given p l [] = none
given p l (m ∷ w) = some (busy p (with_queue l w), m ∷ [])

-- a message for this part, from a part that has not ended its round, and the next of its messages
nextb : Fin 2 → Local (Fin 2) Body (List ℕ) State → List ℕ → Fin 2 → Bool
unfolding whole_from
nextb p l m q = eqb (get_or m 2 0) (suc p.0) && (not (whole_from p l q) && eqb (number_at m 3) (l.before q + length (l.got q)))

does : Program (List ℕ) (List ℕ) Short
unfolding startb owners_of_b whole_from given nextb body_in pt upd B allb
does (Start ms) (fresh p) =
    elim (startb (64 ∷ replicate 8 0) owners_of_b (suc p.0) ms) [
      | true ↦ some (busy p (at_start (parts 2) rounds p ms), [])
      | false ↦ none
    ]
does (Start ms) (busy p l) = none
does Step (fresh p) = none
does Step (busy p l) =
    elim (ltb l.round rounds.rounds && allb (whole_from p l) (parts 2).list) [
      | true ↦ some (busy p (following (parts 2) rounds p l), [])
      | false ↦ none
    ]
does Fetch (fresh p) = none
does Fetch (busy p l) = given p l l.queue
does (Hand m) (fresh p) = none
does (Hand m) (busy p l) =
    let q = pt (get_or m 1 0 - 1) in
    elim (nextb p l m q) [ true ↦ some (busy p (with_body (parts 2) l q (body_in m)), []) | false ↦ none ]

call : ℕ → Request (List ℕ) (List ℕ) → Call (List ℕ) (List ℕ)
call p c = record { part = p; request = c }

hands : ℕ → List (List ℕ) → List (Call (List ℕ) (List ℕ))
hands p l = map (λ m. record { part = p; request = Hand m }) l

fetches : ℕ → ℕ → List (Call (List ℕ) (List ℕ))
fetches p n = replicate n (record { part = p; request = Fetch })

-- what part 1 writes: ends, the counts of the six edges of cell 0 and an end, its one master and an end; and what part 2 writes (told)
end_by : ℕ → ℕ → ℕ → List ℕ
end_by q p k = 4 ∷ q ∷ p ∷ k ∷ 0 ∷ []

counted : List (List ℕ)
unfolding end_by range
counted = map (λ i. 2 ∷ 1 ∷ 2 ∷ (3 + i) ∷ 0 ∷ i ∷ 0 ∷ 1 ∷ 0 ∷ []) (range 0 6) ++ (end_by 1 2 9 ∷ [])

totalled : List (List ℕ)
unfolding end_by
totalled = (3 ∷ 1 ∷ 2 ∷ 10 ∷ 0 ∷ 1 ∷ 0 ∷ 0 ∷ []) ∷ end_by 1 2 11 ∷ []

marked : List (List ℕ)
unfolding end_by
marked = (1 ∷ 2 ∷ 1 ∷ 2 ∷ 0 ∷ 0 ∷ 0 ∷ 1 ∷ []) ∷ end_by 2 1 3 ∷ []

summed : List (List ℕ)
unfolding end_by
summed = (3 ∷ 2 ∷ 1 ∷ 5 ∷ 0 ∷ 24 ∷ 0 ∷ 2 ∷ []) ∷ end_by 2 1 6 ∷ []

calls : List (Call (List ℕ) (List ℕ))
unfolding call hands fetches end_by counted totalled marked summed
calls =
    -- part 1 starts; its end is offered too early; part 2 starts, with too few marks first; the end to the wrong part, and twice
    call 0 (Start (0 ∷ [])) ∷ call 0 Fetch ∷ call 0 Fetch ∷ call 1 (Hand (end_by 1 2 0)) ∷ call 0 Step ∷ call 1 (Start (1 ∷ []))
    ∷ call 1 (Start (1 ∷ replicate 7 0)) ∷ call 0 (Hand (end_by 1 2 0)) ∷ call 1 (Hand (end_by 1 2 0)) ∷ call 1 (Hand (end_by 1 2 0))
    -- part 2 goes ahead; its later end is offered before the first; part 1 is started again, and follows
    ∷ call 1 Step ∷ fetches 1 2 ++ call 0 (Hand (end_by 2 1 1)) ∷ call 0 (Hand (end_by 2 1 0)) ∷ call 0 (Start (0 ∷ [])) ∷ call 0 Step
    ∷ call 0 (Hand (end_by 2 1 1)) ∷ call 0 Step ∷ fetches 0 2
    -- the coarse cell: its mark, the counts of its edges
    ++ call 1 (Hand (end_by 1 2 1)) ∷ call 1 Step ∷ call 1 (Hand (end_by 1 2 2)) ∷ call 1 Step ∷ fetches 1 3 ++ hands 0 marked
    ++ call 0 Step ∷ fetches 0 7 ++ call 0 (Hand (end_by 2 1 4)) ∷ hands 1 counted
    -- the totals; then both are done
    ++ call 0 Step ∷ call 1 Step ∷ fetches 0 2 ++ fetches 1 2 ++ hands 1 totalled ++ hands 0 summed
    ++ call 0 Step ∷ call 1 Step ∷ call 0 Step ∷ []

begin : World (List ℕ) Short
unfolding pt
begin = record { stores = fresh (pt 0) ∷ fresh (pt 1) ∷ []; given = [] }

round_in : Short → ℕ
round_in (fresh p) = 0
round_in (busy p l) = l.round

holds : Short → List Entry
unfolding entries B
holds (fresh p) = []
holds (busy p l) = entries (parts 2) B p l.state

result_of : Short → ℕ × ℕ
result_of (fresh p) = (0, 0)
result_of (busy p l) = (l.state.total, l.state.high)

-- each message that is taken was given before: a test, and that it is enough
module _ {In Store : Type 0} (act : Program In (List ℕ) Store) where
  fairb : Request In (List ℕ) → World (List ℕ) Store → Bool
  unfolding anyb sameb
  fairb (Start i) w = true
  fairb Step w = true
  fairb Fetch w = true
  fairb (Hand m) w = anyb (sameb m) w.given

  lawfulb : List (Call In (List ℕ)) → World (List ℕ) Store → Bool
  unfolding fairb changed answer acceptsb
  lawfulb [] w = true
  lawfulb (c ∷ cs) w = (not (acceptsb act (answer act c w)) || fairb c.request w) && lawfulb cs (apply act c w)

  among : (m : List ℕ) (l : List (List ℕ)) → T (anyb (sameb m) l) → Memᴰ m l
  unfolding anyb
  among m [] t = absurd t
  among m (x ∷ l) t =
      ⊎_elim (λ (u : T (sameb m x)). Memᴰ.head (sameb_eq m x u)) (λ (u : T (anyb (sameb m) l)). Memᴰ.tail (among m l u))
      (or_either (sameb m x) (anyb (sameb m) l) t)

  needed : (a b : Bool) → T (not a || b) → T a → T b
  needed true b t u = t
  needed false b t u = absurd u

  fair_by : (c : Request In (List ℕ)) (w : World (List ℕ) Store) → T (fairb c w) → Fair act c w
  unfolding fairb Fair IsWritten
  fair_by (Start i) w t = tt
  fair_by Step w t = tt
  fair_by Fetch w t = tt
  fair_by (Hand m) w t = inl (among m w.given t)

  lawful_by : (cs : List (Call In (List ℕ))) (w : World (List ℕ) Store) → T (lawfulb cs w) → Lawful act cs w
  unfolding lawfulb Lawful
  lawful_by [] w t = tt
  lawful_by (c ∷ cs) w t =
      let a = not (acceptsb act (answer act c w)) || fairb c.request w in
      let b = lawfulb cs (apply act c w) in (
        λ u. fair_by c.request w (needed (acceptsb act (answer act c w)) (fairb c.request w) (and_left a b t) u),
        lawful_by cs (apply act c w) (and_right a b t),
      )

-- the whole list: lawful, fifty of its 59 calls moved the exchange on, all messages were fetched, both parts are done, know 25 cells on
-- 3 levels, and hold what refined and divided say; the marks they started with, put together, are the serial ones; and what a part
-- that has started is to give
record PlayedOut : Type 0 where
  lawful : lawfulb does calls begin ≡ true
  moved : moves does calls begin ≡ 50
  all : length calls ≡ 59
  fetched : (play does calls begin).given
      ≡ reverse (end_by 1 2 0 ∷ end_by 2 1 0 ∷ end_by 2 1 1 ∷ end_by 1 2 1 ∷ end_by 1 2 2 ∷ marked
      ++ end_by 2 1 4 ∷ counted ++ totalled ++ summed)
  ends : map round_in (play does calls begin).stores ≡ 5 ∷ 5 ∷ []
  results : map result_of (play does calls begin).stores ≡ (25, 2) ∷ (25, 2) ∷ []
  holding : map holds (play does calls begin).stores ≡ share first (pt 0) ∷ share first (pt 1) ∷ []
  started_1 : started_with does calls begin 0 ≡ some (0 ∷ [])
  started_2 : started_with does calls begin 1 ≡ some (1 ∷ replicate 7 0)
  together : put_together owners_of_b (λ p. Option-elim (started_with does calls begin (p - 1)) [] (λ ms. ms)) ≡ 0 ∷ 1 ∷ replicate 7 0
  to_come_lem : map (to_come does 3) (play does (call 0 (Start (0 ∷ [])) ∷ []) begin).stores ≡ (end_by 1 2 0 ∷ []) ∷ [] ∷ []

played_out : PlayedOut
unfolding moves changed answer answer_at acceptsb does calls begin first mail B pt slots_of_b paths_of_b family fins Fin-discrete taking phase
    starting writing grown_of order_of up_from packed parcel numbered pick upd whole_from wholeb given nextb body_in startb owners_of_b marks_from
    call hands fetches end_by counted totalled marked summed Option-elim markb marksb play started_with begun put_together round_in result_of
    holds share after lawfulb fairb to_come
played_out = record {
  lawful = refl;
  moved = refl;
  all = refl;
  fetched = refl;
  ends = refl;
  results = refl;
  holding = refl;
  started_1 = refl;
  started_2 = refl;
  together = refl;
  to_come_lem = refl;
}

-- so the exchange's theorem speaks of it
lawful_calls : Lawful does calls begin
lawful_calls = lawful_by does calls begin (rw played_out.lawful tt)
