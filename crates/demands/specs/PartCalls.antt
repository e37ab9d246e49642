-- Demand 1 of the calls on parts (Rules 15.5 to 15.16): each is answered with a result or one of its numbers,
-- and a refusal changes no store.
--   split_tests, start_tests, .. the tests of each call, in the order of their refusals
--   PartCalls                  the calls, each with its numbers in order, and what stands beside a refusal
use Rattle.std.proofs.Math.Path.{◌≡◌, refl, ap, sym, subst}
use Rattle.std.proofs.Common.{◌∙◌, arith, le-leb}
use Rattle.std.proofs.Math.Bool.{Bool, true, false, not}
use Rattle.std.specs.Prelude.{◌&&◌, List, [], ◌∷◌, ◌++◌, eqb, ℤ, length}
use Rattle.std.proofs.Math.Option.{Option, some}
use Prim.Native.Nat.{ℕ, ◌*◌, ◌≤◌}
use Rattle.std.proofs.Math.Dec.{ltb, leb}
use Rattle.std.proofs.lemmas.List.Edits.{sets}
use Rattle.base.specs.Fours.{fours}
use Rattle.base.specs.Lists.{allb, memberb}
use Rattle.base.specs.Limits.{most_cells, most_parts}
use Rattle.base.specs.Refuse.{refuse, and_then}
use Rattle.base.specs.Answer.{Answer}
use Rattle.base.specs.Answer.{Accepted, Refused}
use Rattle.mesh.specs.Coarse.{coarse_corner_count}
use Rattle.parts.specs.Owners.{ownersb}
use Rattle.exchange.specs.Calls.{Fetch}
use Rattle.store.specs.Fields.{field, full, STAGE, CELLS, ROUND, RESULT}
use Rattle.store.specs.Header.{headerb}
use Rattle.store.specs.Fetched.{Fetched}
use Rattle.store.specs.Fetched as fetched
use Rattle.store.specs.Fetch.{next_to_give, given, passed_by, fetch_refusal, found_of, fetch_answer, givesb, fetch_bytes, fetch_after}
use Rattle.store.specs.Hand.{number_at, wellb, taken_at, ended_at, hand_answer, taken_in, hand_after}
use Rattle.turns.specs.Start.{marks_due, start_answer, started_in, start_after}
use Rattle.partstep.specs.Step.{readyb, part_answer, part_after}
use Rattle.held.specs.Held.{full_held, held_answer, stage_answer, stage_of, progress_of}
use Rattle.held.specs.Progress.{Progress}
use Rattle.held.specs.Progress as progress
use Rattle.split.specs.Split.{stores_after, split_answer, split_in, split_after}
use Rattle.merge.specs.Merge.{mergeb, merge_answer}
use Rattle.outcome.specs.Program.{gives, nine, act}
use Rattle.outcome.specs.Machines.{take_sets, given_short}
use Rattle.held.specs.Says.{says_of}
use Rattle.demands.specs.Order.{Test, first_of, first_then, Answered, answered_by}
use Rattle.demands.specs.Tests.{table_tests}
use Rattle.demands.specs.Answered.{table_first}

-- Rules 12.6, 15.14, 15.16.
abbrev pub split_tests : List ℤ → List ℕ → List ℕ → ℕ → List ℕ → List ℕ → List Test
split_tests ps ts ss P os b =
    (15, leb (most_parts * full) (length b)) ∷ (table_tests ps ts ss
    ++ ((10, leb 1 P && leb P most_parts) ∷ (11, ownersb (coarse_corner_count ps) (fours ts) ss P os) ∷ []))

-- Rules 15.6, 15.16.
abbrev pub start_tests : List ℕ → List ℕ → List Test
start_tests x ms = (15, leb full (length x)) ∷ (16, headerb x && eqb (field x STAGE) 0) ∷ (7, marks_due x ms (field x CELLS) 0 0) ∷ []

-- Rules 15.7, 15.16.
abbrev pub part_tests : List ℕ → List Test
part_tests x = (15, leb full (length x)) ∷ (16, headerb x && (eqb (field x STAGE) 1 && readyb x)) ∷ []

-- Rules 15.8, 15.16.
abbrev pub fetch_tests : List ℕ → List ℕ → List Test
fetch_tests x out = (15, leb full (length x) && leb 9 (length out)) ∷ (16, headerb x && not (eqb (field x STAGE) 0)) ∷ []

-- Rules 15.15, 15.16.
abbrev pub hand_tests : List ℕ → List ℕ → List Test
hand_tests x m =
    (15, leb full (length x)) ∷ (16, headerb x && not (eqb (field x STAGE) 0)) ∷ (12, wellb x m) ∷ (13, leb (taken_at x m) (number_at m 3))
    ∷ (14, leb (number_at m 3) (taken_at x m) && (eqb (field x STAGE) 1 && leb (ended_at x m) (field x ROUND))) ∷ []

-- Rule 15.16.
abbrev pub stage_tests : List ℕ → List Test
stage_tests x = (15, leb full (length x)) ∷ (16, headerb x && not (eqb (field x STAGE) 0)) ∷ []

-- Rules 15.11, 15.16.
abbrev pub held_tests : List ℕ → List ℕ → List Test
held_tests x rows = (15, leb full (length x) && leb full_held (length rows)) ∷ (16, headerb x && eqb (field x STAGE) 2) ∷ []

-- Rules 15.12, 15.16.
abbrev pub merge_tests : List ℕ → List ℕ → List Test
merge_tests b t = (15, leb (most_parts * full) (length b) && leb most_cells (length t)) ∷ (16, mergeb b) ∷ []

-- a fetch, and what `stage` says, as an answer
unfoldable pub fetched_as : Fetched → Answer
fetched_as (fetched.Message n) = Accepted
fetched_as fetched.Nothing = Accepted
fetched_as (fetched.Refused k) = Refused k

unfoldable pub said_as : Progress → Answer
said_as (progress.Running r) = Accepted
said_as progress.Done = Accepted
said_as (progress.Ended k) = Accepted
said_as (progress.Refused k) = Refused k

pub record PartCalls : Type 1 where
  pub split : (ps : List ℤ) (ts ss : List ℕ) (P : ℕ) (os b : List ℕ)
      → Answered (split_answer ps ts ss P os b) (split_tests ps ts ss P os b) (15 ∷ 1 ∷ 2 ∷ 3 ∷ 4 ∷ 5 ∷ 6 ∷ 10 ∷ 11 ∷ [])
  pub start : (x ms : List ℕ) → Answered (start_answer x ms) (start_tests x ms) (15 ∷ 16 ∷ 7 ∷ [])
  pub part_step : (x : List ℕ) → Answered (part_answer x) (part_tests x) (15 ∷ 16 ∷ [])
  pub fetch : (x out : List ℕ) → Answered (fetched_as (fetch_answer x out)) (fetch_tests x out) (15 ∷ 16 ∷ [])
  pub hand_over : (x m : List ℕ) → Answered (hand_answer x m) (hand_tests x m) (15 ∷ 16 ∷ 12 ∷ 13 ∷ 14 ∷ [])
  pub stage : (x : List ℕ) → Answered (said_as (says_of x)) (stage_tests x) (15 ∷ 16 ∷ [])
  pub held : (x rows : List ℕ) → Answered (held_answer x rows) (held_tests x rows) (15 ∷ 16 ∷ [])
  pub merge : (b t : List ℕ) → Answered (merge_answer b t) (merge_tests b t) (15 ∷ 16 ∷ [])
  -- a refusal changes no store
  pub split_refused : (ps : List ℤ) (ts ss : List ℕ) (P : ℕ) (os b : List ℕ) (k : ℕ) → split_answer ps ts ss P os b ≡ Refused k
      → split_after ps ts ss P os b ≡ b
  pub start_refused : (x ms : List ℕ) (k : ℕ) → start_answer x ms ≡ Refused k → start_after x ms ≡ x
  pub step_refused : (x : List ℕ) (k : ℕ) → part_answer x ≡ Refused k → part_after x ≡ x
  pub fetch_refused : (x out : List ℕ) (k : ℕ) → fetch_answer x out ≡ fetched.Refused k → (fetch_bytes x out ≡ out) × (fetch_after x out ≡ x)
  pub hand_refused : (x m : List ℕ) (k : ℕ) → hand_answer x m ≡ Refused k → hand_after x m ≡ x
  -- a fetch does the same whatever is lent for the bytes, if it is long enough; so lists of calls (demand 3) say nothing of it
  pub fetch_lent : (x out : List ℕ) → 9 ≤ length out → gives (fetch_answer x out) (fetch_bytes x out) (fetch_after x out) ≡ act Fetch x

split_first : (ps : List ℤ) (ts ss : List ℕ) (P : ℕ) (os b : List ℕ) → split_answer ps ts ss P os b ≡ first_of (split_tests ps ts ss P os b)
unfolding split_answer first_of
split_first ps ts ss P os b =
    let last : List Test = (10, leb 1 P && leb P most_parts) ∷ (11, ownersb (coarse_corner_count ps) (fours ts) ss P os) ∷ [] in
    ap (refuse 15 (leb (most_parts * full) (length b)))
    (ap (λ a. and_then a (first_of last)) (table_first ps ts ss) ∙ sym (first_then (table_tests ps ts ss) last))

-- fetching, by its refusal's number
module _ (x out : List ℕ) where
  fetched_by : fetched_as (fetch_answer x out)
      ≡ elim (eqb (fetch_refusal x out) 0) [ true ↦ Accepted | false ↦ Refused (fetch_refusal x out) ]
  unfolding fetch_answer found_of fetched_as
  fetched_by = go (eqb (fetch_refusal x out) 0) (ltb (next_to_give x).bit most_parts)
    where
      go : (a b : Bool) → fetched_as (elim a [
        | true ↦ elim b [ true ↦ fetched.Message (length (given x (next_to_give x))) | false ↦ fetched.Nothing ]
        | false ↦ fetched.Refused (fetch_refusal x out)
      ]) ≡ elim a [ true ↦ Accepted | false ↦ Refused (fetch_refusal x out) ]
      go true true = refl
      go true false = refl
      go false b = refl

  fetch_first : fetched_as (fetch_answer x out) ≡ first_of (fetch_tests x out)
  unfolding fetch_refusal first_of refuse
  fetch_first = fetched_by ∙ go (leb full (length x) && leb 9 (length out)) (headerb x && not (eqb (field x STAGE) 0))
    where
      number : Bool → Bool → ℕ
      number a b = elim a [ false ↦ 15 | true ↦ elim b [ true ↦ 0 | false ↦ 16 ] ]

      go : (a b : Bool) → elim (eqb (number a b) 0) [ true ↦ Accepted | false ↦ Refused (number a b) ] ≡ refuse 15 a (refuse 16 b Accepted)
      go true true = refl
      go true false = refl
      go false b = refl

  no_gift : (k : ℕ) → fetch_answer x out ≡ fetched.Refused k → givesb x out ≡ false
  unfolding fetched_as givesb
  no_gift k e =
      let z : ◌≡◌ {A = Answer} (elim (eqb (fetch_refusal x out) 0) [ true ↦ Accepted | false ↦ Refused (fetch_refusal x out) ]) (Refused k) =
      sym fetched_by ∙ ap fetched_as e in
      go (eqb (fetch_refusal x out) 0) z
    where
      go : (a : Bool) → ◌≡◌ {A = Answer} (elim a [ true ↦ Accepted | false ↦ Refused (fetch_refusal x out) ]) (Refused k)
          → (a && ltb (next_to_give x).bit most_parts) ≡ false
      go true f = let c : ◌≡◌ {A = ℕ} 0 1 = cc in absurd (omega arith)
      go false f = refl

  bytes_same : (k : ℕ) → fetch_answer x out ≡ fetched.Refused k → fetch_bytes x out ≡ out
  unfolding fetch_bytes
  bytes_same k e = rw (no_gift k e, fetch_bytes)

  fetch_same : (k : ℕ) → fetch_answer x out ≡ fetched.Refused k → fetch_after x out ≡ x
  unfolding fetch_after
  fetch_same k e = rw (no_gift k e, fetch_after)

  -- whatever is lent
  lent_same : 9 ≤ length out → fetch_refusal x out ≡ fetch_refusal x nine
  unfolding fetch_refusal
  lent_same h = ap (λ (b : Bool). elim (leb full (length x) && b) [
    | false ↦ 15
    | true ↦ elim (headerb x && not (eqb (field x STAGE) 0)) [ true ↦ 0 | false ↦ 16 ]
  ]) (le-leb 9 (length out) h)

  fetch_lent : 9 ≤ length out → gives (fetch_answer x out) (fetch_bytes x out) (fetch_after x out) ≡ act Fetch x
  unfolding act gives fetch_answer fetch_bytes fetch_after givesb found_of
  fetch_lent h =
      subst (λ (r : ℕ). by r out ≡ act Fetch x) (sym (lent_same h)) (go (eqb (fetch_refusal x nine) 0) (ltb (next_to_give x).bit most_parts))
    where
      found : Bool → Bool → ℕ → Fetched
      found u v r = elim u [
        | true ↦ elim v [ true ↦ fetched.Message (length (given x (next_to_give x))) | false ↦ fetched.Nothing ]
        | false ↦ fetched.Refused r
      ]

      from : Bool → Bool → ℕ → List ℕ → Option (List ℕ × List (List ℕ))
      from u v r l = gives (found u v r) (elim (u && v) [ true ↦ sets l 0 (given x (next_to_give x)) | false ↦ l ])
          (elim (u && v) [ true ↦ passed_by x (next_to_give x) | false ↦ x ])

      by : ℕ → List ℕ → Option (List ℕ × List (List ℕ))
      by r l = from (eqb r 0) (ltb (next_to_give x).bit most_parts) r l

      go : (u v : Bool) → from u v (fetch_refusal x nine) out ≡ from u v (fetch_refusal x nine) nine
      go true true =
          let m = given x (next_to_give x) in
          ap (λ (l : List ℕ). some (passed_by x (next_to_give x), l ∷ []))
          (take_sets m out (omega (arith, given_short x)) ∙ sym (take_sets m nine (given_short x)))
      go true false = refl
      go false v = refl

-- what `stage` says
said : (x : List ℕ) → said_as (says_of x) ≡ first_of (stage_tests x)
unfolding said_as says_of stage_answer stage_of progress_of first_of
said x = go (stage_answer x) ∙ refl
  where
    plain : said_as (stage_of x) ≡ Accepted
    plain = at (eqb (field x STAGE) 1) (eqb (field x RESULT) 0)
      where
        at : (a b : Bool) → said_as (elim a [
          | true ↦ progress.Running (field x ROUND)
          | false ↦ elim b [ true ↦ progress.Done | false ↦ progress.Ended (field x RESULT) ]
        ]) ≡ Accepted
        at true b = refl
        at false true = refl
        at false false = refl

    go : (a : Answer) → said_as (progress_of a (stage_of x)) ≡ a
    go Accepted = plain
    go (Refused k) = refl

split_same : (ps : List ℤ) (ts ss : List ℕ) (P : ℕ) (os b : List ℕ) (k : ℕ) → split_answer ps ts ss P os b ≡ Refused k
    → split_after ps ts ss P os b ≡ b
unfolding split_after split_in
split_same ps ts ss P os b k e = ap (λ (a : Answer). split_in a (stores_after (coarse_corner_count ps) (fours ts) ss P os b) b) e

start_same : (x ms : List ℕ) (k : ℕ) → start_answer x ms ≡ Refused k → start_after x ms ≡ x
unfolding start_after started_in
start_same x ms k e = rw (e, start_after)

step_same : (x : List ℕ) (k : ℕ) → part_answer x ≡ Refused k → part_after x ≡ x
unfolding part_after
step_same x k e = rw (e, part_after)

hand_same : (x m : List ℕ) (k : ℕ) → hand_answer x m ≡ Refused k → hand_after x m ≡ x
unfolding hand_after taken_in
hand_same x m k e = rw (e, hand_after)

pub part_calls : PartCalls
unfolding allb memberb start_answer part_answer hand_answer stage_answer held_answer merge_answer first_of
part_calls = record {
  split = λ ps ts ss P os b. answered_by _ (split_tests ps ts ss P os b) _ (split_first ps ts ss P os b) tt;
  start = λ x ms. answered_by _ (start_tests x ms) _ refl tt;
  part_step = λ x. answered_by _ (part_tests x) _ refl tt;
  fetch = λ x out. answered_by _ (fetch_tests x out) _ (fetch_first x out) tt;
  hand_over = λ x m. answered_by _ (hand_tests x m) _ refl tt;
  stage = λ x. answered_by _ (stage_tests x) _ (said x) tt;
  held = λ x rows. answered_by _ (held_tests x rows) _ refl tt;
  merge = λ b t. answered_by _ (merge_tests b t) _ refl tt;
  split_refused = split_same;
  start_refused = start_same;
  step_refused = step_same;
  fetch_refused = λ x out k e. (bytes_same x out k e, fetch_same x out k e);
  hand_refused = hand_same;
  fetch_lent = fetch_lent;
}
