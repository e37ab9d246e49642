-- What a part says of itself, as the call `stage` answers it, and that a part which says that it is done says and holds the same for ever.
--   SameSays x y  the stores x and y say and hold the same
-- Laws: says_done and says_ended (what a done store says), done_kept (whatever is called next).
use Rattle.std.specs.Prelude.{◌≡◌, ◌≢◌, Bool, ◌&&◌, not, ltb, leb, length, get_or, set}
use Rattle.std.proofs.Math.Path.{refl, sym, ap, ap₂, fun_ext}
use Rattle.std.proofs.Common.{◌∙◌, subst, ltb→lt, length-set, get_or-set_same, get_or-set_other}
use Rattle.std.proofs.Math.Bool.{true, false}
use Rattle.std.proofs.Math.Option.{Option, none, some}
use mathlib.Core.List.{List, [], ◌∷◌, map}
use Prim.Native.Nat.{ℕ, ◌+◌, ◌≤◌, ◌<◌}
use Rattle.std.proofs.Math.Decide.{ℕ_discrete}
use native.Mathlib.Omega.{arith}
use Rattle.std.proofs.Math.Dec.{T, eqb}
use borrow.Author.Tests.{eq-eqb, ne_eqb, eqb-true, le-leb}
use Rattle.base.specs.Limits.{most_parts}
use Rattle.base.specs.Bools.{and_left, and_right, is_true}
use Rattle.base.specs.Range.{range}
use Rattle.base.specs.Refuse.{refuse}
use Rattle.base.specs.Answer.{Accepted}
use Rattle.exchange.specs.Calls.{Request, Start, Step, Fetch, Hand, answer_at, answer, changed, play}
use Rattle.exchange.specs.Played.{answer_at_lem, play_none, play_some}
use Rattle.parts.specs.Held.{Entry}
use Rattle.store.specs.Fields.{field, full, STAGE, ROUND, RESULT, ENTRIES, CURSOR, OWNER, PLACE_HEAD, PLACE_DIGITS, PLACE_MORE}
use Rattle.store.specs.Fields.{PLACE_STATUS}
use Rattle.store.specs.Header.{headerb}
use Rattle.store.specs.Fetch.{next_to_give, passed_by, fetch_answer, fetch_bytes, fetch_after, fetch_refusal, givesb}
use Rattle.store.specs.Hand.{hand_answer, hand_after}
use Rattle.store.specs.Handing.{refuse_on, taken_is}
use Rattle.store.specs.Fetched.{Fetched}
use Rattle.store.specs.Fetched.{Message, Nothing, Refused as FetchRefused}
use Rattle.standing.specs.Busy.{header_same}
use Rattle.standing.specs.Walk.{passed_else, passed_length}
use Rattle.turns.specs.Start.{start_answer, start_after}
use Rattle.partstep.specs.Step.{readyb, part_answer, part_after}
use Rattle.held.specs.Held.{stage_answer, stage_of, progress_of, entry_in, held_in}
use Rattle.held.specs.Says.{says_of, doneb}
use Rattle.held.proofs.Says.{says_stage}
use Rattle.held.specs.Progress.{Progress}
use Rattle.held.specs.Progress as progress
use Rattle.outcome.specs.Program.{gives, nine, act}
use Rattle.outcome.specs.Machines.{some_accepted}
use Rattle.agreement.specs.Terms.{Calls, Stores}

-- what is said, by what it rests on
says_from : ℕ → Bool → ℕ → ℕ → ℕ → Progress
unfolding progress_of refuse
says_from n h s r v = progress_of (refuse 15 (leb full n) (refuse 16 (h && not (eqb s 0)) Accepted)) (
    elim (eqb s 1) [
      | true ↦ progress.Running r
      | false ↦ elim (eqb v 0) [ true ↦ progress.Done | false ↦ progress.Ended v ]
    ])

module _ (x : List ℕ) where
  says_from_lem : says_of x ≡ says_from (length x) (headerb x) (field x STAGE) (field x ROUND) (field x RESULT)
  unfolding says_of says_from stage_answer stage_of
  says_from_lem = refl

  -- what a done store says
  module _ (long : full ≤ length x) (head : headerb x ≡ true) (stage : field x STAGE ≡ 2) where
    says_by : says_of x ≡ elim (eqb (field x RESULT) 0) [ true ↦ progress.Done | false ↦ progress.Ended (field x RESULT) ]
    unfolding says_from refuse
    says_by = says_from_lem ∙ rw (head, stage, says_from, le-leb full (length x) long)

    pub says_done : field x RESULT ≡ 0 → says_of x ≡ progress.Done
    says_done e = says_by ∙ rw (eq-eqb (field x RESULT) 0 e)

    pub says_ended : (k : ℕ) → k ≢ 0 → field x RESULT ≡ k → says_of x ≡ progress.Ended k
    says_ended k n e = says_by ∙ ap (λ (r : ℕ). elim (eqb r 0) [ true ↦ progress.Done | false ↦ progress.Ended r ]) e ∙ rw (ne_eqb k 0 n)

    pub says_so : doneb (says_of x) ≡ true
    unfolding doneb
    says_so = ap doneb says_by ∙ go (eqb (field x RESULT) 0)
      where
        go : (b : Bool) → doneb (elim b [ true ↦ progress.Done | false ↦ progress.Ended (field x RESULT) ]) ≡ true
        go true = refl
        go false = refl

pub record SameSays (x y : List ℕ) : Type 0 where
  pub says : says_of y ≡ says_of x
  pub holds : held_in y ≡ held_in x

same_on : (x y z : List ℕ) → SameSays x y → SameSays y z → SameSays x z
same_on x y z a b = record { says = b.says ∙ a.says; holds = b.holds ∙ a.holds }

-- stores that differ only between the header and the columns
module _ (x y : List ℕ) (size : length y ≡ length x) (low : (i : ℕ) → i < CURSOR → field y i ≡ field x i)
    (high : (i : ℕ) → OWNER ≤ i → field y i ≡ field x i) where
  entry_same : (j : ℕ) → entry_in y j ≡ entry_in x j
  unfolding entry_in
  entry_same j = rw (
    high (PLACE_HEAD + j) (omega arith),
    high (PLACE_DIGITS + j) (omega arith),
    high (PLACE_MORE + j) (omega arith),
    high (PLACE_STATUS + j) (omega arith),
  )

  from : says_from (length y) (headerb y) (field y STAGE) (field y ROUND) (field y RESULT)
      ≡ says_from (length x) (headerb x) (field x STAGE) (field x ROUND) (field x RESULT)
  from = rw (size, header_same x y (λ i h. low i (omega arith)), low STAGE (omega arith), low ROUND (omega arith), low RESULT (omega arith))

  alike : SameSays x y
  unfolding held_in
  alike = record {
    says = says_from_lem y ∙ from ∙ sym (says_from_lem x);
    holds = ap₂ (λ (f : ℕ → Entry) (n : ℕ). map f (range 0 n)) (fun_ext entry_same) (low ENTRIES (omega arith));
  }

-- an accepted call of a done store is a fetch
module _ (x : List ℕ) (stage : field x STAGE ≡ 2) where
  no_start : (ms : List ℕ) → start_answer x ms ≡ Accepted → ⊥
  unfolding start_answer
  no_start ms e =
      let (a, f) = refuse_on 15 (leb full (length x)) _ e in
      let (b, g) = refuse_on 16 (headerb x && eqb (field x STAGE) 0) _ f in
      let t : T (headerb x && eqb (field x STAGE) 0) = rw b tt in
      let z = eqb-true (field x STAGE) 0 (is_true (eqb (field x STAGE) 0) (and_right (headerb x) (eqb (field x STAGE) 0) t)) in
      omega arith

  no_step : part_answer x ≡ Accepted → ⊥
  unfolding part_answer
  no_step e =
      let (a, f) = refuse_on 15 (leb full (length x)) _ e in
      let (b, g) = refuse_on 16 (headerb x && (eqb (field x STAGE) 1 && readyb x)) Accepted f in
      let t : T (headerb x && (eqb (field x STAGE) 1 && readyb x)) = rw b tt in
      let d = and_left (eqb (field x STAGE) 1) (readyb x) (and_right (headerb x) (eqb (field x STAGE) 1 && readyb x) t) in
      let z = eqb-true (field x STAGE) 1 (is_true (eqb (field x STAGE) 1) d) in
      omega arith

  no_hand : (m : List ℕ) → hand_answer x m ≡ Accepted → ⊥
  no_hand m e = let z = (taken_is x m e).running in omega arith

fetch_same : (x : List ℕ) → SameSays x (fetch_after x nine)
unfolding fetch_after givesb
fetch_same x = go (givesb x nine) refl
  where
    go : (b : Bool) → givesb x nine ≡ b → SameSays x (fetch_after x nine)
    go false e = subst (SameSays x) (sym (rw (e, fetch_after))) (record { says = refl; holds = refl })
    go true e =
        let s = next_to_give x in
        let t : T (givesb x nine) = rw e tt in
        let h : (next_to_give x).bit < most_parts = ltb→lt (next_to_give x).bit most_parts
        (and_right (eqb (fetch_refusal x nine) 0) (ltb (next_to_give x).bit most_parts) t) in
        subst (SameSays x) (sym (rw (e, fetch_after))) (alike x (passed_by x s) (passed_length x s)
        (λ i l. passed_else x s i (λ z. omega arith) (λ z. omega arith) (λ z. omega arith))
        (λ i l. passed_else x s i (λ z. omega arith) (λ z. omega arith) (λ z. omega arith)))

-- what an accepted call leaves
gives_is : (a : Fetched) (b z : List ℕ) (y : List ℕ × List (List ℕ)) → gives a b z ≡ some y → z ≡ y.0
unfolding gives
gives_is (Message n) b z y e = cc
gives_is Nothing b z y e = let c : ◌≡◌ {A = ℕ} 0 1 = cc in absurd (omega arith)
gives_is (FetchRefused k) b z y e = let c : ◌≡◌ {A = ℕ} 0 1 = cc in absurd (omega arith)

kept_by : (c : Request (List ℕ) (List ℕ)) (x : List ℕ) (y : List ℕ × List (List ℕ)) → field x STAGE ≡ 2 → act c x ≡ some y
    → SameSays x y.0
unfolding act
kept_by (Start ms) x y s e = absurd (no_start x s ms (some_accepted (start_answer x ms) (start_after x ms) y e))
kept_by Step x y s e = absurd (no_step x s (some_accepted (part_answer x) (part_after x) y e))
kept_by (Hand m) x y s e = absurd (no_hand x s m (some_accepted (hand_answer x m) (hand_after x m) y e))
kept_by Fetch x y s e = subst (SameSays x) (gives_is (fetch_answer x nine) (fetch_bytes x nine) (fetch_after x nine) y e) (fetch_same x)

-- none to send is the answer of a part that has started
not_refused : (x : List ℕ) → fetch_answer x nine ≡ Nothing → fetch_refusal x nine ≡ 0
unfolding fetch_answer
not_refused x e = go (eqb (fetch_refusal x nine) 0) refl
  where
    go : (b : Bool) → eqb (fetch_refusal x nine) 0 ≡ b → fetch_refusal x nine ≡ 0
    go true h = eqb-true (fetch_refusal x nine) 0 h
    go false h =
        let z : ◌≡◌ {A = Fetched} (FetchRefused (fetch_refusal x nine)) Nothing = sym (rw (h, fetch_answer)) ∙ e in
        let c : ◌≡◌ {A = ℕ} 0 1 = cc in
        absurd (omega arith)

pub nothing_started : (x : List ℕ) → fetch_answer x nine ≡ Nothing → field x STAGE ≢ 0
unfolding fetch_refusal
nothing_started x e s =
    let t = started (leb full (length x) && leb 9 (length nine)) (headerb x && not (eqb (field x STAGE) 0)) (not_refused x e) in
    let u = and_right (headerb x) (not (eqb (field x STAGE) 0)) t in
    absurd (rw (eq-eqb (field x STAGE) 0 s) at u)
  where
    started : (a b : Bool) → ◌≡◌ {A = ℕ} (elim a [ false ↦ 15 | true ↦ elim b [ true ↦ 0 | false ↦ 16 ] ]) 0 → T b
    started true true h = tt
    started true false h = absurd (omega arith)
    started false b h = absurd (omega arith)

pub nothing_none : (x : List ℕ) → fetch_answer x nine ≡ Nothing → act Fetch x ≡ none
unfolding act gives
nothing_none x e = ap (λ (a : Fetched). gives a (fetch_bytes x nine) (fetch_after x nine)) e

-- WHATEVER IS CALLED NEXT, a part that says that it is done says and holds the same
pub done_kept : (ds : Calls) (w : Stores) (j : ℕ) → j < length w.stores → T (doneb (says_of (get_or w.stores j [])))
    → SameSays (get_or w.stores j []) (get_or (play act ds w).stores j [])
unfolding play changed answer
done_kept [] w j h t = record { says = refl; holds = refl }
done_kept (c ∷ ds) w j h t = go (answer act c w) refl (λ v l u. done_kept ds v j l u)
  where
    now : (y : List ℕ × List (List ℕ)) → answer act c w ≡ some y → Dec (j ≡ c.part)
        → SameSays (get_or w.stores j []) (get_or (changed act c.part w (some y)).stores j [])
    now y e (yes z) =
        let x = get_or w.stores j [] in
        let a : act c.request x ≡ some y =
        sym (answer_at_lem act [] c.request w.stores j h) ∙ ap (λ (k : ℕ). answer_at act c.request w.stores k) z ∙ e in
        subst (SameSays x) (sym (ap (λ (k : ℕ). get_or (set w.stores k y.0) j []) (sym z) ∙ get_or-set_same w.stores j y.0 [] h))
        (kept_by c.request x y (says_stage x t) a)
    now y e (no n) = subst (SameSays (get_or w.stores j [])) (sym (get_or-set_other w.stores c.part j y.0 [] n))
        (record { says = refl; holds = refl })

    go : (o : Option (List ℕ × List (List ℕ))) → answer act c w ≡ o
        → ((v : Stores) → j < length v.stores → T (doneb (says_of (get_or v.stores j [])))
        → SameSays (get_or v.stores j []) (get_or (play act ds v).stores j []))
        → SameSays (get_or w.stores j []) (get_or (play act (c ∷ ds) w).stores j [])
    go none e r = subst (λ (v : Stores). SameSays (get_or w.stores j []) (get_or v.stores j [])) (sym (play_none act c ds w e)) (r w h t)
    go (some y) e r =
        let x = get_or w.stores j [] in
        let v : Stores = changed act c.part w (some y) in
        let s = now y e (ℕ_discrete j c.part) in
        let l : j < length v.stores = subst (λ (k : ℕ). j < k) (sym (length-set w.stores c.part y.0)) h in
        let u = subst (λ (d : Progress). T (doneb d)) (sym s.says) t in
        subst (λ (v : Stores). SameSays x (get_or v.stores j [])) (sym (play_some act c ds w y e))
        (same_on x (get_or v.stores j []) (get_or (play act ds v).stores j []) s (r v l u))
