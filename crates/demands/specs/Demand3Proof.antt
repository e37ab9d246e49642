-- The proof of demand 3: from `agreement`, for each field of `Demand3` `Split3`.
-- Law: demand3.
use Rattle.std.specs.Prelude.{◌≡◌, ◌⊎◌, ◌≢◌, Bool, true, false, ◌&&◌, not, T, eqb, leb, length, get_or, ℤ}
use Rattle.std.proofs.Common.{sym, ◌∙◌, ap, subst, inl, inr, arith, eqb→eq, eq-eqb, ne_eqb}
use Rattle.std.proofs.Math.Option.{none}
use mathlib.Core.List.{List, [], ◌∷◌, ◌++◌, Memᴰ}
use Prim.Native.Nat.{ℕ, zero, suc, ◌*◌, ◌≤◌, ◌<◌, pred, Fin}
use Rattle.base.specs.Fours.{fours}
use Rattle.base.specs.Bools.{and_left, and_right, is_true, is_false, not_both}
use Rattle.base.specs.Limits.{most_parts, most_cells, most_levels}
use Rattle.base.specs.Refuse.{refuse, and_then, passed, both, held_after}
use Rattle.base.specs.Answer.{Accepted, Refused}
use Rattle.mesh.specs.Coarse.{coarse_corner_count}
use Rattle.mesh.specs.Step.{step_table}
use Rattle.mesh.specs.Answers.{table_answer, new_table, limits_answer, marked_answer}
use Rattle.exchange.specs.Calls.{Start, Call, play, moves, acceptsb, started_with, Lawful}
use Rattle.exchange.specs.Played.{play_append}
use Rattle.exchange.specs.Finite.{parts}
use Rattle.parts.specs.Owners.{family_of, ownersb, owners_after}
use Rattle.parts.specs.Held.{Entry, masterb, ghostb, entries_of}
use Rattle.parts.specs.Starts.{startb}
use Rattle.splitting.specs.Admissible.{admissible, owners_counted}
use Rattle.merging.specs.Result.{just_held, held_each_once, owners_after_lem, coarse_owner, family_same, family_new, admissible_after}
use Rattle.merging.specs.Run.{nth_part, number_of, named}
use Rattle.store.specs.Fields.{full}
use Rattle.store.specs.Fetch.{fetch_answer}
use Rattle.store.specs.Fetched.{Nothing}
use Rattle.split.specs.Columns.{slot_of}
use Rattle.split.specs.Split.{split_answer, split_after}
use Rattle.split.specs.Messages.{messages_to}
use Rattle.held.specs.Held.{held_in, held_rows, held_answer, listed_of}
use Rattle.held.specs.Says.{says_of, doneb}
use Rattle.held.proofs.Says.{done_read}
use Rattle.held.specs.Progress.{Done, Ended}
use Rattle.tasks.specs.Edges.{slots_on}
use Rattle.tasks.specs.Accepted.{Splits, splits_from}
use Rattle.tasks.proofs.Accepted.{split_slots}
use Rattle.outcome.specs.Program.{nine, act, phase_of}
use Rattle.agreement.specs.Terms.{Calls, Stores, after_split, serial_marks, last_store, alldoneb}
use Rattle.agreement.specs.Says.{SameSays, nothing_started, nothing_none, done_kept}
use Rattle.agreement.specs.Agreed.{R, store_of, many_now, all_phases, phases_all, moves_on, completed, moves_most, starts_taken}
use Rattle.agreement.specs.Outcomes.{X, any_marks, known, serial_is, says_accepted, says_refused, limits, held_new, held_old}
use Rattle.agreement.specs.Merges.{merges_new, merges_old}
use Rattle.agreement.specs.Written.{all_sent, none_else}
use Rattle.demands.specs.Demand3.{JustThese, ReadsAs, Handed, Serial, AsBefore, Split3, Demand3}

no-parts : (ps : List ℤ) (ts ss os b : List ℕ) → split_answer ps ts ss 0 os b ≡ Accepted → ⊥
unfolding split_answer
no-parts ps ts ss os b e =
    let eleven = refuse 11 (ownersb (coarse_corner_count ps) (fours ts) ss 0 os) Accepted in
    let ten = refuse 10 (leb 1 0 && leb 0 most_parts) eleven in
    let (a, r) = passed 15 (leb (most_parts * full) (length b)) (and_then (table_answer ps ts ss) ten) e in
    let (c, d) = both (table_answer ps ts ss) ten r in
    (passed 10 (leb 1 0 && leb 0 most_parts) eleven d).0

-- a ghost by its owners
ghost-is : (n : ℕ) (qs : List (List ℕ)) (ts os : List ℕ) (p d : ℕ)
    → (T (ghostb n qs ts os p d) → (family_of n qs ts os d ≡ p) × (get_or os d 0 ≢ p))
    × (family_of n qs ts os d ≡ p → get_or os d 0 ≢ p → T (ghostb n qs ts os p d))
unfolding ghostb masterb
ghost-is n qs ts os p d = (
  λ t. (
    eqb→eq (family_of n qs ts os d) p (and_right (not (eqb (get_or os d 0) p)) (eqb (family_of n qs ts os d) p) t),
    λ z. not_both (eqb (get_or os d 0) p) (eq-eqb (get_or os d 0) p z)
        (is_false (eqb (get_or os d 0) p) (and_left (not (eqb (get_or os d 0) p)) (eqb (family_of n qs ts os d) p) t)),
  ),
  λ f o. rw (ne_eqb (get_or os d 0) p o, eq-eqb (family_of n qs ts os d) p f) tt,
)

-- a refusal of the limits is 8 or 9
limit-number : (n : ℕ) (qs : List (List ℕ)) (ss ms : List ℕ) (k : ℕ) → limits_answer n qs ss ms ≡ Refused k → (k ≡ 8) ⊎ (k ≡ 9)
unfolding limits_answer refuse
limit-number n qs ss ms k e = go (leb (length (step_table n qs ss ms)) most_levels) (leb (length (new_table n qs ss ms)) most_cells) e
  where
    go : (a c : Bool) → refuse 8 a (refuse 9 c Accepted) ≡ Refused k → (k ≡ 8) ⊎ (k ≡ 9)
    go true true f = let z : ◌≡◌ {A = ℕ} 0 1 = cc in absurd (omega arith)
    go true false f = let z : 9 ≡ k = cc in inr (sym z)
    go false c f = let z : 8 ≡ k = cc in inl (sym z)

-- reading a store that can be read
reads : (x rows : List ℕ) → held_answer x rows ≡ Accepted → ReadsAs x rows (held_in x)
unfolding listed_of held_after held_rows
reads x rows e = record { answer = rw e; after = rw e }

module _ (ps : List ℤ) (ts ss : List ℕ) (Q : ℕ) (os b : List ℕ) (behind : ℕ → List ℕ)
    (e : split_answer ps ts ss (suc Q) os b ≡ Accepted) (cs : Calls)
    (lawful : Lawful act cs (after_split (suc Q) (split_after ps ts ss (suc Q) os b) behind)) where
  abbrev n : ℕ
  n = coarse_corner_count ps

  abbrev qs : List (List ℕ)
  qs = fours ts

  abbrev w : Stores
  w = after_split (suc Q) (split_after ps ts ss (suc Q) os b) behind

  abbrev marks : List ℕ
  marks = serial_marks os cs w

  abbrev new : List ℕ
  new = new_table n qs ss marks

  abbrev heirs : List ℕ
  heirs = owners_after n qs ss os new

  abbrev g : Splits Q n qs ss os
  g = splits_from ps ts ss Q os b e

  module _ (t : T (alldoneb (play act cs w))) where
    abbrev done : (p : Fin (suc Q)) → phase_of (store_of ps ts ss Q os b behind e cs p) ≡ suc (R ps ts ss Q os b behind e).rounds
    done = all_phases ps ts ss Q os b behind e cs lawful t

    -- where the serial step accepts
    module _ (ok : marked_answer ps ts ss marks ≡ Accepted) where
      abbrev lim : (length (step_table n qs ss marks) ≤ most_levels) × (length (new_table n qs ss marks) ≤ most_cells)
      lim = limits ps ts ss Q os b behind e cs lawful done ok

      handed : Handed n qs ss os (suc Q) new heirs
      handed =
          let st = (X ps ts ss Q os b behind e cs lawful done).state in
          let kn = known ps ts ss Q os b behind e cs lawful done in
          record {
            owners =
                owners_after_lem (parts (suc Q)) n qs ss marks g.four g.mesh g.sound (suc Q) os g.owners (slot_of n qs ss)
                (slots_on n qs ss) (split_slots Q n qs ss os g) (nth_part Q) number_of (named Q) st kn lim.0 lim.1;
            coarse =
                coarse_owner (parts (suc Q)) n qs ss marks g.four g.mesh g.sound (suc Q) os g.owners (slot_of n qs ss)
                (slots_on n qs ss) (split_slots Q n qs ss os g) (nth_part Q) number_of (named Q) st kn lim.0 lim.1;
            family =
                family_same (parts (suc Q)) n qs ss marks g.four g.mesh g.sound (suc Q) os g.owners (slot_of n qs ss)
                (slots_on n qs ss) (split_slots Q n qs ss os g) (nth_part Q) number_of (named Q) st kn lim.0 lim.1;
            first_family =
                family_new (parts (suc Q)) n qs ss marks g.four g.mesh g.sound (suc Q) os g.owners (slot_of n qs ss)
                (slots_on n qs ss) (split_slots Q n qs ss os g) (nth_part Q) number_of (named Q) st kn lim.0 lim.1;
            ghosts = ghost-is n qs new heirs;
            admissible =
                admissible_after (parts (suc Q)) n qs ss marks g.four g.mesh g.sound (suc Q) os g.owners (slot_of n qs ss)
                (slots_on n qs ss) (split_slots Q n qs ss os g) (nth_part Q) number_of (named Q) st kn lim.0 lim.1;
          }

      says_done : (q : ℕ) → 1 ≤ q → q ≤ suc Q → says_of (last_store cs w q) ≡ Done
      says_done zero a c = absurd (omega arith)
      says_done (suc j) a c = says_accepted ps ts ss Q os b behind e cs lawful done ok (j, omega arith)

      holds : (q : ℕ) → 1 ≤ q → q ≤ suc Q → JustThese (held_in (last_store cs w q)) (entries_of n qs new heirs q)
      holds zero a c = absurd (omega arith)
      holds (suc j) a c =
          let p : Fin (suc Q) = (j, omega arith) in
          let st = (X ps ts ss Q os b behind e cs lawful done).state in
          let kn = known ps ts ss Q os b behind e cs lawful done in
          let just = just_held (parts (suc Q)) n qs ss marks g.four g.mesh g.sound (suc Q) os g.owners (slot_of n qs ss)
          (slots_on n qs ss) (split_slots Q n qs ss os g) (nth_part Q) number_of (named Q) st kn lim.0 lim.1 p in
          let once = held_each_once (parts (suc Q)) n qs ss marks g.four g.mesh g.sound (suc Q) os g.owners (slot_of n qs ss)
          (slots_on n qs ss) (split_slots Q n qs ss os g) (nth_part Q) number_of (named Q) st kn p in
          subst (λ (es : List Entry). JustThese es (entries_of n qs new heirs (suc j)))
          (sym (held_new ps ts ss Q os b behind e cs lawful done ok p))
          (record { these = λ f. (just f).0; all = λ f. (just f).1; once = once })

      serial : Serial n qs ss os (suc Q) cs w new heirs
      serial =
          record {
            ended = says_done;
            held = holds;
            merges = λ l o rest long.
                let (a, c) = merges_new ps ts ss Q os b behind e cs lawful done ok l o rest long in
                record { accepted = a; makes = c };
            handed = handed;
          }

    as_before : (k : ℕ) → marked_answer ps ts ss marks ≡ Refused k → AsBefore n qs ss os (suc Q) cs w k
    as_before k f = go k f (limit-number n qs ss marks k (sym (serial_is ps ts ss Q os b behind e cs lawful done) ∙ f))
      where
        ended : (k q : ℕ) → 1 ≤ q → q ≤ suc Q → marked_answer ps ts ss marks ≡ Refused (suc k) → says_of (last_store cs w q) ≡ Ended (suc k)
        ended k zero a c f = absurd (omega arith)
        ended k (suc j) a c f = says_refused ps ts ss Q os b behind e cs lawful done k f (j, omega arith)

        held : (k q : ℕ) → 1 ≤ q → q ≤ suc Q → marked_answer ps ts ss marks ≡ Refused (suc k)
            → held_in (last_store cs w q) ≡ entries_of n qs ss os q
        held k zero a c f = absurd (omega arith)
        held k (suc j) a c f = held_old ps ts ss Q os b behind e cs lawful done k f (j, omega arith)

        go : (k : ℕ) → marked_answer ps ts ss marks ≡ Refused k → (k ≡ 8) ⊎ (k ≡ 9) → AsBefore n qs ss os (suc Q) cs w k
        go zero f (inl z) = absurd (omega (arith, z))
        go zero f (inr z) = absurd (omega (arith, z))
        go (suc k) f z = record {
          number = z;
          ended = λ q a c. ended k q a c f;
          held = λ q a c. held k q a c f;
          merges = λ l o rest long.
              let (a, c) = merges_old ps ts ss Q os b behind e cs lawful done k f l o rest long in
              record { accepted = a; makes = c };
        }

  split3 : Split3 ps ts ss (suc Q) os w cs
  split3 = record {
    admissible = admissible n qs ss (suc Q) os g.owners;
    accepted = serial;
    refused = as_before;
    moves_on = λ f. go f (moves_on ps ts ss Q os b behind e cs lawful);
    to_the_end =
        let (ds, a, d) = completed ps ts ss Q os b behind e cs lawful in
        (ds, a, phases_all ps ts ss Q os b behind e (cs ++ ds) a d);
    few = moves_most ps ts ss Q os b behind e cs lawful;
    done_stays = λ ds q a c d. stays ds q a c d;
    done_read = λ q a c d rows h. reads (last_store cs w q) rows (done_read (last_store cs w q) rows d h);
    none_to_send = λ p q a c d f n h m i. sends p q a c d f n h m i;
    none_else = λ m i.
        let (p, q, d, t) = none_else ps ts ss Q os b behind e cs lawful m i in
        let k : p.0 < suc Q = p.1 in
        let l : q.0 < suc Q = q.1 in
        (suc p.0, suc q.0, omega arith, omega arith, omega arith, omega arith, (λ z. d (native.Mathlib.Fin.val_path (omega (arith, z)))), t);
    starts = λ q a c f ms. starts q a c f ms;
    any_marks = λ ms t. any_marks ss os ms (owners_counted n qs ss (suc Q) os g.owners).many t;
  }
    where
      go : alldoneb (play act cs w) ≡ false
          → ((p : Fin (suc Q)) → phase_of (store_of ps ts ss Q os b behind e cs p) ≡ suc (R ps ts ss Q os b behind e).rounds)
          ⊎ ((c : Call (List ℕ) (List ℕ)) × Lawful act (cs ++ (c ∷ [])) w × (moves act (cs ++ (c ∷ [])) w ≡ suc (moves act cs w)))
          → (c : Call (List ℕ) (List ℕ)) × Lawful act (cs ++ (c ∷ [])) w × (moves act (cs ++ (c ∷ [])) w ≡ suc (moves act cs w))
      go f (inl d) =
          not_both (alldoneb (play act cs w)) (is_true (alldoneb (play act cs w)) (phases_all ps ts ss Q os b behind e cs lawful d)) f
      go f (inr c) = c

      stays : (ds : Calls) (q : ℕ) → 1 ≤ q → q ≤ suc Q → T (doneb (says_of (last_store cs w q)))
          → SameSays (last_store cs w q) (last_store (cs ++ ds) w q)
      stays ds q a c d =
          subst (λ (v : Stores). SameSays (last_store cs w q) (get_or v.stores (pred q) [])) (sym (play_append act cs ds w))
          (done_kept ds (play act cs w) (pred q) (omega (arith, a, c, many_now ps ts ss Q os b behind e cs)) d)

      sends : (p q : ℕ) → 1 ≤ p → p ≤ suc Q → 1 ≤ q → q ≤ suc Q → p ≢ q → fetch_answer (last_store cs w p) nine ≡ Nothing → (m : List ℕ)
          → Memᴰ m (messages_to n qs ss os marks (phase_of (last_store cs w p)) p q) → Memᴰ m (play act cs w).given
      sends zero q a c d f o h m i = absurd (omega arith)
      sends (suc j) zero a c d f o h m i = absurd (omega arith)
      sends (suc j) (suc k) a c d f o h m i =
          all_sent ps ts ss Q os b behind e cs lawful (j, omega arith) (k, omega arith)
          (λ z. o (ap (λ (p : Fin (suc Q)). suc p.0) z))
          (nothing_none (last_store cs w (suc j)) h) (nothing_started (last_store cs w (suc j)) h) m i

      starts : (q : ℕ) → 1 ≤ q → q ≤ suc Q → started_with act cs w (pred q) ≡ none → (ms : List ℕ)
          → acceptsb act (act (Start ms) (last_store cs w q)) ≡ startb ss os q ms
      starts zero a c f ms = absurd (omega arith)
      starts (suc j) a c f ms = starts_taken ps ts ss Q os b behind e cs lawful (j, omega arith) f ms

pub demand3 : Demand3
demand3 ps ts ss zero os b behind e = absurd (no-parts ps ts ss os b e)
demand3 ps ts ss (suc Q) os b behind e = split3 ps ts ss Q os b behind e
