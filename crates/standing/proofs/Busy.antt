-- Fetching on a store that stands at a place gives the next message, and the store then stands at the place without it.
use Rattle.std.specs.Prelude.{◌≡◌, ◌⊎◌, List, ◌∷◌, length}
use Rattle.std.proofs.Math.Path.{refl, ap}
use Rattle.std.proofs.Common.{sym, ◌∙◌, subst, inl, inr, arith}
use Prim.Native.Nat.{ℕ, ◌+◌, ◌≤◌, ◌<◌, Fin}
use Rattle.std.proofs.lemmas.List.Edits.{sets}
use Rattle.exchange.specs.Protocol.{with_queue}
use Rattle.rounds.specs.Task.{Task}
use Rattle.store.specs.Fields.{field, STAGE, PART, PARTS, CELLS, ROUND, CURSOR, OWNER, RED, HOLDERS, SUM}
use Rattle.store.specs.Fields.{TOTAL, HIGH, FIRST_ENDED, FIRST_TAKEN, GIVEN, WRITTEN}
use Rattle.store.specs.Fetched.{Message}
use Rattle.store.specs.Fetch.{next_to_give, given, passed_by, fetch_answer, fetch_bytes, fetch_after}
use Rattle.store.proofs.Fetching.{some_left}
use Rattle.standing.specs.Walk.{passed_entry}
use Rattle.standing.proofs.Walk.{fetch_first, fetch_rest}
use Rattle.standing.specs.Walk.{posted_passed, posted_written, passed_else, passed_length}
use Rattle.standing.specs.Busy.{header_same, part_low, started}

module _ (P : ℕ) (J : Task (Fin P)) where
  abbrev L : Type 0
  L = Rattle.standing.specs.Busy.L P J

  abbrev Busy : (p : Fin P) (l : L) (x : List ℕ) → Type 0
  Busy = Rattle.standing.specs.Busy.Busy P J

  module _ (p : Fin P) (l : L) (x : List ℕ) (u : Busy p l x) where
    pub fetch_some : (m : List ℕ) (w : List (List ℕ)) → l.queue ≡ m ∷ w → ((next_to_give x).bit < 16) × (given x (next_to_give x) ≡ m)
        × Busy p (with_queue l w) (passed_by x (next_to_give x))
    fetch_some m w e =
        let (a, b, c) = fetch_first x u.long m w (u.queue ∙ e) in
        let same : (i : ℕ) → i < CURSOR ⊎ ((WRITTEN ≤ i × i < GIVEN) ⊎ OWNER ≤ i)
        → field (passed_by x (next_to_give x)) i ≡ field x i = keep a in
        let v = fetch_rest x u.long m w (u.queue ∙ e) in
        let e12 = passed_entry x (next_to_give x) u.long a in
        let wr = posted_written x (passed_by x (next_to_give x)) (posted_passed x (next_to_give x) a) in (
          a,
          b,
          record {
            long = omega (arith, passed_length x (next_to_give x), u.long);
            header = header_same x (passed_by x (next_to_give x)) (λ i h. same i (inl (omega arith))) ∙ u.header;
            running = λ o. same STAGE (inl (omega arith)) ∙ u.running o;
            done = λ o. same STAGE (inl (omega arith)) ∙ u.done o;
            part = same PART (inl (omega arith)) ∙ u.part;
            many = same PARTS (inl (omega arith)) ∙ u.many;
            round = same ROUND (inl (omega arith)) ∙ u.round;
            taken = λ q. same (FIRST_TAKEN + q.0) (inr (inl (omega arith, omega (arith, part_low P J p l x u q)))) ∙ u.taken q;
            ends = λ q i o. same (FIRST_ENDED + q.0) (inr (inl (omega arith, omega (arith, part_low P J p l x u q)))) ∙ u.ends q i o;
            queue = c;
            sent = λ q. v.1 q.0 (part_low P J p l x u q) ∙ u.sent q;
            cursor = (omega (arith, v.0, e12, wr), λ z. absurd (omega (arith, v.0, e12, wr, z)));
            cells = λ d h. (
              subst (λ (n : ℕ). d < n) (sym (same CELLS (inl (omega arith)))) (u.cells d h).0,
              λ z. (u.cells d h).1 (sym (same (OWNER + d) (inr (inr (omega arith)))) ∙ z),
            );
            slots = λ s h. ((u.slots s h).0, λ z. (u.slots s h).1 (sym (same (HOLDERS + s) (inr (inr (omega arith)))) ∙ z));
            red = λ d h. same (RED + d) (inr (inr (omega arith))) ∙ u.red d h;
            sum = λ s h. same (SUM + s) (inr (inr (omega arith))) ∙ u.sum s h;
            total = λ o. same TOTAL (inl (omega arith)) ∙ u.total o;
            high = λ o. same HIGH (inl (omega arith)) ∙ u.high o;
          },
        )
      where
        keep : (next_to_give x).bit < 16 → (i : ℕ) → i < CURSOR ⊎ ((WRITTEN ≤ i × i < GIVEN) ⊎ OWNER ≤ i)
            → field (passed_by x (next_to_give x)) i ≡ field x i
        keep a i (inl h) = passed_else x (next_to_give x) i (λ z. absurd (omega (arith, z))) (λ z. absurd (omega (arith, z)))
            (λ z. absurd (omega (arith, z)))
        keep a i (inr (inl h)) = passed_else x (next_to_give x) i (λ z. absurd (omega (arith, z, h.0)))
            (λ z. absurd (omega (arith, z, h.0))) (λ z. absurd (omega (arith, z, h.1)))
        keep a i (inr (inr h)) = passed_else x (next_to_give x) i (λ z. absurd (omega (arith, z))) (λ z. absurd (omega (arith, z)))
            (λ z. absurd (omega (arith, z, a)))

    -- as the call answers: with room for nine bytes
    module _ (out : List ℕ) (room : 9 ≤ length out) where
      pub fetch_gives : (m : List ℕ) (w : List (List ℕ)) → l.queue ≡ m ∷ w
          → (fetch_answer x out ≡ Message (length m)) × (fetch_bytes x out ≡ sets out 0 m) × Busy p (with_queue l w) (fetch_after x out)
      fetch_gives m w e =
          let (a, b, c) = fetch_some m w e in
          let f = some_left x out u.long room u.header (started P J p l x u) (next_to_give x) refl a (length (given x (next_to_give x)))
          (sets out 0 (given x (next_to_give x))) (passed_by x (next_to_give x)) refl refl refl in (
            sym f.answer ∙ ap (λ (m : List ℕ). Message (length m)) b,
            sym f.bytes
                ∙ ap (sets out 0) b,
            subst (λ (z : List ℕ). Busy p (with_queue l w) z) f.after c,
          )
