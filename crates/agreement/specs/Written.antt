-- Which messages are given, in the words of `split` `Messages`.
-- Laws: all_sent (where a part has none to send, all that it wrote up to its round is given), none_else (and no other message ever is).
use Rattle.std.specs.Prelude.{◌≡◌, refl, ◌≢◌, ℤ}
use Rattle.std.proofs.Common.{sym, subst, ne_eqb}
use Rattle.std.proofs.Math.Option.{none}
use mathlib.Core.List.Memᴰ
use mathlib.Core.List.{List, [], Memᴰ}
use Rattle.std.proofs.Math.Logic.{⊎_elim}
use Prim.Native.Nat.{ℕ, zero, suc, ◌≤◌, Fin}
use Rattle.base.specs.Fours.{fours}
use Rattle.base.specs.Answer.{Accepted}
use Rattle.mesh.specs.Coarse.{coarse_corner_count}
use Rattle.exchange.specs.Calls.{Fetch, play, Lawful}
use Rattle.exchange.specs.Finite.{parts}
use Rattle.exchange.specs.Lockstep.{lock, mail, mail_count, addressed, letters}
use Rattle.rounds.specs.Rounds.{phase}
use Rattle.rounds.specs.Among.{is_same}
use Rattle.rounds.specs.Enough.{own_writes}
use Rattle.store.specs.Fields.{field, STAGE, ROUND}
use Rattle.split.specs.Split.{split_answer}
use Rattle.split.specs.Messages.{messages_to}
use Rattle.outcome.specs.Program.{act, phase_of}
use Rattle.agreement.specs.Terms.{Calls, serial_marks}
use Rattle.agreement.specs.Agreed.{g, world, J, R, input_of, store_of, good, phase_most, only_written, letters_fetched}
use Rattle.agreement.specs.Outcomes.{starts_serial}
use Rattle.agreement.specs.Told.{letters_are}

module _ (ps : List ℤ) (ts ss : List ℕ) (Q : ℕ) (os b : List ℕ) (behind : ℕ → List ℕ)
    (e : split_answer ps ts ss (suc Q) os b ≡ Accepted) (cs : Calls) (lawful : Lawful act cs (world ps ts ss Q os b behind e)) where
  abbrev marks : List ℕ
  marks = serial_marks os cs (world ps ts ss Q os b behind e)

  abbrev input : Fin (suc Q) → List ℕ
  input = input_of ps ts ss Q os b behind e cs

  -- what a part writes for another
  written : (p q : Fin (suc Q)) → (p ≡ q → ⊥) → (r : ℕ) → r ≤ suc (R ps ts ss Q os b behind e).rounds
      → letters (parts (suc Q)) (R ps ts ss Q os b behind e) input r p q
      ≡ messages_to (coarse_corner_count ps) (fours ts) ss os marks r (suc p.0) (suc q.0)
  written p q n r h =
      (letters_are Q (coarse_corner_count ps) (fours ts) ss os (g ps ts ss Q os b behind e) marks input
      (starts_serial ps ts ss Q os b behind e cs) p q n
      (good ps ts ss Q os b behind e cs) r h).0

  -- and nothing for itself
  none_own : (p : Fin (suc Q)) (r : ℕ) (m : List ℕ)
      → Memᴰ m (letters (parts (suc Q)) (R ps ts ss Q os b behind e) input r p p) → ⊥
  unfolding letters addressed
  none_own p zero m i = Memᴰ.not-nil i
  none_own p (suc r) m i =
      let F = parts (suc Q) in
      let s = lock F (R ps ts ss Q os b behind e) input r p in
      let f = phase (J ps ts ss Q os b behind e).top r in
      let z : mail F (R ps ts ss Q os b behind e) input r p p ≡ [] =
      own_writes F (J ps ts ss Q os b behind e) (phase (J ps ts ss Q os b behind e).top r) p p
      (lock F (R ps ts ss Q os b behind e) input r p) (is_same F p p refl) in
      let l = letters F (R ps ts ss Q os b behind e) input r p p in
      ⊎_elim (λ (t : Memᴰ m l). none_own p r m t)
      (λ (t : Memᴰ m (addressed F (R ps ts ss Q os b behind e) input p p (mail_count F (R ps ts ss Q os b behind e) input r p p)
      (mail F (R ps ts ss Q os b behind e) input r p p))). Memᴰ.not-nil (rw z at t))
      (Memᴰ.append_cases l i)

  -- NONE TO SEND
  pub all_sent : (p q : Fin (suc Q)) → (p ≡ q → ⊥) → act Fetch (store_of ps ts ss Q os b behind e cs p) ≡ none
      → field (store_of ps ts ss Q os b behind e cs p) STAGE ≢ 0 → (m : List ℕ)
      → Memᴰ m (messages_to (coarse_corner_count ps) (fours ts) ss os marks (phase_of (store_of ps ts ss Q os b behind e cs p)) (suc p.0)
      (suc q.0))
      → Memᴰ m (play act cs (world ps ts ss Q os b behind e)).given
  unfolding phase_of
  all_sent p q n h s m i =
      let x = store_of ps ts ss Q os b behind e cs p in
      let z : phase_of (store_of ps ts ss Q os b behind e cs p) ≡ suc (field (store_of ps ts ss Q os b behind e cs p) ROUND) =
      rw (ne_eqb (field (store_of ps ts ss Q os b behind e cs p) STAGE) 0 s, phase_of) in
      letters_fetched ps ts ss Q os b behind e cs lawful p q h s m
      (subst (λ (r : ℕ). Memᴰ m (letters (parts (suc Q)) (R ps ts ss Q os b behind e) input r p q)) z
      (subst (Memᴰ m)
      (sym (written p q n (phase_of (store_of ps ts ss Q os b behind e cs p)) (phase_most ps ts ss Q os b behind e cs lawful p))) i))

  -- AND NO OTHERS
  pub none_else : (m : List ℕ) → Memᴰ m (play act cs (world ps ts ss Q os b behind e)).given
      → (p : Fin (suc Q)) × (q : Fin (suc Q)) × (p ≡ q → ⊥)
      × Memᴰ m (messages_to (coarse_corner_count ps) (fours ts) ss os marks (phase_of (store_of ps ts ss Q os b behind e cs p)) (suc p.0)
      (suc q.0))
  none_else m i =
      let (p, q, h, t) = only_written ps ts ss Q os b behind e cs lawful m i in
      let n : p ≡ q → ⊥ = (λ z. none_own p (phase_of (store_of ps ts ss Q os b behind e cs p)) m
      (subst (λ (r : Fin (suc Q)). Memᴰ m (letters (parts (suc Q)) (R ps ts ss Q os b behind e) input
      (phase_of (store_of ps ts ss Q os b behind e cs p)) p r)) (sym z) t)) in
      (p, q, n, subst (Memᴰ m) (written p q n (phase_of (store_of ps ts ss Q os b behind e cs p)) h) t)
