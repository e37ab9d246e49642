-- The rounds (rule 15.7) as a protocol of the exchange, and what each part knows after them.
--   protocol pack reads     the rounds, where pack makes a message of its heading and body, and reads tells marks by cell from an input
-- Laws: phase_marks, phase_counts, phase_totals (which round exchanges what), the laws that the exchange asks of what is written: silent,
-- whole_is, whole_all; and in proofs/Rounded enough (after the rounds of all levels each part knows the new red cells among its masters and
-- ghosts, and the edges of new red cells among theirs).
use Rattle.std.specs.Prelude.{◌≡◌, Bool, ◌&&◌, eqb, length, take}
use Rattle.std.proofs.Math.Path.{refl, ap, ap₂}
use Rattle.std.proofs.Common.{sym, ◌∙◌, lt-ltb, le-ltb}
use Rattle.std.proofs.Math.Bool.{true, false, ◌||◌, not, or-true}
use mathlib.Core.List.{List, [], ◌∷◌, ◌++◌, map}
use Prim.Native.Nat.{ℕ, zero, suc, ◌+◌, ◌-◌, ◌≤◌, ◌<◌}
use native.Mathlib.Omega.{arith}
use Rattle.std.proofs.Math.ListN.{length-append}
use Rattle.std.proofs.Math.Decide.{dec_lt}
use Rattle.base.specs.Lists.{filterb}
use Rattle.base.specs.Bools.{not_both}
use Rattle.exchange.specs.Finite.{Finite}
use Rattle.exchange.specs.Protocol.{Protocol}
use Rattle.exchange.specs.Lockstep.{lock}
use Rattle.rounds.specs.Task.{Task, Fit}
use Rattle.rounds.specs.Rounds.{Body, mark, count, total, end, Phase, marks, counts, totals, over, after, phase, State, is_part}
use Rattle.rounds.specs.Rounds.{holdsb}
use Rattle.rounds.specs.Rounds.{starting, ghost_marks, edge_counts, says, writing, taking}
use Rattle.rounds.specs.Order.{order_of}

-- which round exchanges what
after_counts : (top i : ℕ) → i < top → after top (counts i) ≡ marks (suc i)
unfolding after
after_counts top i h = rw (lt-ltb i top h, after)

after_last : (top : ℕ) → after top (counts top) ≡ totals
unfolding after
after_last top = rw (le-ltb top top (omega arith), after)

phase_on : (top r : ℕ) → phase top (suc r) ≡ after top (phase top r)
unfolding phase
phase_on top r = refl

after_marks : (top i : ℕ) → after top (marks i) ≡ counts i
unfolding after
after_marks top i = refl

pub phase_marks : (top i : ℕ) → i ≤ top → phase top (i + i) ≡ marks i
unfolding phase
phase_marks top zero h = refl
phase_marks top (suc i) h =
    let z : suc i + suc i ≡ suc (suc (i + i)) = omega arith in
    rw (z, phase_marks top i (omega arith), after_marks top i, after_counts top i (omega arith))

pub phase_counts : (top i : ℕ) → i ≤ top → phase top (suc (i + i)) ≡ counts i
phase_counts top i h = phase_on top (i + i) ∙ ap (after top) (phase_marks top i h) ∙ after_marks top i

pub phase_totals : (top : ℕ) → phase top (suc (suc (top + top))) ≡ totals
phase_totals top = phase_on top (suc (top + top)) ∙ ap (after top) (phase_counts top top (omega arith)) ∙ after_last top

pub phase_over : (top : ℕ) → phase top (suc (suc (suc (top + top)))) ≡ over
unfolding after
phase_over top = phase_on top (suc (suc (top + top))) ∙ ap (after top) (phase_totals top)

-- a round's end
unfoldable pub is_end : Body → Bool
is_end (mark c v) = false
is_end (count x n) = false
is_end (total n h) = false
is_end end = true

unfoldable pub endedb : List Body → Bool
unfolding is_end
endedb [] = false
endedb (b ∷ l) = is_end b || endedb l

unfoldable pub overb : Phase → Bool
overb (marks i) = false
overb (counts i) = false
overb totals = false
overb over = true

-- the totals of the own masters are known
unfoldable pub sizedb : Phase → Bool
sizedb (marks i) = false
sizedb (counts i) = false
sizedb totals = true
sizedb over = true

module _ {Part : Type 0} (F : Finite Part) (J : Task Part) where
  -- own messages and those after the last round: there are none
  unfoldable pub wholeb : ℕ → Part → Part → List Body → Bool
  unfolding endedb overb is_part phase
  wholeb r q p l = is_part F q p || (overb (phase J.top r) || endedb l)

  -- what the exchange asks of what is written
  ended_last : (l : List Body) → endedb (l ++ (end ∷ [])) ≡ true
  unfolding endedb is_end
  ended_last [] = refl
  ended_last (b ∷ l) = ap (λ (x : Bool). is_end b || x) (ended_last l) ∙ or-true (is_end b)

  -- no end before the last
  Quiet : List Body → Type 0
  Quiet l = (k : ℕ) → k ≤ length l → endedb (take k (l ++ (end ∷ []))) ≡ false

  quiet-map : (f : ℕ → Body) → ((x : ℕ) → is_end (f x) ≡ false) → (l : List ℕ) → Quiet (map f l)
  unfolding endedb Quiet
  quiet-map f h [] zero g = refl
  quiet-map f h [] (suc k) g = absurd (omega arith)
  quiet-map f h (x ∷ l) zero g = refl
  quiet-map f h (x ∷ l) (suc k) g = ap₂ ◌||◌ (h x) (quiet-map f h l k (omega arith))

  quiet_is : (l : List Body) → Quiet l → (k : ℕ) → endedb (take k (l ++ (end ∷ []))) ≡ true → length (l ++ (end ∷ [])) ≤ k
  unfolding Quiet
  quiet_is l q k t =
      elim (dec_lt k (length (l ++ (end ∷ [])))) [
        | yes h ↦ not_both (endedb (take k (l ++ (end ∷ [])))) t (q k (omega (arith, length-append l (end ∷ []))))
        | no h ↦ omega arith
      ]

  says_is : (f : Phase) (q p : Part) (s : State) (k : ℕ) → overb f ≡ false → endedb (take k (says F J f q p s)) ≡ true
      → length (says F J f q p s) ≤ k
  unfolding says ghost_marks edge_counts is_end overb
  says_is (marks i) q p s k o t = quiet_is (ghost_marks F J (J.top - i) q p s)
      (quiet-map (λ c. mark c (s.red c)) (λ c. refl)
      (filterb (λ c. is_part F (J.family c) q && is_part F (J.owner c) p) (J.cells (J.top - i))))
      k t
  says_is (counts i) q p s k o t = quiet_is (edge_counts F J (J.top - i) q p s)
      (quiet-map (λ x. count x (s.own x)) (λ c. refl)
      (filterb (λ x. holdsb F J q (J.top - i) x && (holdsb F J p (J.top - i) x && not (eqb (s.own x) 0))) (J.slots (J.top - i)))) k t
  says_is totals q p s k o t = quiet_is (total s.total s.high ∷ []) (quiet-map (λ x. total s.total s.high) (λ c. refl) (0 ∷ []))
      k t
  says_is over q p s k o t = not_both true refl o

  says_all : (f : Phase) (q p : Part) (s : State) → (overb f || endedb (says F J f q p s)) ≡ true
  unfolding says overb endedb is_end
  says_all (marks i) q p s = ended_last (ghost_marks F J (J.top - i) q p s)
  says_all (counts i) q p s = ended_last (edge_counts F J (J.top - i) q p s)
  says_all totals q p s = refl
  says_all over q p s = refl

  pub silent : (p q : Part) (s : State) → writing F J (phase J.top (suc (suc (suc (J.top + J.top))))) p q s ≡ []
  unfolding writing says
  silent p q s = rw (phase_over J.top) (go (is_part F p q) refl)
    where
      go : (b : Bool) → is_part F p q ≡ b → writing F J over p q s ≡ []
      go true e = rw (e, writing)
      go false e = rw (e, writing)

  pub whole_all : (r : ℕ) (q p : Part) (s : State) → wholeb r q p (writing F J (phase J.top r) q p s) ≡ true
  unfolding wholeb writing
  whole_all r q p s = go (is_part F q p) refl
    where
      go : (b : Bool) → is_part F q p ≡ b → wholeb r q p (writing F J (phase J.top r) q p s) ≡ true
      go true e = rw (e, wholeb)
      go false e = rw (e, wholeb, writing) (says_all (phase J.top r) q p s)

  other_writes : (f : Phase) (q p : Part) (s : State) → is_part F q p ≡ false → writing F J f q p s ≡ says F J f q p s
  unfolding writing
  other_writes f q p s e = rw (e, writing)

  own_writes : (f : Phase) (q p : Part) (s : State) → is_part F q p ≡ true → writing F J f q p s ≡ []
  unfolding writing
  own_writes f q p s e = rw (e, writing)

  whole_other : (r : ℕ) (q p : Part) (l : List Body) → is_part F q p ≡ false → overb (phase J.top r) ≡ false → wholeb r q p l ≡ endedb l
  unfolding wholeb
  whole_other r q p l e o = rw (e, o, wholeb)

  over_silent : (f : Phase) (q p : Part) (s : State) → overb f ≡ true → length (says F J f q p s) ≡ 0
  unfolding overb says
  over_silent over q p s o = refl
  over_silent (marks i) q p s o = not_both false o refl
  over_silent (counts i) q p s o = not_both false o refl
  over_silent totals q p s o = not_both false o refl

  pub whole_is : (r : ℕ) (q p : Part) (s : State) (k : ℕ) → k ≤ length (writing F J (phase J.top r) q p s)
      → wholeb r q p (take k (writing F J (phase J.top r) q p s)) ≡ true → length (writing F J (phase J.top r) q p s) ≤ k
  whole_is r q p s k h t = go (is_part F q p) refl (overb (phase J.top r)) refl
    where
      f : Phase
      f = phase J.top r

      go : (b : Bool) → is_part F q p ≡ b → (o : Bool) → overb (phase J.top r) ≡ o → length (writing F J (phase J.top r) q p s) ≤ k
      go true e o g = omega (arith, ap length (own_writes (phase J.top r) q p s e))
      go false e true g = omega (arith, ap length (other_writes (phase J.top r) q p s e), over_silent (phase J.top r) q p s g)
      go false e false g =
          let w = other_writes (phase J.top r) q p s e in
          let u : endedb (take k (says F J (phase J.top r) q p s)) ≡ true =
          ap (λ (l : List Body). endedb (take k l)) (sym w) ∙ sym (whole_other r q p (take k (writing F J (phase J.top r) q p s)) e g)
          ∙ t in
          omega (arith, ap length w, says_is (phase J.top r) q p s k g u)

module _ {Part : Type 0} (F : Finite Part) (J : Task Part) (grown : Part → State → ℕ × ℕ) (ps : List Part) {Msg In : Type 0}
    (pack : Part → Part → ℕ → Body → Msg) (reads : Part → In → ℕ → ℕ) where
  abbrev pub protocol : Protocol Part In Body Msg State
  protocol =
      record {
        rounds = suc (suc (suc (J.top + J.top)));
        init = λ p i. starting F J p (reads p i);
        out = λ r p q s. writing F J (phase J.top r) p q s;
        order = λ r p s. order_of F J ps (phase J.top r) p s;
        next = λ r p s got. taking F J grown (phase J.top r) p s got;
        whole = wholeb F J;
        pack = pack;
      }

  module _ (fit : Fit J) (ms : ℕ → ℕ) (input : Part → In)
      (given : (p : Part) (c : ℕ) → J.owner c ≡ p → reads p (input p) c ≡ ms c) where
    abbrev at : ℕ → Part → State
    at r p = lock F protocol input r p

    pub lock_on : (r : ℕ) (f : Phase) → phase J.top r ≡ f → (p : Part)
        → at (suc r) p ≡ taking F J grown f p (at r p) (λ q. writing F J f q p (at r q))
    unfolding lock
    lock_on r f e p = ap (λ (f : Phase). taking F J grown f p (at r p) (λ q. writing F J f q p (at r q))) e
