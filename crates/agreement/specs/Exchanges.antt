-- The exchange of a split (rule 15.17): the calls on its stores, with the marks that each part starts with, are a machine of the rounds.
--   wanted p             marks that the part p takes: 0 for each of its masters
--   reads p ms c         the mark of the cell c among the marks ms of the part p; takes p ms whether it starts with them
-- Laws: first_idle (the stores of a split are those of parts that have not started), and what the theorem of the exchange is applied to.
use Rattle.std.specs.Prelude.{◌≡◌, refl, Bool, true, ◌&&◌, eqb, replicate}
use Rattle.std.proofs.Common.{sym, ◌∙◌, ap, ap₂, arith}
use Rattle.std.proofs.Math.Path.{subst}
use Rattle.std.proofs.Math.Bool.{or-true}
use mathlib.Core.List.{List, [], ◌∷◌, map}
use Prim.Native.Nat.{ℕ, suc, ◌+◌, ◌-◌, ◌≤◌, ◌<◌, Fin}
use Rattle.std.proofs.Math.Decide.{dec_lt}
use Rattle.std.proofs.Math.ListN.{length, get_or, length-map}
use borrow.Author.Tests.{eq-eqb, lt-ltb}
use Rattle.mesh.specs.Answers.{markb, marksb}
use Rattle.base.specs.Member.{Member}
use Rattle.rounds.specs.Task.{Task, Fit}
use Rattle.parts.specs.Held.{masterb}
use Rattle.parts.specs.Starts.{masters_on, startb, place_on}
use Rattle.soundness.specs.Sound.{Sound, sound_parts}
use Rattle.splitting.specs.Split.{fits, owners_fit}
use Rattle.splitting.specs.Numbers.{number_inside}
use Rattle.splitting.specs.Admissible.{owners_counted}
use Rattle.merging.specs.Run.{nth_part, number_of, named, marks_from}
use Rattle.store.specs.Fields.{field, TAKEN, ENDED, GIVEN, FIRST_TAKEN, FIRST_ENDED, OWNER}
use Rattle.split.specs.Columns.{slot_of}
use Rattle.split.specs.Stored.{Stored}
use Rattle.standing.specs.Busy.{HoldsCell}
use Rattle.entering.specs.Columns.{Columns}
use Rattle.entering.specs.Within.{cell_low, slot_low}
use Rattle.entering.specs.Standing.{Idle}
use Rattle.tasks.specs.Edges.{slots_on}
use Rattle.tasks.specs.Holders.{split_task}
use Rattle.tasks.specs.Accepted.{Splits}
use Rattle.tasks.proofs.Accepted.{split_slots, split_columns, split_header, split_marks, split_before}

-- marks of 0 are taken
mark_zero : (s : ℕ) → markb s 0 ≡ true
unfolding markb
mark_zero s = or-true (eqb s 0)

zeros_fit : (ss : List ℕ) → marksb ss (replicate (length ss) 0) ≡ true
unfolding marksb
zeros_fit [] = refl
zeros_fit (s ∷ ss) = zero_fits s (zeros_fit ss)
  where
    zero_fits : (s : ℕ) → marksb ss (replicate (length ss) 0) ≡ true
        → (markb s 0 && marksb ss (replicate (length ss) 0)) ≡ true
    zero_fits s e = ap₂ ◌&&◌ (mark_zero s) e

module _ (Q n : ℕ) (qs : List (List ℕ)) (ss os : List ℕ) (g : Splits Q n qs ss os) where
  abbrev J : Task (Fin (suc Q))
  J = split_task Q n qs ss os

  abbrev sn : Sound n qs ss
  sn = sound_parts n qs ss g.sound

  pub fit : Fit (split_task Q n qs ss os)
  fit =
      fits n qs ss sn (slot_of n qs ss) (slots_on n qs ss) (split_slots Q n qs ss os g) os (owners_fit n qs ss (suc Q) os g.owners)
      (nth_part Q)

  -- the mark of a cell, from the marks of its part
  abbrev pub reads : Fin (suc Q) → List ℕ → ℕ → ℕ
  reads p ms c = marks_from os (λ o. ms) p c

  abbrev pub takes : Fin (suc Q) → List ℕ → Bool
  takes p ms = startb ss os (suc p.0) ms

  owner_is : (k c : ℕ) → Member c (J.cells k) → (p : Fin (suc Q)) → J.owner c ≡ p → (c < length os) × (get_or os c 0 ≡ suc p.0)
  owner_is k c m p e =
      let w = owners_counted n qs ss (suc Q) os g.owners in
      let h : c < length ss = number_inside n qs ss sn k c m in
      let (a, b) = w.each c (omega (arith, h)) in
      (omega (arith, h, w.many), sym ((named Q).forth (get_or os c 0) a b) ∙ ap (λ (x : Fin (suc Q)). number_of x) e)

  pub reads_mark : (p : Fin (suc Q)) (ms : List ℕ) (c : ℕ) → HoldsCell (suc Q) J p c → J.owner c ≡ p
      → reads p ms c ≡ get_or ms (place_on os c) 0
  unfolding marks_from masterb
  reads_mark p ms c (k, m, h) e =
      let (a, b) = owner_is k c m p e in
      rw (lt-ltb c (length os) a, eq-eqb (get_or os c 0) (number_of p) b, marks_from)

  -- THE STORES OF A SPLIT are idle
  pub first_idle : (p : Fin (suc Q)) (x : List ℕ) → Stored n qs ss (suc Q) os (suc p.0) x → Idle (suc Q) J p (place_on os) (takes p) x
  first_idle p x st =
      let co : Columns (suc Q) J p x = split_columns Q n qs ss os g p x st in record {
        columns = co;
        header = split_header Q n qs ss os g p x st;
        stage = st.stage;
        written = st.written;
        cursor = st.cursor;
        bit = st.bit;
        no_counts = λ i a b. zero_at i a b;
        flags = λ c h. st.red c (cell_low (suc Q) J p x co c h);
        sums = λ s h. st.sums s (slot_low (suc Q) J p x co s h);
        places = λ c h e.
            let (a, b) = owner_is h.0 c h.1 p e in
            split_before Q n qs ss os g p x st c (omega (arith, number_inside n qs ss sn h.0 c h.1)) b;
        marks = split_marks Q n qs ss os g p x st;
      }
    where
      zero_at : (i : ℕ) → FIRST_TAKEN ≤ i → i < OWNER → field x i ≡ 0
      zero_at i a b = elim (dec_lt i FIRST_ENDED) [
        | yes h ↦
            let z : TAKEN + (i - TAKEN) ≡ i = omega arith in
            ap (field x) (sym z) ∙ st.taken (i - TAKEN) (omega arith) (omega arith)
        | no h ↦ elim (dec_lt i GIVEN) [
          | yes k ↦
              let z : ENDED + (i - ENDED) ≡ i = omega arith in
              ap (field x) (sym z) ∙ st.ended (i - ENDED) (omega arith) (omega arith)
          | no k ↦
              let z : GIVEN + (i - GIVEN) ≡ i = omega arith in
              ap (field x) (sym z) ∙ st.given (i - GIVEN) (omega arith)
        ]
      ]

  -- marks that a part takes
  abbrev pub wanted : Fin (suc Q) → List ℕ
  wanted p = replicate (length (masters_on os (suc p.0))) 0

  pub wanted_fit : (p : Fin (suc Q)) → takes p (wanted p) ≡ true
  unfolding startb
  wanted_fit p =
      let l = map (λ c. get_or ss c 0) (masters_on os (suc p.0)) in
      let e : length l ≡ length (masters_on os (suc p.0)) = length-map (masters_on os (suc p.0)) (λ c. get_or ss c 0) in
      subst (λ (k : ℕ). marksb l (replicate k 0) ≡ true) e (zeros_fit l)
