-- A turn of a part: work on flags, sums and totals, then lines written, then the round set. The store then stands at the next place.
--   Worked x x1        x1 differs from x in flags, sums, totals and places alone
--   Reset y z          z differs from y in stage, round and result alone
-- Laws: turn (the store stands at the next place).
use Rattle.std.specs.Prelude.{◌≡◌, ◌⊎◌, ◌≢◌, ltb}
use Rattle.std.proofs.Math.Path.{refl, ap, ap₂, subst, fun_ext}
use Rattle.std.proofs.Common.{sym, ◌∙◌, inl, inr, arith}
use Rattle.std.proofs.Math.Bool.{true, false}
use mathlib.Core.List.{List, [], ◌∷◌, ◌++◌, map}
use Prim.Native.Nat.{ℕ, zero, suc, ◌+◌, ◌-◌, ◌≤◌, ◌<◌, Fin}
use Rattle.std.proofs.Math.ListN.{length}
use Rattle.base.specs.Bools.{one_if}
use Rattle.base.specs.Limits.{most_parts}
use Rattle.exchange.specs.Finite.{parts}
use Rattle.exchange.specs.Protocol.{Protocol, only, numbered, parcel, enter}
use Rattle.rounds.specs.Task.{Task}
use Rattle.rounds.specs.Rounds.{Body, phase, State, is_part, capped, writing}
use Rattle.rounds.specs.Order.{order_of, ordered}
use Rattle.rounds.specs.Rounded.{overb, sizedb, protocol}
use Rattle.rounds.specs.Upward.{ups, once}
use Rattle.merging.specs.Totals.{grown_of}
use Rattle.store.specs.Fields.{field, STAGE, PART, ROUND, TOTAL, HIGH, CURSOR, BIT, WRITTEN, GIVEN, CODE, VALUE, RECEIVERS, RED, SUM}
use Rattle.store.specs.Fields.{CORNER, ENTRIES, FIRST_ENDED, MARK, OWNER, PLACE_HEAD, RESULT, most_entries}
use Rattle.store.specs.Header.{headerb}
use Rattle.store.specs.Fetch.{entry_count, spot_at}
use Rattle.store.specs.declared.Spot.{Spot}
use Rattle.store.proofs.Fetching.{written_few}
use Rattle.standing.specs.Walk.{spots_from, bits_from}
use Rattle.standing.specs.Busy.{L, Busy, HoldsCell, HoldsSlot, pack}
use Rattle.standing.specs.Posting.{Longer, Matches}
use Rattle.entering.specs.Writing.{Line, WroteLines, orders_of, longer_on}
use Rattle.entering.specs.Entered.{Untouched, part_own, enters}

abbrev pub WorkKept : ℕ → Type 0
WorkKept i = (i < ENTRIES) ⊎ (((CURSOR ≤ i) × (i < RED)) ⊎ (((CORNER ≤ i) × (i < SUM)) ⊎ ((CODE ≤ i) × (i < PLACE_HEAD))))

pub record Worked (x y : List ℕ) : Type 0 where
  pub size : length y ≡ length x
  pub else : (i : ℕ) → WorkKept i → field y i ≡ field x i

pub record Reset (y z : List ℕ) : Type 0 where
  pub size : length z ≡ length y
  pub else : (i : ℕ) → i ≢ STAGE → i ≢ ROUND → i ≢ RESULT → field z i ≡ field y i

-- entries that agree
module _ (y z : List ℕ) (many : field z WRITTEN ≡ field y WRITTEN) (agree : (i : ℕ) → CODE ≤ i → i < PLACE_HEAD → field z i ≡ field y i)
    (low : (i : ℕ) → i < ROUND → PART ≤ i → field z i ≡ field y i) (head : (i : ℕ) → CURSOR ≤ i → i < WRITTEN → field z i ≡ field y i)
    (counts : (i : ℕ) → GIVEN ≤ i → i < OWNER → field z i ≡ field y i) where
  count_same : entry_count z ≡ entry_count y
  unfolding entry_count
  count_same = ap (λ (n : ℕ). elim (ltb n most_entries) [ true ↦ n | false ↦ most_entries ]) many

  agree_longer : Longer y z 0
  agree_longer = record {
    part = low 1 (omega arith) (omega arith);
    entry = head CURSOR (omega arith) (omega arith);
    bit = head BIT (omega arith) (omega arith);
    counts = λ b h. counts (GIVEN + b) (omega arith) (omega arith);
    many = count_same ∙ omega arith;
    codes = λ j h. agree (CODE + j) (omega arith) (omega (arith, few));
    values = λ j h. agree (VALUE + j) (omega arith) (omega (arith, few));
    receivers = λ j h. agree (RECEIVERS + j) (omega arith) (omega (arith, few));
  }
    where
      few : entry_count y ≤ most_entries
      few = written_few y

-- everything of an entry that agrees
module _ (P : ℕ) (J : Task (Fin P)) (p : Fin P) (y z : List ℕ) (own : field y PART ≡ suc p.0) (own' : field z PART ≡ suc p.0)
    (agree : (i : ℕ) → WRITTEN < i → field z i ≡ field y i) where
  matches_same : (l : List (Fin P × Body)) (w : List Spot) → Matches P J p y own l w → Matches P J p z own' l w
  unfolding Matches
  matches_same [] [] m = tt
  matches_same [] (s ∷ w) m = absurd m
  matches_same (t ∷ l) [] m = absurd m
  matches_same (t ∷ l) (s ∷ w) (i, c, d, e, m) =
      (i, agree (CODE + s.entry) (omega arith) ∙ c, agree (VALUE + s.entry) (omega arith) ∙ d, e, matches_same l w m)

  spots_same : (k j b : ℕ) → spots_from z k j b ≡ spots_from y k j b
  unfolding spots_from
  spots_same zero j b = refl
  spots_same (suc k) j b =
      ap₂ (λ (m : ℕ) (v : List Spot). map (spot_at j) (bits_from (16 - b) m b) ++ v) (agree (RECEIVERS + j) (omega arith))
      (spots_same k (suc j) 0)

worked_longer : (x y : List ℕ) → Worked x y → Longer x y 0
worked_longer x y w =
    agree_longer x y (w.else 14 (inr (inl (omega arith, omega arith)))) (λ i a b. w.else i (inr (inr (inr (a, b)))))
    (λ i a b. w.else i (inl (omega arith))) (λ i a b. w.else i (inr (inl (omega arith, omega arith))))
    (λ i a b. w.else i (inr (inl (omega arith, omega arith))))

reset_longer : (y z : List ℕ) → Reset y z → Longer y z 0
reset_longer y z s =
    agree_longer y z (s.else 14 (λ e. absurd (omega (arith, e))) (λ e. absurd (omega (arith, e))) (λ e. absurd (omega (arith, e))))
    (λ i a b. s.else i (λ e. absurd (omega (arith, e))) (λ e. absurd (omega (arith, e))) (λ e. absurd (omega (arith, e))))
    (λ i a b. s.else i (λ e. absurd (omega (arith, e))) (λ e. absurd (omega (arith, e))) (λ e. absurd (omega (arith, e))))
    (λ i a b. s.else i (λ e. absurd (omega (arith, e))) (λ e. absurd (omega (arith, e))) (λ e. absurd (omega (arith, e))))
    (λ i a b. s.else i (λ e. absurd (omega (arith, e))) (λ e. absurd (omega (arith, e))) (λ e. absurd (omega (arith, e))))

module _ (P : ℕ) (J : Task (Fin P)) {In : Type 0} (reads : Fin P → In → ℕ → ℕ) (p : Fin P) where
  abbrev pub Q : Protocol (Fin P) In Body (List ℕ) State
  Q = protocol (parts P) J (grown_of (parts P) J) (ups P) (pack P J) reads

  -- where a part is that enters a round
  abbrev pub entering : ℕ → State → L P J → L P J
  entering r s l = enter (parts P) Q r p s (λ q. l.before q + length (l.got q)) l.sent l.queue

  module _ (few : P ≤ most_parts) (l : L P J) (x : List ℕ) (u : Busy P J p l x) (x1 y z : List ℕ) (ts : List (Line P)) (work : Worked x x1)
      (wrote : WroteLines P few J p x1 y ts) (reset : Reset y z) (r : ℕ) (s : State)
      (order : orders_of P few J p ts ≡ order_of (parts P) J (ups P) (phase J.top r) p s) where
    -- what a turn leaves
    turn_same : (i : ℕ) → Untouched i → field z i ≡ field x i
    turn_same i (n, h) = z_y i h ∙ y_x1 i n h ∙ x1_x i h
      where
        z_y : (i : ℕ) → ((PART ≤ i) × (i < ROUND)) ⊎ (((CURSOR ≤ i) × (i < MARK)) ⊎ ((CORNER ≤ i) × (i < SUM))) → field z i ≡ field y i
        z_y i (inl (a, b)) =
            reset.else i (λ e. absurd (omega (arith, e))) (λ e. absurd (omega (arith, e))) (λ e. absurd (omega (arith, e)))
        z_y i (inr (inl (a, b))) = reset.else i (λ e. absurd (omega (arith, e))) (λ e. absurd (omega (arith, e)))
            (λ e. absurd (omega (arith, e)))
        z_y i (inr (inr (a, b))) = reset.else i (λ e. absurd (omega (arith, e))) (λ e. absurd (omega (arith, e)))
            (λ e. absurd (omega (arith, e)))

        y_x1 : (i : ℕ) → i ≢ WRITTEN → ((PART ≤ i) × (i < ROUND)) ⊎ (((CURSOR ≤ i) × (i < MARK)) ⊎ ((CORNER ≤ i) × (i < SUM)))
            → field y i ≡ field x1 i
        y_x1 i n (inl (a, b)) = wrote.same.else i n (inl (omega arith))
        y_x1 i n (inr (inl (a, b))) = wrote.same.else i n (inl (omega arith))
        y_x1 i n (inr (inr (a, b))) = wrote.same.else i n (inl (omega arith))

        x1_x : (i : ℕ) → ((PART ≤ i) × (i < ROUND)) ⊎ (((CURSOR ≤ i) × (i < MARK)) ⊎ ((CORNER ≤ i) × (i < SUM))) → field x1 i ≡ field x i
        x1_x i (inl (a, b)) = work.else i (inl (omega arith))
        x1_x i (inr (inl (a, b))) = work.else i (inr (inl (a, omega arith)))
        x1_x i (inr (inr (a, b))) = work.else i (inr (inr (inl (a, b))))

    turn_longer : Longer x z wrote.many
    turn_longer =
        subst (Longer x z) (omega arith)
        (longer_on x x1 z 0 (wrote.many + 0) (worked_longer x x1 work)
        (longer_on x1 y z wrote.many 0 wrote.longer (reset_longer y z reset)))

    -- THE NEXT PLACE
    module _ (head : headerb z ≡ true) (round : field z ROUND ≡ r)
        (running : overb (phase J.top r) ≡ false → field z STAGE ≡ 1) (done : overb (phase J.top r) ≡ true → field z STAGE ≡ 2)
        (ends : (q : Fin P) → is_part (parts P) q p ≡ false → overb (phase J.top r) ≡ false → field x (FIRST_ENDED + q.0) ≡ r)
        (flags : (c : ℕ) → HoldsCell P J p c → field z (RED + c) ≡ one_if (s.red c))
        (sums : (i : ℕ) → HoldsSlot P J p i → field z (SUM + i) ≡ s.sum i)
        (sized : sizedb (phase J.top r) ≡ true → (field z TOTAL ≡ capped s.total) × (field z HIGH ≡ s.high))
        (room : (q : Fin P) → (entering r s l).sent q < 65536) where
      abbrev t : List (Fin P × Body)
      t = order_of (parts P) J (ups P) (phase J.top r) p s

      written_is : (q : Fin P) → only (parts P) q (order_of (parts P) J (ups P) (phase J.top r) p s)
          ≡ writing (parts P) J (phase J.top r) p q s
      written_is q = ordered (parts P) J (ups P) (once P J) (phase J.top r) p q s

      own_y : field y PART ≡ suc p.0
      own_y = wrote.same.else PART (λ e. absurd (omega (arith, e))) (inl (omega arith)) ∙ work.else PART (inl (omega arith)) ∙ u.part

      far : (i : ℕ) → WRITTEN < i → field z i ≡ field y i
      far i h = reset.else i (λ e. absurd (omega (arith, e))) (λ e. absurd (omega (arith, e))) (λ e. absurd (omega (arith, e)))

      counted : entry_count x1 ≡ entry_count x
      counted = (worked_longer x x1 work).many ∙ omega arith

      pub turn : Busy P J p (entering r s l) z
      unfolding parcel
      turn =
          let size : length z ≡ length x = reset.size ∙ wrote.same.size ∙ work.size in
          let m : Matches P J p z (enters_own) t (spots_from z wrote.many (entry_count x) 0) =
          subst (λ (w : List Spot). Matches P J p z enters_own t w)
          (sym (spots_same P J p y z own_y enters_own far wrote.many (entry_count x) 0))
          (matches_same P J p y z own_y enters_own far t (spots_from y wrote.many (entry_count x) 0)
          (subst (λ (c : ℕ). Matches P J p y own_y t (spots_from y wrote.many c 0)) counted
          (subst (λ (o : List (Fin P × Body)). Matches P J p y own_y o (spots_from y wrote.many (entry_count x1) 0)) order
          (wrote.matches own_y)))) in
          let b = enters P J p l x u z r s t wrote.many turn_longer size turn_same head round running done ends flags sums sized m
          (λ q. subst (λ (v : List Body). l.sent q + length v < 65536) (sym (written_is q)) (room q)) in
          subst (λ (f : Fin P → ℕ). Busy P J p (record {
            round = r;
            state = s;
            before = λ q. l.before q + length (l.got q);
            got = λ q. [];
            sent = f;
            queue = l.queue ++ numbered (parts P) (pack P J) p l.sent t;
          }) z) (fun_ext (λ q. ap (λ (v : List Body). l.sent q + length v) (written_is q))) b
        where
          enters_own : field z PART ≡ suc p.0
          enters_own =
              part_own P J p l x u z r s t wrote.many turn_longer (reset.size ∙ wrote.same.size ∙ work.size) turn_same head round
              running
              done ends flags sums sized
