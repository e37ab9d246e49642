-- A store that stands at a place of the exchange, and the laws of one part alone for fetching and handing over.
--   HoldsCell p c, HoldsSlot p s    the part holds a cell, an edge
--   CanTake p b                     a body that the part can take
--   Good p l                        the place has room in a store
--   Busy p l x                      the store x stands at the place l
-- Laws: fetch_none, fetch_nothing, hand_is; and in proofs/Busy fetch_some (by the walk), fetch_gives (as the call answers).
use Rattle.std.specs.Prelude.{◌≡◌, ◌≢◌, Bool, ◌&&◌, ◌||◌, not, List, [], ◌∷◌, ◌++◌, T, eqb, ltb, leb, length, get_or}
use Rattle.std.proofs.Math.Path.{refl, ap}
use Rattle.std.proofs.Common.{sym, ◌∙◌, subst, arith, eqb→eq, eq-eqb}
use Rattle.std.proofs.Math.Bool.{true, false}
use Prim.Native.Nat.{ℕ, suc, ◌+◌, ◌*◌, ◌≤◌, ◌<◌, Fin, max}
use Rattle.base.specs.Bools.{one_if, is_false, and_left, and_right, not_both}
use Rattle.base.specs.Limits.{most_cells, most_levels, most_slots, too_many, most_parts}
use Rattle.base.specs.Answer.{Accepted}
use Rattle.exchange.specs.Finite.{parts}
use Rattle.exchange.specs.Protocol.{Local}
use Rattle.base.specs.Member.{Member}
use Rattle.rounds.specs.Task.{Task}
use Rattle.rounds.specs.Rounds.{Body, mark, count, total, end, State, phase, is_part, mine, holdsb, red_told, sum_told, capped, masters_told}
use Rattle.rounds.specs.Rounds.{top_told}
use Rattle.rounds.specs.Among.{is_eq}
use Rattle.rounds.specs.Rounded.{wholeb, endedb, overb, sizedb}
use Rattle.store.specs.Fields.{field, full, STAGE, PART, PARTS, CELLS, LEVELS, ROUND, RESULT, CURSOR, BIT, OWNER, RED, HOLDERS, SUM}
use Rattle.store.specs.Fields.{TOTAL, HIGH, ENDED, FIRST_ENDED, FIRST_TAKEN, TAKEN}
use Rattle.store.specs.Header.{stageb, headerb}
use Rattle.store.specs.Message.{message_of}
use Rattle.store.specs.Fetched.{Nothing}
use Rattle.store.specs.Fetch.{entry_count, next_to_give, fetch_answer, fetch_bytes, fetch_after}
use Rattle.store.proofs.Fetching.{none_left}
use Rattle.store.specs.Hand.{number_at, shapeb, routeb, contentb, wellb, hand_answer}
use Rattle.store.specs.Handing.{TakesIt, taken_is}
use Rattle.store.specs.Headed.{header_is}
use Rattle.standing.specs.Walk.{left_of, given_after, queue_of, given_to, fetch_empty}
use Rattle.standing.specs.Packed.{bodyb, entry_code, entry_value, packed, read}

stage_of : ℕ → ℕ → ℕ → ℕ → Bool
stage_of a r l v =
    elim (eqb a 0) [
      | true ↦ eqb r 0 && eqb v 0
      | false ↦ elim (eqb a 1) [
        | true ↦ leb r (2 * l) && eqb v 0
        | false ↦ eqb a 2 && (eqb r (2 * l + 1) && (eqb v 0 || (eqb v 8 || eqb v 9)))
      ]
    ]

stage_of_lem : (x : List ℕ) → stageb x ≡ stage_of (field x STAGE) (field x ROUND) (field x LEVELS) (field x RESULT)
unfolding stageb stage_of
stage_of_lem x = refl

pub header_same : (x y : List ℕ) → ((i : ℕ) → i < TOTAL → field y i ≡ field x i) → headerb y ≡ headerb x
unfolding headerb
header_same x y h =
    let e : stage_of (field y STAGE) (field y ROUND) (field y LEVELS) (field y RESULT)
    ≡ stage_of (field x STAGE) (field x ROUND) (field x LEVELS) (field x RESULT) =
    rw (h 0 (omega arith), h 7 (omega arith), h 6 (omega arith), h 8 (omega arith)) in
    let s : stageb y ≡ stageb x = stage_of_lem y ∙ e ∙ sym (stage_of_lem x) in
    rw (
      h 1 (omega arith),
      h 2 (omega arith),
      h 3 (omega arith),
      h 4 (omega arith),
      h 5 (omega arith),
      h 6 (omega arith),
      h 9 (omega arith),
      s,
    )

route : (x m : List ℕ) → wellb x m ≡ true → (get_or m 1 0 ≢ field x PART) × (get_or m 2 0 ≡ field x PART)
unfolding wellb routeb
route x m e =
    let t : T (wellb x m) = rw e tt in
    let r = and_left (routeb x m) (contentb x m) (and_right (shapeb m) (routeb x m && contentb x m) t) in
    let a = and_right (leb 1 (get_or m 1 0)) (leb (get_or m 1 0) (field x PARTS)
    && (not (eqb (get_or m 1 0) (field x PART)) && eqb (get_or m 2 0) (field x PART))) r in
    let c = and_right (leb (get_or m 1 0) (field x PARTS)) (not (eqb (get_or m 1 0) (field x PART)) && eqb (get_or m 2 0) (field x PART)) a in
    let d = is_false (eqb (get_or m 1 0) (field x PART))
    (and_left (not (eqb (get_or m 1 0) (field x PART))) (eqb (get_or m 2 0) (field x PART)) c) in (
      λ z. not_both (eqb (get_or m 1 0) (field x PART)) (eq-eqb (get_or m 1 0) (field x PART) z) d,
      eqb→eq (get_or m 2 0) (field x PART) (and_right (not (eqb (get_or m 1 0) (field x PART))) (eqb (get_or m 2 0) (field x PART)) c),
    )

module _ (P : ℕ) (J : Task (Fin P)) where
  abbrev pub pack : Fin P → Fin P → ℕ → Body → List ℕ
  pack q p k b = packed q.0 p.0 k b

  abbrev pub L : Type 0
  L = Local (Fin P) Body (List ℕ) State

  abbrev pub HoldsCell : Fin P → ℕ → Type 0
  HoldsCell p c = (k : ℕ) × Member c (J.cells k) × T (mine (parts P) J p c)

  abbrev pub HoldsSlot : Fin P → ℕ → Type 0
  HoldsSlot p s = (k : ℕ) × T (holdsb (parts P) J p k s)

  unfoldable pub CanTake : Fin P → Body → Type 0
  CanTake p (mark c v) = (c < most_cells) × HoldsCell p c
  CanTake p (count s n) = (s < most_slots) × HoldsSlot p s × (1 ≤ n) × (n ≤ most_cells)
  CanTake p (total n h) = (n ≤ too_many) × (h ≤ most_levels)
  CanTake p end = Unit {0}

  pub record Good (p : Fin P) (l : L) : Type 0 where
    pub few : (q : Fin P) → l.before q + length (l.got q) < 65536
    pub fits : (q : Fin P) (b : Body) (w : List Body) → l.got q ≡ w ++ (b ∷ []) → CanTake p b
    pub sums : (s : ℕ) → HoldsSlot p s → sum_told (parts P) l.state l.got s < 65536
    pub rounds : l.round < 65535

  pub record Busy (p : Fin P) (l : L) (x : List ℕ) : Type 0 where
    pub long : full ≤ length x
    pub header : headerb x ≡ true
    pub running : overb (phase J.top l.round) ≡ false → field x STAGE ≡ 1
    pub done : overb (phase J.top l.round) ≡ true → field x STAGE ≡ 2
    pub part : field x PART ≡ suc p.0
    pub many : field x PARTS ≡ P
    pub round : field x ROUND ≡ l.round
    pub taken : (q : Fin P) → field x (FIRST_TAKEN + q.0) ≡ l.before q + length (l.got q)
    pub ends : (q : Fin P) → is_part (parts P) q p ≡ false → overb (phase J.top l.round) ≡ false
        → field x (FIRST_ENDED + q.0) ≡ l.round + one_if (endedb (l.got q))
    pub queue : queue_of x ≡ l.queue
    pub sent : (q : Fin P) → given_after (given_to x) (left_of x) q.0 ≡ l.sent q
    pub cursor : (field x CURSOR ≤ entry_count x) × (field x CURSOR ≡ entry_count x → field x BIT ≡ 0)
    pub cells : (c : ℕ) → HoldsCell p c → (c < field x CELLS) × (field x (OWNER + c) ≢ 0)
    pub slots : (s : ℕ) → HoldsSlot p s → (s < most_slots) × (field x (HOLDERS + s) ≢ 0)
    pub red : (c : ℕ) → HoldsCell p c → field x (RED + c) ≡ one_if (red_told (parts P) l.state l.got c)
    pub sum : (s : ℕ) → HoldsSlot p s → field x (SUM + s) ≡ sum_told (parts P) l.state l.got s
    pub total : sizedb (phase J.top l.round) ≡ true → field x TOTAL ≡ capped (l.state.total + masters_told (parts P) l.got)
    pub high : sizedb (phase J.top l.round) ≡ true → field x HIGH ≡ max l.state.high (top_told (parts P) l.got)

  module _ (p : Fin P) (l : L) (x : List ℕ) (u : Busy p l x) where
    parts_few : P ≤ most_parts
    parts_few = let h = header_is x (rw u.header tt) in omega (arith, h.parts_most, u.many)

    pub part_low : (q : Fin P) → q.0 < most_parts
    part_low q = let h : q.0 < P = q.1 in omega (arith, parts_few)

    pub held_few : field x CELLS ≤ most_cells
    held_few = (header_is x (rw u.header tt)).cells_most

    -- FETCH: none where the queue is empty, else its first
    fetch_none : l.queue ≡ [] → (next_to_give x).bit ≡ 16
    fetch_none e = fetch_empty x u.long (u.queue ∙ e)

    pub started : field x STAGE ≡ 0 → ⊥
    started z = go (overb (phase J.top l.round)) refl
      where
        go : (o : Bool) → overb (phase J.top l.round) ≡ o → ⊥
        go true o = omega (arith, z, u.done o)
        go false o = omega (arith, z, u.running o)

    -- as the call answers: with room for nine bytes
    module _ (out : List ℕ) (room : 9 ≤ length out) where
      pub fetch_nothing : l.queue ≡ [] → (fetch_answer x out ≡ Nothing) × (fetch_bytes x out ≡ out) × (fetch_after x out ≡ x)
      fetch_nothing e =
          let f = none_left x out u.long room u.header started (next_to_give x) refl (omega (arith, fetch_none e)) in
          (sym f.answer, sym f.bytes, sym f.after)

    pub not_from_self : (q : Fin P) → q.0 ≢ p.0 → is_part (parts P) q p ≡ false
    not_from_self q d = go (is_part (parts P) q p) refl
      where
        go : (t : Bool) → is_part (parts P) q p ≡ t → is_part (parts P) q p ≡ false
        go true e = absurd (d (ap (λ (r : Fin P). r.0) (is_eq (parts P) q p (rw e tt))))
        go false e = e

    open_round : (q : Fin P) → q.0 ≢ p.0 → field x (FIRST_ENDED + q.0) ≤ field x ROUND → field x STAGE ≡ 1
        → wholeb (parts P) J l.round q p (l.got q) ≡ false
    unfolding wholeb one_if
    open_round q d h r = go (overb (phase J.top l.round)) refl (endedb (l.got q)) refl
      where
        go : (o : Bool) → overb (phase J.top l.round) ≡ o → (t : Bool) → endedb (l.got q) ≡ t
            → wholeb (parts P) J l.round q p (l.got q) ≡ false
        go true o t e = absurd (omega (arith, u.done o, r))
        go false o true e =
            let a = u.ends q (not_from_self q d) o in
            let b : one_if (endedb (l.got q)) ≡ 1 = ap one_if e in
            absurd (omega (arith, a, b, h, u.round))
        go false o false e = rw (not_from_self q d, o, e, wholeb)

    -- HAND: what is accepted is the next message of a sender whose round is not whole
    module _ (q p' : Fin P) (k : ℕ) (b : Body) where
      pub packed_is : ltb k 65536 && bodyb b ≡ true → pack q p' k b ≡ message_of (suc q.0) (suc p'.0) k (entry_code b) (entry_value b)
      unfolding packed
      packed_is e = rw (e, packed)

      no_room : ltb k 65536 && bodyb b ≡ false → pack q p' k b ≡ []
      unfolding packed
      no_room e = rw (e, packed)

      empty_bad : wellb x [] ≡ false
      unfolding wellb shapeb
      empty_bad = refl

      pub hand_is : hand_answer x (pack q p' k b) ≡ Accepted → (p' ≡ p) × (wholeb (parts P) J l.round q p (l.got q) ≡ false)
          × (k ≡ l.before q + length (l.got q))
      hand_is e = go (ltb k 65536 && bodyb b) refl
        where
          accepted : ltb k 65536 && bodyb b ≡ true → (p' ≡ p) × (wholeb (parts P) J l.round q p (l.got q) ≡ false)
              × (k ≡ l.before q + length (l.got q))
          accepted t =
              let m = message_of (suc q.0) (suc p'.0) k (entry_code b) (entry_value b) in
              let a : TakesIt x (message_of (suc q.0) (suc p'.0) k (entry_code b) (entry_value b)) =
              taken_is x (message_of (suc q.0) (suc p'.0) k (entry_code b) (entry_value b)) (ap (hand_answer x) (sym (packed_is t))
              ∙ e) in
              let r = read q.0 p'.0 k b (rw t tt) in
              let s = route x (message_of (suc q.0) (suc p'.0) k (entry_code b) (entry_value b)) a.well in
              let z : TAKEN + get_or (message_of (suc q.0) (suc p'.0) k (entry_code b) (entry_value b)) 1 0 ≡ FIRST_TAKEN + q.0 =
              omega (arith, r.from) in
              let y : ENDED + get_or (message_of (suc q.0) (suc p'.0) k (entry_code b) (entry_value b)) 1 0 ≡ FIRST_ENDED + q.0 =
              omega (arith, r.from) in
              let c : field x (FIRST_ENDED + q.0) ≤ field x ROUND = subst (λ (i : ℕ). field x i ≤ field x ROUND) y a.unended in
              let i : q.0 ≢ p.0 = λ j. s.0 (r.from ∙ ap suc j ∙ sym u.part) in
              let n : number_at (message_of (suc q.0) (suc p'.0) k (entry_code b) (entry_value b)) 3
              ≡ field x (FIRST_TAKEN + q.0) = a.due
              ∙ ap (field x) z in
              (native.Mathlib.Fin.val_path (omega (arith, s.1, r.to, u.part)), open_round q i c a.running, sym r.number ∙ n ∙ u.taken q)

          go : (t : Bool) → ltb k 65536 && bodyb b ≡ t → (p' ≡ p) × (wholeb (parts P) J l.round q p (l.got q) ≡ false)
              × (k ≡ l.before q + length (l.got q))
          go true t = accepted t
          go false t = not_both (wellb x []) (taken_is x [] (ap (hand_answer x) (sym (no_room t)) ∙ e)).well empty_bad
