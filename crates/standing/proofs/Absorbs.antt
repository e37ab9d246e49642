-- Handing over on a store that stands at a place: the next message is accepted, and the store then stands at the place with it taken.
-- Laws: hand_does, hand-length and hand_else (what stays).
use Rattle.std.specs.Prelude.{◌≡◌, ◌≢◌, ◌⊎◌, Bool, ◌&&◌, ◌||◌, List, [], ◌∷◌, ◌++◌, eqb, ltb, length}
use Rattle.std.proofs.Math.Path.{refl, sym, ap}
use Rattle.std.proofs.Common.{◌∙◌, subst, inl, inr, ⊎_elim, length-append}
use Rattle.std.proofs.Math.Bool.{true, false, or-false, or-true}
use Prim.Native.Nat.{ℕ, suc, ◌+◌, ◌%◌, ◌≤◌, ◌<◌, Fin, max}
use native.Mathlib.Omega.{arith}
use Rattle.std.proofs.Math.Decide.{ℕ_discrete}
use Rattle.std.proofs.Math.ListN.{get_or}
use borrow.Author.Tests.{eq-eqb, ne_eqb, lt-ltb, le-leb}
use Rattle.base.specs.Bools.{one_if, not_both, one_most}
use Rattle.base.specs.Limits.{most_cells, most_levels, most_slots, too_many, most_parts}
use Rattle.base.specs.Answer.{Accepted}
use Rattle.exchange.specs.Finite.{parts, upd, upd_same, upd_other}
use Rattle.exchange.specs.Protocol.{with_body}
use Rattle.rounds.specs.Task.{Task}
use Rattle.rounds.specs.Rounds.{Body, mark, count, total, end, tells, worth, phase, is_part, red_told, sum_told, capped, masters_in, top_in}
use Rattle.rounds.specs.Rounds.{masters_told, top_told}
use Rattle.rounds.specs.Among.{is_self}
use Rattle.rounds.specs.Take.{red-take, sum-take, masters-take, top-take}
use Rattle.rounds.specs.Rounded.{wholeb, endedb, is_end, overb}
use Rattle.store.specs.Fields.{field, PART, GIVEN, OWNER, RED, HOLDERS, SUM, TOTAL, HIGH}
use Rattle.store.specs.Fields.{CODE, CORNER, CURSOR, ENDED, FIRST_ENDED, FIRST_TAKEN, TAKEN, BIT}
use Rattle.store.specs.Message.{message_of}
use Rattle.store.specs.Hand.{length_of, shapeb, routeb, contentb, wellb, taken_at, ended_at, hand_answer, hand_after, absorbed, counted}
use Rattle.store.specs.Checks.{length-first, length-second, length_third, length_fourth, shape_some, route_to, mark_value, count_value}
use Rattle.store.specs.Checks.{total_within, content_first, content_second, content_third, content_other, well_content}
use Rattle.store.specs.Handing.{Hands, hand_taken}
use Rattle.standing.specs.Walk.{Posted, given_to, posted_written}
use Rattle.standing.proofs.Walk.{queue_same, sent_same}
use Rattle.standing.specs.Packed.{bodyb, entry_code, entry_value, Content, Read, read}
use Rattle.standing.specs.Taking.{Away, length_taken, else_taken, count_taken, red_taken, red_kept, sum_taken, end_taken, total_taken}
use Rattle.standing.specs.Busy.{L, pack, CanTake, Good, Busy, header_same, part_low, held_few, packed_is}

shape_ok : (m : List ℕ) (n : ℕ) → length m ≡ n → 1 ≤ n → n ≡ length_of (get_or m 0 0) → shapeb m ≡ true
shape_ok m n e h f = sym (shape_some m (λ z. omega (arith, e, z)) n f) ∙ eq-eqb (length m) n e

or_none_lem : (a b : Bool) → b ≡ false → (a || b) ≡ a
or_none_lem a b e = ap (λ (c : Bool). a || c) e ∙ or-false a

pub and_none : (a : Bool) → (a && false) ≡ false
and_none true = refl
and_none false = refl

ended_snoc : (w : List Body) (b : Body) → endedb (w ++ (b ∷ [])) ≡ (endedb w || is_end b)
unfolding endedb
ended_snoc [] b = or-false (is_end b)
ended_snoc (c ∷ w) b = go (is_end c) (ended_snoc w b)
  where
    go : (a : Bool) → endedb (w ++ (b ∷ [])) ≡ (endedb w || is_end b) → (a || endedb (w ++ (b ∷ []))) ≡ ((a || endedb w) || is_end b)
    go true i = refl
    go false i = i

zero_if : one_if false ≡ 0
unfolding one_if
zero_if = refl

module _ (P : ℕ) (J : Task (Fin P)) (p : Fin P) (l : L P J) (x : List ℕ) (u : Busy P J p l x) (q : Fin P) (b : Body)
    (g : Good P J p (with_body (parts P) l q b)) (w : wholeb (parts P) J l.round q p (l.got q) ≡ false) where
  abbrev k : ℕ
  k = l.before q + length (l.got q)

  abbrev m : List ℕ
  m = message_of (suc q.0) (suc p.0) (l.before q + length (l.got q)) (entry_code b) (entry_value b)

  abbrev y : List ℕ
  y = absorbed (counted x m) m

  fits : CanTake P J p b
  fits = g.fits q b (l.got q) (upd_same (parts P) l.got q (l.got q ++ (b ∷ [])))

  few : suc (l.before q + length (l.got q)) < 65536
  few =
      let e = ap length (upd_same (parts P) l.got q (l.got q ++ (b ∷ []))) in
      omega (arith, g.few q, e, length-append (l.got q) (b ∷ []))

  room_of : (b : Body) → CanTake P J p b → bodyb b ≡ true
  unfolding CanTake bodyb
  room_of (mark c v) (h, f) = lt-ltb c most_cells h
  room_of (count s n) (h, f, i, j) = rw (lt-ltb s most_slots h, le-leb 1 n i, le-leb n most_cells j)
  room_of (total n h) (i, j) = rw (le-leb n too_many i, le-leb h most_levels j)
  room_of end f = refl

  room : (ltb k 65536 && bodyb b) ≡ true
  room = rw (lt-ltb k 65536 (omega (arith, few)), room_of b fits)

  r : Read m q.0 p.0 k b
  r = read q.0 p.0 k b (rw room tt)

  -- the sender is another part, its round is not whole, and the round is not over
  apart : is_part (parts P) q p ≡ false
  unfolding wholeb
  apart = go (is_part (parts P) q p) refl
    where
      go : (t : Bool) → is_part (parts P) q p ≡ t → is_part (parts P) q p ≡ false
      go true e = let v : wholeb (parts P) J l.round q p (l.got q) ≡ true = rw (e, wholeb) in
          not_both (wholeb (parts P) J l.round q p (l.got q)) v w
      go false e = e

  going : overb (phase J.top l.round) ≡ false
  unfolding wholeb
  going = go (overb (phase J.top l.round)) refl
    where
      go : (t : Bool) → overb (phase J.top l.round) ≡ t → overb (phase J.top l.round) ≡ false
      go true e = let v : wholeb (parts P) J l.round q p (l.got q) ≡ true = rw (apart, e, wholeb) in
          not_both (wholeb (parts P) J l.round q p (l.got q)) v w
      go false e = e

  unended : endedb (l.got q) ≡ false
  unfolding wholeb
  unended = sym (let v : wholeb (parts P) J l.round q p (l.got q) ≡ endedb (l.got q) = rw (apart, going, wholeb) in v) ∙ w

  low_q : q.0 < most_parts
  low_q = part_low P J p l x u q

  other : q.0 ≢ p.0
  other e = not_both (is_part (parts P) q p) (ap (λ (z : Fin P). is_part (parts P) z p) (native.Mathlib.Fin.val_path e) ∙ self p) apart
    where
      self : (p : Fin P) → is_part (parts P) p p ≡ true
      self p = is_self (parts P) p

  -- THE MESSAGE IS WELL FORMED
  shape_go : (b : Body) (m : List ℕ) → Content m b → shapeb m ≡ true
  unfolding Content
  shape_go (mark c v) m (a, e, i, j) = shape_ok m 8 e (omega arith) (length-first (get_or m 0 0) a)
  shape_go (count s n) m (a, e, i, j) = shape_ok m 9 e (omega arith) (length-second (get_or m 0 0) a)
  shape_go (total n h) m (a, e, i, j) = shape_ok m 8 e (omega arith) (length_third (get_or m 0 0) a)
  shape_go end m (a, e) = shape_ok m 5 e (omega arith) (length_fourth (get_or m 0 0) a)

  content_go : (b : Body) (m : List ℕ) → CanTake P J p b → Content m b → contentb x m ≡ true
  unfolding Content CanTake
  content_go (mark c v) m (h, f) (a, e, i, j) =
      sym (content_first x m a) ∙ sym (mark_value x m c (sym i) (u.cells c f).0 (u.cells c f).1)
      ∙ le-leb (get_or m 7 0) 1 (omega (arith, j, one_most v))
  content_go (count s n) m (h, f, o, t) (a, e, i, j) =
      sym (content_second x m a) ∙ sym (count_value x m s (sym i) h (u.slots s f).1 n (sym j) o) ∙ le-leb n most_cells t
  content_go (total n h) m (o, t) (a, e, i, j) =
      sym (content_third x m a) ∙ sym (total_within m n (sym i) o) ∙ le-leb (get_or m 7 0) most_levels (omega (arith, j))
  content_go end m f (a, e) = sym (content_other x m (λ z. absurd (omega (arith, z, a))) (λ z. absurd (omega (arith, z, a)))
      (λ z. absurd (omega (arith, z, a))))

  route_ok : routeb x m ≡ true
  route_ok =
      let h : q.0 < P = q.1 in
      sym (route_to x m (omega (arith, r.from)) (omega (arith, r.from, u.many)) (λ z. other (omega (arith, z, r.from, u.part))))
      ∙ eq-eqb (get_or m 2 0) (field x PART) (r.to ∙ sym u.part)

  well : wellb x m ≡ true
  well = sym (well_content x m (shape_go b m r.content) route_ok) ∙ content_go b m fits r.content

  hands : Hands x m Accepted y
  unfolding one_if
  hands =
      let z : TAKEN + get_or m 1 0 ≡ FIRST_TAKEN + q.0 = omega (arith, r.from) in
      let v : ENDED + get_or m 1 0 ≡ FIRST_ENDED + q.0 = omega (arith, r.from) in
      let t : taken_at x m ≡ field x (FIRST_TAKEN + q.0) = ap (field x) z in
      let f : ended_at x m ≡ field x (FIRST_ENDED + q.0) = ap (field x) v in
      let o : one_if (endedb (l.got q)) ≡ 0 = ap one_if unended in
      hand_taken x m u.long u.header (λ e. omega (arith, e, u.running going)) well k (sym r.number) (sym (u.taken q)
      ∙ sym t) (u.running going) (omega (arith, f, u.ends q apart going, o, u.round)) y refl

  -- WHAT IS LEFT AS IT WAS
  away : (b : Body) → CanTake P J p b → (i : ℕ) → i ≢ TOTAL → i ≢ HIGH → ((c : ℕ) → c < most_cells → i ≢ RED + c)
      → ((s : ℕ) → s < most_slots → i ≢ SUM + s) → i ≢ FIRST_ENDED + q.0 → Away b q.0 i
  unfolding Away CanTake
  away (mark c v) f i a d e h j = e c f.0
  away (count s n) f i a d e h j = h s f.0
  away (total n t) f i a d e h j = (a, d)
  away end f i a d e h j = j

  keep_low : (i : ℕ) → i < TOTAL → field y i ≡ field x i
  keep_low i h =
      else_taken x m q.0 p.0 k b r low_q u.long i (λ z. absurd (omega (arith, z)))
      (away b fits i (λ z. absurd (omega (arith, z))) (λ z. absurd (omega (arith, z))) (λ c j z. absurd (omega (arith, z)))
      (λ s j z. absurd (omega (arith, z))) (λ z. absurd (omega (arith, z))))

  keep_mid : (i : ℕ) → CURSOR ≤ i → i < RED → i ≢ FIRST_TAKEN + q.0 → i ≢ FIRST_ENDED + q.0 → field y i ≡ field x i
  keep_mid i h j a d =
      else_taken x m q.0 p.0 k b r low_q u.long i a
      (away b fits i (λ z. absurd (omega (arith, z))) (λ z. absurd (omega (arith, z))) (λ c n z. absurd (omega (arith, z)))
      (λ s n z. absurd (omega (arith, z))) d)

  keep_high : (i : ℕ) → CORNER ≤ i → (i < SUM) ⊎ (CODE ≤ i) → field y i ≡ field x i
  keep_high i h j =
      else_taken x m q.0 p.0 k b r low_q u.long i (λ z. absurd (omega (arith, z, low_q)))
      (away b fits i (λ z. absurd (omega (arith, z))) (λ z. absurd (omega (arith, z))) (λ c n z. absurd (omega (arith, z)))
      (λ s n z. absurd (⊎_elim (λ (t : i < SUM). omega (arith, z, t)) (λ (t : CODE ≤ i). omega (arith, z, t)) j))
      (λ z. absurd (omega (arith, z, low_q))))

  posted : Posted x y
  posted = record {
    part = keep_low 1 (omega arith);
    many = keep_mid 14 (omega arith) (omega arith) (λ z. absurd (omega (arith, z))) (λ z. absurd (omega (arith, z)));
    rest = λ i a d. keep_high i (omega arith) (inr a);
  }

  keep_cursor : (i : ℕ) → CURSOR ≤ i → i < FIRST_TAKEN → field y i ≡ field x i
  keep_cursor i h j = keep_mid i h (omega arith) (λ z. absurd (omega (arith, z))) (λ z. absurd (omega (arith, z)))

  keep_given : (c : ℕ) → c < 16 → given_to y c ≡ given_to x c
  keep_given c h = keep_mid (GIVEN + c) (omega arith) (omega arith) (λ z. absurd (omega (arith, z, low_q)))
      (λ z. absurd (omega (arith, z, low_q)))

  -- WHAT IS TAKEN
  got : Fin P → List Body
  got = upd (parts P) l.got q (l.got q ++ (b ∷ []))

  count_after : (s : Fin P) → field y (FIRST_TAKEN + s.0) ≡ l.before s + length ((with_body (parts P) l q b).got s)
  count_after s =
      elim ((parts P).same? s q) [
        | yes e ↦
            let n = ap length (upd_same (parts P) l.got q (l.got q ++ (b ∷ []))) in
            let a : field y (FIRST_TAKEN + q.0) ≡ (field x (FIRST_TAKEN + q.0) + 1) % 65536 =
            count_taken x m q.0 p.0 k b r low_q u.long
            (away b fits (FIRST_TAKEN + q.0) (λ z. absurd (omega (arith, z))) (λ z. absurd (omega (arith, z)))
            (λ c j z. absurd (omega (arith, z, low_q))) (λ s j z. absurd (omega (arith, z, low_q))) (λ z. absurd (omega (arith, z)))) in
            let t : field y (FIRST_TAKEN + q.0) ≡ l.before q + length ((with_body (parts P) l q b).got q) =
            omega (arith, a, n, u.taken q, few, length-append (l.got q) (b ∷ [])) in
            subst (λ (z : Fin P). field y (FIRST_TAKEN + z.0) ≡ l.before z + length ((with_body (parts P) l q b).got z)) (sym e) t
        | no n ↦
            keep_mid (FIRST_TAKEN + s.0) (omega arith) (omega (arith, part_low P J p l x u s)) (λ z. n (native.Mathlib.Fin.val_path (omega (arith, z))))
            (λ z. absurd (omega (arith, z, part_low P J p l x u s)))
            ∙ u.taken s ∙ sym (ap (λ (v : List Body). l.before s + length v) (upd_other (parts P) l.got q (l.got q ++ (b ∷ [])) s n))
      ]

  ended_go : (b : Body) → CanTake P J p b → (m : List ℕ) → Read m q.0 p.0 k b → field x (FIRST_ENDED + q.0) ≡ l.round
      → l.round < 65535
      → field (absorbed (counted x m) m) (FIRST_ENDED + q.0) ≡ l.round + one_if (is_end b)
  unfolding is_end one_if Away CanTake
  ended_go (mark c v) f m r e h = else_taken x m q.0 p.0 k (mark c v) r low_q u.long (FIRST_ENDED + q.0)
      (λ z. absurd (omega (arith, z)))
      (λ z. absurd (omega (arith, z, low_q))) ∙ e ∙ omega arith
  ended_go (count s n) f m r e h = else_taken x m q.0 p.0 k (count s n) r low_q u.long (FIRST_ENDED + q.0)
      (λ z. absurd (omega (arith, z)))
      (λ z. absurd (omega (arith, z, low_q))) ∙ e ∙ omega arith
  ended_go (total n t) f m r e h = else_taken x m q.0 p.0 k (total n t) r low_q u.long (FIRST_ENDED + q.0)
      (λ z. absurd (omega (arith, z)))
      ((λ z. absurd (omega (arith, z))), (λ z. absurd (omega (arith, z)))) ∙ e ∙ omega arith
  ended_go end f m r e h = let a = end_taken x m q.0 p.0 k low_q u.long r in omega (arith, a, e, h)

  end_after : (s : Fin P) → is_part (parts P) s p ≡ false → overb (phase J.top l.round) ≡ false
      → field y (FIRST_ENDED + s.0) ≡ l.round + one_if (endedb ((with_body (parts P) l q b).got s))
  end_after s i o =
      elim ((parts P).same? s q) [
        | yes e ↦
            let n : endedb ((with_body (parts P) l q b).got q) ≡ is_end b = ap endedb (upd_same (parts P) l.got q (l.got q ++ (b ∷ [])))
            ∙ ended_snoc (l.got q) b ∙ ap (λ (t : Bool). t || is_end b) unended in
            let c : field x (FIRST_ENDED + q.0) ≡ l.round = u.ends q apart going ∙ ap (λ (t : Bool). l.round + one_if t) unended
            ∙ nothing l.round in
            let t : field y (FIRST_ENDED + q.0) ≡ l.round + one_if (endedb ((with_body (parts P) l q b).got q)) = ended_go b fits m r c
            g.rounds
            ∙ ap (λ (t : Bool). l.round + one_if t) (sym n) in
            subst (λ (z : Fin P). field y (FIRST_ENDED + z.0) ≡ l.round + one_if (endedb ((with_body (parts P) l q b).got z))) (sym e) t
        | no n ↦
            keep_mid (FIRST_ENDED + s.0) (omega arith) (omega (arith, part_low P J p l x u s)) (λ z. absurd (omega (arith, z, low_q)))
            (λ z. n (native.Mathlib.Fin.val_path (omega (arith, z))))
            ∙ u.ends s i o ∙ sym (ap (λ (v : List Body). l.round + one_if (endedb v))
            (upd_other (parts P) l.got q (l.got q ++ (b ∷ [])) s n))
      ]
    where
      nothing : (n : ℕ) → n + one_if false ≡ n
      nothing n = let z : one_if false ≡ 0 = zero_if in omega (arith, z)

  red_go : (b : Body) → CanTake P J p b → (m : List ℕ) → Read m q.0 p.0 k b → (c : ℕ) → c < most_cells → (a : Bool)
      → field x (RED + c) ≡ one_if a → field (absorbed (counted x m) m) (RED + c) ≡ one_if (a || tells c b)
  unfolding tells one_if Away CanTake
  red_go (mark d true) f m r c h a e =
      elim (ℕ_discrete c d) [
        | yes i ↦
            let t : (a || (eqb c d && true)) ≡ true = ap (λ (t : Bool). a || (t && true)) (eq-eqb c d i) ∙ or-true a in
            ap (λ (n : ℕ). field (absorbed (counted x m) m) (RED + n)) i ∙ red_taken x m q.0 p.0 k low_q u.long d f.0 r
            ∙ sym (ap one_if t)
        | no n ↦
            let t : (a || (eqb c d && true)) ≡ a = or_none_lem a (eqb c d && true) (ap (λ (t : Bool). t && true) (ne_eqb c d n)) in
            else_taken x m q.0 p.0 k (mark d true) r low_q u.long (RED + c) (λ z. absurd (omega (arith, z, low_q)))
            (λ z. n (omega (arith, z))) ∙ e ∙ sym (ap one_if t)
      ]
  red_go (mark d false) f m r c h a e =
      red_kept x m q.0 p.0 k low_q u.long d (RED + c) r (λ z. absurd (omega (arith, z, low_q))) ∙ e
      ∙ sym (ap one_if (or_none_lem a (eqb c d && false) (and_none (eqb c d))))
  red_go (count s n) f m r c h a e =
      else_taken x m q.0 p.0 k (count s n) r low_q u.long (RED + c) (λ z. absurd (omega (arith, z, low_q)))
      (λ z. absurd (omega (arith, z, h))) ∙ e ∙ sym (ap one_if (or-false a))
  red_go (total n t) f m r c h a e =
      else_taken x m q.0 p.0 k (total n t) r low_q u.long (RED + c) (λ z. absurd (omega (arith, z, low_q)))
      ((λ z. absurd (omega (arith, z))), (λ z. absurd (omega (arith, z)))) ∙ e ∙ sym (ap one_if (or-false a))
  red_go end f m r c h a e =
      else_taken x m q.0 p.0 k end r low_q u.long (RED + c) (λ z. absurd (omega (arith, z, low_q)))
      (λ z. absurd (omega (arith, z, low_q))) ∙ e ∙ sym (ap one_if (or-false a))

  sum_go : (b : Body) → CanTake P J p b → (m : List ℕ) → Read m q.0 p.0 k b → (s : ℕ) → s < most_slots → (n : ℕ)
      → field x (SUM + s) ≡ n
      → n + worth s b < 65536 → field (absorbed (counted x m) m) (SUM + s) ≡ n + worth s b
  unfolding worth Away CanTake
  sum_go (mark d v) f m r s h n e t =
      else_taken x m q.0 p.0 k (mark d v) r low_q u.long (SUM + s) (λ z. absurd (omega (arith, z, low_q)))
      (λ z. absurd (omega (arith, z, f.0))) ∙ e ∙ omega arith
  sum_go (count d v) f m r s h n e t =
      elim (ℕ_discrete s d) [
        | yes i ↦
            let a : worth s (count d v) ≡ v = rw (eq-eqb s d i, worth) in
            let c : field (absorbed (counted x m) m) (SUM + s) ≡ (field x (SUM + s) + v) % 65536 =
            ap (λ (n : ℕ). field (absorbed (counted x m) m) (SUM + n)) i ∙ sum_taken x m q.0 p.0 k low_q u.long d v f.0 r
            ∙ ap (λ (n : ℕ). (field x (SUM + n) + v) % 65536) (sym i) in
            c ∙ wraps (field x (SUM + s)) n v (worth s (count d v)) e a t
        | no j ↦
            let a : worth s (count d v) ≡ 0 = rw (ne_eqb s d j, worth) in
            else_taken x m q.0 p.0 k (count d v) r low_q u.long (SUM + s) (λ z. absurd (omega (arith, z, low_q)))
            (λ z. j (omega (arith, z))) ∙ e ∙ adds n (worth s (count d v)) a
      ]
    where
      wraps : (c n v w : ℕ) → c ≡ n → w ≡ v → n + w < 65536 → (c + v) % 65536 ≡ n + w
      wraps c n v w e a t = omega arith

      adds : (n w : ℕ) → w ≡ 0 → n ≡ n + w
      adds n w a = omega arith
  sum_go (total d v) f m r s h n e t =
      else_taken x m q.0 p.0 k (total d v) r low_q u.long (SUM + s) (λ z. absurd (omega (arith, z, low_q)))
      ((λ z. absurd (omega (arith, z))), (λ z. absurd (omega (arith, z)))) ∙ e ∙ omega arith
  sum_go end f m r s h n e t =
      else_taken x m q.0 p.0 k end r low_q u.long (SUM + s) (λ z. absurd (omega (arith, z, low_q)))
      (λ z. absurd (omega (arith, z, low_q))) ∙ e ∙ omega arith

  totals_go : (b : Body) → CanTake P J p b → (m : List ℕ) → Read m q.0 p.0 k b → (n h : ℕ) → field x TOTAL ≡ capped n
      → field x HIGH ≡ h
      → (field (absorbed (counted x m) m) TOTAL ≡ capped (n + masters_in b)) × (field (absorbed (counted x m) m) HIGH ≡ max h (top_in b))
  unfolding masters_in top_in Away CanTake
  totals_go (mark d v) f m r n h e i = (
    else_taken x m q.0 p.0 k (mark d v) r low_q u.long TOTAL (λ z. absurd (omega (arith, z))) (λ z. absurd (omega (arith, z))) ∙ e
        ∙ omega arith,
    else_taken x m q.0 p.0 k (mark d v) r low_q u.long HIGH (λ z. absurd (omega (arith, z))) (λ z. absurd (omega (arith, z))) ∙ i
        ∙ omega arith,
  )
  totals_go (count d v) f m r n h e i = (
    else_taken x m q.0 p.0 k (count d v) r low_q u.long TOTAL (λ z. absurd (omega (arith, z))) (λ z. absurd (omega (arith, z))) ∙ e
        ∙ omega arith,
    else_taken x m q.0 p.0 k (count d v) r low_q u.long HIGH (λ z. absurd (omega (arith, z))) (λ z. absurd (omega (arith, z))) ∙ i
        ∙ omega arith,
  )
  totals_go (total d v) f m r n h e i =
      let t = total_taken x m q.0 p.0 k low_q u.long d v r in
      (omega (arith, t.0, e), omega (arith, t.1, i))
  totals_go end f m r n h e i = (
    else_taken x m q.0 p.0 k end r low_q u.long TOTAL (λ z. absurd (omega (arith, z))) (λ z. absurd (omega (arith, z))) ∙ e
        ∙ omega arith,
    else_taken x m q.0 p.0 k end r low_q u.long HIGH (λ z. absurd (omega (arith, z))) (λ z. absurd (omega (arith, z))) ∙ i
        ∙ omega arith,
  )

  -- THE STORE STANDS AT THE PLACE WITH THE MESSAGE TAKEN
  stands : Busy P J p (with_body (parts P) l q b) y
  stands = record {
    long = omega (arith, length_taken x m q.0 p.0 k b r low_q u.long, u.long);
    header = header_same x y keep_low ∙ u.header;
    running = λ o. keep_low 0 (omega arith) ∙ u.running o;
    done = λ o. keep_low 0 (omega arith) ∙ u.done o;
    part = keep_low 1 (omega arith) ∙ u.part;
    many = keep_low 2 (omega arith) ∙ u.many;
    round = keep_low 7 (omega arith) ∙ u.round;
    taken = count_after;
    ends = end_after;
    queue = queue_same x y posted (keep_cursor CURSOR (omega arith) (omega arith)) (keep_cursor BIT (omega arith) (omega arith)) keep_given
        ∙ u.queue;
    sent = λ s. sent_same x y posted (keep_cursor CURSOR (omega arith) (omega arith))
        (keep_cursor BIT (omega arith) (omega arith)) keep_given
        s.0 (part_low P J p l x u s) ∙ u.sent s;
    cursor =
        let a = keep_cursor CURSOR (omega arith) (omega arith) in
        let d = posted_written x y posted in
        (omega (arith, a, d, u.cursor.0), λ z. keep_cursor BIT (omega arith) (omega arith) ∙ u.cursor.1 (sym a ∙ z ∙ d));
    cells = λ c h. (
      subst (λ (n : ℕ). c < n) (sym (keep_low 5 (omega arith))) (u.cells c h).0,
      λ z. (u.cells c h).1 (sym (keep_mid (OWNER + c) (omega arith) (omega (arith, (u.cells c h).0, held_few P J p l x u))
          (λ z. absurd (omega (arith, z, low_q))) (λ z. absurd (omega (arith, z, low_q)))) ∙ z),
    );
    slots = λ s h. (
      (u.slots s h).0,
      λ z. (u.slots s h).1
          (sym (keep_high (HOLDERS + s) (omega arith) (inl (omega (arith, (u.slots s h).0)))) ∙ z),
    );
    red = λ c h. red_go b fits m r c (omega (arith, (u.cells c h).0, held_few P J p l x u)) (red_told (parts P) l.state l.got c)
        (u.red c h) ∙ sym (ap one_if (red-take P l.got q b l.state c));
    sum = λ s h.
        let e = sum-take P l.got q b l.state s in
        sum_go b fits m r s (u.slots s h).0 (sum_told (parts P) l.state l.got s) (u.sum s h)
        (subst (λ (n : ℕ). n < 65536) e (g.sums s h)) ∙ sym e;
    total = λ o.
        let t = totals_go b fits m r (l.state.total + masters_told (parts P) l.got) (max l.state.high (top_told (parts P) l.got))
        (u.total o) (u.high o) in
        omega (arith, t.0, masters-take P l.got q b);
    high = λ o.
        let t = totals_go b fits m r (l.state.total + masters_told (parts P) l.got) (max l.state.high (top_told (parts P) l.got))
        (u.total o) (u.high o) in
        omega (arith, t.1, top-take P l.got q b);
  }

  pub hand_does : (hand_answer x (pack P J q p k b) ≡ Accepted) × Busy P J p (with_body (parts P) l q b) (hand_after x (pack P J q p k b))
  hand_does =
      let e = packed_is P J p l x u q p k b room in (
        ap (hand_answer x) e ∙ sym hands.answer,
        subst (λ (z : List ℕ). Busy P J p (with_body (parts P) l q b) z) (hands.after ∙ ap (hand_after x) (sym e)) stands,
      )

  -- WHAT STAYS
  is_after : hand_after x (pack P J q p k b) ≡ y
  is_after = sym (hands.after ∙ ap (hand_after x) (sym (packed_is P J p l x u q p k b room)))

  pub hand-length : length (hand_after x (pack P J q p k b)) ≡ length x
  hand-length = ap length is_after ∙ length_taken x m q.0 p.0 k b r low_q u.long

  away_go : (b : Body) → CanTake P J p b → (i : ℕ)
      → (i < TOTAL) ⊎ (((CURSOR ≤ i) × (i < FIRST_TAKEN)) ⊎ (((OWNER ≤ i) × (i < RED)) ⊎ (((CORNER ≤ i) × (i < SUM)) ⊎ (CODE ≤ i))))
      → Away b q.0 i
  unfolding Away CanTake
  away_go (mark c v) (h, f) i (inl a) = λ z. absurd (omega (arith, z))
  away_go (mark c v) (h, f) i (inr (inl (a, d))) = λ z. absurd (omega (arith, z))
  away_go (mark c v) (h, f) i (inr (inr (inl (a, d)))) = λ z. absurd (omega (arith, z))
  away_go (mark c v) (h, f) i (inr (inr (inr (inl (a, d))))) = λ z. absurd (omega (arith, z))
  away_go (mark c v) (h, f) i (inr (inr (inr (inr a)))) = λ z. absurd (omega (arith, z))
  away_go (count s n) (h, f, o, t) i (inl a) = λ z. absurd (omega (arith, z))
  away_go (count s n) (h, f, o, t) i (inr (inl (a, d))) = λ z. absurd (omega (arith, z))
  away_go (count s n) (h, f, o, t) i (inr (inr (inl (a, d)))) = λ z. absurd (omega (arith, z))
  away_go (count s n) (h, f, o, t) i (inr (inr (inr (inl (a, d))))) = λ z. absurd (omega (arith, z))
  away_go (count s n) (h, f, o, t) i (inr (inr (inr (inr a)))) = λ z. absurd (omega (arith, z))
  away_go (total n h) f i (inl a) = ((λ z. absurd (omega (arith, z))), λ z. absurd (omega (arith, z)))
  away_go (total n h) f i (inr (inl (a, d))) = ((λ z. absurd (omega (arith, z))), λ z. absurd (omega (arith, z)))
  away_go (total n h) f i (inr (inr (inl (a, d)))) = ((λ z. absurd (omega (arith, z))), λ z. absurd (omega (arith, z)))
  away_go (total n h) f i (inr (inr (inr (inl (a, d))))) = ((λ z. absurd (omega (arith, z))), λ z. absurd (omega (arith, z)))
  away_go (total n h) f i (inr (inr (inr (inr a)))) = ((λ z. absurd (omega (arith, z))), λ z. absurd (omega (arith, z)))
  away_go end f i (inl a) = λ z. absurd (omega (arith, z))
  away_go end f i (inr (inl (a, d))) = λ z. absurd (omega (arith, z))
  away_go end f i (inr (inr (inl (a, d)))) = λ z. absurd (omega (arith, z, low_q))
  away_go end f i (inr (inr (inr (inl (a, d))))) = λ z. absurd (omega (arith, z, low_q))
  away_go end f i (inr (inr (inr (inr a)))) = λ z. absurd (omega (arith, z, low_q))

  off_count : (i : ℕ) → (i < TOTAL) ⊎ (((CURSOR ≤ i) × (i < FIRST_TAKEN))
      ⊎ (((OWNER ≤ i) × (i < RED)) ⊎ (((CORNER ≤ i) × (i < SUM)) ⊎ (CODE ≤ i))))
      → i ≢ FIRST_TAKEN + q.0
  off_count i (inl a) z = omega (arith, z)
  off_count i (inr (inl (a, d))) z = omega (arith, z)
  off_count i (inr (inr (inl (a, d)))) z = omega (arith, z, low_q)
  off_count i (inr (inr (inr (inl (a, d))))) z = omega (arith, z, low_q)
  off_count i (inr (inr (inr (inr a)))) z = omega (arith, z, low_q)

  pub hand_else : (i : ℕ) → (i < TOTAL) ⊎ (((CURSOR ≤ i) × (i < FIRST_TAKEN))
      ⊎ (((OWNER ≤ i) × (i < RED)) ⊎ (((CORNER ≤ i) × (i < SUM)) ⊎ (CODE ≤ i))))
      → field (hand_after x (pack P J q p k b)) i ≡ field x i
  hand_else i h = ap (λ (v : List ℕ). field v i) is_after
      ∙ else_taken x m q.0 p.0 k b r low_q u.long i (off_count i h) (away_go b fits i h)
