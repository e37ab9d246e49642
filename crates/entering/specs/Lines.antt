-- The lines that a part writes on entering a round.
--   mark_line, count_line, end_line, total_line    a ghost's mark, a slot's count, the end of a round, the own totals
-- Laws: marks_written, counts_written, totals_written (what is written), marks_order, counts_order, totals_order (it is what the rounds
-- have in this order).
use Rattle.std.specs.Prelude.{◌≡◌, ◌≢◌, Bool, ◌&&◌, ltb}
use Rattle.std.proofs.Math.Path.{refl, sym, ap, ap₂, subst}
use Rattle.std.proofs.Common.{◌∙◌, inl, arith}
use Rattle.std.proofs.Math.Bool.{true, false, not}
use mathlib.Core.List.{List, [], ◌∷◌, ◌++◌, map, flat_map, append_assoc, append-nil}
use Prim.Native.Nat.{ℕ, suc, ◌+◌, ◌-◌, ◌%◌, ◌^◌, ◌≤◌, ◌<◌, Fin}
use Rattle.std.proofs.Math.Decide.{ℕ_discrete}
use Rattle.std.proofs.Math.Dec.{eqb, leb}
use Rattle.std.proofs.Math.ListN.{length}
use borrow.Author.Tests.{eq-eqb, ne_eqb, lt-ltb, le-ltb, le-leb}
use Rattle.base.specs.Bools.{one_if}
use Rattle.base.specs.Limits.{most_cells, most_levels, most_slots, too_many, most_parts}
use Rattle.base.specs.Range.{range, range_member}
use Rattle.exchange.specs.Finite.{parts}
use Rattle.base.specs.Member.{Member}
use Rattle.rounds.specs.Task.{Task}
use Rattle.rounds.specs.Rounds.{Body, mark, count, total, end, marks, counts, totals, State, is_part, mine, holdsb}
use Rattle.rounds.specs.Among.{is_same, is_not}
use Rattle.rounds.specs.Order.{to_all, otherb, order_of}
use Rattle.rounds.specs.Upward.{ups}
use Rattle.store.specs.Fields.{field, full, PART, PARTS, HIGH, TOTAL, WRITTEN, OWNER, FAMILY, RED, HOLDERS}
use Rattle.store.specs.Fields.{SUM, CODE, count_code, most_entries, totals_code}
use Rattle.store.specs.Fetch.{bitb}
use Rattle.standing.proofs.Absorbs.{and_none}
use Rattle.standing.specs.Busy.{HoldsCell}
use Rattle.standing.specs.Packed.{entry_code, entry_value, bodyb}
use Rattle.turns.specs.Loops.{each_from}
use Rattle.turns.specs.Post.{posted, besides, others_of, ghost_at, mark_one, count_one, post_end}
use Rattle.partstep.specs.Step.{post_totals}
use Rattle.entering.specs.Columns.{Columns}
use Rattle.entering.specs.Bits.{bit_none, bit_power, bit_ones, bit_less}
use Rattle.entering.specs.Writing.{Line, Sent, SameElse, same_self, WroteLines, orders_of, post_line, wrote_each, wrote_cons}
use Rattle.entering.specs.Writing.{wrote_last, posted_same}

-- tests of parts by their numbers
pub part_same : (P : ℕ) (a b : Fin P) → a ≡ b → eqb (suc a.0) (suc b.0) ≡ true
part_same P a b e = eq-eqb (suc a.0) (suc b.0) (ap (λ (c : Fin P). suc c.0) e)

part_other : (P : ℕ) (a b : Fin P) → a ≢ b → eqb (suc a.0) (suc b.0) ≡ false
part_other P a b n = ne_eqb (suc a.0) (suc b.0) (λ z. n (native.Mathlib.Fin.val_path (omega (arith, z))))

pub part_is : (P : ℕ) (a b : Fin P) → eqb (suc a.0) (suc b.0) ≡ is_part (parts P) a b
part_is P a b = elim ((parts P).same? a b) [
  | yes e ↦ part_same P a b e ∙ sym (is_same (parts P) a b e)
  | no n ↦ part_other P a b n ∙ sym (is_not (parts P) a b n)
]

number_is : (P : ℕ) (a b : Fin P) → eqb a.0 b.0 ≡ is_part (parts P) a b
number_is P a b = elim ((parts P).same? a b) [
  | yes e ↦ eq-eqb a.0 b.0 (ap (λ (c : Fin P). c.0) e) ∙ sym (is_same (parts P) a b e)
  | no n ↦ ne_eqb a.0 b.0 (λ z. n (native.Mathlib.Fin.val_path z)) ∙ sym (is_not (parts P) a b n)
]

part_sym : (P : ℕ) (a b : Fin P) → is_part (parts P) a b ≡ is_part (parts P) b a
part_sym P a b = elim ((parts P).same? a b) [
  | yes e ↦ is_same (parts P) a b e ∙ sym (is_same (parts P) b a (sym e))
  | no n ↦ is_not (parts P) a b n ∙ sym (is_not (parts P) b a (λ e. n (sym e)))
]

and_swap : (a b : Bool) → (a && not b) ≡ (not b && (true && (a && true)))
and_swap true true = refl
and_swap true false = refl
and_swap false true = refl
and_swap false false = refl

-- a number, or none
unfoldable pub only_if : Bool → ℕ → ℕ
only_if true n = n
only_if false n = 0

only_none : (b : Bool) (n : ℕ) → n ≡ 0 → only_if b n ≡ 0
unfolding only_if
only_none true n e = e
only_none false n e = refl

besides_own : (x : List ℕ) (m a : ℕ) → field x PART - 1 ≡ a → bitb m a ≡ true → besides x m ≡ m - 2 ^ a
unfolding besides
besides_own x m a e b =
    let f : bitb m (field x PART - 1) ≡ true = ap (bitb m) e ∙ b in
    rw (f, besides) (ap (λ (i : ℕ). m - 2 ^ i) e)

besides_same : (x y : List ℕ) → field y PART ≡ field x PART → (m : ℕ) → besides y m ≡ besides x m
unfolding besides
besides_same x y e m =
    ap (λ (i : ℕ). elim (bitb m (i - 1)) [ true ↦ m - 2 ^ (i - 1) | false ↦ m ]) e

module _ (P : ℕ) (J : Task (Fin P)) (p : Fin P) (x : List ℕ) (co : Columns P J p x) where
  abbrev other : Fin P → Bool
  other q = otherb (parts P) J (ups P) p q

  -- the end, and the totals: for all others
  others_is : others_of x ≡ 2 ^ P - 1 - 2 ^ p.0
  unfolding others_of
  others_is =
      let z : field x PART - 1 ≡ p.0 = omega (arith, co.part) in
      ap₂ (λ (a b : ℕ). 2 ^ a - 1 - 2 ^ b) co.many z

  others_bit : (i : ℕ) → bitb (others_of x) i ≡ (ltb i P && not (eqb i p.0))
  others_bit i =
      let h : p.0 < P = p.1 in
      ap (λ (m : ℕ). bitb m i) others_is
      ∙ bit_less p.0 i (2 ^ P - 1) (bit_ones P p.0 ∙ lt-ltb p.0 P h)
      ∙ ap (λ (b : Bool). b && not (eqb i p.0)) (bit_ones P i)

  others_bits : (q : Fin P) → bitb (others_of x) q.0 ≡ other q
  others_bits q =
      let h : q.0 < P = q.1 in
      others_bit q.0 ∙ ap₂ (λ (a b : Bool). a && not b) (lt-ltb q.0 P h) (number_is P q p ∙ part_sym P q p)

  others_beyond : (i : ℕ) → P ≤ i → bitb (others_of x) i ≡ false
  others_beyond i h = others_bit i ∙ ap (λ (a : Bool). a && not (eqb i p.0)) (le-ltb i P h)

  abbrev pub end_line : Line P
  end_line = record { body = end; test = other; mask = others_of x }

  end_sent : Sent P end_line
  unfolding bodyb
  end_sent = record { room = λ e. refl; bits = others_bits; beyond = others_beyond }

  abbrev pub total_line : ℕ → ℕ → Line P
  total_line n h = record { body = total n h; test = other; mask = others_of x }

  total_sent : (n h : ℕ) → n ≤ too_many → h ≤ most_levels → Sent P (total_line n h)
  unfolding bodyb
  total_sent n h a b = record { room = λ e. rw (le-leb n too_many a, le-leb h most_levels b); bits = others_bits; beyond = others_beyond }

  -- what is read of a store that differs in its entries alone
  others_same : (y : List ℕ) → SameElse x y → others_of y ≡ others_of x
  unfolding others_of
  others_same y s = ap₂ (λ (a b : ℕ). 2 ^ a - 1 - 2 ^ (b - 1)) (s.else PARTS (λ z. absurd (omega (arith, z))) (inl (omega arith)))
      (s.else PART (λ z. absurd (omega (arith, z))) (inl (omega arith)))

  end_written : (y : List ℕ) → SameElse x y → field y WRITTEN + 1 ≤ most_entries
      → WroteLines P co.parts_few J p y (post_end y) (end_line ∷ [])
  unfolding post_end entry_code entry_value
  end_written y s h =
      let l : full ≤ length y = omega (arith, s.size, co.long) in
      let e : post_line P co.parts_few J p y end_line ≡ post_end y = ap (posted y 65535 0) (sym (others_same y s)) in
      subst (λ (z : List ℕ). WroteLines P co.parts_few J p y z (end_line ∷ [])) e
      (wrote_last P co.parts_few J p y end_line end_sent l (omega arith))

  orders_map : (f : ℕ → Line P) (l : List ℕ) (us : List (Line P)) → orders_of P co.parts_few J p (map f l ++ us)
      ≡ flat_map (λ c. to_all (parts P) J (ups P) (f c).test (f c).body) l ++ orders_of P co.parts_few J p us
  unfolding orders_of flat_map
  orders_map f [] us = refl
  orders_map f (c ∷ l) us =
      ap (λ (v : List (Fin P × Body)). to_all (parts P) J (ups P) (f c).test (f c).body ++ v) (orders_map f l us)
      ∙ sym (append_assoc (to_all (parts P) J (ups P) (f c).test (f c).body)
      (flat_map (λ c. to_all (parts P) J (ups P) (f c).test (f c).body) l) (orders_of P co.parts_few J p us))

  orders_one : (t : Line P) → orders_of P co.parts_few J p (t ∷ []) ≡ to_all (parts P) J (ups P) t.test t.body
  unfolding orders_of flat_map
  orders_one t = append-nil (to_all (parts P) J (ups P) t.test t.body)

  -- MARKS
  module _ (red : ℕ → Bool) (flags : (c : ℕ) → HoldsCell P J p c → field x (RED + c) ≡ one_if (red c)) where
    mark_test : ℕ → Fin P → Bool
    mark_test c q = other q && (is_part (parts P) (J.family c) p && is_part (parts P) (J.owner c) q)

    abbrev mark_mask : ℕ → ℕ
    mark_mask c = only_if (ghost_at x c) (2 ^ (field x (OWNER + c) - 1))

    abbrev pub mark_line : ℕ → Line P
    mark_line c = record {
      body = mark c (red c);
      test = λ q. other q && (is_part (parts P) (J.family c) p && is_part (parts P) (J.owner c) q);
      mask = only_if (ghost_at x c) (2 ^ (field x (OWNER + c) - 1));
    }

    no_mask : (c : ℕ) → ghost_at x c ≡ false → mark_mask c ≡ 0
    unfolding only_if
    no_mask c e = ap (λ (b : Bool). only_if b (2 ^ (field x (OWNER + c) - 1))) e

    a_mask : (c : ℕ) → ghost_at x c ≡ true → mark_mask c ≡ 2 ^ (field x (OWNER + c) - 1)
    unfolding only_if
    a_mask c e = ap (λ (b : Bool). only_if b (2 ^ (field x (OWNER + c) - 1))) e

    -- by whose the cell is
    data Kind (c : ℕ) : Type 0 where
      none : ghost_at x c ≡ false → ((q : Fin P) → mark_test c q ≡ false) → Kind c
      ghost : ghost_at x c ≡ true → field x (OWNER + c) - 1 ≡ (J.owner c).0 → HoldsCell P J p c
          → ((q : Fin P) → mark_test c q ≡ is_part (parts P) (J.owner c) q) → Kind c

    kind : (k c : ℕ) → Member c (J.cells k) → Kind c
    unfolding ghost_at mark_test
    kind k c m = go ((parts P).same? (J.owner c) p) ((parts P).same? (J.family c) p)
      where
        go : Dec (J.owner c ≡ p) → Dec (J.family c ≡ p) → Kind c
        go (yes e) d =
            let held : HoldsCell P J p c = (k, m, rw (is_same (parts P) (J.owner c) p e) tt) in
            let o : eqb (field x (OWNER + c)) (field x PART) ≡ true =
            ap₂ eqb (co.owner c held) co.part ∙ part_same P (J.owner c) p e in
            none (rw o (and_none (eqb (field x (FAMILY + c)) (field x PART))))
            (λ q.
            elim ((parts P).same? p q) [
              | yes i ↦ rw (is_same (parts P) p q i)
              | no i ↦
                  let z : is_part (parts P) (J.owner c) q ≡ false = is_not (parts P) (J.owner c) q (λ j. i (sym e ∙ j)) in
                  rw z (ap (λ (b : Bool). other q && b) (and_none (is_part (parts P) (J.family c) p)) ∙ and_none (other q))
            ])
        go (no n) (yes f) =
            let held : HoldsCell P J p c = (k, m, rw (is_not (parts P) (J.owner c) p n, is_same (parts P) (J.family c) p f) tt) in
            let o : eqb (field x (OWNER + c)) (field x PART) ≡ false =
            ap₂ eqb (co.owner c held) co.part ∙ part_other P (J.owner c) p n in
            let g : eqb (field x (FAMILY + c)) (field x PART) ≡ true =
            ap₂ eqb (co.family c held) co.part ∙ part_same P (J.family c) p f in
            let low : (J.owner c).0 < P = (J.owner c).1 in
            let h1 : leb 1 (field x (OWNER + c)) ≡ true = le-leb 1 (field x (OWNER + c)) (omega (arith, co.owner c held)) in
            let h2 : leb (field x (OWNER + c)) most_parts ≡ true =
            le-leb (field x (OWNER + c)) most_parts (omega (arith, co.owner c held, co.parts_few)) in
            ghost (rw (o, g, h1, h2)) (omega (arith, co.owner c held)) held
            (λ q.
            elim ((parts P).same? p q) [
              | yes i ↦ rw (is_same (parts P) p q i) (sym (is_not (parts P) (J.owner c) q (λ j. n (j ∙ sym i))))
              | no i ↦ rw (is_not (parts P) p q i, is_same (parts P) (J.family c) p f)
            ])
        go (no n) (no f) =
            let mn : mine (parts P) J p c ≡ false = rw (is_not (parts P) (J.owner c) p n, is_not (parts P) (J.family c) p f) in
            let g : eqb (field x (FAMILY + c)) (field x PART) ≡ false =
            ap₂ eqb (co.no_family k c m mn) co.part ∙ ne_eqb 0 (suc p.0) (λ z. absurd (omega (arith, z))) in
            none (rw g) (λ q. rw (is_not (parts P) (J.family c) p f) (and_none (other q)))

    mark_sent : (k c : ℕ) → Member c (J.cells k) → c < most_cells → Sent P (mark_line c)
    unfolding bodyb mark_test
    mark_sent k c m h = go (kind k c m)
      where
        go : Kind c → Sent P (mark_line c)
        go (none g t) =
            let z = no_mask c g in record {
              room = λ e. absurd (e z);
              bits = λ q. ap (λ (n : ℕ). bitb n q.0) z ∙ bit_none q.0 ∙ sym (t q);
              beyond = λ i l. ap (λ (n : ℕ). bitb n i) z ∙ bit_none i;
            }
        go (ghost g o held t) =
            let z : mark_mask c ≡ 2 ^ (J.owner c).0 = a_mask c g ∙ ap (λ (n : ℕ). 2 ^ n) o in
            let low : (J.owner c).0 < P = (J.owner c).1 in record {
              room = λ e. lt-ltb c most_cells h;
              bits = λ q. ap (λ (n : ℕ). bitb n q.0) z ∙ bit_power (J.owner c).0 q.0 ∙ number_is P q (J.owner c)
                  ∙ part_sym P q (J.owner c) ∙ sym (t q);
              beyond =
                  λ i l. ap (λ (n : ℕ). bitb n i) z ∙ bit_power (J.owner c).0 i
                  ∙ ne_eqb i (J.owner c).0 (λ e. absurd (omega (arith, e)));
            }

    mark_does : (k c : ℕ) → Member c (J.cells k) → c < most_cells → (y : List ℕ) → SameElse x y
        → mark_one y c ≡ post_line P co.parts_few J p y (mark_line c)
    unfolding mark_one ghost_at entry_code entry_value posted
    mark_does k c m h y s = go (kind k c m)
      where
        at : (i : ℕ) → i ≢ WRITTEN → i < CODE → field y i ≡ field x i
        at i a b = s.else i a (inl b)

        same : ghost_at y c ≡ ghost_at x c
        same =
            let f = at (FAMILY + c) (λ z. absurd (omega (arith, z))) (omega arith) in
            let o = at (OWNER + c) (λ z. absurd (omega (arith, z))) (omega arith) in
            let q = at PART (λ z. absurd (omega (arith, z))) (omega arith) in rw (f, o, q)

        go : Kind c → mark_one y c ≡ post_line P co.parts_few J p y (mark_line c)
        go (none g t) = rw (same ∙ g, mark_one) (sym (ap (posted y c (one_if (red c))) (no_mask c g)))
        go (ghost g o held t) =
            let r : field y (RED + c) ≡ one_if (red c) = at (RED + c) (λ z. absurd (omega (arith, z))) (omega arith) ∙ flags c held in
            let w : field y (OWNER + c) ≡ field x (OWNER + c) = at (OWNER + c) (λ z. absurd (omega (arith, z))) (omega arith) in
            rw (same ∙ g, mark_one) (ap₂ (λ (a b : ℕ). posted y c a (2 ^ (b - 1))) r w ∙ sym (ap (posted y c (one_if (red c))) (a_mask c g)))

    pub marks_written : (k a n : ℕ) → J.cells k ≡ range a n → a + n ≤ most_cells → field x WRITTEN + (n + 1) ≤ most_entries
        → WroteLines P co.parts_few J p x (post_end (each_from mark_one n a x)) (map mark_line (range a n) ++ (end_line ∷ []))
    marks_written k a n e few room =
        wrote_each P co.parts_few J p x co.long mark_one mark_line post_end (end_line ∷ []) end_written n a
        (λ d i j. mark_sent k d (subst (Member d) (sym e) (range_member a n d i j)) (omega arith))
        (λ y d s i j. mark_does k d (subst (Member d) (sym e) (range_member a n d i j)) (omega arith) y s) x (same_self x) room

    pub marks_order : (i a n : ℕ) (s : State) → s.red ≡ red → J.cells (J.top - i) ≡ range a n
        → orders_of P co.parts_few J p (map mark_line (range a n) ++ (end_line ∷ [])) ≡ order_of (parts P) J (ups P) (marks i) p s
    unfolding order_of
    marks_order i a n s e c =
        orders_map mark_line (range a n) (end_line ∷ [])
        ∙ ap₂ ◌++◌ (ap₂ (λ (l : List ℕ) (r : ℕ → Bool). flat_map (λ c. to_all (parts P) J (ups P)
        (λ q. other q && (is_part (parts P) (J.family c) p && is_part (parts P) (J.owner c) q)) (mark c (r c))) l) (sym c) (sym e))
        (orders_one end_line)

  -- COUNTS
  module _ (own : ℕ → ℕ) (k : ℕ) (few : (s : ℕ) → own s ≤ most_cells)
      (sums : (s : ℕ) → Member s (J.slots k) → holdsb (parts P) J p k s ≡ true → field x (SUM + s) ≡ own s) where
    abbrev count_mask : ℕ → ℕ
    count_mask s = only_if (not (eqb (field x (SUM + s)) 0)) (besides x (field x (HOLDERS + s)))

    count_test : ℕ → Fin P → Bool
    count_test s q = other q && (holdsb (parts P) J p k s && (holdsb (parts P) J q k s && not (eqb (own s) 0)))

    abbrev pub count_line : ℕ → Line P
    count_line s = record {
      body = count s (own s);
      test = λ q. other q && (holdsb (parts P) J p k s && (holdsb (parts P) J q k s && not (eqb (own s) 0)));
      mask = only_if (not (eqb (field x (SUM + s)) 0)) (besides x (field x (HOLDERS + s)));
    }

    data CountKind (s : ℕ) : Type 0 where
      none : count_mask s ≡ 0 → ((q : Fin P) → count_test s q ≡ false) → CountKind s
      some : field x (SUM + s) ≡ own s → own s ≢ 0 → count_mask s ≡ field x (HOLDERS + s) - 2 ^ p.0
          → bitb (field x (HOLDERS + s)) p.0 ≡ true → holdsb (parts P) J p k s ≡ true → CountKind s

    besides_none : besides x 0 ≡ 0
    unfolding besides
    besides_none = rw (bit_none (field x PART - 1), besides)

    mask_none : (s : ℕ) → field x (SUM + s) ≡ 0 → count_mask s ≡ 0
    unfolding only_if
    mask_none s e = ap (λ (b : Bool). only_if (not b) (besides x (field x (HOLDERS + s)))) (eq-eqb (field x (SUM + s)) 0 e)

    mask_some : (s : ℕ) → field x (SUM + s) ≢ 0 → count_mask s ≡ besides x (field x (HOLDERS + s))
    unfolding only_if
    mask_some s e = ap (λ (b : Bool). only_if (not b) (besides x (field x (HOLDERS + s)))) (ne_eqb (field x (SUM + s)) 0 e)

    count_kind : (s : ℕ) → Member s (J.slots k) → CountKind s
    unfolding count_test
    count_kind s m = go (holdsb (parts P) J p k s) refl (ℕ_discrete (own s) 0)
      where
        go : (b : Bool) → holdsb (parts P) J p k s ≡ b → Dec (own s ≡ 0) → CountKind s
        go false e d =
            let z : besides x (field x (HOLDERS + s)) ≡ 0 = ap (besides x) (co.no_holders k s m e) ∙ besides_none in
            none (only_none (not (eqb (field x (SUM + s)) 0)) (besides x (field x (HOLDERS + s))) z) (λ q. rw e (and_none (other q)))
        go true e (yes d) =
            none (mask_none s (sums s m e ∙ d))
            (λ q. rw (eq-eqb (own s) 0 d, e) (ap (λ (b : Bool). other q && b) (and_none (holdsb (parts P) J q k s)) ∙ and_none (other q)))
        go true e (no d) =
            let b : bitb (field x (HOLDERS + s)) p.0 ≡ true = co.holders k s m e p ∙ e in
            some (sums s m e) d
            (mask_some s (λ z. d (sym (sums s m e) ∙ z)) ∙ besides_own x (field x (HOLDERS + s)) p.0 (omega (arith, co.part)) b) b e

    count_sent : (s : ℕ) → Member s (J.slots k) → s < most_slots → Sent P (count_line s)
    unfolding bodyb count_test
    count_sent s m h = go (count_kind s m)
      where
        go : CountKind s → Sent P (count_line s)
        go (none z t) =
            record {
              room = λ e. absurd (e z);
              bits = λ q. ap (λ (n : ℕ). bitb n q.0) z ∙ bit_none q.0 ∙ sym (t q);
              beyond = λ i l. ap (λ (n : ℕ). bitb n i) z ∙ bit_none i;
            }
        go (some e n z b w) =
            record {
              room = λ d. rw (lt-ltb s most_slots h, le-leb 1 (own s) (omega (arith, n)), le-leb (own s) most_cells (few s));
              bits = λ q. ap (λ (n : ℕ). bitb n q.0) z ∙ bit_less p.0 q.0 (field x (HOLDERS + s)) b
                  ∙ ap₂ (λ (a c : Bool). a && not c) (co.holders k s m w q) (number_is P q p ∙ part_sym P q p)
                  ∙ and_swap (holdsb (parts P) J q k s) (is_part (parts P) p q)
                  ∙ ap₂ (λ (a c : Bool). other q && (a && (holdsb (parts P) J q k s && not c))) (sym w) (sym (ne_eqb (own s) 0 n));
              beyond = λ i l. ap (λ (n : ℕ). bitb n i) z ∙ bit_less p.0 i (field x (HOLDERS + s)) b
                  ∙ ap (λ (a : Bool). a && not (eqb i p.0)) (co.no_more s i h l);
            }

    count_does : (s : ℕ) → Member s (J.slots k) → s < most_slots → (y : List ℕ) → SameElse x y
        → count_one y s ≡ post_line P co.parts_few J p y (count_line s)
    unfolding count_one entry_code entry_value posted
    count_does s m h y t = go (count_kind s m) (ℕ_discrete (field x (SUM + s)) 0)
      where
        sm : field y (SUM + s) ≡ field x (SUM + s)
        sm = t.else (SUM + s) (λ z. absurd (omega (arith, z))) (inl (omega arith))

        bs : besides y (field y (HOLDERS + s)) ≡ besides x (field x (HOLDERS + s))
        bs = besides_same x y (t.else PART (λ z. absurd (omega (arith, z))) (inl (omega arith))) (field y (HOLDERS + s))
            ∙ ap (besides x) (t.else (HOLDERS + s) (λ z. absurd (omega (arith, z))) (inl (omega arith)))

        go : CountKind s → Dec (field x (SUM + s) ≡ 0) → count_one y s ≡ post_line P co.parts_few J p y (count_line s)
        go c (yes e) =
            rw (eq-eqb (field y (SUM + s)) 0 (sm ∙ e), count_one)
            (sym (ap (posted y (count_code + s) (own s)) (mask_none s e)))
        go (none z w) (no e) =
            let g : besides x (field x (HOLDERS + s)) ≡ 0 = sym (mask_some s e) ∙ z in
            rw (ne_eqb (field y (SUM + s)) 0 (λ i. e (sym sm ∙ i)), count_one)
            (ap (posted y (count_code + s) (field y (SUM + s))) (bs ∙ g) ∙ sym (ap (posted y (count_code + s) (own s)) z))
        go (some i n z b w) (no e) =
            rw (ne_eqb (field y (SUM + s)) 0 (λ i. e (sym sm ∙ i)), count_one)
            (ap₂ (posted y (count_code + s)) (sm ∙ i) (bs ∙ sym (mask_some s e)))

    pub counts_written : (a n : ℕ) → J.slots k ≡ range a n → a + n ≤ most_slots → field x WRITTEN + (n + 1) ≤ most_entries
        → WroteLines P co.parts_few J p x (post_end (each_from count_one n a x)) (map count_line (range a n) ++ (end_line ∷ []))
    counts_written a n e below room =
        wrote_each P co.parts_few J p x co.long count_one count_line post_end (end_line ∷ []) end_written n a
        (λ d i j. count_sent d (subst (Member d) (sym e) (range_member a n d i j)) (omega arith))
        (λ y d s i j. count_does d (subst (Member d) (sym e) (range_member a n d i j)) (omega arith) y s) x (same_self x) room

    pub counts_order : (i a n : ℕ) (s : State) → J.top - i ≡ k → s.own ≡ own → J.slots k ≡ range a n
        → orders_of P co.parts_few J p (map count_line (range a n) ++ (end_line ∷ [])) ≡ order_of (parts P) J (ups P) (counts i) p s
    unfolding order_of
    counts_order i a n s z e c =
        orders_map count_line (range a n) (end_line ∷ [])
        ∙ ap₂ ◌++◌ (ap₂ (λ (l : List ℕ) (o : ℕ → ℕ). flat_map (λ x. to_all (parts P) J (ups P)
        (λ q. other q && (holdsb (parts P) J p k x && (holdsb (parts P) J q k x && not (eqb (o x) 0)))) (count x (o x))) l) (sym c) (sym e)
        ∙ ap (λ (j : ℕ). flat_map (λ x. to_all (parts P) J (ups P)
        (λ q. other q && (holdsb (parts P) J p j x && (holdsb (parts P) J q j x && not (eqb (s.own x) 0)))) (count x (s.own x)))
        (J.slots j)) (sym z))
        (orders_one end_line)

  -- TOTALS
  pub totals_written : (n h : ℕ) → field x TOTAL ≡ n → field x HIGH ≡ h → n ≤ too_many → h ≤ most_levels → field x WRITTEN + 2 ≤ most_entries
      → WroteLines P co.parts_few J p x (post_end (post_totals x)) (total_line n h ∷ end_line ∷ [])
  unfolding post_totals entry_code entry_value
  totals_written n h e f a b room =
      let z : (totals_code + field x HIGH) % 65536 ≡ totals_code + h = omega (arith, f) in
      let g : post_totals x ≡ post_line P co.parts_few J p x (total_line n h) = ap₂ (λ (c v : ℕ). posted x c v (others_of x)) z e in
      let s = posted_same P co.parts_few J p x (total_line n h) co.long (omega arith) in
      subst (λ (y : List ℕ). WroteLines P co.parts_few J p x (post_end y) (total_line n h ∷ end_line ∷ [])) (sym g)
      (wrote_cons P co.parts_few J p x (post_end (post_line P co.parts_few J p x (total_line n h))) (total_line n h) (end_line ∷ [])
      (total_sent n h a b) co.long (omega arith)
      (end_written (post_line P co.parts_few J p x (total_line n h)) s.0 (omega (arith, s.1))))

  pub totals_order : (s : State) → orders_of P co.parts_few J p (total_line s.total s.high ∷ end_line ∷ [])
      ≡ order_of (parts P) J (ups P) totals p s
  unfolding order_of orders_of flat_map
  totals_order s = ap (λ (l : List (Fin P × Body)). to_all (parts P) J (ups P) other (total s.total s.high) ++ l) (orders_one end_line)
