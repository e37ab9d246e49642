-- Taking a message, and the answers of handing one over.
use Rattle.std.specs.Prelude.{◌≡◌, refl, Bool, false, ◌&&◌, not, List, ltb, length, get_or}
use Rattle.std.proofs.Math.Path.{sym, ap}
use Rattle.std.proofs.Common.{◌∙◌, ap₂, arith, eqb→eq}
use Rattle.std.proofs.Math.Bool.{true}
use Prim.Native.Nat.{ℕ, ◌+◌, ◌%◌, ◌≤◌, min, max}
use Rattle.std.proofs.Math.Dec.{T, eqb, leb, leb→le, ltb→lt}
use Rattle.std.proofs.Math.ListN.{set}
use Rattle.std.proofs.Math.Seq.{get_or-set_other}
use borrow.Author.Tests.{eq-eqb, ne_eqb, le-leb}
use Rattle.base.specs.Bools.{and_left, and_right, is_true}
use Rattle.base.specs.Limits.{most_cells, most_slots, too_many}
use Rattle.base.specs.Refuse.{refuse}
use Rattle.base.specs.Answer.{Answer}
use Rattle.base.specs.Answer.{Accepted, Refused}
use Rattle.store.specs.Fields.{field, full, STAGE, PART, PARTS, CELLS, ROUND, TOTAL, HIGH, ENDED, OWNER, RED, HOLDERS, SUM}
use Rattle.store.specs.Header.{headerb}
use Rattle.store.specs.Hand.{number_at, shapeb, routeb, ghost_markb, edge_countb, contentb, wellb, taken_at, ended_at, Ranges}
use Rattle.store.specs.Hand.{hand_answer, absorbed, counted, taken_in, hand_after}
use Rattle.store.specs.Headed.{header_is}
use Rattle.store.specs.Checks.{shape_first, shape_second, shape_third, shape_least, content_first, content_second}

module _ (x m : List ℕ) where
  pub take-set : (c : ℕ) → c ≡ number_at m 5 → get_or m 0 0 ≡ 1 → get_or m 7 0 ≡ 1 → set x (RED + c) 1 ≡ absorbed x m
  unfolding absorbed
  take-set c i k v = rw (eq-eqb (get_or m 0 0) 1 k, eq-eqb (get_or m 7 0) 1 v, absorbed) (ap (λ (c : ℕ). set x (RED + c) 1) i)

  pub take_none : get_or m 0 0 ≡ 1 → (get_or m 7 0 ≡ 1 → ⊥) → x ≡ absorbed x m
  unfolding absorbed
  take_none k v = rw (eq-eqb (get_or m 0 0) 1 k, ne_eqb (get_or m 7 0) 1 v, absorbed)

  pub take_count : (s n : ℕ) → s ≡ number_at m 5 → n ≡ number_at m 7 → get_or m 0 0 ≡ 2
      → set x (SUM + s) ((field x (SUM + s) + n) % 65536) ≡ absorbed x m
  unfolding absorbed
  take_count s n i j k =
      rw (ne_eqb (get_or m 0 0) 1 (λ z. omega arith), eq-eqb (get_or m 0 0) 2 k, absorbed)
      (ap₂ (λ (s n : ℕ). set x (SUM + s) ((field x (SUM + s) + n) % 65536)) i j)

  pub take-total : (n a t : ℕ) → n ≡ number_at m 5 → a ≡ min (field x TOTAL + n) too_many → t ≡ max (field (set x TOTAL a) HIGH) (get_or m 7 0)
      → get_or m 0 0 ≡ 3 → set (set x TOTAL a) HIGH t ≡ absorbed x m
  unfolding absorbed
  take-total n a t i j l k =
      let g : field (set x TOTAL a) HIGH ≡ field x HIGH = get_or-set_other x TOTAL HIGH a 0 (λ z. absurd (omega (arith, z))) in
      rw (ne_eqb (get_or m 0 0) 1 (λ z. omega arith), ne_eqb (get_or m 0 0) 2 (λ z. omega arith), eq-eqb (get_or m 0 0) 3 k, absorbed)
      (ap₂ (λ (a t : ℕ). set (set x TOTAL a) HIGH t) (j ∙ ap (λ (n : ℕ). min (field x TOTAL + n) too_many) i) (l
      ∙ ap (λ (y : ℕ). max y (get_or m 7 0)) g))

  pub take-end : (get_or m 0 0 ≡ 1 → ⊥) → (get_or m 0 0 ≡ 2 → ⊥) → (get_or m 0 0 ≡ 3 → ⊥)
      → set x (ENDED + get_or m 1 0) ((field x (ENDED + get_or m 1 0) + 1) % 65536) ≡ absorbed x m
  unfolding absorbed
  take-end a b c = rw (ne_eqb (get_or m 0 0) 1 a, ne_eqb (get_or m 0 0) 2 b, ne_eqb (get_or m 0 0) 3 c, absorbed)

  pub cells_few : headerb x ≡ true → field x CELLS ≤ most_cells
  cells_few e = (header_is x (rw e tt)).cells_most

  pub ranges_of : headerb x ≡ true → wellb x m ≡ true → Ranges m
  unfolding wellb routeb ghost_markb edge_countb
  ranges_of e w =
      let t : T (wellb x m) = rw w tt in
      let s : shapeb m ≡ true = is_true (shapeb m) (and_left (shapeb m) (routeb x m && contentb x m) t) in
      let u = and_right (shapeb m) (routeb x m && contentb x m) t in
      let r = and_left (routeb x m) (contentb x m) u in
      let v = and_right (routeb x m) (contentb x m) u in
      let h = header_is x (rw e tt) in
      let g = and_right (leb 1 (get_or m 1 0)) (leb (get_or m 1 0) (field x PARTS)
      && (not (eqb (get_or m 1 0) (field x PART)) && eqb (get_or m 2 0) (field x PART))) r in
      let l = leb→le (get_or m 1 0) (field x PARTS)
      (and_left (leb (get_or m 1 0) (field x PARTS)) (not (eqb (get_or m 1 0) (field x PART)) && eqb (get_or m 2 0) (field x PART)) g) in
      record {
        least = shape_least m s;
        from_least = leb→le 1 (get_or m 1 0) (and_left (leb 1 (get_or m 1 0)) (leb (get_or m 1 0) (field x PARTS)
            && (not (eqb (get_or m 1 0) (field x PART)) && eqb (get_or m 2 0) (field x PART))) r);
        from_most = omega (arith, l, h.parts_most);
        mark = λ k.
            let b : T (ghost_markb x m) = rw (content_first x m k) v in
            let c = ltb→lt (number_at m 5) (field x CELLS)
            (and_left (ltb (number_at m 5) (field x CELLS)) (not (eqb (field x (OWNER + number_at m 5)) 0) && leb (get_or m 7 0) 1) b) in
            (omega (arith, shape_first m s k), omega (arith, c, h.cells_most));
        count = λ k.
            let b : T (edge_countb x m) = rw (content_second x m k) v in
            let c = ltb→lt (number_at m 5) most_slots (and_left (ltb (number_at m 5) most_slots) (not (eqb (field x (HOLDERS + number_at m 5)) 0)
            && (leb 1 (number_at m 7) && leb (number_at m 7) most_cells)) b) in
            (omega (arith, shape_second m s k), c);
        total = λ k. omega (arith, shape_third m s k);
      }

  pub record Hands (r : Answer) (y : List ℕ) : Type 0 where
    pub answer : r ≡ hand_answer x m
    pub after : y ≡ hand_after x m

  refused : (k : ℕ) → hand_answer x m ≡ Refused k → Hands (Refused k) x
  unfolding hand_after taken_in
  refused k e = record { answer = sym e; after = rw (e, hand_after) }

  module _ (g : full ≤ length x) where
    module _ (e : headerb x ≡ true) where
      module _ (s : field x STAGE ≡ 0 → ⊥) where
        module _ (w : wellb x m ≡ true) (k : ℕ) (i : k ≡ number_at m 3) where
          module _ (d : k ≡ taken_at x m) where
            due : taken_at x m ≡ number_at m 3
            due = sym d ∙ i

            pub hand_taken : field x STAGE ≡ 1 → ended_at x m ≤ field x ROUND → (y : List ℕ) → y ≡ absorbed (counted x m) m
                → Hands Accepted y
            unfolding hand_answer refuse hand_after taken_in
            hand_taken r h y f =
                let a : hand_answer x m ≡ Accepted =
                rw (
                  le-leb full (length x) g,
                  e,
                  ne_eqb (field x STAGE) 0 s,
                  w,
                  le-leb (taken_at x m) (number_at m 3) (omega (arith, due)),
                  le-leb (number_at m 3) (taken_at x m) (omega (arith, due)),
                  eq-eqb (field x STAGE) 1 r,
                  le-leb (ended_at x m) (field x ROUND) h,
                ) in
                record { answer = sym a; after = rw (a, hand_after) f }

-- an accepted message
pub record TakesIt (x m : List ℕ) : Type 0 where
  pub well : wellb x m ≡ true
  pub due : number_at m 3 ≡ taken_at x m
  pub running : field x STAGE ≡ 1
  pub unended : ended_at x m ≤ field x ROUND

pub refuse_on : (n : ℕ) (b : Bool) (a : Answer) → refuse n b a ≡ Accepted → (b ≡ true) × (a ≡ Accepted)
unfolding refuse
refuse_on n true a e = (refl, e)
refuse_on n false a e = absurd (differs e)
  where
    tag : Answer → ℕ
    tag Accepted = 1
    tag (Refused k) = 0

    differs : ◌≡◌ {A = Answer} (Refused n) Accepted → ⊥
    differs i = let z : ◌≡◌ {A = ℕ} 0 1 = ap tag i in absurd (omega arith)

pub taken_is : (x m : List ℕ) → hand_answer x m ≡ Accepted → TakesIt x m
unfolding hand_answer
taken_is x m e =
    let a = refuse_on 15 (leb full (length x)) _ e in
    let b = refuse_on 16 (headerb x && not (eqb (field x STAGE) 0)) _ a.1 in
    let c = refuse_on 12 (wellb x m) _ b.1 in
    let d = refuse_on 13 (leb (taken_at x m) (number_at m 3)) _ c.1 in
    let f = refuse_on 14 (leb (number_at m 3) (taken_at x m) && (eqb (field x STAGE) 1 && leb (ended_at x m) (field x ROUND))) _ d.1 in
    let t : T (leb (number_at m 3) (taken_at x m) && (eqb (field x STAGE) 1 && leb (ended_at x m) (field x ROUND))) = rw f.0 tt in
    let u = and_right (leb (number_at m 3) (taken_at x m)) (eqb (field x STAGE) 1 && leb (ended_at x m) (field x ROUND)) t in
    let v = leb→le (number_at m 3) (taken_at x m)
    (and_left (leb (number_at m 3) (taken_at x m)) (eqb (field x STAGE) 1 && leb (ended_at x m) (field x ROUND)) t) in
    let w = leb→le (taken_at x m) (number_at m 3) (rw d.0 tt) in
    record {
      well = c.0;
      due = omega arith;
      running = eqb→eq (field x STAGE) 1 (and_left (eqb (field x STAGE) 1) (leb (ended_at x m) (field x ROUND)) u);
      unended = leb→le (ended_at x m) (field x ROUND) (and_right (eqb (field x STAGE) 1) (leb (ended_at x m) (field x ROUND)) u);
    }
