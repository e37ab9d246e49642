-- What taking a message changes in a store, and what it leaves.
--   Away b q i      the place i is none that the body b changes
-- Laws: length_taken, else_taken, count_taken, and by kind red_taken, red_kept, sum_taken, end_taken, total_taken.
use Rattle.std.specs.Prelude.{◌≡◌, ◌≢◌, true, false}
use Rattle.std.proofs.Math.Path.{refl, ap, ap₂}
use Rattle.std.proofs.Common.{sym, ◌∙◌, arith}
use mathlib.Core.List.{List}
use Prim.Native.Nat.{ℕ, ◌+◌, ◌%◌, ◌≤◌, ◌<◌, min, max}
use Rattle.std.proofs.Math.ListN.{length, get_or, set, length-set}
use Rattle.std.proofs.Math.Seq.{get_or-set_same, get_or-set_other}
use Rattle.base.specs.Bools.{one_if}
use Rattle.base.specs.Limits.{most_cells, most_slots, too_many, most_parts}
use Rattle.rounds.specs.Rounds.{Body, mark, count, total, end}
use Rattle.store.specs.Fields.{field, full, TOTAL, HIGH, RED, SUM, ENDED, FIRST_ENDED, FIRST_TAKEN, TAKEN}
use Rattle.store.specs.Hand.{absorbed, counted}
use Rattle.store.specs.Handing.{take-set, take_none, take_count, take-total, take-end}
use Rattle.standing.specs.Packed.{Content, Read}

unfoldable pub Away : Body → ℕ → ℕ → Type 0
Away (mark c v) q i = i ≢ RED + c
Away (count s n) q i = i ≢ SUM + s
Away (total n h) q i = (i ≢ TOTAL) × (i ≢ HIGH)
Away end q i = i ≢ FIRST_ENDED + q

module _ (x m : List ℕ) (q p k : ℕ) (b : Body) (r : Read m q p k b) (low : q < most_parts) (long : full ≤ length x) where
  y : List ℕ
  y = absorbed (counted x m) m

  abbrev z : List ℕ
  z = counted x m

  at : TAKEN + get_or m 1 0 ≡ FIRST_TAKEN + q
  at = let e = r.from in omega arith

  counted_is : counted x m ≡ set x (FIRST_TAKEN + q) ((field x (FIRST_TAKEN + q) + 1) % 65536)
  unfolding counted
  counted_is = ap (λ (i : ℕ). set x i ((field x i + 1) % 65536)) at

  counted_long : length (counted x m) ≡ length x
  counted_long = ap length counted_is ∙ length-set x (FIRST_TAKEN + q) ((field x (FIRST_TAKEN + q) + 1) % 65536)

  counted_else : (i : ℕ) → i ≢ FIRST_TAKEN + q → field (counted x m) i ≡ field x i
  counted_else i d = ap (λ (l : List ℕ). field l i) counted_is
      ∙ get_or-set_other x (FIRST_TAKEN + q) i ((field x (FIRST_TAKEN + q) + 1) % 65536) 0 d

  counted_at : field (counted x m) (FIRST_TAKEN + q) ≡ (field x (FIRST_TAKEN + q) + 1) % 65536
  counted_at = ap (λ (l : List ℕ). field l (FIRST_TAKEN + q)) counted_is
      ∙ get_or-set_same x (FIRST_TAKEN + q) ((field x (FIRST_TAKEN + q) + 1) % 65536) 0 (omega arith)

  -- by kind
  record StaysElse (w : List ℕ) : Type 0 where
    pub keeps : length w ≡ length (counted x m)
    pub else : (i : ℕ) → Away b q i → field w i ≡ field (counted x m) i

taken_go : (x m : List ℕ) (q p k : ℕ) (b : Body) (r : Read m q p k b) (low : q < most_parts) (long : full ≤ length x) → Content m b
    → StaysElse x m q p k b r low long (absorbed (counted x m) m)
unfolding Content Away one_if
taken_go x m q p k (mark c true) r low long (a, l, n, v) =
    let e : absorbed (counted x m) m ≡ set (counted x m) (RED + c) 1 = sym (take-set (counted x m) m c (sym n) a v) in
    record {
      keeps = ap length e ∙ length-set (counted x m) (RED + c) 1;
      else = λ i d. ap (λ (l : List ℕ). field l i) e ∙ get_or-set_other (counted x m) (RED + c) i 1 0 d;
    }
taken_go x m q p k (mark c false) r low long (a, l, n, v) =
    let e : absorbed (counted x m) m ≡ counted x m = sym (take_none (counted x m) m a (λ u. absurd (omega (arith, u, v)))) in
    record { keeps = ap length e; else = λ i d. ap (λ (l : List ℕ). field l i) e }
taken_go x m q p k (count s n) r low long (a, l, i, j) =
    let e : absorbed (counted x m) m ≡ set (counted x m) (SUM + s) ((field (counted x m) (SUM + s) + n) % 65536) =
    sym (take_count (counted x m) m s n (sym i) (sym j) a) in
    record {
      keeps = ap length e ∙ length-set (counted x m) (SUM + s) ((field (counted x m) (SUM + s) + n) % 65536);
      else = λ t d. ap (λ (l : List ℕ). field l t) e
          ∙ get_or-set_other (counted x m) (SUM + s) t ((field (counted x m) (SUM + s) + n) % 65536) 0 d;
    }
taken_go x m q p k (total n h) r low long (a, l, i, j) =
    let c = min (field (counted x m) TOTAL + n) too_many in
    let t = max (field (set (counted x m) TOTAL (min (field (counted x m) TOTAL + n) too_many)) HIGH) (get_or m 7 0) in
    let e : absorbed (counted x m) m ≡ set (set (counted x m) TOTAL (min (field (counted x m) TOTAL + n) too_many)) HIGH
    (max (field (set (counted x m) TOTAL (min (field (counted x m) TOTAL + n) too_many)) HIGH) (get_or m 7 0)) =
    sym (take-total (counted x m) m n (min (field (counted x m) TOTAL + n) too_many)
    (max (field (set (counted x m) TOTAL (min (field (counted x m) TOTAL + n) too_many)) HIGH) (get_or m 7 0)) (sym i) refl refl a) in
    record {
      keeps = ap length e ∙ length-set (set (counted x m) TOTAL (min (field (counted x m) TOTAL + n) too_many)) HIGH
          (max (field (set (counted x m) TOTAL (min (field (counted x m) TOTAL + n) too_many)) HIGH) (get_or m 7 0))
          ∙ length-set (counted x m) TOTAL (min (field (counted x m) TOTAL + n) too_many);
      else = λ u d. ap (λ (l : List ℕ). field l u) e
          ∙ get_or-set_other (set (counted x m) TOTAL (min (field (counted x m) TOTAL + n) too_many)) HIGH u
          (max (field (set (counted x m) TOTAL (min (field (counted x m) TOTAL + n) too_many)) HIGH) (get_or m 7 0)) 0 d.1
          ∙ get_or-set_other (counted x m) TOTAL u (min (field (counted x m) TOTAL + n) too_many) 0 d.0;
    }
taken_go x m q p k end r low long (a, l) =
    let f : ENDED + get_or m 1 0 ≡ FIRST_ENDED + q = omega (arith, r.from) in
    let e : absorbed (counted x m) m ≡ set (counted x m) (FIRST_ENDED + q) ((field (counted x m) (FIRST_ENDED + q) + 1) % 65536) =
    sym (take-end (counted x m) m (λ u. absurd (omega (arith, u, a))) (λ u. absurd (omega (arith, u, a)))
    (λ u. absurd (omega (arith, u, a)))) ∙ ap (λ (i : ℕ). set (counted x m) i ((field (counted x m) i + 1) % 65536)) f in
    record {
      keeps = ap length e ∙ length-set (counted x m) (FIRST_ENDED + q) ((field (counted x m) (FIRST_ENDED + q) + 1) % 65536);
      else = λ i d. ap (λ (l : List ℕ). field l i) e
          ∙ get_or-set_other (counted x m) (FIRST_ENDED + q) i ((field (counted x m) (FIRST_ENDED + q) + 1) % 65536) 0 d;
    }

module _ (x m : List ℕ) (q p k : ℕ) (b : Body) (r : Read m q p k b) (low : q < most_parts) (long : full ≤ length x) where
  abbrev all : StaysElse x m q p k b r low long (absorbed (counted x m) m)
  all = taken_go x m q p k b r low long r.content

  pub length_taken : length (absorbed (counted x m) m) ≡ length x
  length_taken = all.keeps ∙ counted_long x m q p k b r low long

  pub else_taken : (i : ℕ) → i ≢ FIRST_TAKEN + q → Away b q i → field (absorbed (counted x m) m) i ≡ field x i
  else_taken i d a = all.else i a ∙ counted_else x m q p k b r low long i d

  pub count_taken : Away b q (FIRST_TAKEN + q) → field (absorbed (counted x m) m) (FIRST_TAKEN + q)
      ≡ (field x (FIRST_TAKEN + q) + 1) % 65536
  count_taken a = all.else (FIRST_TAKEN + q) a ∙ counted_at x m q p k b r low long

-- what a mark, a count and an end change
module _ (x m : List ℕ) (q p k : ℕ) (low : q < most_parts) (long : full ≤ length x) where
  pub red_taken : (c : ℕ) → c < most_cells → Read m q p k (mark c true) → field (absorbed (counted x m) m) (RED + c) ≡ 1
  unfolding Content one_if
  red_taken c h r =
      let (a, l, n, v) = r.content in
      ap (λ (l : List ℕ). field l (RED + c)) (sym (take-set (counted x m) m c (sym n) a v))
      ∙ get_or-set_same (counted x m) (RED + c) 1 0 (omega (arith, counted_long x m q p k (mark c true) r low long))

  pub red_kept : (c d : ℕ) → Read m q p k (mark c false) → FIRST_TAKEN + q ≢ d → field (absorbed (counted x m) m) d ≡ field x d
  unfolding Content one_if
  red_kept c d r f =
      let (a, l, n, v) = r.content in
      ap (λ (l : List ℕ). field l d) (sym (take_none (counted x m) m a (λ u. absurd (omega (arith, u, v)))))
      ∙ counted_else x m q p k (mark c false) r low long d (λ e. f (sym e))

  pub sum_taken : (s n : ℕ) → s < most_slots → Read m q p k (count s n)
      → field (absorbed (counted x m) m) (SUM + s) ≡ (field x (SUM + s) + n) % 65536
  unfolding Content
  sum_taken s n h r =
      let (a, l, i, j) = r.content in
      ap (λ (l : List ℕ). field l (SUM + s)) (sym (take_count (counted x m) m s n (sym i) (sym j) a))
      ∙ get_or-set_same (counted x m) (SUM + s) ((field (counted x m) (SUM + s) + n) % 65536) 0
      (omega (arith, counted_long x m q p k (count s n) r low long))
      ∙ ap (λ (y : ℕ). (y + n) % 65536) (counted_else x m q p k (count s n) r low long (SUM + s) (λ e. absurd (omega (arith, e))))

  pub end_taken : Read m q p k end → field (absorbed (counted x m) m) (FIRST_ENDED + q) ≡ (field x (FIRST_ENDED + q) + 1) % 65536
  unfolding Content
  end_taken r =
      let (a, l) = r.content in
      let f : ENDED + get_or m 1 0 ≡ FIRST_ENDED + q = omega (arith, r.from) in
      ap (λ (l : List ℕ). field l (FIRST_ENDED + q)) (sym
      (take-end (counted x m) m (λ u. absurd (omega (arith, u, a))) (λ u. absurd (omega (arith, u, a)))
      (λ u. absurd (omega (arith, u, a)))) ∙ ap (λ (i : ℕ). set (counted x m) i ((field (counted x m) i + 1) % 65536)) f)
      ∙ get_or-set_same (counted x m) (FIRST_ENDED + q) ((field (counted x m) (FIRST_ENDED + q) + 1) % 65536) 0
      (omega (arith, counted_long x m q p k end r low long))
      ∙ ap (λ (y : ℕ). (y + 1) % 65536) (counted_else x m q p k end r low long (FIRST_ENDED + q) (λ e. absurd (omega (arith, e))))

  pub total_taken : (n h : ℕ) → Read m q p k (total n h)
      → (field (absorbed (counted x m) m) TOTAL ≡ min (field x TOTAL + n) too_many)
      × (field (absorbed (counted x m) m) HIGH ≡ max (field x HIGH) h)
  unfolding Content
  total_taken n h r =
      let (a, l, i, j) = r.content in
      let c = counted x m in
      let t = min (field (counted x m) TOTAL + n) too_many in
      let g = max (field (set (counted x m) TOTAL (min (field (counted x m) TOTAL + n) too_many)) HIGH) (get_or m 7 0) in
      let e : set (set (counted x m) TOTAL t) HIGH g ≡ absorbed (counted x m) m = take-total (counted x m) m n t g (sym i) refl refl a in
      let wide : full ≤ length (counted x m) = omega (arith, counted_long x m q p k (total n h) r low long) in
      let low10 = counted_else x m q p k (total n h) r low long TOTAL (λ z. absurd (omega (arith, z))) in
      let low11 = counted_else x m q p k (total n h) r low long HIGH (λ z. absurd (omega (arith, z))) in (
        ap (λ (y : List ℕ). field y TOTAL) (sym e)
            ∙ get_or-set_other (set (counted x m) TOTAL t) HIGH TOTAL g 0 (λ z. absurd (omega (arith, z)))
            ∙ get_or-set_same (counted x m) TOTAL t 0 (omega arith) ∙ ap (λ (y : ℕ). min (y + n) too_many) low10,
        ap (λ (y : List ℕ). field y HIGH) (sym e)
            ∙ get_or-set_same (set (counted x m) TOTAL t) HIGH g 0 (omega (arith, length-set (counted x m) TOTAL t))
            ∙ ap₂ max (get_or-set_other (counted x m) TOTAL HIGH t 0 (λ z. absurd (omega (arith, z))) ∙ low11) j,
      )
