-- Two points of a cut that are no corners both: the red family joins two points with the same sum.
--   other d e   the digits of those two
--   Other d e   two digits that the red family joins, with the same sum, whatever the corners are
-- Laws: other_of (there are such two), corners_rise (the digits of corners rise with them).
use Rattle.std.specs.Prelude.{◌≡◌, ◌⊎◌, Bool, true, false, ◌&&◌, ◌||◌, not, ℕ, ◌+◌, ◌*◌, ◌<◌, T, eqb, ltb}
use Rattle.std.proofs.Common.{sym, ◌∙◌, ap, ⊎_elim, add-mul, arith, eqb→eq, ltb→lt, eq-eqb, lt-ltb}
use Rattle.base.specs.Lists.{belowb, belowb_at}
use Rattle.base.specs.Bools.{one_if, impb, impb_use, is_false, and_left, and_right, or_second, not_both}
use Rattle.cutting.specs.Rule.{low, high, digit, family}
use Rattle.families.specs.Faces.{joinedb}
use Rattle.base.specs.Every.{below_at}
use Rattle.families.specs.Kuhn.{reds, family_red}

-- where one of the two is a corner and the other a midpoint of the opposite edge of a face: the midpoints of the other edges of the
-- face; where they are 12 and 34, or 14 and 23: 13 and 24
abbrev other : ℕ → ℕ → ℕ × ℕ
other d e =
    elim (joinedb reds d e) [
      | true ↦ (d, e)
      | false ↦ elim (eqb (low d) (high d)) [
        | true ↦ (digit (low d) (low e), digit (low d) (high e))
        | false ↦ elim (eqb (low e) (high e)) [
          | true ↦ (digit (low e) (low d), digit (low e) (high d))
          | false ↦ (2, 6)
        ]
      ]
    ]

-- how often a corner stands among the two of a point
abbrev times : ℕ → ℕ → ℕ
times d i = one_if (eqb (low d) i) + one_if (eqb (high d) i)

abbrev otherb : ℕ → ℕ → ℕ → ℕ → Bool
otherb d e a b =
    (ltb a 10 && ltb b 10) && ((not (eqb a b) && joinedb reds a b) && belowb (λ i. eqb (times d i + times e i) (times a i + times b i)) 4)

other_test : ℕ → ℕ → Bool
other_test d e = impb (ltb d e && (ltb (low d) (high d) || ltb (low e) (high e))) (otherb d e (other d e).0 (other d e).1)

other_test_lem : T (belowb (λ d. belowb (λ e. other_test d e) 10) 10)
unfolding belowb joinedb impb other_test low high digit one_if
other_test_lem = tt

pub record Other (d e : ℕ) : Type 0 where
  pub a : ℕ
  pub b : ℕ
  pub a_small : a < 10
  pub b_small : b < 10
  pub differ : a ≡ b → ⊥
  pub joined : T (joinedb (family 63) a b)
  pub sum : (x : ℕ → ℕ) → (x (low d) + x (high d)) + (x (low e) + x (high e)) ≡ (x (low a) + x (high a)) + (x (low b) + x (high b))

times_sum : (x : ℕ → ℕ) (d : ℕ) → d < 10 → x (low d) + x (high d) ≡ (times d 0 * x 0 + times d 1 * x 1)
    + (times d 2 * x 2 + times d 3 * x 3)
unfolding low high one_if
times_sum x = below_at (λ d. x (low d) + x (high d) ≡ (times d 0 * x 0 + times d 1 * x 1) + (times d 2 * x 2 + times d 3 * x 3)) 10
    (omega arith)

by_times : (d e a b z : ℕ) → d + e ≡ a + b → d * z + e * z ≡ a * z + b * z
by_times d e a b z h = sym (add-mul d e z) ∙ ap (λ (w : ℕ). w * z) h ∙ add-mul a b z

module _ (d e a b : ℕ) (hd : d < 10) (he : e < 10) (ha : a < 10) (hb : b < 10)
    (t : T (belowb (λ i. eqb (times d i + times e i) (times a i + times b i)) 4)) where
  times_at : (i : ℕ) → i < 4 → times d i + times e i ≡ times a i + times b i
  times_at i h = eqb→eq (times d i + times e i) (times a i + times b i)
      (belowb_at (λ i. eqb (times d i + times e i) (times a i + times b i)) 4 t i h)

  same_sum : (x : ℕ → ℕ) → (x (low d) + x (high d)) + (x (low e) + x (high e)) ≡ (x (low a) + x (high a)) + (x (low b) + x (high b))
  same_sum x =
      let p0 = by_times (times d 0) (times e 0) (times a 0) (times b 0) (x 0) (times_at 0 (omega arith)) in
      let p1 = by_times (times d 1) (times e 1) (times a 1) (times b 1) (x 1) (times_at 1 (omega arith)) in
      let p2 = by_times (times d 2) (times e 2) (times a 2) (times b 2) (x 2) (times_at 2 (omega arith)) in
      let p3 = by_times (times d 3) (times e 3) (times a 3) (times b 3) (x 3) (times_at 3 (omega arith)) in
      rw (times_sum x d hd, times_sum x e he, times_sum x a ha, times_sum x b hb) (omega arith)

  other_from : (a ≡ b → ⊥) → T (joinedb reds a b) → Other d e
  other_from n j = record { a = a; b = b; a_small = ha; b_small = hb; differ = n; joined = rw family_red j; sum = same_sum }

pub other_of : (d e : ℕ) → d < e → e < 10 → (low d < high d) ⊎ (low e < high e) → Other d e
unfolding other_test
other_of d e h l z =
    let w : T (other_test d e) = belowb_at (λ e. other_test d e) 10
    (belowb_at (λ d. belowb (λ e. other_test d e) 10) 10 other_test_lem d (omega arith)) e l in
    go (other d e).0 (other d e).1
    (impb_use (ltb d e && (ltb (low d) (high d) || ltb (low e) (high e))) (otherb d e (other d e).0 (other d e).1) w
    (rw (lt-ltb d e h) (⊎_elim (λ (u : low d < high d). rw (lt-ltb (low d) (high d) u) tt)
    (λ (u : low e < high e). or_second (ltb (low d) (high d)) (ltb (low e) (high e)) (rw (lt-ltb (low e) (high e) u) tt)) z)))
  where
    go : (a b : ℕ) → T (otherb d e a b) → Other d e
    go a b t =
        let p : T (ltb a 10 && ltb b 10) = and_left (ltb a 10 && ltb b 10)
        ((not (eqb a b) && joinedb reds a b) && belowb (λ i. eqb (times d i + times e i) (times a i + times b i)) 4) t in
        let q = and_right (ltb a 10 && ltb b 10)
        ((not (eqb a b) && joinedb reds a b) && belowb (λ i. eqb (times d i + times e i) (times a i + times b i)) 4) t in
        let r = and_left (not (eqb a b) && joinedb reds a b) (belowb (λ i. eqb (times d i + times e i) (times a i + times b i)) 4) q in
        let u = and_right (not (eqb a b) && joinedb reds a b) (belowb (λ i. eqb (times d i + times e i) (times a i + times b i)) 4) q in
        other_from d e a b (omega arith) l (ltb→lt a 10 (and_left (ltb a 10) (ltb b 10) p))
        (ltb→lt b 10 (and_right (ltb a 10) (ltb b 10) p)) u
        (λ x. let f : eqb a b ≡ false = is_false (eqb a b) (and_left (not (eqb a b)) (joinedb reds a b) r) in not_both {A = ⊥} (eqb a b)
        (eq-eqb a b x) f)
        (and_right (not (eqb a b)) (joinedb reds a b) r)

-- two corners by their digits
corner_test : ℕ → ℕ → Bool
corner_test d e = impb (ltb d e && (eqb (low d) (high d) && eqb (low e) (high e))) (ltb (low d) (low e))

corner_test_lem : T (belowb (λ d. belowb (λ e. corner_test d e) 10) 10)
unfolding belowb impb corner_test low high
corner_test_lem = tt

pub corners_rise : (d e : ℕ) → d < e → e < 10 → low d ≡ high d → low e ≡ high e → low d < low e
unfolding corner_test
corners_rise d e h l x y =
    let w : T (corner_test d e) = belowb_at (λ e. corner_test d e) 10
    (belowb_at (λ d. belowb (λ e. corner_test d e) 10) 10 corner_test_lem d (omega arith)) e l in
    ltb→lt (low d) (low e) (impb_use (ltb d e && (eqb (low d) (high d) && eqb (low e) (high e))) (ltb (low d) (low e)) w
    (rw (lt-ltb d e h, eq-eqb (low d) (high d) x, eq-eqb (low e) (high e) y) tt))
