-- Corners, edges and midpoints of regular cells told apart, by their coordinates.
use Rattle.std.specs.Prelude.{◌≡◌, ◌≢◌, ◌⊎◌, ◌&&◌, [], ℕ, suc, ◌*◌, ◌-◌, ◌≤◌, ◌<◌, T}
use Rattle.std.proofs.Common.{ap, ap₂, sym, ◌∙◌, inl, inr, ⊎_elim, eq-or-lt_of_le, mul-lt-mul_of_pos_right, mul-le-mul_right, arith}
use Rattle.std.proofs.Math.Decide.{dec_lt}
use Rattle.std.proofs.Math.Pow.{pow-lt}
use Rattle.base.specs.Lists.{sameb, sameb_eq}
use Rattle.base.specs.Bools.{and_left, and_right, or_either}
use Rattle.cutting.specs.Rule.{low, high, digit}
use Rattle.mesh.specs.Cells.{Cell, corner, edge, joinsb}
use Rattle.mesh.specs.Weights.{Point, point}
use Rattle.families.specs.Kuhn.{Step, steps_between, gap, digit_ends, digit_named}
use Rattle.lattice.specs.Tails.{tail_sum}
use Rattle.lattice.specs.Regular.{unit, unit_positive, cancel, Regular, same_ends, point_on, mid_off}
use Rattle.families.specs.Children.{middle, middle_ends}

-- One of two numbers is the lower, or they are equal.
equal_or : (k l : ℕ) → (k < l → ⊥) → (l < k → ⊥) → k ≡ l
equal_or k l p q = elim (dec_lt k l) [ yes h ↦ absurd (p h) | no h ↦ elim (dec_lt l k) [ yes g ↦ absurd (q g) | no g ↦ omega arith ] ]

module _ (n k : ℕ) (c : Cell Point) (r : Regular n k c) where
  pub corner_apart : (i j : ℕ) → i < j → j < 4 → corner [] c i ≢ corner [] c j
  corner_apart i j h l e =
      let x = r.coordinates in
      let (p, w) = gap x r.kuhn i j h l in
      let q : x i p ≡ x j p = cancel k (x i p) (x j p) (tail_sum (corner [] c i) p) (tail_sum (corner [] c j) p)
      (r.tails i (omega arith) p) (r.tails j l p) (ap (λ (q : Point). tail_sum q p) e) in
      omega arith

  pub corner_injective : (i j : ℕ) → i < 4 → j < 4 → corner [] c i ≡ corner [] c j → i ≡ j
  corner_injective i j hi hj e = equal_or i j (λ h. corner_apart i j h hj e) (λ h. corner_apart j i h hi (sym e))

  pub point_injective : k < 10 → (f g : ℕ) → f < 10 → g < 10 → point c f ≡ point c g → f ≡ g
  point_injective h f g hf hg e =
      let (a, b) = digit_ends f hf in
      let (a', b') = digit_ends g hg in
      let w = same_ends n k c c r r h f g hf hg e in
      sym (digit_named f hf)
      ∙ ap₂ digit (corner_injective (low f) (low g) (omega arith) (omega arith) w.0) (corner_injective (high f) (high g) b b' w.1)
      ∙ digit_named g hg

module _ (n k l : ℕ) (c d : Cell Point) (r : Regular n k c) (s : Regular n l d) where
  -- A midpoint belongs to one level: it lies on the next lattice and on none before.
  pub mid_level : k < 10 → l < 10 → (f g : ℕ) → f < 10 → g < 10 → low f < high f → low g < high g → point c f ≡ point d g → k ≡ l
  mid_level hk hl f g hf hg zf zg e =
      equal_or k l (λ h. mid_off n l (suc k) d (point c f) hl s h (point_on n k c hk r f hf) g hg zg (sym e))
      (λ h. mid_off n k (suc l) c (point d g) hk r h (point_on n l d hl s g hg) f hf zf e)

  -- An edge belongs to one level: where its ends differ they differ by the unit. Its lower end is told by the coordinates.
  ends_level : k ≤ 10 → l ≤ 10 → (a b i j : ℕ) → a < b → b < 4 → i < j → j < 4 → corner [] c a ≡ corner [] d i
      → corner [] c b ≡ corner [] d j → k ≡ l
  ends_level hk hl a b i j ha hb hi hj e f =
      let x = r.coordinates in
      let y = s.coordinates in
      let (p, w) = gap x r.kuhn a b ha hb in
      let t = steps_between x r.kuhn a b (omega arith) hb p in
      let t' = steps_between y s.kuhn i j (omega arith) hj p in
      let u : unit k ≡ unit l = same_unit (x a p) (x b p) (y i p) (y j p) (unit k) (unit l) (unit_positive k) t w t'
      (sym (r.tails a (omega arith) p) ∙ ap (λ (q : Point). tail_sum q p) e ∙ s.tails i (omega arith) p)
      (sym (r.tails b hb p) ∙ ap (λ (q : Point). tail_sum q p) f ∙ s.tails j hj p) in
      equal_or k l (λ h. lower k l h hl u) (λ h. lower l k h hk (sym u))
    where
      same_unit : (x x' y y' u v : ℕ) → 0 < u → Step x x' → x < x' → Step y y' → x * u ≡ y * v → x' * u ≡ y' * v → u ≡ v
      same_unit x x' y y' u v z s l t e f =
          let g : x' ≡ suc x = omega arith in
          ⊎_elim (λ (h : y ≡ y'). absurd (omega (arith, ap (λ (a : ℕ). a * u) g, ap (λ (a : ℕ). a * v) h)))
          (λ (h : y < y'). let q : y' ≡ suc y = omega arith in omega (arith, ap (λ (a : ℕ). a * u) g, ap (λ (a : ℕ). a * v) q))
          (eq-or-lt_of_le t.up)

      lower : (k l : ℕ) → k < l → l ≤ 10 → unit k ≡ unit l → ⊥
      lower k l h g u = let i : 10 - l < 10 - k = omega arith in omega (arith, pow-lt i)

  pub ends_turned : (a b i j : ℕ) → a < b → b < 4 → i < j → j < 4 → corner [] c a ≡ corner [] d j → corner [] c b ≡ corner [] d i → ⊥
  ends_turned a b i j ha hb hi hj e f =
      let x = r.coordinates in
      let y = s.coordinates in
      let (p, w) = gap x r.kuhn a b ha hb in
      let v : y i p ≤ y j p = (steps_between y s.kuhn i j (omega arith) hj p).up in
      omega (
        arith,
        mul-lt-mul_of_pos_right w (unit_positive k),
        mul-le-mul_right (unit l) v,
        r.tails a (omega arith) p,
        r.tails b hb p,
        s.tails i (omega arith) p,
        s.tails j hj p,
        ap (λ (q : Point). tail_sum q p) e,
        ap (λ (q : Point). tail_sum q p) f,
      )

both : (p q p' q' : Point) → T (sameb p p' && sameb q q') → (p ≡ p') × (q ≡ q')
both p q p' q' t = (sameb_eq p p' (and_left (sameb p p') (sameb q q') t), sameb_eq q q' (and_right (sameb p p') (sameb q q') t))

pub joins : (p q p' q' : Point) → T (joinsb sameb (p, q) (p', q')) → ((p ≡ p') × (q ≡ q')) ⊎ ((p ≡ q') × (q ≡ p'))
unfolding joinsb
joins p q p' q' t =
    ⊎_elim (λ (u : T (sameb p p' && sameb q q')). inl (both p q p' q' u)) (λ (u : T (sameb p q' && sameb q p')). inr (both p q q' p' u))
    (or_either (sameb p p' && sameb q q') (sameb p q' && sameb q p') t)

-- Two pairs of corners in order with the same two points have them in the same order.
module _ (n k l : ℕ) (c d : Cell Point) (hk : k ≤ 10) (hl : l ≤ 10) (r : Regular n k c) (s : Regular n l d) where
  pub ends_same : (a b i j : ℕ) → a < b → b < 4 → i < j → j < 4
      → T (joinsb sameb (corner [] c a, corner [] c b) (corner [] d i, corner [] d j))
      → (corner [] c a ≡ corner [] d i) × (corner [] c b ≡ corner [] d j) × (k ≡ l)
  ends_same a b i j ha hb hi hj t =
      ⊎_elim (λ (m : (corner [] c a ≡ corner [] d i) × (corner [] c b ≡ corner [] d j)).
      (m.0, m.1, ends_level n k l c d r s hk hl a b i j ha hb hi hj m.0 m.1))
      (λ (m : (corner [] c a ≡ corner [] d j) × (corner [] c b ≡ corner [] d i)). absurd
      (ends_turned n k l c d r s a b i j ha hb hi hj m.0 m.1))
      (joins (corner [] c a) (corner [] c b) (corner [] d i) (corner [] d j) t)

  pub edges_same : (e f : ℕ) → e < 6 → f < 6 → T (joinsb sameb (edge [] c e) (edge [] d f)) → (edge [] c e ≡ edge [] d f) × (k ≡ l)
  unfolding edge
  edges_same e f he hf t =
      let (a, b, _) = middle_ends e he in
      let (a', b', _) = middle_ends f hf in
      let (p, q, m) = ends_same (low (middle e)) (high (middle e)) (low (middle f)) (high (middle f)) a b a' b' t in
      (ap₂ (λ (p q : Point). (p, q)) p q, m)
