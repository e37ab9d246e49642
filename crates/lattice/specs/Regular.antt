-- Regular cells: the cells that are Kuhn simplices of their level's lattice.
--   unit k          the unit of the lattice of level k, in weights
--   Regular n k c   c is a Kuhn simplex of the lattice of level k, where n is the number of coarse corners
--   On k p          the point p lies on the lattice of level k
use Rattle.std.specs.Prelude.{◌≡◌, Bool, ℕ, suc, ◌+◌, ◌*◌, ◌-◌, ◌^◌, ◌≤◌, ◌<◌, get_or}
use Rattle.std.proofs.Common.{ap, ◌∙◌, add-mul, arith, pow_pos, pow-add}
use Rattle.std.proofs.Math.Path.{sym}
use Rattle.std.proofs.Math.Bool.{true}
use mathlib.Core.List.{List, [], ◌∷◌, map}
use Rattle.std.proofs.Math.Nat.{eq_of_mul-eq-mul_right}
use Rattle.std.proofs.Math.ListN.{length}
use Rattle.std.proofs.lemmas.List.{length-map}
use Rattle.cutting.specs.Rule.{low, high}
use Rattle.mesh.specs.Cells.{Cell, corner, children, children_from, pattern_of}
use Rattle.mesh.specs.Weights.{Point, point}
use Rattle.base.specs.Every.{All, get_d_map}
use Rattle.families.specs.Kuhn.{Coordinates, Kuhn, doubled, part_of, Digits, reds, digit_ends, family_red, red_digits, red_kuhn}
use Rattle.families.specs.Kuhn.{steps_between, gap, sum_odd, doubled_ends}
use Rattle.lattice.specs.Tails.{Sized, tail_sum, tail_sums_equal, tail_sum_mid, sized_mid}

abbrev pub unit : ℕ → ℕ
unit k = 2 ^ (10 - k)

-- Four points of n weights that add to 1,024, and whole coordinates that are a Kuhn simplex's, whose multiples by the unit
-- are the tail sums of the points.
pub record Regular (n k : ℕ) (c : Cell Point) : Type 0 where
  pub four : length c.points ≡ 4
  pub coordinates : Coordinates
  pub kuhn : Kuhn coordinates
  pub sized : (i : ℕ) → i < 4 → Sized n (corner [] c i)
  pub tails : (i : ℕ) → i < 4 → (j : ℕ) → tail_sum (corner [] c i) j ≡ coordinates i j * unit k

-- Units: each is a half of the one before, down to 1.
pub unit_positive : (k : ℕ) → 0 < unit k
unit_positive k = pow_pos (10 - k)

pub unit_half : (k : ℕ) → k < 10 → unit k ≡ 2 * unit (suc k)
unit_half k h = let e : 10 - k ≡ suc (10 - suc k) = omega arith in rw e (omega arith)

pub unit_even : (k l : ℕ) → k < l → l ≤ 10 → (m : ℕ) × (0 < m) × (unit k ≡ (m + m) * unit l)
unit_even k l h g =
    let e : 10 - k ≡ suc (l - suc k) + (10 - l) = omega arith in
    (2 ^ (l - suc k), pow_pos (l - suc k), rw (e, pow-add 2 (suc (l - suc k)) (10 - l)) (ap (λ (z : ℕ). z * unit l) (omega arith)))

pub cancel : (k x y s t : ℕ) → s ≡ x * unit k → t ≡ y * unit k → s ≡ t → x ≡ y
cancel k x y s t e f m = eq_of_mul-eq-mul_right (unit k) (unit_positive k) x y (sym e ∙ m ∙ f)

-- The ten points of a regular cell lie on the lattice of the next level.
module _ (n k : ℕ) (c : Cell Point) (h : k < 10) (r : Regular n k c) where
  halved : ℕ → ℕ → ℕ
  halved i j = r.coordinates i j * unit (suc k)

  even : (i : ℕ) → i < 4 → (j : ℕ) → tail_sum (corner [] c i) j ≡ 2 * halved i j
  unfolding halved
  even i l j = r.tails i l j ∙ rw (unit_half k h) (omega arith)

  pub point_sized : (d : ℕ) → d < 10 → Sized n (point c d)
  unfolding point
  point_sized d l =
      let (a, b) = digit_ends d l in
      sized_mid n (corner [] c (low d)) (corner [] c (high d)) (halved (low d)) (halved (high d)) (r.sized (low d) (omega arith))
      (r.sized (high d) b)
      (even (low d) (omega arith)) (even (high d) b)

  pub point_tails : (d : ℕ) → d < 10 → (j : ℕ) → tail_sum (point c d) j ≡ doubled r.coordinates d j * unit (suc k)
  unfolding point halved
  point_tails d l j =
      let (a, b) = digit_ends d l in
      let s : length (corner [] c (low d)) ≡ length (corner [] c (high d)) = (r.sized (low d) (omega arith)).places
      ∙ sym (r.sized (high d) b).places in
      tail_sum_mid (corner [] c (low d)) (corner [] c (high d)) (halved (low d)) (halved (high d)) s (even (low d) (omega arith))
      (even (high d) b) j
      ∙ sym (add-mul (r.coordinates (low d) j) (r.coordinates (high d) j) (unit (suc k)))

  -- The children of a red cell are regular of the next level.
  part_regular : (f : List ℕ) → Digits f → Kuhn (part_of r.coordinates f) → (path : List ℕ) (parent : ℕ) (b : Bool)
      → Regular n (suc k) (record { path = path; parent = parent; regular = b; points = map (point c) f })
  part_regular f g w path parent b =
      record {
        four = length-map f (point c) ∙ g.four;
        coordinates = part_of r.coordinates f;
        kuhn = w;
        sized = λ i l. rw (at i l) (point_sized (get_or f i 0) (g.small i l));
        tails = λ i l j. rw (at i l) (point_tails (get_or f i 0) (g.small i l) j);
      }
    where
      at : (i : ℕ) → i < 4 → get_or (map (point c) f) i [] ≡ point c (get_or f i 0)
      at i l = get_d_map (point c) f i 0 [] (rw g.four l)

  parts_regular : (j i : ℕ) (fs : List (List ℕ)) → All Digits fs → All (λ f. Kuhn (part_of r.coordinates f)) fs
      → All (Regular n (suc k)) (children_from j c true (point c) i fs)
  unfolding children_from
  parts_regular j i [] d w = tt
  parts_regular j i (f ∷ fs) d w = (part_regular f d.0 w.0 _ j true, parts_regular j (suc i) fs d.1 w.1)

  pub children_regular : (j : ℕ) → All (Regular n (suc k)) (children j c 64 (point c))
  unfolding children pattern_of
  children_regular j = rw family_red (parts_regular j 0 reds red_digits (red_kuhn r.coordinates r.kuhn))

-- Two cells of one level: equal points have equal ends.
module _ (n k : ℕ) (c d : Cell Point) (r : Regular n k c) (s : Regular n k d) where
  corner_equal : (i m : ℕ) → i < 4 → m < 4 → ((j : ℕ) → r.coordinates i j ≡ s.coordinates m j) → corner [] c i ≡ corner [] d m
  corner_equal i m hi hm e =
      tail_sums_equal (corner [] c i) (corner [] d m) ((r.sized i hi).places ∙ sym (s.sized m hm).places)
      (λ j. r.tails i hi j ∙ ap (λ (x : ℕ). x * unit k) (e j) ∙ sym (s.tails m hm j))

  pub same_ends : k < 10 → (f g : ℕ) → f < 10 → g < 10 → point c f ≡ point d g
      → (corner [] c (low f) ≡ corner [] d (low g)) × (corner [] c (high f) ≡ corner [] d (high g))
  same_ends h f g hf hg e =
      let (a, b) = digit_ends f hf in
      let (a', b') = digit_ends g hg in
      let x = r.coordinates in
      let y = s.coordinates in
      let m : (j : ℕ) → doubled x f j ≡ doubled y g j = λ j. cancel (suc k) (doubled x f j) (doubled y g j) (tail_sum (point c f) j)
      (tail_sum (point d g) j)
      (point_tails n k c h r f hf j) (point_tails n k d h s g hg j) (ap (λ (p : Point). tail_sum p j) e) in
      let w = doubled_ends x y r.kuhn s.kuhn f g hf hg m in
      (corner_equal (low f) (low g) (omega arith) (omega arith) (λ j. (w j).0), corner_equal (high f) (high g) b b' (λ j. (w j).1))

-- Levels do not mix: a midpoint of level k lies on no lattice of level k or lower.
abbrev pub On : ℕ → Point → Type 0
On k p = (x : ℕ → ℕ) × ((j : ℕ) → tail_sum p j ≡ x j * unit k)

pub corner_on : (n k : ℕ) (c : Cell Point) → Regular n k c → (i : ℕ) → i < 4 → On k (corner [] c i)
corner_on n k c r i l = (r.coordinates i, r.tails i l)

pub point_on : (n k : ℕ) (c : Cell Point) → k < 10 → Regular n k c → (d : ℕ) → d < 10 → On (suc k) (point c d)
point_on n k c h r d l = (doubled r.coordinates d, point_tails n k c h r d l)

pub mid_off : (n k l : ℕ) (c : Cell Point) (p : Point) → k < 10 → Regular n k c → l ≤ k → On l p → (f : ℕ) → f < 10 → low f < high f
    → point c f ≡ p → ⊥
mid_off n k l c p h r g o f hf z e =
    let (a, b) = digit_ends f hf in
    let x = r.coordinates in
    let (j, w) = gap x r.kuhn (low f) (high f) z b in
    let (m, _, u) = unit_even l (suc k) (omega arith) (omega arith) in
    let y = o.0 j * m in
    let q : doubled x f j ≡ y + y = cancel (suc k) (doubled x f j) (y + y) (tail_sum (point c f) j) (tail_sum p j)
    (point_tails n k c h r f hf j)
    (o.1 j ∙ rw u (omega arith)) (ap (λ (p : Point). tail_sum p j) e) in
    sum_odd (x (low f) j) (x (high f) j) (steps_between x r.kuhn (low f) (high f) a b j) w y q
