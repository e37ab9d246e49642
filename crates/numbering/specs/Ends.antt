-- Edges of regular cells that may have children: what a midpoint tells of its edge, and what the weights of the ends are.
--   Splittable n p q   p and q are the ends, in either order, of an edge of a regular cell of a level below 10, where n is the
--                      number of coarse corners
-- Laws: edge_splittable (an edge by its number), mid_ends (a midpoint determines its edge), mid_fine (it is no coarse corner),
-- mid_sized and ends-sized (n weights that add to 1,024), ends_differ, ends_even (sums of the ends' weights are even).
use Rattle.std.specs.Prelude.{◌≡◌, refl, ◌≢◌, ◌⊎◌, [], ◌∷◌, ℕ, zero, suc, ◌+◌, ◌*◌, ◌%◌, ◌<◌, get_or}
use Rattle.std.proofs.Common.{sym, ◌∙◌, ap, ap₂, inl, inr, ⊎_elim, arith}
use Rattle.cutting.specs.Rule.{low, high}
use Rattle.mesh.specs.Cells.{Cell, corner, edge}
use Rattle.mesh.specs.Weights.{Point, coarse, mid, point}
use Rattle.lattice.specs.Tails.{Sized, tail_sum}
use Rattle.lattice.specs.Regular.{Regular, unit, unit_even, point_sized}
use Rattle.families.specs.Children.{middle, middle_ends}
use Rattle.lattice.specs.Edges.{corner_apart}
use Rattle.lattice.specs.Facts.{same_mid_edge, mid_not_coarse}

pub record Splittable (n : ℕ) (p q : Point) : Type 0 where
  pub level : ℕ
  pub fine : level < 10
  pub cell : Cell Point
  pub regular : Regular n level cell
  pub number : ℕ
  pub sixth : number < 6
  pub ends : (edge [] cell number ≡ (p, q)) ⊎ (edge [] cell number ≡ (q, p))

pub edge_splittable : (n k : ℕ) (c : Cell Point) → k < 10 → Regular n k c → (e : ℕ) → e < 6 → Splittable n (edge [] c e).0 (edge [] c e).1
edge_splittable n k c h r e l = record { level = k; fine = h; cell = c; regular = r; number = e; sixth = l; ends = inl refl }

pub mid_comm : (p q : Point) → mid p q ≡ mid q p
unfolding mid
mid_comm [] [] = refl
mid_comm [] (y ∷ q) = refl
mid_comm (x ∷ p) [] = refl
mid_comm (x ∷ p) (y ∷ q) = ap₂ ◌∷◌ (omega arith) (mid_comm p q)

-- the same edge the other way round
pub splittable_turned : {n : ℕ} {p q : Point} → Splittable n p q → Splittable n q p
splittable_turned s =
    record {
      level = s.level;
      fine = s.fine;
      cell = s.cell;
      regular = s.regular;
      number = s.number;
      sixth = s.sixth;
      ends = ⊎_elim inr inl s.ends;
    }

-- what holds of the two ends in the cell's order, and of both orders alike, holds of p and q
either_order : {n : ℕ} {p q : Point} (s : Splittable n p q) (P : Point → Point → Type 0) → ((x y : Point) → P x y → P y x)
    → P (edge [] s.cell s.number).0 (edge [] s.cell s.number).1 → P p q
either_order {n} {p} {q} s P turn w = go s.ends w
  where
    go : (edge [] s.cell s.number ≡ (p, q)) ⊎ (edge [] s.cell s.number ≡ (q, p))
        → P (edge [] s.cell s.number).0 (edge [] s.cell s.number).1 → P p q
    go (inl e) w = rw e at w
    go (inr e) w = let v : P q p = rw e at w in turn q p v

module _ (n : ℕ) (p q : Point) (s : Splittable n p q) where
  mid_edge : mid (edge [] s.cell s.number).0 (edge [] s.cell s.number).1 ≡ mid p q
  mid_edge =
      ⊎_elim (λ (e : edge [] s.cell s.number ≡ (p, q)). ap (λ (x : Point × Point). mid x.0 x.1) e)
      (λ (e : edge [] s.cell s.number ≡ (q, p)). ap (λ (x : Point × Point). mid x.0 x.1) e ∙ mid_comm q p) s.ends

  pub mid_fine : (i : ℕ) → i < n → mid p q ≢ coarse n i
  unfolding edge point
  mid_fine i h e =
      let (a, _, b) = middle_ends s.number s.sixth in
      mid_not_coarse n s.level s.cell s.fine s.regular (middle s.number) i b a h (mid_edge ∙ e)

  pub mid_sized : Sized n (mid p q)
  unfolding edge point
  mid_sized =
      let (_, _, b) = middle_ends s.number s.sixth in
      rw (← mid_edge) (point_sized n s.level s.cell s.fine s.regular (middle s.number) b)

  pub ends_differ : p ≢ q
  unfolding edge
  ends_differ =
      let (a, b, _) = middle_ends s.number s.sixth in
      either_order s (λ x y. x ≢ y) (λ x y w e. w (sym e))
      (corner_apart n s.level s.cell s.regular (low (middle s.number)) (high (middle s.number)) a b)

-- A midpoint determines its edge.
parts : (p q p' q' : Point) → ◌≡◌ {A = Point × Point} (p, q) (p', q') → (p ≡ p') × (q ≡ q')
parts p q p' q' e = (ap (λ (x : Point × Point). x.0) e, ap (λ (x : Point × Point). x.1) e)

pub mid_ends : (n : ℕ) (p q p' q' : Point) → Splittable n p q → Splittable n p' q' → mid p q ≡ mid p' q'
    → ((p ≡ p') × (q ≡ q')) ⊎ ((p ≡ q') × (q ≡ p'))
mid_ends n p q p' q' s t m =
    go s.ends t.ends
    (same_mid_edge n s.level t.level s.cell t.cell s.fine t.fine s.regular t.regular s.number t.number
    s.sixth t.sixth
    (mid_edge n p q s ∙ m ∙ sym (mid_edge n p' q' t))).0
  where
    go : (edge [] s.cell s.number ≡ (p, q)) ⊎ (edge [] s.cell s.number ≡ (q, p))
        → (edge [] t.cell t.number ≡ (p', q')) ⊎ (edge [] t.cell t.number ≡ (q', p'))
        → edge [] s.cell s.number ≡ edge [] t.cell t.number
        → ((p ≡ p') × (q ≡ q')) ⊎ ((p ≡ q') × (q ≡ p'))
    go (inl e) (inl f) m = inl (parts p q p' q' (sym e ∙ m ∙ f))
    go (inl e) (inr f) m = inr (parts p q q' p' (sym e ∙ m ∙ f))
    go (inr e) (inl f) m = let w = parts q p p' q' (sym e ∙ m ∙ f) in inr (w.1, w.0)
    go (inr e) (inr f) m = let w = parts q p q' p' (sym e ∙ m ∙ f) in inl (w.1, w.0)

-- The weights of a regular cell of a level below 10 are even: tail sums are multiples of the level's unit.
weight_tail : (p : Point) (i : ℕ) → get_or p i 0 + tail_sum p (suc i) ≡ tail_sum p i
weight_tail [] zero = refl
weight_tail [] (suc i) = refl
weight_tail (x ∷ p) zero = refl
weight_tail (x ∷ p) (suc i) = weight_tail p i

weight_even : (n k : ℕ) (c : Cell Point) → k < 10 → Regular n k c → (i : ℕ) → i < 4 → (j : ℕ) → get_or (corner [] c i) j 0 % 2 ≡ 0
weight_even n k c h r i l j =
    let (m, _, u) = unit_even k (suc k) (omega arith) (omega arith) in
    even (get_or (corner [] c i) j 0) (r.coordinates i j * (m * unit (suc k))) (r.coordinates i (suc j) * (m * unit (suc k)))
    (tail_sum (corner [] c i) j) (tail_sum (corner [] c i) (suc j)) (weight_tail (corner [] c i) j) (r.tails i l j ∙ rw u (omega arith))
    (r.tails i l (suc j) ∙ rw u (omega arith))
  where
    even : (g a b s t : ℕ) → g + t ≡ s → s ≡ 2 * a → t ≡ 2 * b → g % 2 ≡ 0
    even g a b s t e f h = omega arith

pub ends_even : (n : ℕ) (p q : Point) → Splittable n p q → (j : ℕ) → (get_or p j 0 + get_or q j 0) % 2 ≡ 0
unfolding edge
ends_even n p q s j =
    let (a, b, _) = middle_ends s.number s.sixth in
    let (x, y) : (get_or p j 0 % 2 ≡ 0) × (get_or q j 0 % 2 ≡ 0) =
    either_order s (λ x y. (get_or x j 0 % 2 ≡ 0) × (get_or y j 0 % 2 ≡ 0)) (λ x y w. (w.1, w.0)) (
      weight_even n s.level s.cell s.fine s.regular (low (middle s.number)) (omega arith) j,
      weight_even n s.level s.cell s.fine s.regular (high (middle s.number)) b j,
    ) in
    omega arith
