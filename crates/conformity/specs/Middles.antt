-- The middle of an edge of a regular cell, by tail sums.
--   IsMiddle p a b   p is in the middle of a and b: each tail sum of p is half the sum of theirs
-- Laws: middle_of (the test says so), middle_point (the middle of two corners of a regular cell below level 10 is a point of its
-- cut), middle_none (at level 10 there is none), middle_other (two pairs of points of a cut with the same sums).
use Rattle.std.specs.Prelude.{◌≡◌, refl, ℕ, zero, suc, ◌+◌, ◌*◌, ◌<◌, T, eqb, length}
use Rattle.std.proofs.Common.{sym, ◌∙◌, ap, eqb→eq}
use mathlib.Core.List.{[], ◌∷◌, map, zip_with}
use Rattle.std.proofs.Math.Nat.{add-mul}
use native.Mathlib.Omega.{arith}
use Rattle.base.specs.Lists.{sameb}
use Rattle.base.specs.Bools.{and_left, and_right}
use Rattle.cutting.specs.Rule.{low, high}
use Rattle.mesh.specs.Cells.{Cell, edge}
use Rattle.mesh.specs.Weights.{Point, point}
use Rattle.families.specs.Kuhn.{doubled, steps_between, gap, sum_odd}
use Rattle.lattice.specs.Tails.{sum, tail_sum, tail_sums_equal}
use Rattle.lattice.specs.Regular.{unit, unit_half, Regular, point_sized, point_tails}
use Rattle.families.specs.Children.{middle, middle_ends}
use Rattle.conformity.specs.Leaves.{middleb}

-- Rule 5.4, by tail sums.
pub record IsMiddle (p a b : Point) : Type 0 where
  pub half : (j : ℕ) → 2 * tail_sum p j ≡ tail_sum a j + tail_sum b j

sum_middle : (p a b : Point) → length a ≡ length b → T (sameb (map (λ w. 2 * w) p) (zip_with ◌+◌ a b)) → 2 * sum p ≡ sum a + sum b
unfolding sameb zip_with
sum_middle [] [] [] e t = refl
sum_middle [] [] (y ∷ b) e t = absurd (omega arith)
sum_middle [] (x ∷ a) [] e t = absurd (omega arith)
sum_middle [] (x ∷ a) (y ∷ b) e t = absurd t
sum_middle (w ∷ p) [] b e t = absurd t
sum_middle (w ∷ p) (x ∷ a) [] e t = absurd t
sum_middle (w ∷ p) (x ∷ a) (y ∷ b) e t =
    let u : T (sameb (map (λ w. 2 * w) p) (zip_with ◌+◌ a b)) = and_right (eqb (2 * w) (x + y))
    (sameb (map (λ w. 2 * w) p) (zip_with ◌+◌ a b)) t in
    omega (
      arith,
      sum_middle p a b (omega arith) u,
      eqb→eq (2 * w) (x + y)
          (and_left (eqb (2 * w) (x + y)) (sameb (map (λ w. 2 * w) p) (zip_with ◌+◌ a b)) t),
    )

tail_middle : (p a b : Point) → length a ≡ length b → T (sameb (map (λ w. 2 * w) p) (zip_with ◌+◌ a b)) → (j : ℕ)
    → 2 * tail_sum p j ≡ tail_sum a j + tail_sum b j
unfolding sameb zip_with
tail_middle p a b e t zero = sum_middle p a b e t
tail_middle [] [] [] e t (suc j) = refl
tail_middle [] [] (y ∷ b) e t (suc j) = absurd (omega arith)
tail_middle [] (x ∷ a) [] e t (suc j) = absurd (omega arith)
tail_middle [] (x ∷ a) (y ∷ b) e t (suc j) = absurd t
tail_middle (w ∷ p) [] b e t (suc j) = absurd t
tail_middle (w ∷ p) (x ∷ a) [] e t (suc j) = absurd t
tail_middle (w ∷ p) (x ∷ a) (y ∷ b) e t (suc j) =
    tail_middle p a b (omega arith) (and_right (eqb (2 * w) (x + y)) (sameb (map (λ w. 2 * w) p) (zip_with ◌+◌ a b)) t) j

pub middle_of : (p a b : Point) → length a ≡ length b → T (middleb p (a, b)) → IsMiddle p a b
unfolding middleb
middle_of p a b e t = record { half = tail_middle p a b e t }

-- The middle of a regular cell's edge.
module _ (n k : ℕ) (c : Cell Point) (r : Regular n k c) (y : ℕ) (hy : y < 6) (p : Point) (m : IsMiddle p (edge [] c y).0 (edge [] c y).1)
  where
    sums : (j : ℕ) → 2 * tail_sum p j ≡ doubled r.coordinates (middle y) j * unit k
    unfolding edge
    sums j =
        let (a, b, _) = middle_ends y hy in
        let x = r.coordinates in
        omega (
          arith,
          m.half j,
          r.tails (low (middle y)) (omega arith) j,
          r.tails (high (middle y)) b j,
          add-mul (x (low (middle y)) j)
              (x (high (middle y)) j) (unit k),
        )

    pub middle_point : k < 10 → length p ≡ n → p ≡ point c (middle y)
    middle_point h l =
        let (a, b, z) = middle_ends y hy in
        tail_sums_equal p (point c (middle y)) (l ∙ sym (point_sized n k c h r (middle y) z).places)
        (λ j. let d = doubled r.coordinates (middle y) j in
        let e : d * unit k ≡ 2 * (d * unit (suc k)) = rw (unit_half k h) (omega arith) in
        omega (arith, sums j, e, point_tails n k c h r (middle y) z j))

    -- at level 10 the sum is odd somewhere
    pub middle_none : k ≡ 10 → ⊥
    middle_none e =
        let (a, b, _) = middle_ends y hy in
        let x = r.coordinates in
        let (j, w) = gap x r.kuhn (low (middle y)) (high (middle y)) a b in
        let s = sums j in
        let s' : 2 * tail_sum p j ≡ doubled x (middle y) j * 1 = rw e at s in
        sum_odd (x (low (middle y)) j) (x (high (middle y)) j)
        (steps_between x r.kuhn (low (middle y)) (high (middle y)) (omega arith) b j) w (tail_sum p j) (omega arith)

-- Two pairs of points of a cut with the same sums have the same middle.
pub middle_other : (n k : ℕ) (g : Cell Point) → k < 10 → (r : Regular n k g) → (d e a b : ℕ) → d < 10 → e < 10 → a < 10 → b < 10
    → ((j : ℕ) → doubled r.coordinates d j + doubled r.coordinates e j ≡ doubled r.coordinates a j + doubled r.coordinates b j)
    → (p : Point) → IsMiddle p (point g d) (point g e) → IsMiddle p (point g a) (point g b)
middle_other n k g h r d e a b hd he ha hb f p m =
    record {
      half = λ j.
          let x = r.coordinates in
          let u = unit (suc k) in
          let q : doubled x d j * u + doubled x e j * u ≡ doubled x a j * u + doubled x b j * u =
          sym (add-mul (doubled x d j) (doubled x e j) u) ∙ ap (λ (z : ℕ). z * u) (f j) ∙ add-mul (doubled x a j) (doubled x b j) u in
          m.half j ∙ rw (
            point_tails n k g h r d hd j,
            point_tails n k g h r e he j,
            point_tails n k g h r a ha j,
            point_tails n k g h r b
                hb j,
          ) q;
    }
