-- Two regular cells of one level that share a face: how many children of the second have a triangle on that face.
--   Three z   z are three corners, rising
-- Laws: three_at (a face's corners are), face_of_lem (and three such are a face's), triple_small, side_small (digits), side_count.
use Rattle.std.specs.Prelude.{◌≡◌, refl, Bool, true, false, List, [], ◌∷◌, map, ℕ, ◌+◌, ◌*◌, ◌-◌, ◌<◌, ◌≤◌, T, ltb, get_or}
use Rattle.std.proofs.Common.{sym, ◌∙◌, ap, ap₂, arith, ltb→lt}
use Rattle.base.specs.Lists.{allb, allb_at, sameb}
use Rattle.base.specs.Bools.{one_if}
use Rattle.cutting.specs.Rule.{digit, edge_of, split, family}
use Rattle.cutting.specs.Rows.{row}
use Rattle.mesh.specs.Cells.{Cell, corner, heldb}
use Rattle.mesh.specs.Weights.{Point, point, mid}
use Rattle.base.specs.Every.{below_at, All, all_of}
use Rattle.lattice.specs.Regular.{Regular}
use Rattle.lattice.specs.Edges.{point_injective}
use Rattle.carriers.specs.Joins.{Edge}
use Rattle.carriers.specs.Carrier.{Shares, between_below, edge_between}
use Rattle.carriers.specs.Order.{lower_too}
use Rattle.families.specs.Digits.{corners_at, lift, digit_triples, holds, alike}
use Rattle.families.specs.FaceKinds.{OnSide, transfer}
use Rattle.conformity.specs.Having.{withinb, count_digits, digits_holds}
use Rattle.conformity.specs.Shared.{Below10, Reads, family_small, digit_of, point_digit, within_shares, one_times, none_times}
use Rattle.conformity.specs.Shared.{no_child}

-- the corners of a face, rising
pub record Three (z : List ℕ) : Type 0 where
  pub a : ℕ
  pub b : ℕ
  pub c : ℕ
  pub is : z ≡ a ∷ b ∷ c ∷ []
  pub ab : a < b
  pub bc : b < c
  pub c4 : c < 4

pub three_at : (z : ℕ) → z < 4 → Three (corners_at z)
three_at =
    below_at (λ z. Three (corners_at z)) 4 (
      (
        (
          (tt, record { a = 1; b = 2; c = 3; is = refl; ab = omega arith; bc = omega arith; c4 = omega arith }),
          record { a = 0; b = 2; c = 3; is = refl; ab = omega arith; bc = omega arith; c4 = omega arith },
        ),
        record { a = 0; b = 1; c = 3; is = refl; ab = omega arith; bc = omega arith; c4 = omega arith },
      ),
      record { a = 0; b = 1; c = 2; is = refl; ab = omega arith; bc = omega arith; c4 = omega arith },
    )

list_three : (a b c x y z : ℕ) → a ≡ x → b ≡ y → c ≡ z → ◌≡◌ {A = List ℕ} (a ∷ b ∷ c ∷ []) (x ∷ y ∷ z ∷ [])
list_three a b c x y z p q r = cc

pub face_of_lem : (x y z : ℕ) → x < y → y < z → z < 4 → (m : ℕ) × (m < 4) × (corners_at m ≡ x ∷ y ∷ z ∷ [])
face_of_lem x y z p q r = (
  6 - (x + y + z),
  omega arith,
  below_at (λ m. m ≡ 6 - (x + y + z) → corners_at m ≡ x ∷ y ∷ z ∷ []) 4 (
    (
      (
        (tt, λ e. list_three 1 2 3 x y z (omega arith) (omega arith) (omega arith)),
        λ e. list_three 0 2 3 x y z (omega arith) (omega arith)
            (omega arith),
      ),
      λ e. list_three 0 1 3 x y z (omega arith) (omega arith) (omega arith),
    ),
    λ e. list_three 0 1 2 x y z (omega arith) (omega arith) (omega arith),
  ) (6 - (x + y + z)) (omega arith) refl,
)

-- the six points of a face
module _ (c g : Cell Point) (z0 z1 z2 m0 m1 m2 : ℕ) (z01 : z0 < z1) (z12 : z1 < z2) (z4 : z2 < 4) (m01 : m0 < m1) (m12 : m1 < m2)
    (m4 : m2 < 4)
    (e0 : corner [] c z0 ≡ corner [] g m0) (e1 : corner [] c z1 ≡ corner [] g m1) (e2 : corner [] c z2 ≡ corner [] g m2) where
  one : (a b x y : ℕ) → a ≤ b → b < 4 → x ≤ y → y < 4 → corner [] c a ≡ corner [] g x → corner [] c b ≡ corner [] g y
      → point c (digit a b) ≡ point g (digit x y)
  one a b x y h l h' l' e f = point_digit c a b h l ∙ ap₂ mid e f ∙ sym (point_digit g x y h' l')

  lift_point : (k : ℕ) → k < 6 → point c (lift (z0 ∷ z1 ∷ z2 ∷ []) k) ≡ point g (lift (m0 ∷ m1 ∷ m2 ∷ []) k)
  lift_point =
      below_at (λ k. point c (lift (z0 ∷ z1 ∷ z2 ∷ []) k) ≡ point g (lift (m0 ∷ m1 ∷ m2 ∷ []) k)) 6 (
        (
          (
            (
              (
                (tt, one z0 z0 m0 m0 (omega arith) (omega arith) (omega arith) (omega arith) e0 e0),
                one z0 z1 m0 m1 (omega arith)
                    (omega arith) (omega arith) (omega arith) e0 e1,
              ),
              one z0 z2 m0 m2 (omega arith) z4 (omega arith) m4 e0 e2,
            ),
            one z1 z1 m1 m1 (omega arith) (omega arith) (omega arith) (omega arith) e1 e1,
          ),
          one z1 z2 m1 m2 (omega arith) z4 (omega arith) m4 e1 e2,
        ),
        one z2 z2 m2 m2 (omega arith) z4 (omega arith) m4 e2 e2,
      )

  lift_points : (t : List ℕ) → All (λ k. k < 6) t → map (point c) (map (lift (z0 ∷ z1 ∷ z2 ∷ [])) t) ≡ map (point g)
      (map (lift (m0 ∷ m1 ∷ m2 ∷ [])) t)
  lift_points [] a = refl
  lift_points (k ∷ t) a = ap₂ ◌∷◌ (lift_point k a.0) (lift_points t a.1)

  -- the edges of the face
  module _ (es : List Edge) (p q : ℕ) (rp : Reads es c p) (rq : Reads es g q) where
    same_split : (a b x y : ℕ) → a < b → b < 4 → x < y → y < 4 → corner [] c a ≡ corner [] g x → corner [] c b ≡ corner [] g y
        → split p (edge_of (digit a b)) ≡ split q (edge_of (digit x y))
    same_split a b x y h l h' l' e f =
        rp (edge_of (digit a b)) (between_below a b h l)
        ∙ ap (heldb sameb es) (edge_between [] c a b h l ∙ ap₂ {B = Point} {C = Edge} (λ x y. (x, y)) e f
        ∙ sym (edge_between [] g x y h' l'))
        ∙ sym (rq (edge_of (digit x y)) (between_below x y h' l'))

    same_alike : alike p (z0 ∷ z1 ∷ z2 ∷ []) ≡ alike q (m0 ∷ m1 ∷ m2 ∷ [])
    same_alike =
        rw (
          same_split z0 z1 m0 m1 z01 (omega arith) m01 (omega arith) e0 e1,
          same_split z0 z2 m0 m2 (omega arith) z4 (omega arith) m4 e0 e2,
          same_split z1 z2 m1 m2 z12 z4 m12 m4 e1 e2,
        ) refl

lift_small : (m0 m1 m2 : ℕ) → m0 < m1 → m1 < m2 → m2 < 4 → (t : List ℕ) → All (λ k. k < 6) t → Below10 (map (lift (m0 ∷ m1 ∷ m2 ∷ [])) t)
lift_small m0 m1 m2 h l m [] a = tt
lift_small m0 m1 m2 h l m (k ∷ t) a = (
  below_at (λ k. lift (m0 ∷ m1 ∷ m2 ∷ []) k < 10) 6 (
    (
      (
        (
          ((tt, (digit_of m0 m0 (omega arith) (omega arith)).2), (digit_of m0 m1 (omega arith) (omega arith)).2),
          (digit_of m0 m2 (omega arith)
              m).2,
        ),
        (digit_of m1 m1 (omega arith) (omega arith)).2,
      ),
      (digit_of m1 m2 (omega arith) m).2,
    ),
    (digit_of m2 m2 (omega arith) m).2,
  ) k a.0,
  lift_small m0 m1 m2 h l m t a.1,
)

triple_test : T (allb (allb (λ k. ltb k 6)) digit_triples)
unfolding allb
triple_test = tt

pub triple_small : (t : ℕ) → t < 20 → All (λ k. k < 6) (get_or digit_triples t [])
triple_small t h = all_of (λ k. k < 6) (λ k. ltb k 6) (λ k u. ltb→lt k 6 u) (get_or digit_triples t [])
    (allb_at (allb (λ k. ltb k 6)) [] digit_triples triple_test t h)

pub side_small : (ds : List (List ℕ)) (f : List ℕ) → OnSide ds f → Below10 f
side_small ds f o =
    let w = three_at o.z o.face in
    rw (o.is, w.is) (lift_small w.a w.b w.c w.ab w.bc w.c4 (get_or digit_triples o.t [])
    (triple_small o.t o.below))

module _ (n k : ℕ) (c g : Cell Point) (h : k < 10) (r : Regular n k c) (s : Regular n k g) (es : List Edge) (p q : ℕ) (hp : p < 64)
    (hq : q < 64) (rp : Reads es c p) (rq : Reads es g q)
    (f : List ℕ) (o : OnSide (family p) f) where
  side_there : (z0 z1 z2 : ℕ) → z0 < z1 → z1 < z2 → z2 < 4 → corners_at o.z ≡ z0 ∷ z1 ∷ z2 ∷ [] → Shares c g z0 → Shares c g z1
      → Shares c g z2
      → count_digits (map (point c) f) (point g) (family q) ≡ 1
  side_there z0 z1 z2 z01 z12 z4 is (m0, _, h0, e0) (m1, _, h1, e1) (m2, _, h2, e2) =
      let m01 = lower_too n k c g r s z0 z1 m0 m1 (omega arith) h0 e0 e1 z01 in
      let m12 = lower_too n k c g r s z1 z2 m1 m2 z4 h1 e1 e2 z12 in
      let (y, hy, ey) = face_of_lem m0 m1 m2 m01 m12 h2 in
      let t = get_or digit_triples o.t [] in
      let ht = triple_small o.t o.below in
      let f' : f ≡ map (lift (z0 ∷ z1 ∷ z2 ∷ [])) t = o.is ∙ ap (λ (z : List ℕ). map (lift z) t) is in
      let m = m0 ∷ m1 ∷ m2 ∷ [] in
      let u : map (point c) f ≡ map (point g) (map (lift (m0 ∷ m1 ∷ m2 ∷ [])) t) =
      ap (map (point c)) f' ∙ lift_points c g z0 z1 z2 m0 m1 m2 z01 z12 z4 m01 m12 h2 e0 e1 e2 t ht in
      let a : alike p (corners_at o.z) ≡ alike q (corners_at y) =
      ap (alike p) is ∙ same_alike c g z0 z1 z2 m0 m1 m2 z01 z12 z4 m01 m12 h2 e0 e1 e2 es p q rp rq ∙ ap (alike q) (sym ey) in
      let v : holds (family q) (map (lift (corners_at y)) t) ≡ holds (family p) (map (lift (corners_at o.z)) t) =
      transfer q y o.t hq hy o.below ∙ ap (λ (b : ℕ). holds (row b) (map (lift (corners_at 3)) t)) (sym a)
      ∙ sym (transfer p o.z o.t hp o.face o.below) in
      ap (λ (u : List Point). count_digits u (point g) (family q)) u
      ∙ digits_holds 10 (point g) (λ x y hx hy w. point_injective n k g s h x y hx hy w) (map (lift (m0 ∷ m1 ∷ m2 ∷ [])) t)
      (lift_small m0 m1 m2 m01 m12 h2 t ht) (family q) (family_small q hq)
      ∙ ap (λ (z : List ℕ). holds (family q) (map (lift z) t)) (sym ey) ∙ v ∙ ap (holds (family p)) (sym o.is) ∙ o.once

  pub side_count : count_digits (map (point c) f) (point g) (family q) ≡ 1 * one_if
      (withinb (map (corner [] c) (corners_at o.z)) g.points)
  side_count = go (withinb (map (corner [] c) (corners_at o.z)) g.points) refl
    where
      below : All (λ m. m < 4) (corners_at o.z)
      below = let w = three_at o.z o.face in rw w.is (omega (arith, w.ab, w.bc, w.c4))

      go : (b : Bool) → withinb (map (corner [] c) (corners_at o.z)) g.points ≡ b
          → count_digits (map (point c) f) (point g) (family q) ≡ 1 * one_if (withinb (map (corner [] c) (corners_at o.z)) g.points)
      go true e =
          let w = three_at o.z o.face in
          let a : All (Shares c g) (w.a ∷ w.b ∷ w.c ∷ []) = rw w.is at
          (within_shares c g s.four (corners_at o.z) below (rw e tt)) in
          side_there w.a w.b w.c w.ab w.bc w.c4 w.is a.0 a.1.0 a.1.1.0
          ∙ sym (one_times 1 (withinb (map (corner [] c) (corners_at o.z)) g.points) (rw e tt))
      go false e =
          let no' : T (withinb (map (corner [] c) (corners_at o.z)) g.points) → ⊥ = (λ t. rw e at t) in
          no_child n k c g h r s es p q hp hq rp rq f (side_small (family p) f o) (corners_at o.z) below o.uses no'
          ∙ sym (none_times 1 (withinb (map (corner [] c) (corners_at o.z)) g.points) no')
