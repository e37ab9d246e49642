-- A cell has a face exactly where it has its three corners.
--   Apart c   c has four different corners
-- Laws: face_at_lem (the two names of a cell's face), has_within.
use Rattle.std.specs.Prelude.{◌≡◌, refl, ◌≢◌, Bool, ◌&&◌, not, eqb, ltb}
use Rattle.std.proofs.Math.Path.{sym, ap, ap₂, subst}
use Rattle.std.proofs.Common.{◌∙◌, arith, ltb→lt, ne_eqb}
use mathlib.Core.List.{List, [], ◌∷◌, map}
use Prim.Native.Nat.{ℕ, ◌+◌, ◌-◌, ◌<◌}
use Rattle.std.proofs.Math.Dec.{T}
use Rattle.std.proofs.Math.ListN.{length, get_or}
use Rattle.std.proofs.lemmas.List.{length-map}
use Rattle.base.specs.Lists.{allb, belowb, belowb_at, memberb, member_place}
use Rattle.base.specs.Bools.{impb, impb_use, and_left, and_right, and_both, same_test}
use Rattle.mesh.specs.Cells.{Cell, corner}
use Rattle.mesh.specs.Weights.{Point}
use Rattle.base.specs.Every.{All, all_at, all_of, below_at, get_d_map, all_pass, any_place, any_at}
use Rattle.base.specs.Each.{all_through}
use Rattle.carriers.specs.Carrier.{Shares}
use Rattle.conformity.specs.Leaves.{face_at, same_faceb, has_faceb}
use Rattle.families.specs.Digits.{corners_at}
use Rattle.conformity.specs.Having.{inb, withinb, in_at, in_from}
use Rattle.conformity.specs.Shared.{within_shares}
use Rattle.conformity.specs.Sides.{three_at}
use Rattle.conformity.specs.Meeting.{face_of, corners_below, others_are}

pub record Apart (c : Cell Point) : Type 0 where
  pub four : length c.points ≡ 4
  pub differ : (a b : ℕ) → a < b → b < 4 → corner [] c a ≢ corner [] c b

pub face_at_lem : (c : Cell Point) (i : ℕ) → i < 4 → face_at c i ≡ face_of c i
unfolding face_at
face_at_lem c i h = ap (map (corner [] c)) (sym (others_are i h))

-- the corner that three others leave out
abbrev restb : ℕ → ℕ → ℕ → Bool
restb x y z =
    impb (not (eqb x y) && (not (eqb x z) && not (eqb y z)))
    (ltb (6 - (x + y + z)) 4 && (allb (λ m. memberb m (x ∷ y ∷ z ∷ [])) (corners_at (6 - (x + y + z))) && allb
    (λ m. memberb m (corners_at (6 - (x + y + z)))) (x ∷ y ∷ z ∷ [])))

rest_test : T (belowb (λ x. belowb (λ y. belowb (λ z. restb x y z) 4) 4) 4)
unfolding belowb impb allb memberb
rest_test = tt

record Rest (x y z : ℕ) : Type 0 where
  m : ℕ
  below : m < 4
  there : T (allb (λ i. memberb i (x ∷ y ∷ z ∷ [])) (corners_at m))
  back : T (allb (λ i. memberb i (corners_at m)) (x ∷ y ∷ z ∷ []))

rest_of : (x y z : ℕ) → x < 4 → y < 4 → z < 4 → x ≢ y → x ≢ z → y ≢ z → Rest x y z
rest_of x y z hx hy hz xy xz yz =
    let m = 6 - (x + y + z) in
    let w : T (restb x y z) = belowb_at (λ z. restb x y z) 4
    (belowb_at (λ y. belowb (λ z. restb x y z) 4) 4 (belowb_at (λ x. belowb (λ y. belowb (λ z. restb x y z) 4) 4) 4 rest_test x hx) y
    hy) z hz in
    parts m (impb_use (not (eqb x y) && (not (eqb x z) && not (eqb y z)))
    (ltb m 4 && (allb (λ i. memberb i (x ∷ y ∷ z ∷ [])) (corners_at m) && allb (λ i. memberb i (corners_at m)) (x ∷ y ∷ z ∷ []))) w
    (rw (ne_eqb x y xy, ne_eqb x z xz, ne_eqb y z yz) tt))
  where
    parts : (m : ℕ) → T (ltb m 4 && (allb (λ i. memberb i (x ∷ y ∷ z ∷ [])) (corners_at m) && allb (λ i. memberb i (corners_at m))
        (x ∷ y ∷ z ∷ []))) → Rest x y z
    parts m t =
        let p = allb (λ i. memberb i (x ∷ y ∷ z ∷ [])) (corners_at m) in
        let q = allb (λ i. memberb i (corners_at m)) (x ∷ y ∷ z ∷ []) in
        let u = and_right (ltb m 4) (p && q) t in
        record { m = m; below = ltb→lt m 4 (and_left (ltb m 4) (p && q) t); there = and_left p q u; back = and_right p q u }

-- lists of corners, by their numbers
among : (c : Cell Point) (l k : List ℕ) → T (allb (λ i. memberb i k) l) → T (withinb (map (corner [] c) l) (map (corner [] c) k))
among c l k t =
    rw (all_through (corner [] c) (λ p. inb p (map (corner [] c) k)) l)
    (all_pass (λ i. T (memberb i k)) (λ i. inb (corner [] c i) (map (corner [] c) k)) (λ i u.
    let (j, hj, e) = member_place i k u in
    in_from (corner [] c i) (map (corner [] c) k) j (rw (length-map k (corner [] c)) hj)
    (ap (corner [] c) (sym e) ∙ sym (get_d_map (corner [] c) k j 0 [] hj)))
    l (all_of (λ i. T (memberb i k)) (λ i. memberb i k) (λ i t. t) l t))

module _ (o c : Cell Point) (a : Apart o) (b : Apart c) (i : ℕ) (hi : i < 4) where
  has_there : T (has_faceb (face_of o i) c) → T (withinb (face_of o i) c.points)
  unfolding has_faceb same_faceb
  has_there t =
      let (m, hm, u) = any_place (λ i'. same_faceb (face_of o i) (face_at c i')) 0 (0 ∷ 1 ∷ 2 ∷ 3 ∷ []) t in
      let k : ℕ = get_or (0 ∷ 1 ∷ 2 ∷ 3 ∷ []) m 0 in
      let m4 : k < 4 = below_at (λ m. get_or (0 ∷ 1 ∷ 2 ∷ 3 ∷ []) m 0 < 4) 4 (omega arith) m hm in
      let v : T (withinb (face_of o i) (face_at c k)) = and_left (withinb (face_of o i) (face_at c k)) (withinb (face_at c k) (face_of o i)) u in
      let v' : T (withinb (face_of o i) (face_of c k)) = subst (λ (f : List Point). T (withinb (face_of o i) f)) (face_at_lem c k m4) v in
      all_pass (λ p. T (inb p (face_of c k))) (λ p. inb p c.points) (λ p w.
      let (j, hj, e) = in_at p (face_of c k) w in
      let hj' : j < length (corners_at k) = rw (length-map (corners_at k) (corner [] c)) at hj in
      let e' : p ≡ corner [] c (get_or (corners_at k) j 0) = e ∙ get_d_map (corner [] c) (corners_at k) j 0 [] hj' in
      in_from p c.points (get_or (corners_at k) j 0)
      (omega (arith, all_at (λ m. m < 4) 0 (corners_at k) (corners_below k m4) j hj', b.four)) e')
      (face_of o i) (all_of (λ p. T (inb p (face_of c k))) (λ p. inb p (face_of c k)) (λ p t. t) (face_of o i) v')

  has_back : T (withinb (face_of o i) c.points) → T (has_faceb (face_of o i) c)
  unfolding has_faceb same_faceb
  has_back t =
      let w = three_at i hi in
      let s : All (Shares o c) (w.a ∷ w.b ∷ w.c ∷ []) = rw w.is at
      (within_shares o c b.four (corners_at i) (corners_below i hi) t) in
      let (x, _, hx, ex) = s.0 in
      let (y, _, hy, ey) = s.1.0 in
      let (z, _, hz, ez) = s.1.1.0 in
      let r : Rest x y z = rest_of x y z hx hy hz
      (λ e. a.differ w.a w.b w.ab (omega (arith, w.bc, w.c4)) (ex ∙ ap (corner [] c) e ∙ sym ey))
      (λ e. a.differ w.a w.c (omega (arith, w.ab, w.bc)) w.c4 (ex ∙ ap (corner [] c) e ∙ sym ez))
      (λ e. a.differ w.b w.c w.bc w.c4 (ey ∙ ap (corner [] c) e ∙ sym ez)) in
      let f : face_of o i ≡ map (corner [] c) (x ∷ y ∷ z ∷ []) = ap (map (corner [] o)) w.is
      ∙ ap₂ ◌∷◌ ex (ap₂ ◌∷◌ ey (ap₂ ◌∷◌ ez refl)) in
      let m = r.m in
      let g : get_or (0 ∷ 1 ∷ 2 ∷ 3 ∷ []) m 0 ≡ m = below_at (λ m. get_or (0 ∷ 1 ∷ 2 ∷ 3 ∷ []) m 0 ≡ m) 4 (omega arith) m r.below in
      any_at (λ i'. same_faceb (face_of o i) (face_at c i')) 0 (0 ∷ 1 ∷ 2 ∷ 3 ∷ []) m r.below
      (rw (g, face_at_lem c m r.below, f)
      (and_both (withinb (map (corner [] c) (x ∷ y ∷ z ∷ [])) (face_of c m)) (withinb (face_of c m) (map (corner [] c) (x ∷ y ∷ z ∷ [])))
      (among c (x ∷ y ∷ z ∷ []) (corners_at m) r.back) (among c (corners_at m) (x ∷ y ∷ z ∷ []) r.there)))

  pub has_within : has_faceb (face_of o i) c ≡ withinb (face_of o i) c.points
  has_within = same_test (has_faceb (face_of o i) c) (withinb (face_of o i) c.points) has_there has_back
