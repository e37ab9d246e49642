-- The coarse boundary: a triangle on a cell's face lies on it exactly where the face does, and one inside a cell does not.
--   Wide c   the corners of c do not lie on one coarse face
-- Laws: off_mid, off_point (a midpoint lies where its ends do), off_used (the corners that points use lie where these do), side_off,
-- side_bound (a triangle on a face), any_same (two tests alike), bound_three (a boundary face has three corners), wide_child,
-- inside_bound (a triangle inside).
use Rattle.std.specs.Prelude.{◌≡◌, refl, Bool, true, false, ◌&&◌, ◌||◌, ℕ, suc, ◌+◌, ◌*◌, ◌-◌, ◌/◌, ◌<◌, ◌≤◌, eqb, get_or}
use Rattle.std.proofs.Math.Path.{sym}
use Rattle.std.proofs.Common.{◌∙◌, ap, ap₂, subst, ⊎_elim, arith, eqb→eq, eq-eqb}
use mathlib.Core.List.{List, [], ◌∷◌, map, flat_map}
use Rattle.std.proofs.Math.Nat.{suc_inj}
use Rattle.std.proofs.Math.Dec.{T}
use Rattle.std.proofs.Math.ListN.{length}
use Rattle.base.specs.Lists.{allb, anyb, allb_at, memberb}
use Rattle.base.specs.Bools.{and_left, and_right, or_either, and_both, same_test, false_from}
use Rattle.base.specs.Fours.{faces}
use Rattle.cutting.specs.Rule.{low, high, digit}
use Rattle.mesh.specs.Cells.{Cell, corner}
use Rattle.mesh.specs.Weights.{Point, point, mid}
use Rattle.base.specs.Every.{All, all_at, all_of, below_at, all_pass, any_place, all_each}
use Rattle.families.specs.Kuhn.{digit_ends}
use Rattle.lattice.specs.Tails.{tail_sum}
use Rattle.lattice.specs.Regular.{unit, unit_half, Regular}
use Rattle.base.specs.Each.{all_filter, all_through}
use Rattle.conformity.specs.Leaves.{offb, on_coarse_faceb, on_boundaryb, boundary_faces}
use Rattle.families.specs.Digits.{corners_at, lift, digit_triples, usesb}
use Rattle.families.specs.FaceKinds.{OnSide}
use Rattle.conformity.specs.Shared.{Below10, digit_of}
use Rattle.conformity.specs.Sides.{three_at, triple_small, side_small}

-- a midpoint's weight is 0 where its ends' weights are
half_zero : (a b x y : ℕ) → a ≡ 2 * x → b ≡ 2 * y → eqb ((a + b) / 2) 0 ≡ (eqb a 0 && eqb b 0)
half_zero a b x y e f =
    same_test (eqb ((a + b) / 2) 0) (eqb a 0 && eqb b 0)
    (λ t. let w : (a + b) / 2 ≡ 0 = eqb→eq ((a + b) / 2) 0 t in
    let a0 : a ≡ 0 = omega arith in
    let b0 : b ≡ 0 = omega arith in
    rw (eq-eqb a 0 a0, eq-eqb b 0 b0) tt)
    (λ t. let a0 : a ≡ 0 = eqb→eq a 0 (and_left (eqb a 0) (eqb b 0) t) in
    let b0 : b ≡ 0 = eqb→eq b 0 (and_right (eqb a 0) (eqb b 0) t) in
    let w : (a + b) / 2 ≡ 0 = omega arith in
    rw (eq-eqb ((a + b) / 2) 0 w) tt)

regroup : (a b m p q : Bool) → (((a && b) || m) && (p && q)) ≡ (((a || m) && p) && ((b || m) && q))
regroup a b true p q = go a b p q
  where
    go : (a b p q : Bool) → (((a && b) || true) && (p && q)) ≡ (((a || true) && p) && ((b || true) && q))
    go true true p q = refl
    go true false p q = refl
    go false true p q = refl
    go false false p q = refl
regroup true true false p q = refl
regroup true false false true q = refl
regroup true false false false q = refl
regroup false b false p q = refl

off_mid : (i : ℕ) (p q : Point) (t : List ℕ) (x y : ℕ → ℕ) → length p ≡ length q → ((j : ℕ) → tail_sum p j ≡ 2 * x j)
    → ((j : ℕ) → tail_sum q j ≡ 2 * y j)
    → offb i (mid p q) t ≡ (offb i p t && offb i q t)
unfolding offb mid
off_mid i [] [] t x y e f g = refl
off_mid i [] (b ∷ q) t x y e f g = absurd (omega arith)
off_mid i (a ∷ p) [] t x y e f g = absurd (omega arith)
off_mid i (a ∷ p) (b ∷ q) t x y e f g =
    let ha : a ≡ 2 * (x 0 - x 1) = omega (arith, f 0, f 1) in
    let hb : b ≡ 2 * (y 0 - y 1) = omega (arith, g 0, g 1) in
    ap₂ (λ (z w : Bool). (z || memberb i t) && w) (half_zero a b (x 0 - x 1) (y 0 - y 1) ha hb)
    (off_mid (suc i) p q t (λ j. x (suc j)) (λ j. y (suc j)) (suc_inj e) (λ j. f (suc j)) (λ j. g (suc j)))
    ∙ regroup (eqb a 0) (eqb b 0) (memberb i t) (offb (suc i) p t) (offb (suc i) q t)

module _ (n k : ℕ) (c : Cell Point) (h : k < 10) (r : Regular n k c) (t : List ℕ) where
  even : (i : ℕ) → i < 4 → (j : ℕ) → tail_sum (corner [] c i) j ≡ 2 * (r.coordinates i j * unit (suc k))
  even i l j = r.tails i l j ∙ rw (unit_half k h) (omega arith)

  off_point : (x : ℕ) → x < 10 → offb 0 (point c x) t ≡ (offb 0 (corner [] c (low x)) t && offb 0 (corner [] c (high x)) t)
  unfolding point
  off_point x hx =
      let (a, b) = digit_ends x hx in
      off_mid 0 (corner [] c (low x)) (corner [] c (high x)) t (λ j. r.coordinates (low x) j * unit (suc k))
      (λ j. r.coordinates (high x) j * unit (suc k))
      ((r.sized (low x) (omega arith)).places ∙ sym (r.sized (high x) b).places) (even (low x) (omega arith)) (even (high x) b)

  -- the corners that some points use lie where the points do
  off_used : (f : List ℕ) → Below10 f → T (allb (λ p. offb 0 p t) (map (point c) f)) → (m : ℕ) → T (usesb f m)
      → T (offb 0 (corner [] c m) t)
  off_used f a w m u =
      let w' : T (allb (λ x. offb 0 (point c x) t) f) = rw (all_through (point c) (λ p. offb 0 p t) f) at w in
      let (i, hi, v) = any_place (λ x. eqb (low x) m || eqb (high x) m) 0 f u in
      let x = get_or f i 0 in
      let hx : x < 10 = all_at (λ x. x < 10) 0 f a i hi in
      let o : T (offb 0 (corner [] c (low x)) t && offb 0 (corner [] c (high x)) t) = rw (off_point x hx) at
      (allb_at (λ x. offb 0 (point c x) t) 0 f w' i hi) in
      ⊎_elim (λ (d : T (eqb (low x) m)). let e : low x ≡ m = eqb→eq (low x) m d in rw e at
      (and_left (offb 0 (corner [] c (low x)) t) (offb 0 (corner [] c (high x)) t) o))
      (λ (d : T (eqb (high x) m)). let e : high x ≡ m = eqb→eq (high x) m d in rw e at
      (and_right (offb 0 (corner [] c (low x)) t) (offb 0 (corner [] c (high x)) t) o))
      (or_either (eqb (low x) m) (eqb (high x) m) v)

  module _ (z0 z1 z2 : ℕ) (z01 : z0 < z1) (z12 : z1 < z2) (z4 : z2 < 4) (o0 : T (offb 0 (corner [] c z0) t))
      (o1 : T (offb 0 (corner [] c z1) t)) (o2 : T (offb 0 (corner [] c z2) t)) where
    off_digit : (a b : ℕ) → a ≤ b → b < 4 → T (offb 0 (corner [] c a) t) → T (offb 0 (corner [] c b) t) → T (offb 0 (point c (digit a b)) t)
    off_digit a b h l oa ob =
        let (e0, e1, d) = digit_of a b h l in
        rw (off_point (digit a b) d, e0, e1) (and_both (offb 0 (corner [] c a) t) (offb 0 (corner [] c b) t) oa ob)

    off_lift : (k : ℕ) → k < 6 → T (offb 0 (point c (lift (z0 ∷ z1 ∷ z2 ∷ []) k)) t)
    off_lift =
        below_at (λ k. T (offb 0 (point c (lift (z0 ∷ z1 ∷ z2 ∷ []) k)) t)) 6 (
          (
            (
              (
                ((tt, off_digit z0 z0 (omega arith) (omega arith) o0 o0), off_digit z0 z1 (omega arith) (omega arith) o0 o1),
                off_digit z0 z2
                    (omega arith) z4 o0 o2,
              ),
              off_digit z1 z1 (omega arith) (omega arith) o1 o1,
            ),
            off_digit z1 z2 (omega arith) z4 o1 o2,
          ),
          off_digit z2 z2 (omega arith) z4 o2 o2,
        )

    off_lifts : (s : List ℕ) → All (λ k. k < 6) s → T (allb (λ p. offb 0 p t) (map (point c) (map (lift (z0 ∷ z1 ∷ z2 ∷ [])) s)))
    unfolding allb
    off_lifts [] a = tt
    off_lifts (k ∷ s) a =
        and_both (offb 0 (point c (lift (z0 ∷ z1 ∷ z2 ∷ []) k)) t)
        (allb (λ p. offb 0 p t) (map (point c) (map (lift (z0 ∷ z1 ∷ z2 ∷ [])) s)))
        (off_lift k a.0) (off_lifts s a.1)

  side_off : (ds : List (List ℕ)) (f : List ℕ) → (w : OnSide ds f) → on_coarse_faceb (map (point c) f) t ≡ on_coarse_faceb
      (map (corner [] c) (corners_at w.z)) t
  unfolding on_coarse_faceb
  side_off ds f w =
      same_test (allb (λ p. offb 0 p t) (map (point c) f)) (allb (λ p. offb 0 p t) (map (corner [] c) (corners_at w.z))) there back
    where
      there : T (allb (λ p. offb 0 p t) (map (point c) f)) → T (allb (λ p. offb 0 p t) (map (corner [] c) (corners_at w.z)))
      there u =
          rw (all_through (corner [] c) (λ p. offb 0 p t) (corners_at w.z))
          (all_pass (λ m. T (usesb f m)) (λ m. offb 0 (corner [] c m) t) (λ m v. off_used f (side_small ds f w) u m v)
          (corners_at w.z) (all_of (λ m. T (usesb f m)) (usesb f) (λ m t. t) (corners_at w.z) w.uses))

      back : T (allb (λ p. offb 0 p t) (map (corner [] c) (corners_at w.z))) → T (allb (λ p. offb 0 p t) (map (point c) f))
      back u =
          let v = three_at w.z w.face in
          let u' : T (allb (λ m. offb 0 (corner [] c m) t) (corners_at w.z)) = rw
          (all_through (corner [] c) (λ p. offb 0 p t) (corners_at w.z)) at u in
          let a : All (λ m. T (offb 0 (corner [] c m) t)) (v.a ∷ v.b ∷ v.c ∷ []) = rw v.is at
          (all_of (λ m. T (offb 0 (corner [] c m) t)) (λ m. offb 0 (corner [] c m) t) (λ m t. t) (corners_at w.z) u') in
          let tr = get_or digit_triples w.t [] in
          let e : f ≡ map (lift (v.a ∷ v.b ∷ v.c ∷ [])) tr = w.is ∙ ap (λ (z : List ℕ). map (lift z) tr) v.is in
          subst (λ (f : List ℕ). T (allb (λ p. offb 0 p t) (map (point c) f))) (sym e)
          (off_lifts v.a v.b v.c v.ab v.bc v.c4 a.0 a.1.0 a.1.1.0 tr (triple_small w.t w.below))

any_same : {A : Type 0} (f g : A → Bool) (l : List A) → ((x : A) → f x ≡ g x) → anyb f l ≡ anyb g l
unfolding anyb
any_same f g [] e = refl
any_same f g (x ∷ l) e = ap₂ ◌||◌ (e x) (any_same f g l e)

pub side_bound : (n k : ℕ) (c : Cell Point) → k < 10 → Regular n k c → (qs : List (List ℕ)) (ds : List (List ℕ)) (f : List ℕ)
    → (w : OnSide ds f)
    → on_boundaryb qs (map (point c) f) ≡ on_boundaryb qs (map (corner [] c) (corners_at w.z))
unfolding on_boundaryb
side_bound n k c h r qs ds f w =
    any_same (on_coarse_faceb (map (point c) f)) (on_coarse_faceb (map (corner [] c) (corners_at w.z))) (boundary_faces qs)
    (λ t. side_off n k c h r t ds f w)

-- the faces of the boundary have three corners
faces_three : (qs : List (List ℕ)) → All (λ t. length t ≡ 3) (flat_map faces qs)
unfolding flat_map faces
faces_three [] = tt
faces_three (q ∷ qs) = (refl, (refl, (refl, (refl, faces_three qs))))

bound_three : (qs : List (List ℕ)) → All (λ t. length t ≡ 3) (boundary_faces qs)
unfolding boundary_faces
bound_three qs = all_filter _ (λ t. length t ≡ 3) (flat_map faces qs) (faces_three qs)

-- inside
abbrev pub Wide : Cell Point → Type 0
Wide c = (t : List ℕ) → length t ≡ 3 → T (allb (λ p. offb 0 p t) c.points) → ⊥

module _ (n k : ℕ) (c : Cell Point) (h : k < 10) (r : Regular n k c) (wide : Wide c) (f : List ℕ) (small : Below10 f)
    (uses : (m : ℕ) → m < 4 → T (usesb f m)) where
  wide_points : (t : List ℕ) → length t ≡ 3 → T (allb (λ p. offb 0 p t) (map (point c) f)) → ⊥
  wide_points t e w = wide t e (all_each (λ p. offb 0 p t) [] c.points
      (λ i hi. let hi' : i < 4 = omega (arith, r.four) in off_used n k c h r t f small w i (uses i hi')))

  pub wide_child : (v : Cell Point) → v.points ≡ map (point c) f → Wide v
  wide_child v e t l w = wide_points t l (rw e at w)

  pub inside_bound : (qs : List (List ℕ)) → on_boundaryb qs (map (point c) f) ≡ false
  unfolding on_boundaryb on_coarse_faceb
  inside_bound qs =
      false_from (anyb (on_coarse_faceb (map (point c) f)) (boundary_faces qs)) (λ t.
      let (i, hi, w) = any_place (on_coarse_faceb (map (point c) f)) [] (boundary_faces qs) t in
      (wide_points (get_or (boundary_faces qs) i []) (all_at (λ t. length t ≡ 3) [] (boundary_faces qs) (bound_three qs) i hi) w))
