-- Rising lists of corner numbers: coarse cells and their faces.
--   Rise n q    q is four numbers below n, rising
--   Rise3 t     t is three numbers, rising
-- Laws: rise_all (the cells of a mesh), place_rise (places rise with the numbers), faces_at, faces_four (the faces of a cell), within_four,
-- within_face, within_three (a rising list that stands in another), face_rise, faces_rise (the faces of rising cells rise), four_in_three
-- (four different numbers do not stand among three).
use Rattle.std.specs.Prelude.{◌≡◌, refl, Bool, true, ◌&&◌, ℕ, suc, ◌<◌, ◌≤◌, T, length, get_or}
use Rattle.std.proofs.Common.{sym, ◌∙◌, ap, ap₂, subst, arith, ltb→lt}
use mathlib.Core.List.{List, [], ◌∷◌, map, flat_map}
use Rattle.std.proofs.Math.Decide.{dec_lt}
use Rattle.base.specs.Lists.{allb, anyb, allb_at, memberb, sameb, sameb_eq, member_at, member_place}
use Rattle.base.specs.Bools.{and_left, and_right, and_both, same_test}
use Rattle.base.specs.Fours.{faces}
use Rattle.base.specs.Places.{sameb_self}
use Rattle.mesh.specs.Coarse.{cellb, cellsb}
use Rattle.base.specs.Every.{Below, below_at, All, any_place, any_at, all_each}
use Rattle.families.specs.Digits.{corners_at}
use Rattle.conformity.specs.Sides.{three_at, face_of_lem}
use Rattle.conformity.specs.Having.{four_elements}

pub record Rise (n : ℕ) (q : List ℕ) : Type 0 where
  pub a : ℕ
  pub b : ℕ
  pub c : ℕ
  pub d : ℕ
  pub is : q ≡ a ∷ b ∷ c ∷ d ∷ []
  pub ab : a < b
  pub bc : b < c
  pub cd : c < d
  pub dn : d < n

pub record Rise3 (t : List ℕ) : Type 0 where
  pub x : ℕ
  pub y : ℕ
  pub z : ℕ
  pub is : t ≡ x ∷ y ∷ z ∷ []
  pub xy : x < y
  pub yz : y < z

record Up (n : ℕ) (q : List ℕ) : Type 0 where
  ab : get_or q 0 0 < get_or q 1 0
  bc : get_or q 1 0 < get_or q 2 0
  cd : get_or q 2 0 < get_or q 3 0
  dn : get_or q 3 0 < n

up_of : (n : ℕ) (q : List ℕ) → T (cellb n q) → Up n q
unfolding cellb
up_of n q t = search (and_left, and_right, ltb→lt)

pub rise_all : (n : ℕ) (qs : List (List ℕ)) → All (λ q. length q ≡ 4) qs → T (cellsb n qs) → All (Rise n) qs
unfolding cellsb allb
rise_all n [] e t = tt
rise_all n (q ∷ qs) e t =
    let u = up_of n q (and_left (cellb n q) (allb (cellb n) qs) t) in (
      record {
        a = get_or q 0 0;
        b = get_or q 1 0;
        c = get_or q 2 0;
        d = get_or q 3 0;
        is = four_elements 0 q e.0;
        ab = u.ab;
        bc = u.bc;
        cd =
            u.cd;
        dn = u.dn;
      },
      rise_all n qs e.1 (and_right (cellb n q) (allb (cellb n) qs) t),
    )

-- places rise with the numbers
module _ (a b c d : ℕ) (ab : a < b) (bc : b < c) (cd : c < d) where
  rise_mono : (j : ℕ) → j < 4 → (i : ℕ) → i < 4 → i ≤ j → get_or (a ∷ b ∷ c ∷ d ∷ []) i 0 ≤ get_or (a ∷ b ∷ c ∷ d ∷ []) j 0
  rise_mono j hj i hi =
      below_at (λ i. i ≤ j → get_or (a ∷ b ∷ c ∷ d ∷ []) i 0 ≤ get_or (a ∷ b ∷ c ∷ d ∷ []) j 0) 4
      (below_at (λ j. Below (λ i. i ≤ j → get_or (a ∷ b ∷ c ∷ d ∷ []) i 0 ≤ get_or (a ∷ b ∷ c ∷ d ∷ []) j 0) 4) 4 (omega arith) j hj) i hi

  place_rise : (x y i j : ℕ) → x < y → i < 4 → j < 4 → get_or (a ∷ b ∷ c ∷ d ∷ []) i 0 ≡ x → get_or (a ∷ b ∷ c ∷ d ∷ []) j 0 ≡ y → i < j
  place_rise x y i j h hi hj e f = elim (dec_lt i j) [ yes l ↦ l | no l ↦ absurd (omega (arith, rise_mono i hi j hj (omega arith))) ]

pub faces_at : (q : List ℕ) (m : ℕ) → m < 4 → get_or (faces q) m [] ≡ map (λ i. get_or q i 0) (corners_at m)
unfolding faces
faces_at q = below_at (λ m. get_or (faces q) m [] ≡ map (λ i. get_or q i 0) (corners_at m)) 4 ((((tt, refl), refl), refl), refl)

pub faces_four : (q : List ℕ) → length (faces q) ≡ 4
unfolding faces
faces_four q = refl

-- a rising list that stands in another
module _ (x y z : ℕ) (xy : x < y) (yz : y < z) (a b c d : ℕ) (ab : a < b) (bc : b < c) (cd : c < d) where
  face_there : T (allb (λ e. memberb e (a ∷ b ∷ c ∷ d ∷ [])) (x ∷ y ∷ z ∷ []))
      → T (anyb (sameb (x ∷ y ∷ z ∷ [])) (faces (a ∷ b ∷ c ∷ d ∷ [])))
  face_there t =
      let q = a ∷ b ∷ c ∷ d ∷ [] in
      let m : (k : ℕ) → k < 3 → T (memberb (get_or (x ∷ y ∷ z ∷ []) k 0) (a ∷ b ∷ c ∷ d ∷ [])) =
      (λ k h. allb_at (λ e. memberb e (a ∷ b ∷ c ∷ d ∷ [])) 0 (x ∷ y ∷ z ∷ []) t k h) in
      let (i, hi, ex) = member_place x (a ∷ b ∷ c ∷ d ∷ []) (m 0 (omega arith)) in
      let (j, hj, ey) = member_place y (a ∷ b ∷ c ∷ d ∷ []) (m 1 (omega arith)) in
      let (k, hk, ez) = member_place z (a ∷ b ∷ c ∷ d ∷ []) (m 2 (omega arith)) in
      let ij = place_rise a b c d ab bc cd x y i j xy hi hj ex ey in
      let jk = place_rise a b c d ab bc cd y z j k yz hj hk ey ez in
      let (f, hf, ef) = face_of_lem i j k ij jk hk in
      let e : get_or (faces (a ∷ b ∷ c ∷ d ∷ [])) f [] ≡ x ∷ y ∷ z ∷ [] =
      faces_at (a ∷ b ∷ c ∷ d ∷ []) f hf ∙ ap (map (λ i. get_or (a ∷ b ∷ c ∷ d ∷ []) i 0)) ef ∙ ap₂ ◌∷◌ ex (ap₂ ◌∷◌ ey (ap₂ ◌∷◌ ez refl)) in
      any_at (sameb (x ∷ y ∷ z ∷ [])) [] (faces (a ∷ b ∷ c ∷ d ∷ [])) f (omega (arith, faces_four (a ∷ b ∷ c ∷ d ∷ [])))
      (rw (e, sameb_self (x ∷ y ∷ z ∷ [])) tt)

all_three : (f : ℕ → Bool) (x y z : ℕ) → T (f x) → T (f y) → T (f z) → T (allb f (x ∷ y ∷ z ∷ []))
unfolding allb
all_three f x y z a b c = and_both (f x) (f y && (f z && true)) a (and_both (f y) (f z && true) b (and_both (f z) true c tt))

corner_member : (a b c d m : ℕ) → m < 4
    → T (allb (λ e. memberb e (a ∷ b ∷ c ∷ d ∷ [])) (map (λ i. get_or (a ∷ b ∷ c ∷ d ∷ []) i 0) (corners_at m)))
corner_member a b c d m hm =
    let w = three_at m hm in
    rw w.is (all_three (λ e. memberb e (a ∷ b ∷ c ∷ d ∷ [])) (get_or (a ∷ b ∷ c ∷ d ∷ []) w.a 0) (get_or (a ∷ b ∷ c ∷ d ∷ []) w.b 0)
    (get_or (a ∷ b ∷ c ∷ d ∷ []) w.c 0)
    (at w.a (omega (arith, w.ab, w.bc, w.c4))) (at w.b (omega (arith, w.bc, w.c4))) (at w.c w.c4))
  where
    at : (i : ℕ) → i < 4 → T (memberb (get_or (a ∷ b ∷ c ∷ d ∷ []) i 0) (a ∷ b ∷ c ∷ d ∷ []))
    at i h = member_at (a ∷ b ∷ c ∷ d ∷ []) i h

pub within_face : (n : ℕ) (t q : List ℕ) → Rise3 t → Rise n q → allb (λ e. memberb e q) t ≡ anyb (sameb t) (faces q)
within_face n t q s r =
    rw (s.is, r.is) (same_test (allb (λ e. memberb e (r.a ∷ r.b ∷ r.c ∷ r.d ∷ [])) (s.x ∷ s.y ∷ s.z ∷ []))
    (anyb (sameb (s.x ∷ s.y ∷ s.z ∷ [])) (faces (r.a ∷ r.b ∷ r.c ∷ r.d ∷ [])))
    (face_there s.x s.y s.z s.xy s.yz r.a r.b r.c r.d r.ab r.bc r.cd)
    (back (s.x ∷ s.y ∷ s.z ∷ []) r.a r.b r.c r.d))
  where
    back : (t : List ℕ) (a b c d : ℕ) → T (anyb (sameb t) (faces (a ∷ b ∷ c ∷ d ∷ []))) → T (allb (λ e. memberb e (a ∷ b ∷ c ∷ d ∷ [])) t)
    back t a b c d u =
        let (m, hm, v) = any_place (sameb t) [] (faces (a ∷ b ∷ c ∷ d ∷ [])) u in
        let hm' : m < 4 = omega (arith, faces_four (a ∷ b ∷ c ∷ d ∷ [])) in
        let e : t ≡ map (λ i. get_or (a ∷ b ∷ c ∷ d ∷ []) i 0) (corners_at m) = sameb_eq t (get_or (faces (a ∷ b ∷ c ∷ d ∷ [])) m []) v
        ∙ faces_at (a ∷ b ∷ c ∷ d ∷ []) m hm' in
        subst (λ (t : List ℕ). T (allb (λ e. memberb e (a ∷ b ∷ c ∷ d ∷ [])) t)) (sym e) (corner_member a b c d m hm')

pub within_four : (n : ℕ) (p q : List ℕ) → Rise n p → Rise n q → allb (λ e. memberb e q) p ≡ sameb p q
within_four n p q s r =
    rw (s.is, r.is) (same_test (allb (λ e. memberb e (r.a ∷ r.b ∷ r.c ∷ r.d ∷ [])) (s.a ∷ s.b ∷ s.c ∷ s.d ∷ []))
    (sameb (s.a ∷ s.b ∷ s.c ∷ s.d ∷ []) (r.a ∷ r.b ∷ r.c ∷ r.d ∷ []))
    (λ t. there s.a s.b s.c s.d s.ab s.bc s.cd r.a r.b r.c r.d r.ab r.bc r.cd t)
    (λ t. back (s.a ∷ s.b ∷ s.c ∷ s.d ∷ []) (r.a ∷ r.b ∷ r.c ∷ r.d ∷ []) t))
  where
    there : (x y z w : ℕ) → x < y → y < z → z < w → (a b c d : ℕ) → a < b → b < c → c < d
        → T (allb (λ e. memberb e (a ∷ b ∷ c ∷ d ∷ [])) (x ∷ y ∷ z ∷ w ∷ [])) → T (sameb (x ∷ y ∷ z ∷ w ∷ []) (a ∷ b ∷ c ∷ d ∷ []))
    there x y z w xy yz zw a b c d ab bc cd t =
        let m : (k : ℕ) → k < 4 → T (memberb (get_or (x ∷ y ∷ z ∷ w ∷ []) k 0) (a ∷ b ∷ c ∷ d ∷ [])) =
        (λ k h. allb_at (λ e. memberb e (a ∷ b ∷ c ∷ d ∷ [])) 0 (x ∷ y ∷ z ∷ w ∷ []) t k h) in
        let (i, hi, ex) = member_place x (a ∷ b ∷ c ∷ d ∷ []) (m 0 (omega arith)) in
        let (j, hj, ey) = member_place y (a ∷ b ∷ c ∷ d ∷ []) (m 1 (omega arith)) in
        let (k, hk, ez) = member_place z (a ∷ b ∷ c ∷ d ∷ []) (m 2 (omega arith)) in
        let (l, hl, ew) = member_place w (a ∷ b ∷ c ∷ d ∷ []) (m 3 (omega arith)) in
        let ij = place_rise a b c d ab bc cd x y i j xy hi hj ex ey in
        let jk = place_rise a b c d ab bc cd y z j k yz hj hk ey ez in
        let kl = place_rise a b c d ab bc cd z w k l zw hk hl ez ew in
        let pi : i ≡ 0 = omega arith in
        let pj : j ≡ 1 = omega arith in
        let pk : k ≡ 2 = omega arith in
        let pl : l ≡ 3 = omega arith in
        let x' : a ≡ x = rw pi at ex in
        let y' : b ≡ y = rw pj at ey in
        let z' : c ≡ z = rw pk at ez in
        let w' : d ≡ w = rw pl at ew in
        rw (x', y', z', w', sameb_self (x ∷ y ∷ z ∷ w ∷ [])) tt

    back : (p q : List ℕ) → T (sameb p q) → T (allb (λ e. memberb e q) p)
    back p q t = rw (sameb_eq p q t) (all_each (λ e. memberb e q) 0 q (member_at q))

-- the faces of a mesh
pub face_rise : (n : ℕ) (q : List ℕ) → Rise n q → (m : ℕ) → m < 4 → Rise3 (get_or (faces q) m [])
unfolding faces
face_rise n q r m hm =
    subst (λ (q : List ℕ). Rise3 (get_or (faces q) m [])) (sym r.is)
    (below_at (λ m. Rise3 (get_or (faces (r.a ∷ r.b ∷ r.c ∷ r.d ∷ [])) m [])) 4 (
      (
        (
          (tt, record { x = r.b; y = r.c; z = r.d; is = refl; xy = r.bc; yz = r.cd }),
          record { x = r.a; y = r.c; z = r.d; is = refl; xy = omega (arith, r.ab, r.bc); yz = r.cd },
        ),
        record { x = r.a; y = r.b; z = r.d; is = refl; xy = r.ab; yz = omega (arith, r.bc, r.cd) },
      ),
      record { x = r.a; y = r.b; z = r.c; is = refl; xy = r.ab; yz = r.bc },
    ) m hm)

pub faces_rise : (n : ℕ) (qs : List (List ℕ)) → All (Rise n) qs → All Rise3 (flat_map faces qs)
unfolding flat_map faces
faces_rise n [] a = tt
faces_rise n (q ∷ qs) a =
    let r = a.0 in (
      face_rise n q r 0 (omega arith),
      (face_rise n q r 1 (omega arith), (face_rise n q r 2 (omega arith), (face_rise n q r 3 (omega arith), faces_rise n qs a.1))),
    )

pub within_three : (t u : List ℕ) → Rise3 t → Rise3 u → T (allb (λ e. memberb e u) t) → t ≡ u
within_three t u s r w =
    s.is ∙ go s.x s.y s.z r.x r.y r.z s.xy s.yz r.xy r.yz
    (subst (λ (u : List ℕ). T (allb (λ e. memberb e u) (s.x ∷ s.y ∷ s.z ∷ []))) r.is
    (subst (λ (t : List ℕ). T (allb (λ e. memberb e u) t)) s.is w)) ∙ sym r.is
  where
    go : (x y z a b c : ℕ) → x < y → y < z → a < b → b < c → T (allb (λ e. memberb e (a ∷ b ∷ c ∷ [])) (x ∷ y ∷ z ∷ []))
        → ◌≡◌ {A = List ℕ} (x ∷ y ∷ z ∷ []) (a ∷ b ∷ c ∷ [])
    go x y z a b c xy yz ab bc t =
        let m : (k : ℕ) → k < 3 → T (memberb (get_or (x ∷ y ∷ z ∷ []) k 0) (a ∷ b ∷ c ∷ [])) =
        (λ k h. allb_at (λ e. memberb e (a ∷ b ∷ c ∷ [])) 0 (x ∷ y ∷ z ∷ []) t k h) in
        let (i, hi, ex) = member_place x (a ∷ b ∷ c ∷ []) (m 0 (omega arith)) in
        let (j, hj, ey) = member_place y (a ∷ b ∷ c ∷ []) (m 1 (omega arith)) in
        let (k, hk, ez) = member_place z (a ∷ b ∷ c ∷ []) (m 2 (omega arith)) in
        -- the same list with a number behind it
        let p : (i : ℕ) → i < 3 → get_or (a ∷ b ∷ c ∷ []) i 0 ≡ get_or (a ∷ b ∷ c ∷ suc c ∷ []) i 0 = below_at
        (λ i. get_or (a ∷ b ∷ c ∷ []) i 0 ≡ get_or (a ∷ b ∷ c ∷ suc c ∷ []) i 0) 3 (omega arith) in
        let ij = place_rise a b c (suc c) ab bc (omega arith) x y i j xy (omega arith) (omega arith) (sym (p i hi) ∙ ex)
        (sym (p j hj) ∙ ey) in
        let jk = place_rise a b c (suc c) ab bc (omega arith) y z j k yz (omega arith) (omega arith) (sym (p j hj) ∙ ey)
        (sym (p k hk) ∙ ez) in
        let pi : i ≡ 0 = omega arith in
        let pj : j ≡ 1 = omega arith in
        let pk : k ≡ 2 = omega arith in
        let x' : a ≡ x = rw pi at ex in
        let y' : b ≡ y = rw pj at ey in
        let z' : c ≡ z = rw pk at ez in
        ap₂ ◌∷◌ (sym x') (ap₂ ◌∷◌ (sym y') (ap₂ ◌∷◌ (sym z') refl))

-- four numbers do not stand among three
module _ (x y z w : ℕ) (xy : x < y) (yz : y < z) (zw : z < w) (a b c : ℕ) where
  abbrev Is : ℕ → ℕ → ℕ → ℕ → Type 0
  Is i j k l = get_or (a ∷ b ∷ c ∷ []) i 0 ≡ x → get_or (a ∷ b ∷ c ∷ []) j 0 ≡ y → get_or (a ∷ b ∷ c ∷ []) k 0 ≡ z → get_or (a ∷ b ∷ c ∷ []) l 0 ≡ w
      → ⊥

  from_first : (i : ℕ) → i < 3 → Below (λ j. Below (λ k. Below (Is i j k) 3) 3) 3
  from_first = below_at (λ i. Below (λ j. Below (λ k. Below (Is i j k) 3) 3) 3) 3 (
    ((tt, (((tt, omega arith), omega arith), omega arith)), (((tt, omega arith), omega arith), omega arith)),
    (((tt, omega arith), omega arith), omega arith),
  )

  pub four_in_three : T (memberb x (a ∷ b ∷ c ∷ [])) → T (memberb y (a ∷ b ∷ c ∷ [])) → T (memberb z (a ∷ b ∷ c ∷ []))
      → T (memberb w (a ∷ b ∷ c ∷ [])) → ⊥
  four_in_three tx ty tz tw =
      let (i, hi, ex) = member_place x (a ∷ b ∷ c ∷ []) tx in
      let (j, hj, ey) = member_place y (a ∷ b ∷ c ∷ []) ty in
      let (k, hk, ez) = member_place z (a ∷ b ∷ c ∷ []) tz in
      let (l, hl, ew) = member_place w (a ∷ b ∷ c ∷ []) tw in
      below_at (Is i j k) 3 (below_at (λ k. Below (Is i j k) 3) 3
      (below_at (λ j. Below (λ k. Below (Is i j k) 3) 3) 3 (from_first i hi) j hj) k hk) l hl ex ey ez ew
