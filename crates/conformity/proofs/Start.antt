-- The coarse cells meet face to face: the stage 0.
-- Laws: bound_coarse (a coarse face is in as many cells as the boundary says), meeting_zero.
use Rattle.std.specs.Prelude.{◌≡◌, Bool, ◌&&◌, ◌||◌, not, ℕ, zero, suc, ◌<◌, ◌≤◌}
use Rattle.std.proofs.Math.Path.{refl, subst}
use Rattle.std.proofs.Common.{sym, ◌∙◌, ap, ap₂, eqb-true, eq-eqb, le-leb}
use Rattle.std.proofs.Math.Logic.{⊎_elim}
use Rattle.std.proofs.Math.Bool.{true, false}
use mathlib.Core.List.{List, [], ◌∷◌, ◌++◌, map, flat_map}
use Rattle.std.proofs.Math.Decide.{dec_lt}
use native.Mathlib.Omega.{arith}
use Rattle.std.proofs.Math.Dec.{T, eqb, leb}
use Rattle.std.proofs.Math.ListN.{length, get_or}
use Rattle.base.specs.Lists.{allb, anyb, allb_at, filterb, memberb, sameb, member_at}
use Rattle.base.specs.Bools.{is_true, is_false, and_left, and_right, or_either, or_first, or_second, and_both, not_both, same_test}
use Rattle.base.specs.Fours.{faces, holders}
use Rattle.base.specs.Places.{sameb_self}
use Rattle.mesh.specs.Cells.{Cell, corner, no_cell}
use Rattle.mesh.specs.Weights.{Point, coarse, coarse_cells}
use Rattle.mesh.specs.Coarse.{cellsb, twiceb, singleb}
use Rattle.mesh.specs.Table.{levels_of}
use Rattle.mesh.specs.Laws.{length-coarse}
use Rattle.base.specs.Every.{All, all_at, all_from, get_d_map, any_place, any_at, all_each}
use Rattle.base.specs.Each.{all_filter, filter_passes}
use Rattle.lineage.specs.Paths.{coarse_at}
use Rattle.lineage.specs.Levels.{cells_first}
use Rattle.soundness.specs.Sound.{lv}
use Rattle.conformity.specs.Leaves.{offb, on_coarse_faceb, on_boundaryb, boundary_faces}
use Rattle.families.specs.Digits.{corners_at}
use Rattle.conformity.specs.Having.{count}
use Rattle.conformity.specs.Bounds.{Wide}
use Rattle.conformity.specs.Fours.{Rise, Rise3, rise_all, faces_at, faces_four, within_three, face_rise, faces_rise, four_in_three}
use Rattle.conformity.specs.Stages.{below, stage}
use Rattle.conformity.specs.Meeting.{bound, bound_one, bound_two, face_of, corners_below, Right, Meeting}
use Rattle.conformity.specs.Base.{off_coarse, rise_below, count_holders, count_same, once_same}

-- tests on lists
module _ {A : Type 0} (f : A → Bool) where
  any_first : (l m : List A) → T (anyb f l) → T (anyb f (l ++ m))
  unfolding anyb
  any_first [] m t = absurd t
  any_first (x ∷ l) m t =
      ⊎_elim (λ (u : T (f x)). or_first (f x) (anyb f (l ++ m)) u)
      (λ (u : T (anyb f l)). or_second (f x) (anyb f (l ++ m)) (any_first l m u)) (or_either (f x) (anyb f l) t)

  any_second : (l m : List A) → T (anyb f m) → T (anyb f (l ++ m))
  unfolding anyb
  any_second [] m t = t
  any_second (x ∷ l) m t = or_second (f x) (anyb f (l ++ m)) (any_second l m t)

  any_filter : (g : A → Bool) (l : List A) → T (anyb (λ x. f x && g x) l) → T (anyb g (filterb f l))
  unfolding anyb filterb
  any_filter g [] t = t
  any_filter g (x ∷ l) t = go (f x) refl t (any_filter g l)
    where
      go : (b : Bool) → f x ≡ b → T ((b && g x) || anyb (λ x. f x && g x) l) → (T (anyb (λ x. f x && g x) l) → T (anyb g (filterb f l)))
          → T (anyb g (filterb f (x ∷ l)))
      go true e t i =
          rw (e, filterb) (⊎_elim (λ (u : T (g x)). or_first (g x) (anyb g (filterb f l)) u)
          (λ (u : T (anyb (λ x. f x && g x) l)). or_second (g x) (anyb g (filterb f l)) (i u))
          (or_either (g x) (anyb (λ x. f x && g x) l) t))
      go false e t i = rw (e, filterb) (i t)

  filter_some : (l : List A) → T (anyb f l) → 1 ≤ length (filterb f l)
  unfolding anyb filterb
  filter_some [] t = absurd t
  filter_some (x ∷ l) t = go (f x) refl t (filter_some l)
    where
      go : (b : Bool) → f x ≡ b → T (b || anyb f l) → (T (anyb f l) → 1 ≤ length (filterb f l)) → 1 ≤ length (filterb f (x ∷ l))
      go true e t i = rw (e, filterb) (omega arith)
      go false e t i = rw (e, filterb) (i t)

any_faces : (f : List ℕ → Bool) (qs : List (List ℕ)) (k m : ℕ) → k < length qs → m < 4 → T (f (get_or (faces (get_or qs k [])) m []))
    → T (anyb f (flat_map faces qs))
unfolding flat_map
any_faces f [] k m h l t = absurd (omega arith)
any_faces f (q ∷ qs) zero m h l t = any_first f (faces q) (flat_map faces qs) (any_at f [] (faces q) m (omega (arith, faces_four q)) t)
any_faces f (q ∷ qs) (suc k) m h l t = any_second f (faces q) (flat_map faces qs) (any_faces f qs k m (omega arith) l t)

face_below : (n : ℕ) (q : List ℕ) → Rise n q → (m : ℕ) → m < 4 → All (λ x. x < n) (get_or (faces q) m [])
face_below n q r m hm = rw (faces_at q m hm) (go (corners_at m) (corners_below m hm))
  where
    go : (l : List ℕ) → All (λ i. i < 4) l → All (λ x. x < n) (map (λ i. get_or q i 0) l)
    go [] a = tt
    go (i ∷ l) a = (all_at (λ x. x < n) 0 q (rise_below n q r) i (rw r.is a.0), go l a.1)

-- coarse corners on a coarse face
on_coarse : (n : ℕ) (t u : List ℕ) → All (λ x. x < n) t → on_coarse_faceb (map (coarse n) t) u ≡ allb (λ x. memberb x u) t
unfolding on_coarse_faceb allb
on_coarse n [] u a = refl
on_coarse n (x ∷ t) u a = ap₂ ◌&&◌ (off_coarse n x u a.0) (on_coarse n t u a.1)

module _ (n : ℕ) (qs : List (List ℕ)) (r : All (Rise n) qs) (single : T (singleb qs)) (k m : ℕ) (hk : k < length qs) (hm : m < 4) where
  abbrev cut : List ℕ
  cut = get_or (faces (get_or qs k [])) m []

  own : Rise n (get_or qs k [])
  own = all_at (Rise n) [] qs r k hk

  holders_few : holders qs cut ≤ 2
  unfolding singleb
  holders_few =
      let e : anyb (λ t. leb 3 (holders qs t)) (flat_map faces qs) ≡ false =
      is_false (anyb (λ t. leb 3 (holders qs t)) (flat_map faces qs))
      (and_right (not (twiceb qs)) (not (anyb (λ t. leb 3 (holders qs t)) (flat_map faces qs))) single) in
      elim (dec_lt 2 (holders qs cut)) [
        | yes h ↦ not_both (anyb (λ t. leb 3 (holders qs t)) (flat_map faces qs))
            (is_true (anyb (λ t. leb 3 (holders qs t)) (flat_map faces qs))
            (any_faces (λ t. leb 3 (holders qs t)) qs k m hk hm (rw (le-leb 3 (holders qs cut) (omega arith)) tt))) e
        | no h ↦ omega arith
      ]

  holders_some : 1 ≤ holders qs cut
  unfolding holders
  holders_some =
      let q = get_or qs k [] in
      filter_some (λ q. anyb (sameb cut) (faces q)) qs (any_at (λ q. anyb (sameb cut) (faces q)) [] qs k hk
      (any_at (sameb cut) [] (faces (get_or qs k [])) m (omega (arith, faces_four (get_or qs k []))) (rw (sameb_self cut) tt)))

  on_bound : on_boundaryb qs (map (coarse n) cut) ≡ eqb (holders qs cut) 1
  unfolding on_boundaryb boundary_faces
  on_bound =
      let below = face_below n (get_or qs k []) own m hm in
      let rise = face_rise n (get_or qs k []) own m hm in
      same_test (anyb (on_coarse_faceb (map (coarse n) cut)) (boundary_faces qs)) (eqb (holders qs cut) 1)
      (λ t. let (i, hi, w) = any_place (on_coarse_faceb (map (coarse n) cut)) [] (boundary_faces qs) t in
      let u = get_or (boundary_faces qs) i [] in
      let one : eqb (holders qs u) 1 ≡ true = all_at (λ t. eqb (holders qs t) 1 ≡ true) [] (boundary_faces qs)
      (filter_passes (λ t. eqb (holders qs t) 1) (flat_map faces qs)) i hi in
      let ru : Rise3 u = all_at Rise3 [] (boundary_faces qs)
      (all_filter (λ t. eqb (holders qs t) 1) Rise3 (flat_map faces qs) (faces_rise n qs r)) i hi in
      let same : cut ≡ u = within_three cut u rise ru (rw (on_coarse n cut u below) at w) in
      rw (same, one) tt)
      (λ t. any_filter (λ t. eqb (holders qs t) 1) (on_coarse_faceb (map (coarse n) cut)) (flat_map faces qs)
      (any_faces (λ u. eqb (holders qs u) 1 && on_coarse_faceb (map (coarse n) cut) u) qs k m hk hm
      (and_both (eqb (holders qs cut) 1) (on_coarse_faceb (map (coarse n) cut) cut) t
      (rw (on_coarse n cut cut below) (all_each (λ x. memberb x cut) 0 cut (member_at cut))))))

  bound_coarse : holders qs cut ≡ bound qs (map (coarse n) cut)
  bound_coarse = go (eqb (holders qs cut) 1) refl
    where
      go : (b : Bool) → eqb (holders qs cut) 1 ≡ b → holders qs cut ≡ bound qs (map (coarse n) cut)
      go true e = eqb-true (holders qs cut) 1 e ∙ sym (bound_one qs (map (coarse n) cut) (on_bound ∙ e))
      go false e =
          elim (dec_lt (holders qs cut) 2) [
            | yes h ↦ not_both (eqb (holders qs cut) 1) (eq-eqb (holders qs cut) 1 (omega (arith, holders_some))) e
            | no h ↦ omega (arith, holders_few, bound_two qs (map (coarse n) cut) (on_bound ∙ e))
          ]

on_from : (f : List Point) (t : List ℕ) → T (allb (λ p. offb 0 p t) f) → T (on_coarse_faceb f t)
unfolding on_coarse_faceb
on_from f t w = w

-- the stage 0
module _ (n : ℕ) (qs : List (List ℕ)) (ss : List ℕ) (four : All (λ q. length q ≡ 4) qs) (cells : T (cellsb n qs)) (single : T (singleb qs))
  where
    rise : All (Rise n) qs
    rise = rise_all n qs four cells

    first_cells : (lv n qs ss 0).cells ≡ coarse_cells n qs
    unfolding levels_of
    first_cells = cells_first 11 0 (coarse_cells n qs) ss

    first_stage : stage n qs ss 0 ≡ coarse_cells n qs
    unfolding below flat_map
    first_stage = first_cells

    module _ (u : ℕ) (hu : u < length (lv n qs ss 0).cells) where
      place : u < length qs
      place = omega (arith, ap length first_cells, length-coarse n qs)

      points : (get_or (lv n qs ss 0).cells u no_cell).points ≡ map (coarse n) (get_or qs u [])
      points = ap (λ (cs : List (Cell Point)). (get_or cs u no_cell).points) first_cells
          ∙ ap (λ (c : Cell Point). c.points) (coarse_at n qs u place)

      rises : Rise n (get_or qs u [])
      rises = all_at (Rise n) [] qs rise u place

      face_is : (i : ℕ) → i < 4 → face_of (get_or (lv n qs ss 0).cells u no_cell) i ≡ map (coarse n) (get_or (faces (get_or qs u [])) i [])
      face_is i hi = go (corners_at i) (corners_below i hi) ∙ ap (map (coarse n)) (sym (faces_at (get_or qs u []) i hi))
        where
          go : (l : List ℕ) → All (λ m. m < 4) l → map (corner [] (get_or (lv n qs ss 0).cells u no_cell)) l ≡ map (coarse n)
              (map (λ m. get_or (get_or qs u []) m 0) l)
          go [] a = refl
          go (m ∷ l) a =
              ap₂ ◌∷◌ (ap (λ (p : List Point). get_or p m []) points ∙ get_d_map (coarse n) (get_or qs u []) m 0 [] (rw rises.is a.0))
              (go l a.1)

      coarse_right : Right n qs ss 0 (get_or (lv n qs ss 0).cells u no_cell)
      unfolding coarse_cells
      coarse_right i hi =
          let t = get_or (faces (get_or qs u [])) i [] in
          subst (λ (f : List Point). count f (stage n qs ss 0) ≡ bound qs f) (sym (face_is i hi))
          (ap (count (map (coarse n) (get_or (faces (get_or qs u [])) i []))) first_stage
          ∙ count_holders n (get_or (faces (get_or qs u [])) i []) (face_below n (get_or qs u []) rises i hi)
          (face_rise n (get_or qs u []) rises i hi) 0 qs rise
          ∙ bound_coarse n qs rise single u i place hi)

      coarse_whole : count (get_or (lv n qs ss 0).cells u no_cell).points (stage n qs ss 0) ≡ 1
      unfolding coarse_cells singleb
      coarse_whole =
          let a = rise_below n (get_or qs u []) rises in
          subst (λ (f : List Point). count f (stage n qs ss 0) ≡ 1) (sym points)
          (ap (count (map (coarse n) (get_or qs u []))) first_stage ∙ count_same n (get_or qs u []) a rises 0 qs rise
          ∙ once_same n qs (is_false (twiceb qs) (and_left (not (twiceb qs)) (not (anyb (λ t. leb 3 (holders qs t)) (flat_map faces qs)))
          single)) u place a)

      coarse_wide : Wide (get_or (lv n qs ss 0).cells u no_cell)
      coarse_wide t l w =
          let w' : T (allb (λ p. offb 0 p t) (map (coarse n) (get_or qs u []))) = subst (λ (f : List Point). T (allb (λ p. offb 0 p t) f))
          points w in
          let w'' : T (allb (λ x. memberb x t) (get_or qs u [])) = rw (on_coarse n (get_or qs u []) t (rise_below n (get_or qs u []) rises)) at
          (on_from (map (coarse n) (get_or qs u [])) t w') in
          none t l rises.a rises.b rises.c rises.d rises.ab rises.bc rises.cd
          (subst (λ (q : List ℕ). T (allb (λ x. memberb x t) q)) rises.is w'')
        where
          none : (t : List ℕ) → length t ≡ 3 → (x y z v : ℕ) → x < y → y < z → z < v → T (allb (λ e. memberb e t) (x ∷ y ∷ z ∷ v ∷ [])) → ⊥
          none [] l x y z v xy yz zv w = omega arith
          none (a ∷ []) l x y z v xy yz zv w = omega arith
          none (a ∷ b ∷ []) l x y z v xy yz zv w = omega arith
          none (a ∷ b ∷ c ∷ []) l x y z v xy yz zv w =
              let m : (k : ℕ) → k < 4 → T (memberb (get_or (x ∷ y ∷ z ∷ v ∷ []) k 0) (a ∷ b ∷ c ∷ [])) =
              (λ k h. allb_at (λ e. memberb e (a ∷ b ∷ c ∷ [])) 0 (x ∷ y ∷ z ∷ v ∷ []) w k h) in
              four_in_three x y z v xy yz zv a b c (m 0 (omega arith)) (m 1 (omega arith)) (m 2 (omega arith)) (m 3 (omega arith))
          none (a ∷ b ∷ c ∷ d ∷ t) l x y z v xy yz zv w = omega arith

    pub meeting_zero : Meeting n qs ss 0
    unfolding below flat_map
    meeting_zero =
        record {
          faces = all_from (Right n qs ss 0) no_cell (lv n qs ss 0).cells coarse_right;
          whole = λ u hu _. coarse_whole u hu;
          wide = λ u hu _. coarse_wide u hu;
        }
