-- An old cell beside the regular cells of a level: one whose corners lie on the level's lattice and none of whose edges a red cell of
-- the level holds. A cell of a lower level is one, and so is a green cell's child on the level (Olds).
--   OldCell n qs ss j o   o is old beside the level j
--   reds_at n qs ss j  the edges of the level's red cells
-- Laws: held_red (such an edge, by a red cell), digit_turned, old_unsplit (an edge of both is not split), old_corner (a point of a regular
-- cell that an old one has is a corner), old_none (an old cell has no face inside, and no whole child), old_side (it has a triangle on a
-- face exactly where it has the face).
use Rattle.std.specs.Prelude.{◌≡◌, refl, ◌≢◌, Bool, true, false, ◌||◌, ℕ, ◌*◌, ◌<◌, T, eqb, ltb, length, get_or}
use Rattle.std.proofs.Common.{sym, ◌∙◌, ap, subst, ⊎_elim, arith, eqb→eq, ltb→lt}
use mathlib.Core.List.{List, [], ◌∷◌, map}
use Rattle.std.proofs.Math.Decide.{dec_lt}
use Rattle.base.specs.Lists.{allb, allb_at, sameb}
use Rattle.base.specs.Bools.{one_if, is_true, or_either, and_both, not_both, false_from}
use Rattle.cutting.specs.Rule.{low, high, digit, edge_of, split, family}
use Rattle.mesh.specs.Cells.{Cell, corner, heldb, red_edges, no_cell}
use Rattle.mesh.specs.Weights.{Point, point}
use Rattle.base.specs.Every.{Below, All, all_at, all_of, below_at, all_pass, any_place}
use Rattle.base.specs.Each.{all_through}
use Rattle.families.specs.Kuhn.{digit_ends, digit_named}
use Rattle.lattice.specs.Regular.{Regular, On, mid_off}
use Rattle.lattice.specs.Edges.{corner_apart}
use Rattle.lattice.specs.Facts.{point_corner}
use Rattle.carriers.specs.Lists.{held_which}
use Rattle.carriers.specs.Joins.{Edge}
use Rattle.carriers.specs.Carrier.{Shares, between_below, edge_between}
use Rattle.carriers.specs.Child.{corner_point}
use Rattle.soundness.specs.Held.{RedHas, red_which}
use Rattle.soundness.specs.Sound.{lv}
use Rattle.soundness.specs.Whole.{RedAt}
use Rattle.families.specs.Digits.{corners_at, lift, digit_triples, usesb}
use Rattle.families.specs.FaceKinds.{OnSide, Present, midb}
use Rattle.conformity.specs.Having.{inb, withinb, in_at, in_from, four_elements}
use Rattle.conformity.specs.Shared.{Reads, digit_of, within_shares}
use Rattle.conformity.specs.Sides.{Three, three_at, triple_small}

pub record OldCell (n : ℕ) (qs : List (List ℕ)) (ss : List ℕ) (j : ℕ) (o : Cell Point) : Type 0 where
  pub four : length o.points ≡ 4
  pub differ : (a b : ℕ) → a < b → b < 4 → corner [] o a ≢ corner [] o b
  pub on : (m : ℕ) → m < 4 → On j (corner [] o m)
  pub apart : (a b : ℕ) → a < 4 → b < 4 → a ≢ b → RedAt n qs ss j (corner [] o a, corner [] o b) → ⊥

-- the edges of a level's red cells
abbrev pub reds_at : ℕ → List (List ℕ) → List ℕ → ℕ → List Edge
reds_at n qs ss j = red_edges [] (lv n qs ss j).cells (lv n qs ss j).statuses

held_red : (n : ℕ) (qs : List (List ℕ)) (ss : List ℕ) (j : ℕ) (e : Edge) → T (heldb sameb (reds_at n qs ss j) e) → RedAt n qs ss j e
held_red n qs ss j e t =
    let l = lv n qs ss j in
    let w : RedHas l.cells l.statuses e = red_which e l.cells l.statuses t in
    let (y, hy, js) = held_which [] (get_or l.cells w.i no_cell) sameb e w.has in
    record { u = w.i; below = w.below; red = w.red; y = y; small = hy; joins = js }

pub digit_turned : (a b : ℕ) → a < 4 → b < 4 → digit a b ≡ digit b a
unfolding digit
digit_turned a b ha hb = below_at (λ a. digit a b ≡ digit b a) 4 (below_at (λ b. Below (λ a. digit a b ≡ digit b a) 4) 4 (omega arith) b hb)
    a ha

same_one : (a b : Bool) → (T a → T b) → (T b → T a) → one_if a ≡ 1 * one_if b
unfolding one_if
same_one true true f g = refl
same_one true false f g = absurd (f tt)
same_one false true f g = absurd (g tt)
same_one false false f g = refl

none_one : (h : ℕ) (a b : Bool) → (T a → ⊥) → (T b → ⊥) → one_if a ≡ h * one_if b
unfolding one_if
none_one h true b f g = absurd (f tt)
none_one h false true f g = absurd (g tt)
none_one h false false f g = omega arith

module _ (n : ℕ) (qs : List (List ℕ)) (ss : List ℕ) (j : ℕ) (h : j < 10) (c : Cell Point) (r : Regular n j c) (p : ℕ)
    (rp : Reads (reds_at n qs ss j) c p) (o : Cell Point) (old : OldCell n qs ss j o) where
  -- the edge between two corners that the old cell has too is not split
  pub old_unsplit : (a b : ℕ) → a < b → b < 4 → Shares c o a → Shares c o b → split p (edge_of (digit a b)) ≡ false
  old_unsplit a b ab b4 (x, _, hx, ex) (y, _, hy, ey) =
      false_from (split p (edge_of (digit a b))) (λ t.
      let q : split p (edge_of (digit a b)) ≡ heldb sameb (reds_at n qs ss j) (corner [] c a, corner [] c b) =
      rp (edge_of (digit a b)) (between_below a b ab b4) ∙ ap (heldb sameb (reds_at n qs ss j)) (edge_between [] c a b ab b4) in
      let w = held_red n qs ss j (corner [] c a, corner [] c b) (rw q at t) in
      let w' : RedAt n qs ss j (corner [] o x, corner [] o y) = rw (← ex, ← ey) w in
      old.apart x y hx hy (λ e. corner_apart n j c r a b ab b4 (ex ∙ ap (corner [] o) e ∙ sym ey)) w')

  -- a point of the cut that the old cell has is a corner
  pub old_corner : (x : ℕ) → x < 10 → T (inb (point c x) o.points) → low x ≡ high x
  old_corner x hx t =
      let (m, hm, e) = in_at (point c x) o.points t in
      let hm' : m < 4 = omega (arith, old.four) in
      let (x0, x1) = digit_ends x hx in
      elim (dec_lt (low x) (high x)) [
        | yes w ↦ absurd (mid_off n j j c (corner [] o m) h r (omega arith) (old.on m hm') x hx w e)
        | no w ↦ omega arith
      ]

  pub old_none : (f : List ℕ) → All (Present p) f → T (midb f) → (h : ℕ) → one_if (withinb (map (point c) f) o.points) ≡ h * one_if
      (withinb c.points o.points)
  old_none f a m h =
      let (i, hi, w) = any_place (λ x. ltb (low x) (high x)) 0 f m in
      let x = get_or f i 0 in
      let q : Present p x = all_at (Present p) 0 f a i hi in
      let l : low x < high x = ltb→lt (low x) (high x) w in
      none_one h (withinb (map (point c) f) o.points) (withinb c.points o.points)
      (λ t. let t' : T (allb (λ x. inb (point c x) o.points) f) = rw (all_through (point c) (λ p. inb p o.points) f) at t in
      omega (arith, old_corner x q.small (allb_at (λ x. inb (point c x) o.points) 0 f t' i hi)))
      (λ t. let t' : T (withinb (map (corner [] c) (0 ∷ 1 ∷ 2 ∷ 3 ∷ [])) o.points) = subst
      (λ (l : List Point). T (withinb l o.points)) (four_elements [] c.points r.four) t in
      let s = within_shares c o old.four (0 ∷ 1 ∷ 2 ∷ 3 ∷ []) (omega arith) t' in
      let s' : (m : ℕ) → m < 4 → Shares c o m = below_at (Shares c o) 4 ((((tt, s.0), s.1.0), s.1.1.0), s.1.1.1.0) in
      let (x0, x1) = digit_ends x q.small in
      let u : split p (edge_of x) ≡ false = rw (digit_named x q.small) at
      (old_unsplit (low x) (high x) l x1 (s' (low x) (omega arith)) (s' (high x) x1)) in
      ⊎_elim (λ (e : low x ≡ high x). omega arith)
      (λ (e : T (split p (edge_of x))). not_both {A = ⊥} (split p (edge_of x)) (is_true (split p (edge_of x)) e) u) q.on)

  -- a triangle on a face
  module _ (z0 z1 z2 : ℕ) (z01 : z0 < z1) (z12 : z1 < z2) (z4 : z2 < 4) (s0 : Shares c o z0) (s1 : Shares c o z1) (s2 : Shares c o z2) where
    at_corner : (m : ℕ) → Shares c o m → T (inb (point c (digit m m)) o.points)
    at_corner m (x, hm, hx, e) = in_from (point c (digit m m)) o.points x (omega (arith, old.four)) (point_corner c m hm ∙ e)

    not_mid : (a b : ℕ) → a < b → b < 4 → Shares c o a → Shares c o b → Present p (digit a b) → T (inb (point c (digit a b)) o.points)
    not_mid a b ab b4 sa sb q =
        let u = old_unsplit a b ab b4 sa sb in
        let (e0, e1, _) = digit_of a b (omega arith) b4 in
        absurd (⊎_elim (λ (e : low (digit a b) ≡ high (digit a b)). omega arith)
        (λ (e : T (split p (edge_of (digit a b)))). not_both {A = ⊥} (split p (edge_of (digit a b)))
        (is_true (split p (edge_of (digit a b))) e) u) q.on)

    lift_in : (k : ℕ) → k < 6 → Present p (lift (z0 ∷ z1 ∷ z2 ∷ []) k) → T (inb (point c (lift (z0 ∷ z1 ∷ z2 ∷ []) k)) o.points)
    lift_in =
        below_at (λ k. Present p (lift (z0 ∷ z1 ∷ z2 ∷ []) k) → T (inb (point c (lift (z0 ∷ z1 ∷ z2 ∷ []) k)) o.points)) 6 (
          (
            (
              (((tt, λ q. at_corner z0 s0), λ q. not_mid z0 z1 z01 (omega arith) s0 s1 q), λ q. not_mid z0 z2 (omega arith) z4 s0 s2 q),
              λ q.
                  at_corner z1 s1,
            ),
            λ q. not_mid z1 z2 z12 z4 s1 s2 q,
          ),
          λ q. at_corner z2 s2,
        )

    lifts_in : (t : List ℕ) → All (λ k. k < 6) t → All (Present p) (map (lift (z0 ∷ z1 ∷ z2 ∷ [])) t)
        → T (withinb (map (point c) (map (lift (z0 ∷ z1 ∷ z2 ∷ [])) t)) o.points)
    unfolding allb
    lifts_in [] a q = tt
    lifts_in (k ∷ t) a q =
        and_both (inb (point c (lift (z0 ∷ z1 ∷ z2 ∷ []) k)) o.points)
        (withinb (map (point c) (map (lift (z0 ∷ z1 ∷ z2 ∷ [])) t)) o.points)
        (lift_in k a.0 q.0) (lifts_in t a.1 q.1)

  pub old_side : (f : List ℕ) → All (Present p) f → (w : OnSide (family p) f)
      → one_if (withinb (map (point c) f) o.points) ≡ 1 * one_if (withinb (map (corner [] c) (corners_at w.z)) o.points)
  old_side f a w =
      same_one (withinb (map (point c) f) o.points) (withinb (map (corner [] c) (corners_at w.z)) o.points) there back
    where
      z : Three (corners_at w.z)
      z = three_at w.z w.face

      there : T (withinb (map (point c) f) o.points) → T (withinb (map (corner [] c) (corners_at w.z)) o.points)
      there t =
          let t' : T (allb (λ x. inb (point c x) o.points) f) = rw (all_through (point c) (λ p. inb p o.points) f) at t in
          rw (all_through (corner [] c) (λ p. inb p o.points) (corners_at w.z))
          (all_pass (λ m. T (usesb f m)) (λ m. inb (corner [] c m) o.points) (λ m u.
          let (i, hi, v) = any_place (λ x. eqb (low x) m || eqb (high x) m) 0 f u in
          let x = get_or f i 0 in
          let q : Present p x = all_at (Present p) 0 f a i hi in
          let g : T (inb (point c x) o.points) = allb_at (λ x. inb (point c x) o.points) 0 f t' i hi in
          let e = old_corner x q.small g in
          let lm : low x ≡ m = ⊎_elim (λ (d : T (eqb (low x) m)). eqb→eq (low x) m d) (λ (d : T (eqb (high x) m)). e ∙ eqb→eq (high x) m d)
          (or_either (eqb (low x) m) (eqb (high x) m) v) in
          let pc : point c x ≡ corner [] c m = corner_point c x q.small e ∙ ap (corner [] c) lm in
          subst (λ (y : Point). T (inb y o.points)) pc g)
          (corners_at w.z) (all_of (λ m. T (usesb f m)) (usesb f) (λ m t. t) (corners_at w.z) w.uses))

      back : T (withinb (map (corner [] c) (corners_at w.z)) o.points) → T (withinb (map (point c) f) o.points)
      back t =
          let v = three_at w.z w.face in
          let below : All (λ m. m < 4) (corners_at w.z) = rw v.is (omega (arith, v.ab, v.bc, v.c4)) in
          let s : All (Shares c o) (v.a ∷ v.b ∷ v.c ∷ []) = rw v.is at (within_shares c o old.four (corners_at w.z) below t) in
          let tr = get_or digit_triples w.t [] in
          let e : f ≡ map (lift (v.a ∷ v.b ∷ v.c ∷ [])) tr = w.is ∙ ap (λ (z : List ℕ). map (lift z) tr) v.is in
          subst (λ (f : List ℕ). T (withinb (map (point c) f) o.points)) (sym e)
          (lifts_in v.a v.b v.c v.ab v.bc v.c4 s.0 s.1.0 s.1.1.0 tr (triple_small w.t w.below)
          (subst (All (Present p)) e a))
