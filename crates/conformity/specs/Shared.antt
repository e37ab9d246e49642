-- Two regular cells of one level: how many children of the second have points of a child of the first.
--   Below10 f      the digits of f are below 10
--   Reads es c p   the pattern p of c says which of its edges stand in es
-- Laws: family_small, digit_of, point_digit (the point between two corners), found_within (the corners that points use are corners of
-- both),
-- shares_within, within_shares (corners of both), same_points, points_point, points_edge (cells with the same corners), map_same,
-- all_every, one_times, none_times, no_child (no child has them, where the second cell has not those corners), inside_count (points that
-- use every corner: the second cell is the first).
use Rattle.std.specs.Prelude.{◌≡◌, refl, Bool, true, false, ◌&&◌, ◌||◌, List, [], ◌∷◌, map, ℕ, ◌*◌, ◌<◌, ◌≤◌, T, eqb, leb, ltb, length, get_or}
use Rattle.std.proofs.Common.{sym, ◌∙◌, ap, ap₂, subst, ⊎_elim, arith, eqb→eq, ltb→lt, le-leb}
use Rattle.std.proofs.lemmas.List.{length-map}
use Rattle.base.specs.Lists.{allb, allb_at, belowb, belowb_at, sameb}
use Rattle.base.specs.Bools.{impb, one_if, impb_use, and_left, and_right, or_either, and_both}
use Rattle.cutting.specs.Rule.{low, high, digit, split, family}
use Rattle.mesh.specs.Cells.{Cell, corner, edge, heldb}
use Rattle.mesh.specs.Weights.{Point, point, mid}
use Rattle.base.specs.Every.{below_at, All, all_at, all_of, all_more, get_d_map, all_pass, any_place}
use Rattle.base.specs.Each.{map_same, all_through}
use Rattle.families.specs.Kuhn.{digit_ends}
use Rattle.lattice.specs.Regular.{Regular, same_ends}
use Rattle.families.specs.Children.{middle}
use Rattle.lattice.specs.Edges.{point_injective}
use Rattle.carriers.specs.Joins.{Edge}
use Rattle.carriers.specs.Carrier.{Shares}
use Rattle.carriers.specs.Order.{lower_too}
use Rattle.families.specs.Digits.{usesb, holds}
use Rattle.families.specs.FaceKinds.{pattern_sum, family_present, Present}
use Rattle.conformity.specs.Having.{inb, withinb, in_at, in_from, count_digits, digits_none, digits_holds, four_elements}

abbrev pub Below10 : List ℕ → Type 0
Below10 f = All (λ x. x < 10) f

abbrev pub Reads : List Edge → Cell Point → ℕ → Type 0
Reads es c p = (y : ℕ) → y < 6 → split p y ≡ heldb sameb es (edge [] c y)

pub family_small : (p : ℕ) → p < 64 → All Below10 (family p)
family_small p h = all_more (All (Present p)) Below10 (λ d a. all_more (Present p) (λ x. x < 10) (λ x q. q.small) d a) (family p)
    (family_present p h)

-- the point between two corners
abbrev digitb : ℕ → ℕ → Bool
digitb i j = impb (leb i j) (eqb (low (digit i j)) i && (eqb (high (digit i j)) j && ltb (digit i j) 10))

digit_test : T (belowb (λ j. belowb (λ i. digitb i j) 4) 4)
unfolding belowb impb low high digit
digit_test = tt

pub digit_of : (i j : ℕ) → i ≤ j → j < 4 → (low (digit i j) ≡ i) × (high (digit i j) ≡ j) × (digit i j < 10)
digit_of i j h l =
    let w : T (eqb (low (digit i j)) i && (eqb (high (digit i j)) j && ltb (digit i j) 10)) =
    impb_use (leb i j) (eqb (low (digit i j)) i && (eqb (high (digit i j)) j && ltb (digit i j) 10))
    (belowb_at (λ i. digitb i j) 4 (belowb_at (λ j. belowb (λ i. digitb i j) 4) 4 digit_test j l) i (omega arith)) (rw (le-leb i j h) tt) in
    parts (low (digit i j)) (high (digit i j)) (digit i j) w
  where
    parts : (a b d : ℕ) → T (eqb a i && (eqb b j && ltb d 10)) → (a ≡ i) × (b ≡ j) × (d < 10)
    parts a b d t =
        let u = and_right (eqb a i) (eqb b j && ltb d 10) t in (
          eqb→eq a i (and_left (eqb a i) (eqb b j && ltb d 10) t),
          eqb→eq b j (and_left (eqb b j) (ltb d 10) u),
          ltb→lt d 10
              (and_right (eqb b j) (ltb d 10) u),
        )

pub point_digit : (x : Cell Point) (i j : ℕ) → i ≤ j → j < 4 → point x (digit i j) ≡ mid (corner [] x i) (corner [] x j)
unfolding point
point_digit x i j h l = let (a, b, _) = digit_of i j h l in ap₂ (λ (a b : ℕ). mid (corner [] x a) (corner [] x b)) a b

module _ (n k : ℕ) (c g : Cell Point) (h : k < 10) (r : Regular n k c) (s : Regular n k g) where
  found_digit : (x : ℕ) → x < 10 → (d : List ℕ) → Below10 d → T (inb (point c x) (map (point g) d))
      → (y : ℕ) × (y < 10) × (point c x ≡ point g y)
  found_digit x hx d a t =
      let (i, hi, e) = in_at (point c x) (map (point g) d) t in
      let hi' : i < length d = rw (length-map d (point g)) at hi in
      (get_or d i 0, all_at (λ x. x < 10) 0 d a i hi', e ∙ get_d_map (point g) d i 0 [] hi')

  found_within : (f d : List ℕ) → Below10 f → Below10 d → T (withinb (map (point c) f) (map (point g) d)) → (m : ℕ) → m < 4
      → T (usesb f m)
      → Shares c g m
  found_within f d a b t m hm u =
      let t' : T (allb (λ x. inb (point c x) (map (point g) d)) f) = rw (all_through (point c) (λ p. inb p (map (point g) d)) f) at t in
      let (i, hi, v) = any_place (λ x. eqb (low x) m || eqb (high x) m) 0 f u in
      let x = get_or f i 0 in
      let hx : x < 10 = all_at (λ x. x < 10) 0 f a i hi in
      let (y, hy, e) = found_digit x hx d b (allb_at (λ x. inb (point c x) (map (point g) d)) 0 f t' i hi) in
      let (e0, e1) = same_ends n k c g r s h x y hx hy e in
      let (y0, y1) = digit_ends y hy in
      ⊎_elim (λ (w : T (eqb (low x) m)). (low y, hm, omega arith, ap (corner [] c) (sym (eqb→eq (low x) m w)) ∙ e0))
      (λ (w : T (eqb (high x) m)). (high y, hm, y1, ap (corner [] c) (sym (eqb→eq (high x) m w)) ∙ e1))
      (or_either (eqb (low x) m) (eqb (high x) m) v)

-- corners of both
shares_within : (c g : Cell Point) → length g.points ≡ 4 → (z : List ℕ) → All (Shares c g) z
    → T (withinb (map (corner [] c) z) g.points)
shares_within c g e z a =
    rw (all_through (corner [] c) (λ p. inb p g.points) z)
    (all_pass (Shares c g) (λ m. inb (corner [] c m) g.points) (λ m (i, _, hi, q). in_from (corner [] c m) g.points i (omega arith) q)
    z a)

pub within_shares : (c g : Cell Point) → length g.points ≡ 4 → (z : List ℕ) → All (λ m. m < 4) z
    → T (withinb (map (corner [] c) z) g.points) → All (Shares c g) z
unfolding allb
within_shares c g e [] a t = tt
within_shares c g e (m ∷ z) a t =
    let u = and_left (inb (corner [] c m) g.points) (withinb (map (corner [] c) z) g.points) t in
    let v = and_right (inb (corner [] c m) g.points) (withinb (map (corner [] c) z) g.points) t in
    let (i, hi, q) = in_at (corner [] c m) g.points u in
    ((i, a.0, omega arith, q), within_shares c g e z a.1 v)

-- all four corners
module _ (n k : ℕ) (c g : Cell Point) (r : Regular n k c) (s : Regular n k g) where
  same_points : ((m : ℕ) → m < 4 → Shares c g m) → c.points ≡ g.points
  same_points f =
      let (a, _, a4, ea) = f 0 (omega arith) in
      let (b, _, b4, eb) = f 1 (omega arith) in
      let (d, _, d4, ed) = f 2 (omega arith) in
      let (e, _, e4, ee) = f 3 (omega arith) in
      let ab = lower_too n k c g r s 0 1 a b (omega arith) a4 ea eb (omega arith) in
      let bd = lower_too n k c g r s 1 2 b d (omega arith) b4 eb ed (omega arith) in
      let de = lower_too n k c g r s 2 3 d e (omega arith) d4 ed ee (omega arith) in
      let pa : a ≡ 0 = omega arith in
      let pb : b ≡ 1 = omega arith in
      let pd : d ≡ 2 = omega arith in
      let pe : e ≡ 3 = omega arith in
      four_elements [] c.points r.four
      ∙ ap₂ ◌∷◌ (ea ∙ ap (corner [] g) pa)
      (ap₂ ◌∷◌ (eb ∙ ap (corner [] g) pb) (ap₂ ◌∷◌ (ed ∙ ap (corner [] g) pd) (ap₂ ◌∷◌ (ee ∙ ap (corner [] g) pe) refl)))
      ∙ sym (four_elements [] g.points s.four)

points_point : (c g : Cell Point) → c.points ≡ g.points → (x : ℕ) → point c x ≡ point g x
unfolding point
points_point c g e x = ap (λ (l : List Point). mid (get_or l (low x) []) (get_or l (high x) [])) e

points_edge : (c g : Cell Point) → c.points ≡ g.points → (y : ℕ) → edge [] c y ≡ edge [] g y
unfolding edge
points_edge c g e y = ap {A = List Point} {B = Edge} (λ l. (get_or l (low (middle y)) [], get_or l (high (middle y)) [])) e

all_every : {A : Type 0} (P : A → Type 0) → ((x : A) → P x) → (l : List A) → All P l
all_every P f [] = tt
all_every P f (x ∷ l) = (f x, all_every P f l)

and_four : (t : ℕ → Bool) → T (t 0) → T (t 1) → T (t 2) → T (t 3) → T (allb t (0 ∷ 1 ∷ 2 ∷ 3 ∷ []))
unfolding allb
and_four t a b d e = and_both (t 0) (t 1 && (t 2 && (t 3 && true))) a
    (and_both (t 1) (t 2 && (t 3 && true)) b (and_both (t 2) (t 3 && true) d (and_both (t 3) true e tt)))

pub one_times : (h : ℕ) (b : Bool) → T b → h * one_if b ≡ h
unfolding one_if
one_times h true t = omega arith
one_times h false t = absurd t

pub none_times : (h : ℕ) (b : Bool) → (T b → ⊥) → h * one_if b ≡ 0
unfolding one_if
none_times h true t = absurd (t tt)
none_times h false t = omega arith

module _ (n k : ℕ) (c g : Cell Point) (h : k < 10) (r : Regular n k c) (s : Regular n k g) (es : List Edge) (p q : ℕ) (hp : p < 64)
    (hq : q < 64) (rp : Reads es c p) (rq : Reads es g q)
    (f : List ℕ) (small : Below10 f) where
  pub no_child : (z : List ℕ) → All (λ m. m < 4) z → T (allb (usesb f) z) → (T (withinb (map (corner [] c) z) g.points) → ⊥)
      → count_digits (map (point c) f) (point g) (family q) ≡ 0
  no_child z a u no' =
      digits_none (map (point c) f) (point g) (family q)
      (all_more Below10 (λ d. T (withinb (map (point c) f) (map (point g) d)) → ⊥)
      (λ d b t. no' (shares_within c g s.four z
      (both z a (all_of (λ m. T (usesb f m)) (usesb f) (λ m t. t) z u) (λ m hm v. found_within n k c g h r s f d small b t m hm v))))
      (family q) (family_small q hq))
    where
      both : (z : List ℕ) → All (λ m. m < 4) z → All (λ m. T (usesb f m)) z → ((m : ℕ) → m < 4 → T (usesb f m) → Shares c g m)
          → All (Shares c g) z
      both [] a u f = tt
      both (m ∷ z) a u f = (f m a.0 u.0, both z a.1 u.1 f)

  -- the digits of a child or of one of its faces that use every corner
  pub inside_count : ((m : ℕ) → m < 4 → T (usesb f m)) → count_digits (map (point c) f) (point g) (family q) ≡ holds (family p) f * one_if
      (withinb c.points g.points)
  inside_count u = go (withinb c.points g.points) refl
    where
      corners : map (corner [] c) (0 ∷ 1 ∷ 2 ∷ 3 ∷ []) ≡ c.points
      corners = sym (four_elements [] c.points r.four)

      go : (b : Bool) → withinb c.points g.points ≡ b → count_digits (map (point c) f) (point g) (family q) ≡ holds (family p) f
          * one_if (withinb c.points g.points)
      go true e =
          let t : T (withinb (map (corner [] c) (0 ∷ 1 ∷ 2 ∷ 3 ∷ [])) g.points) = subst (λ (l : List Point). T (withinb l g.points))
          (sym corners) (rw e tt) in
          let a = within_shares c g s.four (0 ∷ 1 ∷ 2 ∷ 3 ∷ []) (omega arith) t in
          let same : c.points ≡ g.points = same_points n k c g r s
          (below_at (Shares c g) 4 ((((tt, a.0), a.1.0), a.1.1.0), a.1.1.1.0)) in
          let pq : p ≡ q = pattern_sum p q hp hq (λ y hy. rp y hy ∙ ap (heldb sameb es) (points_edge c g same y) ∙ sym (rq y hy)) in
          let m : map (point c) f ≡ map (point g) f = map_same (point c) (point g) f
          (all_every (λ x. point c x ≡ point g x) (points_point c g same) f) in
          ap (λ (u : List Point). count_digits u (point g) (family q)) m
          ∙ digits_holds 10 (point g) (λ x y hx hy w. point_injective n k g s h x y hx hy w) f small (family q) (family_small q hq)
          ∙ ap (λ (q : ℕ). holds (family q) f) (sym pq)
          ∙ sym (one_times (holds (family p) f) (withinb c.points g.points) (rw e tt))
      go false e =
          let no' : T (withinb c.points g.points) → ⊥ = (λ t. rw e at t) in
          no_child (0 ∷ 1 ∷ 2 ∷ 3 ∷ []) (omega arith)
          (and_four (usesb f) (u 0 (omega arith)) (u 1 (omega arith)) (u 2 (omega arith)) (u 3 (omega arith)))
          (λ t. no' (subst (λ (l : List Point). T (withinb l g.points)) corners t))
          ∙ sym (none_times (holds (family p) f) (withinb c.points g.points) no')
