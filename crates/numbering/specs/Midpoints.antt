-- New corners: a midpoint is among the corners exactly where the pair of its ends' numbers is among the ends, so that the
-- program, which sees pairs alone, adds the corners of rule 5.5.
--   pair_in ks p q    the pair of the numbers of two points
--   new_corner ks e   the corner that the midpoint of the edge e makes
-- Laws: added_kept, added_has (any edge), has_midpoint, number_midpoint (where a midpoint is), corners_add (one edge more),
-- number-added (the number of its midpoint).
use Rattle.std.specs.Prelude.{◌≡◌, refl, ◌≢◌, ◌⊎◌, true, false, List, [], ◌∷◌, ◌++◌, length}
use Rattle.std.proofs.Math.Path.{sym, ap, ap₂}
use Rattle.std.proofs.Common.{◌∙◌, append-nil, eq-or-lt_of_le, length-append}
use Rattle.std.proofs.Math.Logic.{inl, inr, ⊎_elim}
use Rattle.std.proofs.lemmas.List.{map-append, take-append-le, get_or_at}
use Prim.Native.Nat.{ℕ, ◌+◌, ◌-◌, ◌≤◌, ◌<◌, min, max}
use Rattle.std.proofs.Math.Decide.{dec_lt}
use native.Mathlib.Omega.{arith}
use Rattle.std.proofs.Math.ListN.{get_or-append}
use Rattle.base.specs.Lists.{sameb}
use Rattle.base.specs.Places.{hasb, place_in, has_at, has_below, has_append, place_there, distinct_snoc, same_list, sameb_self, add_old}
use Rattle.base.specs.Places.{add_new}
use Rattle.base.specs.Bools.{either}
use Rattle.mesh.specs.Weights.{Point, mid}
use Rattle.mesh.specs.Layout.{Corner, weights_of, number_in, add_corner}
use Rattle.edges.specs.Pairs.{Pair, sorted, isb, add_pair, same_pair, test_ext}
use Rattle.numbering.specs.Ends.{Splittable, splittable_turned, mid_comm, mid_fine, mid_ends, ends_differ}
use Rattle.numbering.specs.Corners.{no_corner, corner_at, weights_at, ends_at, Has, Kept, Midpoint, NumberedCorners, number_there}
use Rattle.numbering.specs.Corners.{number_below, number_own, number_injective, has_corner, kept_corner, kept_weights}
use Rattle.numbering.specs.Corners.{weights_coarse}

-- the pair of the numbers of two points
abbrev pair_in : List Corner → Point → Point → Pair
pair_in ks p q = sorted (number_in ks p, number_in ks q)

-- the corners e have the weights p and q, in either order
abbrev EndsOf : List Corner → Pair → Point → Point → Type 0
EndsOf ks e p q = ((weights_at ks e.0 ≡ p) × (weights_at ks e.1 ≡ q)) ⊎ ((weights_at ks e.0 ≡ q) × (weights_at ks e.1 ≡ p))

-- One corner more: it is there already, or stands behind the others.
module _ (ks : List Corner) (e : Point × Point) where
  abbrev new_corner : Corner
  new_corner =
      record {
        weights = mid e.0 e.1;
        low = min (number_in ks e.0) (number_in ks e.1);
        high = max (number_in ks e.0) (number_in ks e.1);
      }

  corner_old : Has ks (mid e.0 e.1) → add_corner ks e ≡ ks
  unfolding add_corner
  corner_old t = rw (t, add_corner)

  corner_new : hasb sameb (weights_of ks) (mid e.0 e.1) ≡ false → add_corner ks e ≡ ks ++ (new_corner ∷ [])
  unfolding add_corner
  corner_new t = rw (t, add_corner)

  pub added_kept : Kept ks (add_corner ks e)
  added_kept =
      ⊎_elim (λ t. record { more = []; longer = corner_old t ∙ sym (append-nil ks) })
      (λ t. record { more = new_corner ∷ []; longer = corner_new t })
      (either (hasb sameb (weights_of ks) (mid e.0 e.1)))

pub added_has : (ks : List Corner) (p q : Point) → Has (add_corner ks (p, q)) (mid p q)
unfolding hasb
added_has ks p q =
    ⊎_elim (λ (t : Has ks (mid p q)). rw (corner_old ks (p, q) t) t)
    (λ (t : hasb sameb (weights_of ks) (mid p q) ≡ false).
    rw (corner_new ks (p, q) t, map-append) (has_append sameb (weights_of ks) (mid p q ∷ []) (mid p q) ∙ rw (t, sameb_self (mid p q))))
    (either (hasb sameb (weights_of ks) (mid p q)))

-- a midpoint is one among more corners
midpoint_kept : (n : ℕ) (ks ks' : List Corner) (i : ℕ) (e : Pair) → Kept ks ks' → i < length ks → Midpoint n ks i e → Midpoint n ks' i e
midpoint_kept n ks ks' i e k h m =
    let z = kept_corner ks ks' k i h in
    let x = kept_weights ks ks' k e.0 (omega (arith, m.order, m.before)) in
    let y = kept_weights ks ks' k e.1 (omega (arith, m.before)) in
    record {
      order = m.order;
      before = m.before;
      low_is = ap (λ (k : Corner). k.low) z ∙ m.low_is;
      high_is = ap (λ (k : Corner). k.high) z ∙ m.high_is;
      middle = ap (λ (k : Corner). k.weights) z ∙ m.middle ∙ ap₂ mid (sym x) (sym y);
      ends = rw (x, y) m.ends;
    }

-- The midpoint of an edge is among the corners where the pair of the edge's ends is among the ends, and at its place.
module _ (n : ℕ) (ks : List Corner) (es : List Pair) (c : NumberedCorners n ks es) (p q : Point) (s : Splittable n p q) (hp : Has ks p)
    (hq : Has ks q) where
  -- a pair whose corners have these weights is the pair of these ends
  pair_of : (e : Pair) → e.0 < e.1 → e.1 < length ks → EndsOf ks e p q → e ≡ pair_in ks p q
  unfolding sorted
  pair_of (a, b) h l (inl (x, y)) =
      let u : number_in ks p ≡ a = ap (number_in ks) (sym x) ∙ number_own ks c.distinct a (omega arith) in
      let v : number_in ks q ≡ b = ap (number_in ks) (sym y) ∙ number_own ks c.distinct b l in
      ap₂ (λ (x y : ℕ). (x, y)) (omega arith) (omega arith)
  pair_of (a, b) h l (inr (x, y)) =
      let u : number_in ks q ≡ a = ap (number_in ks) (sym x) ∙ number_own ks c.distinct a (omega arith) in
      let v : number_in ks p ≡ b = ap (number_in ks) (sym y) ∙ number_own ks c.distinct b l in
      ap₂ (λ (x y : ℕ). (x, y)) (omega arith) (omega arith)

  pair_has_lem : Has ks (mid p q) → hasb isb es (pair_in ks p q) ≡ true
  pair_has_lem t =
      elim (dec_lt i n) [
        | yes h ↦ absurd (mid_fine n p q s i h (sym (number_there ks (mid p q) t) ∙ weights_coarse n ks es c i h))
        | no h ↦ fine (i - n) (omega arith) (omega (arith, number_below ks (mid p q) t, c.count))
      ]
    where
      i : ℕ
      i = number_in ks (mid p q)

      fine : (j : ℕ) → i ≡ n + j → j < length es → hasb isb es (pair_in ks p q) ≡ true
      fine j e h =
          let m = c.midpoint j h in
          let w : mid (weights_at ks (ends_at es j).0) (weights_at ks (ends_at es j).1) ≡ mid p q = sym m.middle
          ∙ ap (weights_at ks) (sym e) ∙ number_there ks (mid p q) t in
          let f : ends_at es j ≡ pair_in ks p q = pair_of (ends_at es j) m.order (omega (arith, m.before, c.count))
          (mid_ends n _ _ p q m.ends s w) in
          rw (← f) (has_at isb (0, 0) same_pair es j h)

  -- the pair names the two ends, in one order or the other
  pair_ends : EndsOf ks (pair_in ks p q) p q
  unfolding sorted
  pair_ends =
      let a = number_in ks p in
      let b = number_in ks q in
      let x : weights_at ks a ≡ p = number_there ks p hp in
      let y : weights_at ks b ≡ q = number_there ks q hq in
      elim (dec_lt a b) [
        | yes h ↦ let u : min a b ≡ a = omega arith in let v : max a b ≡ b = omega arith in
            inl (ap (weights_at ks) u ∙ x, ap (weights_at ks) v ∙ y)
        | no h ↦ let u : min a b ≡ b = omega arith in let v : max a b ≡ a = omega arith in
            inr (ap (weights_at ks) u ∙ y, ap (weights_at ks) v ∙ x)
      ]

  pair_mid : mid (weights_at ks (pair_in ks p q).0) (weights_at ks (pair_in ks p q).1) ≡ mid p q
  pair_mid = go pair_ends
    where
      go : EndsOf ks (pair_in ks p q) p q → mid (weights_at ks (pair_in ks p q).0) (weights_at ks (pair_in ks p q).1) ≡ mid p q
      go (inl (x, y)) = ap₂ mid x y
      go (inr (x, y)) = ap₂ mid x y ∙ mid_comm q p

  pair_splittable : Splittable n (weights_at ks (pair_in ks p q).0) (weights_at ks (pair_in ks p q).1)
  pair_splittable = go pair_ends
    where
      go : EndsOf ks (pair_in ks p q) p q → Splittable n (weights_at ks (pair_in ks p q).0) (weights_at ks (pair_in ks p q).1)
      go (inl (x, y)) = rw (x, y) s
      go (inr (x, y)) = rw (x, y) (splittable_turned s)

  pair_there : hasb isb es (pair_in ks p q) ≡ true → weights_at ks (n + place_in isb es (pair_in ks p q)) ≡ mid p q
  pair_there t =
      let j = place_in isb es (pair_in ks p q) in
      let m = c.midpoint j (has_below isb es (pair_in ks p q) t) in
      m.middle ∙ ap (λ (e : Pair). mid (weights_at ks e.0) (weights_at ks e.1)) (place_there isb (0, 0) same_pair es (pair_in ks p q) t)
      ∙ pair_mid

  pair_below : hasb isb es (pair_in ks p q) ≡ true → n + place_in isb es (pair_in ks p q) < length ks
  pair_below t = omega (arith, has_below isb es (pair_in ks p q) t, c.count)

  has_midpoint : hasb sameb (weights_of ks) (mid p q) ≡ hasb isb es (pair_in ks p q)
  has_midpoint =
      test_ext (hasb sameb (weights_of ks) (mid p q)) (hasb isb es (pair_in ks p q)) pair_has_lem
      (λ t. rw (← pair_there t) (has_corner ks (n + place_in isb es (pair_in ks p q)) (pair_below t)))

  pub number_midpoint : Has ks (mid p q) → number_in ks (mid p q) ≡ n + place_in isb es (pair_in ks p q)
  number_midpoint h =
      let t = pair_has_lem h in
      ap (number_in ks) (sym (pair_there t)) ∙ number_own ks c.distinct (n + place_in isb es (pair_in ks p q)) (pair_below t)

  -- One edge more.
  pair_rises : (pair_in ks p q).0 < (pair_in ks p q).1
  unfolding sorted
  pair_rises =
      let a = number_in ks p in
      let b = number_in ks q in
      let d : a ≢ b = λ e. ends_differ n p q s (number_injective ks p q hp hq e) in
      omega (arith, d)

  pair_before : (pair_in ks p q).1 < length ks
  unfolding sorted
  pair_before = omega (arith, number_below ks p hp, number_below ks q hq)

  module _ (t : hasb sameb (weights_of ks) (mid p q) ≡ false) where
    abbrev longer : List Corner
    longer = ks ++ (new_corner ks (p, q) ∷ [])

    behind : Kept ks longer
    behind = record { more = new_corner ks (p, q) ∷ []; longer = refl }

    at_new : corner_at longer (length ks) ≡ new_corner ks (p, q)
    at_new = get_or_at ks (new_corner ks (p, q)) [] no_corner (length ks) refl

    midpoint_new : Midpoint n longer (length ks) (pair_in ks p q)
    unfolding sorted
    midpoint_new =
        let x = kept_weights ks longer behind (pair_in ks p q).0 (omega (arith, pair_rises, pair_before)) in
        let y = kept_weights ks longer behind (pair_in ks p q).1 pair_before in
        record {
          order = pair_rises;
          before = pair_before;
          low_is = ap (λ (k : Corner). k.low) at_new;
          high_is = ap (λ (k : Corner). k.high) at_new;
          middle = ap (λ (k : Corner). k.weights) at_new ∙ sym pair_mid ∙ ap₂ mid (sym x) (sym y);
          ends = rw (x, y) pair_splittable;
        }

    corners_longer : NumberedCorners n longer (es ++ (pair_in ks p q ∷ []))
    corners_longer =
        record {
          count = omega (arith, length-append ks (new_corner ks (p, q) ∷ []), length-append es (pair_in ks p q ∷ []), c.count);
          first = take-append-le n ks (new_corner ks (p, q) ∷ []) (omega (arith, c.count)) ∙ c.first;
          distinct = rw map-append (distinct_snoc sameb [] same_list (weights_of ks) (mid p q) c.distinct t);
          midpoint = λ j h. at j (eq-or-lt_of_le (le j h));
        }
      where
        le : (j : ℕ) → j < length (es ++ (pair_in ks p q ∷ [])) → j ≤ length es
        le j h = omega (arith, length-append es (pair_in ks p q ∷ []))

        at : (j : ℕ) → (j ≡ length es) ⊎ (j < length es) → Midpoint n longer (n + j) (ends_at (es ++ (pair_in ks p q ∷ [])) j)
        at j (inl e) = rw (e, get_or_at es (pair_in ks p q) [] (0, 0) (length es) refl, ← c.count) midpoint_new
        at j (inr h) =
            rw (get_or-append es (pair_in ks p q ∷ []) (0, 0) j h)
            (midpoint_kept n ks longer (n + j) (ends_at es j) behind (omega (arith, c.count)) (c.midpoint j h))

  pub corners_add : NumberedCorners n (add_corner ks (p, q)) (add_pair es (number_in ks p, number_in ks q))
  unfolding add_pair
  corners_add =
      ⊎_elim (λ (t : Has ks (mid p q)). rw (corner_old ks (p, q) t, add_old isb es (pair_in ks p q) (sym has_midpoint ∙ t)) c)
      (λ (t : hasb sameb (weights_of ks) (mid p q) ≡ false). rw
      (corner_new ks (p, q) t, add_new isb es (pair_in ks p q) (sym has_midpoint ∙ t)) (corners_longer t))
      (either (hasb sameb (weights_of ks) (mid p q)))
