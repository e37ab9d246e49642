-- NumberedCorners by weights beside the program's list of ends: the corner n + j is the midpoint of the two corners that the j-th
-- pair names, where n is the number of coarse corners.
--   corner_at ks i, weights_at ks i   the corner i, and its weights
--   ends_at es j          the j-th pair
--   Has ks p             some corner has the weights p
--   Kept ks ks'          ks' has the corners of ks with their numbers, and perhaps more behind them
--   Midpoint n ks i e    corner i is the midpoint of the corners e, which are the ends of an edge of a regular cell
--   NumberedCorners n ks es      the corners ks are the coarse ones and behind them the midpoints of the pairs es, no two alike
-- Laws: number_there, number_below, number_own, number_injective (numbers and weights), has_corner, kept_same, kept_both (Kept is
-- an order), kept_corner, kept_has, kept_number (what it says), corners_start (the coarse corners), corner_coarse,
-- number_coarse (they are the first), corner_sized, even_sum (weights).
use Rattle.std.specs.Prelude.{◌≡◌, ◌≢◌, true, take}
use Rattle.std.proofs.Math.Path.{sym, ap}
use Rattle.std.proofs.Common.{◌∙◌, eq-or-lt_of_le, arith, take_all, get_or-take}
use Rattle.std.proofs.Math.Logic.{⊎_elim}
use mathlib.Core.List.{List, [], ◌∷◌, ◌++◌, map-append, append_assoc, append-nil}
use Prim.Native.Nat.{ℕ, zero, suc, ◌+◌, ◌-◌, ◌%◌, ◌≤◌, ◌<◌}
use Rattle.std.proofs.Math.Decide.{dec_lt}
use Rattle.std.proofs.Math.ListN.{length, get_or, replicate, length-map, length-replicate, get_or-replicate, get_or-append, get_or-map}
use Rattle.std.proofs.Math.Seq.{get_or-set_same, get_or-set_other}
use Rattle.std.proofs.lemmas.List.{get_or_at}
use Rattle.base.specs.Lists.{sameb}
use Rattle.base.specs.Places.{hasb, place_in, Distinct, has_at, has_below, has_append, place_there, place_append, distinct_nil}
use Rattle.base.specs.Places.{distinct_snoc, same_list}
use Rattle.base.specs.Bools.{either}
use Rattle.mesh.specs.Weights.{Point, coarse, mid}
use Rattle.mesh.specs.Layout.{Corner, weights_of, number_in, coarse_corners, coarse_corners_to}
use Rattle.mesh.specs.Laws.{length-corners}
use Rattle.edges.specs.Pairs.{Pair}
use Rattle.lattice.specs.Tails.{Sized, sized_coarse}
use Rattle.numbering.specs.Ends.{Splittable, mid_sized, ends_even}

abbrev pub no_corner : Corner
no_corner = record { weights = []; low = 0; high = 0 }

abbrev pub corner_at : List Corner → ℕ → Corner
corner_at ks i = get_or ks i no_corner

abbrev pub weights_at : List Corner → ℕ → Point
weights_at ks i = (corner_at ks i).weights

abbrev pub Has : List Corner → Point → Type 0
Has ks p = hasb sameb (weights_of ks) p ≡ true

pub record Kept (ks ks' : List Corner) : Type 0 where
  pub more : List Corner
  pub longer : ks' ≡ ks ++ more

-- Rules 5.2, 5.5: a midpoint by its ends' numbers.
pub record Midpoint (n : ℕ) (ks : List Corner) (i : ℕ) (e : Pair) : Type 0 where
  pub order : e.0 < e.1
  pub before : e.1 < i
  pub low_is : (corner_at ks i).low ≡ e.0
  pub high_is : (corner_at ks i).high ≡ e.1
  pub middle : weights_at ks i ≡ mid (weights_at ks e.0) (weights_at ks e.1)
  pub ends : Splittable n (weights_at ks e.0) (weights_at ks e.1)

abbrev pub ends_at : List Pair → ℕ → Pair
ends_at es j = get_or es j (0, 0)

-- Rule 5.5: the coarse corners, then midpoints, no two alike.
pub record NumberedCorners (n : ℕ) (ks : List Corner) (es : List Pair) : Type 0 where
  pub count : length ks ≡ n + length es
  pub first : take n ks ≡ coarse_corners n
  pub distinct : Distinct sameb [] same_list (weights_of ks)
  pub midpoint : (j : ℕ) → j < length es → Midpoint n ks (n + j) (ends_at es j)

-- Numbers and weights.
weights_at_lem : (ks : List Corner) (i : ℕ) → get_or (weights_of ks) i [] ≡ weights_at ks i
weights_at_lem ks i = get_or-map (λ k. k.weights) ks i no_corner

module _ (ks : List Corner) where
  pub number_there : (p : Point) → Has ks p → weights_at ks (number_in ks p) ≡ p
  unfolding number_in
  number_there p h = sym (weights_at_lem ks (place_in sameb (weights_of ks) p)) ∙ place_there sameb [] same_list (weights_of ks) p h

  pub number_below : (p : Point) → Has ks p → number_in ks p < length ks
  unfolding number_in
  number_below p h = rw length-map at (has_below sameb (weights_of ks) p h)

  pub has_corner : (i : ℕ) → i < length ks → Has ks (weights_at ks i)
  has_corner i h = rw (weights_at_lem ks i) at (has_at sameb [] same_list (weights_of ks) i (rw (length-map ks (λ k. k.weights)) h))

  pub number_own : Distinct sameb [] same_list (weights_of ks) → (i : ℕ) → i < length ks → number_in ks (weights_at ks i) ≡ i
  unfolding number_in
  number_own d i h = rw (weights_at_lem ks i) at (d.own i (rw (length-map ks (λ k. k.weights)) h))

  pub number_injective : (p q : Point) → Has ks p → Has ks q → number_in ks p ≡ number_in ks q → p ≡ q
  number_injective p q hp hq e = sym (number_there p hp) ∙ ap (weights_at ks) e ∙ number_there q hq

-- NumberedCorners added behind keep the numbers of the others.
pub kept_same : (ks : List Corner) → Kept ks ks
kept_same ks = record { more = []; longer = sym (append-nil ks) }

pub kept_both : (ks ks₁ ks₂ : List Corner) → Kept ks ks₁ → Kept ks₁ ks₂ → Kept ks ks₂
kept_both ks ks₁ ks₂ s t = record { more = s.more ++ t.more; longer = rw (t.longer, s.longer) (append_assoc ks s.more t.more) }

module _ (ks ks' : List Corner) (k : Kept ks ks') where
  pub kept_corner : (i : ℕ) → i < length ks → corner_at ks' i ≡ corner_at ks i
  kept_corner i h = rw k.longer (get_or-append ks k.more no_corner i h)

  pub kept_weights : (i : ℕ) → i < length ks → weights_at ks' i ≡ weights_at ks i
  kept_weights i h = ap (λ (k : Corner). k.weights) (kept_corner i h)

  pub kept_has : (p : Point) → Has ks p → Has ks' p
  kept_has p h = rw (k.longer, map-append, has_append sameb (weights_of ks) (weights_of k.more) p, h)

  pub kept_number : (p : Point) → Has ks p → number_in ks' p ≡ number_in ks p
  unfolding number_in
  kept_number p h = rw (k.longer, map-append) (place_append sameb (weights_of ks) (weights_of k.more) p h)

-- The coarse corners.
module _ (n : ℕ) where
  abbrev coarse_corner : ℕ → Corner
  coarse_corner i = record { weights = coarse n i; low = i; high = i }

  coarse_at : (m i : ℕ) → i < m → corner_at (coarse_corners_to n m) i ≡ coarse_corner i
  unfolding coarse_corners_to
  coarse_at zero i h = absurd (omega arith)
  coarse_at (suc m) i h =
      ⊎_elim (λ (e : i ≡ m). rw e (get_or_at (coarse_corners_to n m) (coarse_corner m) [] no_corner m (length-corners n m)))
      (λ (l : i < m). get_or-append (coarse_corners_to n m) (coarse_corner m ∷ []) no_corner i (rw (length-corners n m) l) ∙ coarse_at m i l)
      (eq-or-lt_of_le (omega arith))

  coarse_differ : (i j : ℕ) → i < n → j < n → i ≢ j → coarse n i ≢ coarse n j
  unfolding coarse
  coarse_differ i j hi hj d e =
      let z : List ℕ = replicate n 0 in
      let l : length z ≡ n = length-replicate n 0 in
      let a : get_or (coarse n i) i 0 ≡ 1024 = get_or-set_same z i 1024 0 (rw l hi) in
      let b : get_or (coarse n j) i 0 ≡ 0 = get_or-set_other z j i 1024 0 d ∙ get_or-replicate n i 0 0 hi in
      omega (arith, ap (λ (p : Point). get_or p i 0) e)

  coarse_distinct : (m : ℕ) → m ≤ n → Distinct sameb [] same_list (weights_of (coarse_corners_to n m))
  unfolding coarse_corners_to
  coarse_distinct zero h = distinct_nil sameb [] same_list
  coarse_distinct (suc m) h =
      rw map-append (distinct_snoc sameb [] same_list (weights_of (coarse_corners_to n m)) (coarse n m) (coarse_distinct m (omega arith))
      (⊎_elim (λ (t : Has (coarse_corners_to n m) (coarse n m)). absurd (old t)) (λ t. t)
      (either (hasb sameb (weights_of (coarse_corners_to n m)) (coarse n m)))))
    where
      old : Has (coarse_corners_to n m) (coarse n m) → ⊥
      old t =
          let i = number_in (coarse_corners_to n m) (coarse n m) in
          let l : i < m = rw (length-corners n m) at (number_below (coarse_corners_to n m) (coarse n m) t) in
          coarse_differ i m (omega arith) (omega arith) (λ e. omega arith)
          (ap (λ (k : Corner). k.weights) (sym (coarse_at m i l)) ∙ number_there (coarse_corners_to n m) (coarse n m) t)

pub corners_start : (n : ℕ) → NumberedCorners n (coarse_corners n) []
unfolding coarse_corners
corners_start n =
    record {
      count = length-corners n n ∙ omega arith;
      first = take_all n (coarse_corners_to n n) (omega (arith, length-corners n n));
      distinct = coarse_distinct n n (omega arith);
      midpoint = λ j h. absurd (omega arith);
    }

-- The coarse corners are the first. Every corner has n weights that add to 1,024, and the weights of a midpoint's ends have
-- even sums.
module _ (n : ℕ) (ks : List Corner) (es : List Pair) (c : NumberedCorners n ks es) where
  corner_coarse : (i : ℕ) → i < n → corner_at ks i ≡ coarse_corner n i
  unfolding coarse_corners
  corner_coarse i h = sym (get_or-take n ks i no_corner h) ∙ ap (λ (l : List Corner). corner_at l i) c.first ∙ coarse_at n n i h

  pub weights_coarse : (i : ℕ) → i < n → weights_at ks i ≡ coarse n i
  weights_coarse i h = ap (λ (k : Corner). k.weights) (corner_coarse i h)

  pub number_coarse : (i : ℕ) → i < n → number_in ks (coarse n i) ≡ i
  number_coarse i h = ap (number_in ks) (sym (weights_coarse i h)) ∙ number_own ks c.distinct i (omega (arith, c.count))

  pub corner_sized : (i : ℕ) → i < length ks → Sized n (weights_at ks i)
  corner_sized i h =
      elim (dec_lt i n) [
        | yes l ↦ rw (weights_coarse i l) (sized_coarse n i l)
        | no l ↦ fine (i - n) (omega arith) (omega (arith, c.count))
      ]
    where
      fine : (j : ℕ) → i ≡ n + j → j < length es → Sized n (weights_at ks i)
      fine j e l = let m = c.midpoint j l in rw (e, m.middle) (mid_sized n _ _ m.ends)

  pub even_sum : (j : ℕ) → j < length es → (i : ℕ) → (get_or (weights_at ks (ends_at es j).0) i 0 + get_or (weights_at ks (ends_at es j).1) i 0) %
      2 ≡ 0
  even_sum j h i = ends_even n _ _ (c.midpoint j h).ends i
