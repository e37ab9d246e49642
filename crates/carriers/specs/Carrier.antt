-- Two regular cells of one level that share two points of their cuts, which the red family of the second cell joins. The corners
-- between which the two points lie are then corners of both cells, and the edges between these are edges of both.
--   Shares c q i   the corner i of c is a corner of q
-- Laws: between_below, between_low, between_high, edge_between (the edge between two corners), joins_self, held_between (an edge
-- between shared corners is one of both cells), carried (a family of the first cell joins the two points, where the edges that
-- the second cell has are split), shared (there is such an edge); carried_edge and shared_edge, the same where the two points
-- are the ends of one edge in some order.
use Rattle.std.specs.Prelude.{[], ◌≡◌, refl, Bool, ◌&&◌, ℕ, ◌<◌}
use Rattle.std.proofs.Common.{ap₂, ⊎_elim, arith}
use Rattle.std.proofs.Math.Bool.{true, false}
use Rattle.std.proofs.Math.Dec.{T, ltb}
use borrow.Author.Tests.{ltb-true}
use Rattle.base.specs.Lists.{allb, sameb}
use Rattle.base.specs.Bools.{impb, and_both}
use Rattle.base.specs.Places.{sameb_self}
use Rattle.cutting.specs.Rule.{low, high, digit, edge_of, split, family}
use Rattle.families.specs.Faces.{joinedb}
use Rattle.mesh.specs.Cells.{Cell, corner, edge, edges, joinsb, heldb}
use Rattle.mesh.specs.Weights.{Point, point}
use Rattle.base.specs.Every.{Below, below_at, All, all_pass}
use Rattle.families.specs.Kuhn.{digit_ends}
use Rattle.lattice.specs.Regular.{Regular, same_ends}
use Rattle.families.specs.Children.{middle}
use Rattle.lattice.specs.Edges.{joins}
use Rattle.carriers.specs.Lists.{held_at}
use Rattle.families.specs.Joining.{agreeb, orderedb, join_corners, joined_alike, joined_split, joined_mid, joined_turned}
use Rattle.carriers.specs.Order.{lower_too, agree}

-- the edge between two corners
pub between_below : (i j : ℕ) → i < j → j < 4 → edge_of (digit i j) < 6
unfolding edge_of digit
between_below i j h l = below_at (λ i. i < j → edge_of (digit i j) < 6) 4
    (below_at (λ j. Below (λ i. i < j → edge_of (digit i j) < 6) 4) 4 (omega arith) j l) i (omega arith) h

pub between_low : (i j : ℕ) → i < j → j < 4 → low (middle (edge_of (digit i j))) ≡ i
unfolding edge_of digit low high
between_low i j h l =
    below_at (λ i. i < j → low (middle (edge_of (digit i j))) ≡ i) 4
    (below_at (λ j. Below (λ i. i < j → low (middle (edge_of (digit i j))) ≡ i) 4) 4 (omega arith) j l) i (omega arith) h

pub between_high : (i j : ℕ) → i < j → j < 4 → high (middle (edge_of (digit i j))) ≡ j
unfolding edge_of digit low high
between_high i j h l =
    below_at (λ i. i < j → high (middle (edge_of (digit i j))) ≡ j) 4
    (below_at (λ j. Below (λ i. i < j → high (middle (edge_of (digit i j))) ≡ j) 4) 4 (omega arith) j l) i (omega arith) h

pub edge_between : {A : Type 0} (o : A) (c : Cell A) (i j : ℕ) → i < j → j < 4
    → edge o c (edge_of (digit i j)) ≡ (corner o c i, corner o c j)
unfolding edge
edge_between o c i j h l =
    ap₂ (λ (a b : ℕ). (corner o c a, corner o c b)) (between_low i j h l) (between_high i j h l)

pub joins_self : (e : Point × Point) → T (joinsb sameb e e)
unfolding joinsb
joins_self e = rw (sameb_self e.0, sameb_self e.1) tt

six : (a b c d e f : Bool) → T a → T b → T c → T d → T e → T f → T ((a && b) && ((c && d) && (e && f)))
six a b c d e f t u v w x y =
    and_both (a && b) ((c && d) && (e && f)) (and_both a b t u) (and_both (c && d) (e && f) (and_both c d v w) (and_both e f x y))

abbrev pub Shares : Cell Point → Cell Point → ℕ → Type 0
Shares c q i = (m : ℕ) × (i < 4) × (m < 4) × (corner [] c i ≡ corner [] q m)

module _ (n k : ℕ) (c q : Cell Point) (h : k < 10) (r : Regular n k c) (s : Regular n k q) where
  held_between : (i j : ℕ) → i < j → Shares c q i → Shares c q j → T (heldb sameb (edges [] q) (edge [] c (edge_of (digit i j))))
  held_between i j l (m, _, hm, e) (m', hj, hm', e') =
      let w : m < m' = lower_too n k c q r s i j m m' hj hm e e' l in
      held_at [] q sameb (edge [] c (edge_of (digit i j))) (edge_of (digit m m')) (between_below m m' w hm')
      (rw (edge_between [] c i j l hj, edge_between [] q m m' w hm', e, e') (joins_self (corner [] q m, corner [] q m')))

  module _ (d e a b : ℕ) (hd : d < 10) (he : e < 10) (ha : a < 10) (hb : b < 10) (x : point c d ≡ point q a) (y : point c e ≡ point q b)
      (t : T (joinedb (family 63) a b)) where
    ordered : T (orderedb d e a b)
    ordered =
        let (x0, x1) = same_ends n k c q r s h d a hd ha x in
        let (y0, y1) = same_ends n k c q r s h e b he hb y in
        let (d0, d1) = digit_ends d hd in
        let (e0, e1) = digit_ends e he in
        let (a0, a1) = digit_ends a ha in
        let (b0, b1) = digit_ends b hb in
        let ag = agree n k c q r s in
        six (agreeb (low d) (high d) (low a) (high a)) (agreeb (low e) (high e) (low b) (high b)) (agreeb (low d) (low e) (low a) (low b))
        (agreeb (low d) (high e) (low a) (high b)) (agreeb (high d) (low e) (high a) (low b)) (agreeb (high d) (high e) (high a) (high b))
        (ag (low d) (high d) (low a) (high a) (omega arith) d1 (omega arith) a1 x0 x1)
        (ag (low e) (high e) (low b) (high b) (omega arith) e1 (omega arith) b1 y0 y1)
        (ag (low d) (low e) (low a) (low b) (omega arith) (omega arith) (omega arith) (omega arith) x0 y0)
        (ag (low d) (high e) (low a) (high b) (omega arith) e1 (omega arith) b1 x0 y1)
        (ag (high d) (low e) (high a) (low b) d1 (omega arith) a1 (omega arith) x1 y0)
        (ag (high d) (high e) (high a) (high b) d1 e1 a1 b1 x1 y1)

    joined : T (joinedb (family 63) d e)
    joined = joined_alike d e hd he a b ha hb t ordered

    corners_shared : All (Shares c q) (join_corners d e)
    corners_shared =
        let (x0, x1) = same_ends n k c q r s h d a hd ha x in
        let (y0, y1) = same_ends n k c q r s h e b he hb y in
        let (d0, d1) = digit_ends d hd in
        let (e0, e1) = digit_ends e he in
        let (a0, a1) = digit_ends a ha in
        let (b0, b1) = digit_ends b hb in
        ((low a, omega arith, omega arith, x0), ((high a, d1, a1, x1), ((low b, omega arith, omega arith, y0), ((high b, e1, b1, y1), tt))))

    carried : (p : ℕ) → p < 64 → ((z : ℕ) → z < 6 → T (heldb sameb (edges [] q) (edge [] c z)) → T (split p z))
        → T (joinedb (family p) d e)
    unfolding impb
    carried p hp f =
        joined_split d e hd he p hp joined
        (all_pass (Shares c q) (λ i. allb (λ j. impb (ltb i j) (split p (edge_of (digit i j)))) (join_corners d e))
        (λ i u. all_pass (Shares c q) (λ j. impb (ltb i j) (split p (edge_of (digit i j)))) (λ j v. go i j u v (ltb i j) refl)
        (join_corners d e) corners_shared)
        (join_corners d e) corners_shared)
      where
        go : (i j : ℕ) → Shares c q i → Shares c q j → (z : Bool) → ltb i j ≡ z → T (impb z (split p (edge_of (digit i j))))
        go i j u v true w = let l : i < j = ltb-true i j w in f (edge_of (digit i j)) (between_below i j l v.1) (held_between i j l u v)
        go i j u v false w = tt

    shared : (d ≡ e → ⊥) → (z : ℕ) × (z < 6) × T (heldb sameb (edges [] q) (edge [] c z))
    shared w =
        let u = corners_shared in
        ⊎_elim (λ (l : low d < high d). (
          edge_of (digit (low d) (high d)),
          between_below (low d) (high d) l (digit_ends d hd).1,
          held_between (low d) (high d) l u.0 u.1.0,
        ))
        (λ (l : low e < high e). (
          edge_of (digit (low e) (high e)),
          between_below (low e) (high e) l (digit_ends e he).1,
          held_between
              (low e) (high e) l u.1.1.0 u.1.1.1.0,
        ))
        (joined_mid d e hd he joined w)

  -- where the two points are the ends of an edge
  module _ (d e a b : ℕ) (hd : d < 10) (he : e < 10) (ha : a < 10) (hb : b < 10) (t : T (joinedb (family 63) a b))
      (x : T (joinsb sameb (point c d, point c e) (point q a, point q b))) where
    pub carried_edge : (p : ℕ) → p < 64 → ((z : ℕ) → z < 6 → T (heldb sameb (edges [] q) (edge [] c z)) → T (split p z))
        → T (joinedb (family p) d e)
    carried_edge p hp f =
        ⊎_elim (λ (u : (point c d ≡ point q a) × (point c e ≡ point q b)). carried d e a b hd he ha hb u.0 u.1 t p hp f)
        (λ (u : (point c d ≡ point q b) × (point c e ≡ point q a)). carried d e b a hd he hb ha u.0 u.1 (joined_turned a b ha hb t) p
        hp f)
        (joins (point c d) (point c e) (point q a) (point q b) x)

    pub shared_edge : (d ≡ e → ⊥) → (z : ℕ) × (z < 6) × T (heldb sameb (edges [] q) (edge [] c z))
    shared_edge w =
        ⊎_elim (λ (u : (point c d ≡ point q a) × (point c e ≡ point q b)). shared d e a b hd he ha hb u.0 u.1 t w)
        (λ (u : (point c d ≡ point q b) × (point c e ≡ point q a)). shared d e b a hd he hb ha u.0 u.1 (joined_turned a b ha hb t) w)
        (joins (point c d) (point c e) (point q a) (point q b) x)
