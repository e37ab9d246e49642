-- The turns of the loop over a cell's six edges: the points found keep their numbers, and the edge at hand adds one.
-- Assumes nothing.
use mathlib.Core.Path.{◌≡◌, refl, sym, ◌∙◌, ap}
use mathlib.Core.Logic.{⊎_elim}
use mathlib.Core.Bool.{true, false, ◌&&◌, not, or-true}
use mathlib.Core.List.{List, [], ◌∷◌, ◌++◌, map, map-append}
use Prim.Native.Nat.{ℕ, suc, ◌+◌, ◌*◌, ◌≤◌, ◌<◌}
use native.Mathlib.Nat.{eq-or-lt_of_le}
use native.Mathlib.Omega.{arith}
use lib.Dec.{T, eqb, eqb→eq}
use lib.ListN.{length, get_or, take, drop, set, length-set, length-append, length-map, take-append-drop}
use lib.Seq.{get_or-set_same, get_or-set_other}
use Rattle.base.specs.Lists.{belowb, belowb_at, filterb, memberb}
use Rattle.base.specs.Bools.{and_left, and_right, is_false, either, not_both}
use Rattle.base.specs.Places.{hasb, place_in}
use Rattle.base.specs.Append.{filter_append}
use Rattle.base.specs.Every.{get_d_map}
use Rattle.cutting.specs.Rule.{low, high, edge_of, points, split, present}
use Rattle.mesh.specs.Cells.{Cell, corner, edge, pattern_of}
use Rattle.mesh.specs.Layout.{edge_numbers, split_edges}
use Rattle.mesh.specs.Laws.{edges_more}
use Rattle.edges.specs.Pairs.{Pair, sorted, isb, add_pairs, same_pair, has_pairs}
use Rattle.pairs.specs.declared.PairTable.{PairTable}
use Rattle.edges.specs.Table.{entries, Space, Grown, grown_none, grown_both}
use Rattle.rows.specs.Numbered.{cell_at, point_at}
use Rattle.rows.specs.Laws.{point_at_corner}
use Rattle.growth.specs.Places.{middle_edge, extends_pairs, present_point, middle_digit, point_middle}
use Rattle.growth.specs.Points.{split_at, low_corners, marked, Mids, mids_grown, PointsSet, ReadyToGrow}
use Rattle.growth.proofs.Found.{middle_below}
use Rattle.growth.proofs.Split.{split_one, marked_none, marked_one}

-- the edges below e that are split
unfoldable pub splits_to : ℕ → Cell ℕ → ℕ → List Pair
unfolding edge filterb split
splits_to p c e = map (edge 0 c) (filterb (split p) (take e edge_numbers))

module _ (p : ℕ) (c : Cell ℕ) where
  splits_more : (e : ℕ) → e < 6 → splits_to p c (suc e) ≡ splits_to p c e ++ split_at p c e
  unfolding splits_to split_at
  splits_more e h =
      ap (λ (l : List ℕ). map (edge 0 c) (filterb (split p) l)) (edges_more e h)
      ∙ ap (map (edge 0 c)) (filter_append (split p) (take e edge_numbers) (e ∷ []))
      ∙ map-append (edge 0 c) (filterb (split p) (take e edge_numbers)) (filterb (split p) (e ∷ []))

  splits_within : (e : ℕ) → length (splits_to p c e) ≤ length (splits_to p c 6)
  unfolding splits_to
  splits_within e =
      let w : filterb (split p) edge_numbers ≡ filterb (split p) (take e edge_numbers) ++ filterb (split p) (drop e edge_numbers) =
      ap (filterb (split p)) (sym (take-append-drop e edge_numbers)) ∙ filter_append (split p) (take e edge_numbers) (drop e edge_numbers) in
      simp length-map (omega (
        arith,
        ap length w,
        length-append (filterb (split p) (take e edge_numbers))
            (filterb (split p) (drop e edge_numbers)),
      ))

splits_all : (s : ℕ) (c : Cell ℕ) → splits_to (pattern_of s) c 6 ≡ split_edges 0 c s
unfolding splits_to split_edges
splits_all s c = refl

-- the six digits of midpoints are different from each other and from those of the corners
digits_test : T (belowb (λ e. not (eqb (low (middle_edge e)) (high (middle_edge e))) && eqb (edge_of (middle_edge e)) e) 6)
unfolding belowb low high edge_of middle_edge
digits_test = tt

module _ (e : ℕ) (h : e < 6) where
  digit_right : T (not (eqb (low (middle_edge e)) (high (middle_edge e))) && eqb (edge_of (middle_edge e)) e)
  digit_right = belowb_at (λ e. not (eqb (low (middle_edge e)) (high (middle_edge e))) && eqb (edge_of (middle_edge e)) e) 6 digits_test e h

  no_corner_lem : eqb (low (middle_edge e)) (high (middle_edge e)) ≡ false
  no_corner_lem = is_false (eqb (low (middle_edge e)) (high (middle_edge e)))
      (and_left (not (eqb (low (middle_edge e)) (high (middle_edge e)))) (eqb (edge_of (middle_edge e)) e) digit_right)

  edge_back : edge_of (middle_edge e) ≡ e
  edge_back = eqb→eq (edge_of (middle_edge e)) e
      (and_right (not (eqb (low (middle_edge e)) (high (middle_edge e)))) (eqb (edge_of (middle_edge e)) e) digit_right)

-- the numbers after the edges below e
pub record Numbered (n : ℕ) (es : List Pair) (c : Cell ℕ) (p e : ℕ) (ps : List ℕ) : Type 0 where
  pub long : length ps ≡ 10
  pub corners : (d : ℕ) → d < 10 → eqb (low d) (high d) ≡ true → get_or ps d 0 ≡ corner 0 c (low d)
  pub has : (f : ℕ) → f < e → split p f ≡ true → hasb isb es (sorted (edge 0 c f)) ≡ true
  pub middles : (f : ℕ) → f < e → split p f ≡ true → get_or ps (middle_edge f) 0 ≡ n + place_in isb es (sorted (edge 0 c f))

lows : (c : Cell ℕ) (d : ℕ) → d < 10 → get_or (low_corners c) d 0 ≡ corner 0 c (low d)
unfolding low_corners belowb
lows c d h =
    get_d_map (λ d. corner 0 c (low d)) points d 0 0 h
    ∙ ap (λ (i : ℕ). corner 0 c (low i)) (eqb→eq (get_or points d 0) d (belowb_at (λ d. eqb (get_or points d 0) d) 10 tt d h))

numbered_none : (n : ℕ) (es : List Pair) (c : Cell ℕ) (p : ℕ) → Numbered n es c p 0 (low_corners c)
unfolding low_corners
numbered_none n es c p =
    record { long = refl; corners = λ d h e. lows c d h; has = λ f h t. absurd (omega arith); middles = λ f h t. absurd (omega arith) }

module _ (n : ℕ) (es : List Pair) (c : Cell ℕ) (p e : ℕ) (ps : List ℕ) (h : e < 6) (r : Numbered n es c p e ps) where
  has_own : split p e ≡ true → hasb isb (add_pairs es (split_at p c e)) (sorted (edge 0 c e)) ≡ true
  unfolding hasb
  has_own t =
      has_pairs es (split_at p c e) (sorted (edge 0 c e)) ∙ rw (split_one p c e t, same_pair.self (sorted (edge 0 c e)), or-true)

  has_more : (f : ℕ) → f ≤ e → split p f ≡ true → hasb isb (add_pairs es (split_at p c e)) (sorted (edge 0 c f)) ≡ true
  has_more f l t =
      ⊎_elim (λ (q : f ≡ e). rw q (has_own (rw q at t)))
      (λ (q : f < e). (extends_pairs es (split_at p c e)).has (sorted (edge 0 c f)) (r.has f q t))
      (eq-or-lt_of_le l)

  module _ (es' : List Pair) (q : es' ≡ add_pairs es (split_at p c e)) where
    stays : (f : ℕ) → f < e → split p f ≡ true → place_in isb es' (sorted (edge 0 c f)) ≡ place_in isb es (sorted (edge 0 c f))
    stays f l u = rw q ((extends_pairs es (split_at p c e)).place (sorted (edge 0 c f)) (r.has f l u))

    whole_more : split p e ≡ false → Numbered n es' c p (suc e) (marked n es' c p e ps)
    whole_more t =
        rw (marked_none p c e n es' ps t)
        (record {
          long = r.long;
          corners = r.corners;
          has = λ f l u. rw q (has_more f (omega arith) u);
          middles = λ f l u. r.middles f (less f l u) u ∙ ap (λ (k : ℕ). n + k) (sym (stays f (less f l u) u));
        })
      where
        less : (f : ℕ) → f < suc e → split p f ≡ true → f < e
        less f l u = ⊎_elim (λ (w : f ≡ e). not_both (split p e) (rw w at u) t) (λ (w : f < e). w) (eq-or-lt_of_le (omega arith))

    halved_more : split p e ≡ true → Numbered n es' c p (suc e) (marked n es' c p e ps)
    halved_more t =
        rw (marked_one p c e n es' ps t)
        (record {
          long = length-set ps (middle_edge e) (n + place_in isb es' (sorted (edge 0 c e))) ∙ r.long;
          corners = λ d l u. get_or-set_other ps (middle_edge e) d (n + place_in isb es' (sorted (edge 0 c e))) 0 (apart d u)
              ∙ r.corners d l u;
          has = λ f l u. rw q (has_more f (omega arith) u);
          middles = λ f l u. ⊎_elim (same f) (λ (w : f < e). older f w u) (eq-or-lt_of_le (omega arith));
        })
      where
        apart : (d : ℕ) → eqb (low d) (high d) ≡ true → d ≡ middle_edge e → ⊥
        apart d u w = not_both (eqb (low (middle_edge e)) (high (middle_edge e))) (rw w at u) (no_corner_lem e h)

        same : (f : ℕ) → f ≡ e → get_or (set ps (middle_edge e) (n + place_in isb es' (sorted (edge 0 c e)))) (middle_edge f) 0 ≡ n + place_in isb
            es' (sorted (edge 0 c f))
        same f w = rw w (get_or-set_same ps (middle_edge e) (n + place_in isb es' (sorted (edge 0 c e))) 0 (rw r.long (middle_below e h)))

        older : (f : ℕ) → f < e → split p f ≡ true → get_or (set ps (middle_edge e) (n + place_in isb es' (sorted (edge 0 c e)))) (middle_edge f)
            0 ≡ n + place_in isb es' (sorted (edge 0 c f))
        older f w u =
            let other : middle_edge f ≡ middle_edge e → ⊥ = λ v. let z : f ≡ e = sym (edge_back f (omega arith)) ∙ ap edge_of v
            ∙ edge_back e h in omega arith in
            get_or-set_other ps (middle_edge e) (middle_edge f) (n + place_in isb es' (sorted (edge 0 c e))) 0 other
            ∙ r.middles f w u ∙ ap (λ (k : ℕ). n + k) (sym (stays f w u))

    numbered_more : Numbered n es' c p (suc e) (marked n es' c p e ps)
    numbered_more = ⊎_elim halved_more whole_more (either (split p e))

-- after all six edges, each present point has its number
numbered_all : (n : ℕ) (es : List Pair) (c : Cell ℕ) (p : ℕ) (ps : List ℕ) → Numbered n es c p 6 ps → PointsSet n es c p ps
unfolding middle_edge
numbered_all n es c p ps r = record { at = λ d t. ⊎_elim (own d t) (between d t) (either (eqb (low d) (high d))) }
  where
    own : (d : ℕ) → T (memberb d (present p)) → eqb (low d) (high d) ≡ true → get_or ps d 0 ≡ point_at n es c d
    own d t e = r.corners d (present_point p d t).0 e ∙ sym (point_at_corner n es c d e)

    between : (d : ℕ) → T (memberb d (present p)) → eqb (low d) (high d) ≡ false → get_or ps d 0 ≡ point_at n es c d
    between d t e =
        let q = present_point p d t in
        let m = middle_digit d q.0 e in
        let u : split p (edge_of d) ≡ true = rw e at q.1 in
        let v : middle_edge (edge_of d) ≡ d = m.digit in
        rw v at (r.middles (edge_of d) m.edge u) ∙ sym (point_middle n es c d e q.0)

-- what is known behind the edges below e
pub record Turn {N H : ℕ} (c : Cell ℕ) (p n : ℕ) (t₀ t : PairTable N H) (ps : List ℕ) (e : ℕ) : Type 0 where
  pub mids : Mids t
  pub grown : Grown t₀ (splits_to p c e) t
  pub numbered : Numbered n (entries t) c p e ps

module _ {N H : ℕ} {c : Cell ℕ} {p n : ℕ} {t₀ : PairTable N H} where
  pub turn_start : Mids t₀ → (ps : List ℕ) → ps ≡ low_corners c → Turn c p n t₀ t₀ ps 0
  unfolding splits_to
  turn_start r ps q = record { mids = r; grown = grown_none t₀ r.distinct; numbered = rw q (numbered_none n (entries t₀) c p) }

  module _ {t : PairTable N H} {ps : List ℕ} {e : ℕ} (r : Turn c p n t₀ t ps e) (h : e < 6) where
    within : t.n + length (split_at p c e) ≤ t₀.n + length (splits_to p c 6)
    within =
        omega (
          arith,
          r.grown.most,
          splits_within p c (suc e),
          ap length (splits_more p c e h),
          length-append (splits_to p c e) (split_at p c e),
        )

    turn_room : Space t₀ (length (splits_to p c 6)) → Space t (length (split_at p c e))
    turn_room s = record { small = omega (arith, within, s.small); inside = omega (arith, within, s.inside) }

    turn_small : n + t₀.n + length (splits_to p c 6) < 65536 → n + t.n < 65536
    turn_small s = omega (arith, within)

    pub turn_more : {t' : PairTable N H} {ps' : List ℕ} → Grown t (split_at p c e) t' → ps' ≡ marked n (entries t') c p e ps
        → Turn c p n t₀ t' ps' (suc e)
    turn_more {t'} {ps'} g w =
        record {
          mids = mids_grown r.mids g;
          grown = rw (splits_more p c e h) (grown_both r.grown g);
          numbered = rw w (numbered_more n (entries t) c p e ps h r.numbered (entries t') g.list);
        }

  pub turn_all : {t : PairTable N H} {ps : List ℕ} → Turn c p n t₀ t ps 6 → (s : ℕ) → p ≡ pattern_of s
      → Grown t₀ (split_edges 0 c s) t × PointsSet n (entries t) c (pattern_of s) ps
  turn_all {t} {ps} r s q =
      let v : splits_to p c 6 ≡ split_edges 0 c s = rw q (splits_all s c) in
      (rw v at r.grown, rw q at (numbered_all n (entries t) c p ps r.numbered))

-- what the next edge asks for
module _ {N H : ℕ} {cells : List ℕ} {c s p n : ℕ} {t₀ : PairTable N H} (r : ReadyToGrow cells t₀ c s n) (q : p ≡ pattern_of s)
    {t : PairTable N H} {ps : List ℕ} {e : ℕ} (k : Turn (cell_at cells c) p n t₀ t ps e) (h : e < 6) where
  all_splits : splits_to p (cell_at cells c) 6 ≡ split_edges 0 (cell_at cells c) s
  all_splits = rw q (splits_all s (cell_at cells c))

  pub turn_ready : ((8 * c + 8 ≤ length cells) × (e < 6) × (n + t.n < 65536)) × Space t (length (split_at p (cell_at cells c) e))
  turn_ready =
      let room : Space t₀ (length (splits_to p (cell_at cells c) 6)) = rw all_splits r.space in
      let fits : n + t₀.n + length (splits_to p (cell_at cells c) 6) < 65536 = rw all_splits r.small in
      ((r.inside, h, turn_small k h fits), turn_room k h room)
