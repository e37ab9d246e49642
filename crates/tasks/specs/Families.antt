-- The children of a cell stand one after the other, behind those of all cells before it.
--   KidAt k c i      what the number first_child c + i stands for, where c is a cell of level k
-- Laws: below_up (the cells of two levels), kid_at (each child by its number), kids_are (the children of a cell), kids_inside (they are
-- cells of the table), status_most (the statuses of a sound table), parent_in (a parent stands one level down).
use Rattle.std.specs.Prelude.{◌≡◌, ◌≢◌, Bool, eqb, get_or}
use Rattle.std.proofs.Math.Path.{refl, ap}
use Rattle.std.proofs.Common.{sym, ◌∙◌, ap₂, subst, take-suc, eq-eqb, ne_eqb, eqb-true}
use Rattle.std.proofs.Math.Bool.{true, false}
use mathlib.Core.List.{List, [], ◌∷◌}
use Prim.Native.Nat.{ℕ, zero, suc, ◌+◌, ◌-◌, ◌≤◌, ◌<◌, min, max}
use Rattle.std.proofs.Math.Decide.{ℕ_discrete, dec_lt}
use native.Mathlib.Omega.{arith}
use Rattle.std.proofs.Math.ListN.{length, take}
use Rattle.std.proofs.Math.Seq.{take_all}
use Rattle.base.specs.Lists.{filterb}
use Rattle.base.specs.Bools.{not_both}
use Rattle.base.specs.Range.{range}
use Rattle.cutting.specs.Rule.{family}
use Rattle.mesh.specs.Cells.{Cell, no_cell, pattern_of, red_edges}
use Rattle.mesh.specs.Weights.{Point, coarse_cells}
use Rattle.mesh.specs.Table.{levels_of, next, size_of, sizes}
use Rattle.mesh.specs.Laws.{sizes_append, sizes_one, length-coarse}
use Rattle.rows.specs.Many.{size_refined, size_some, length-next}
use Rattle.lineage.specs.Born.{child_of, born, born_below, born_at}
use Rattle.lineage.specs.Levels.{cells_first}
use Rattle.lineage.specs.Olds.{first_child}
use Rattle.carriers.specs.Refined.{asked_small}
use Rattle.soundness.specs.Held.{closed_at, closed-length}
use Rattle.soundness.specs.Sound.{Sound, lv, level_closed, level_next, level_there}
use Rattle.base.specs.Member.{Member}
use Rattle.parts.specs.Owners.{nth_cell, children_of}
use Rattle.splitting.specs.Numbers.{numbers_of, at_level, stands, number_inside, level_at_lem, kid, kid_in}
use Rattle.split.specs.Columns.{cells_below}
use Rattle.tasks.specs.Levels.{below_first, below_more, below_none}

-- the numbers that lie between two bounds, among others
module _ (f : ℕ → Bool) (b s : ℕ) where
  filter_between : (a m : ℕ) → ((x : ℕ) → a ≤ x → x < a + m → b ≤ x → x < b + s → f x ≡ true)
      → ((x : ℕ) → a ≤ x → x < a + m → f x ≡ true → (b ≤ x) × (x < b + s))
      → filterb f (range a m) ≡ range (max a b) (min (a + m) (b + s) - max a b)
  unfolding filterb range
  filter_between a zero to from = let z : min (a + 0) (b + s) - max a b ≡ 0 = omega arith in rw z refl
  filter_between a (suc m) to from =
      go (f a) refl (filter_between (suc a) m (λ x h g. to x (omega arith) (omega arith)) (λ x h g. from x (omega arith) (omega arith)))
    where
      go : (t : Bool) → f a ≡ t
          → filterb f (range (suc a) m) ≡ range (max (suc a) b) (min (suc a + m) (b + s) - max (suc a) b)
          → filterb f (range a (suc m)) ≡ range (max a b) (min (a + suc m) (b + s) - max a b)
      go true e i =
          let (h, g) = from a (omega arith) (omega arith) e in
          let z : max a b ≡ a = omega arith in
          let y : min (a + suc m) (b + s) - a ≡ suc (min (suc a + m) (b + s) - suc a) = omega arith in
          let w : max (suc a) b ≡ suc a = omega arith in
          rw (e, filterb, z, y) (ap (◌∷◌ a) (rw w at i))
      go false e i =
          elim (dec_lt a b) [
            | yes h ↦
                let z : max (suc a) b ≡ max a b = omega arith in
                let y : suc a + m ≡ a + suc m = omega arith in
                rw (e, filterb) (rw (z, y) at i)
            | no h ↦ elim (dec_lt a (b + s)) [
              | yes g ↦ not_both (f a) (to a (omega arith) (omega arith) (omega arith) g) e
              | no g ↦
                  let z : min (suc a + m) (b + s) - max (suc a) b ≡ 0 = omega arith in
                  let y : min (a + suc m) (b + s) - max a b ≡ 0 = omega arith in
                  rw (e, filterb, y) (rw z at i)
            ]
          ]

none_yet : (ss : List ℕ) → sizes (take 0 ss) ≡ 0
unfolding sizes
none_yet ss = refl

pattern_most : (s : ℕ) → pattern_of s < 64 → s ≤ 64
unfolding pattern_of
pattern_most s h =
    elim (ℕ_discrete s 64) [
      | yes e ↦ omega arith
      | no e ↦ let w : s < 64 = rw (ne_eqb s 64 e, pattern_of) at h in omega arith
    ]

-- the statuses of a run of cells
sizes_run : (ss sts : List ℕ) (a p : ℕ) → ((t : ℕ) → t < p → (t < length sts) × (a + t < length ss) × (get_or ss (a + t) 0 ≡ get_or sts t 0))
    → sizes (take (a + p) ss) ≡ sizes (take a ss) + sizes (take p sts)
unfolding sizes
sizes_run ss sts a zero f = let z : a + 0 ≡ a = omega arith in rw z (omega arith)
sizes_run ss sts a (suc p) f =
    let (u, h, e) = f p (omega arith) in
    let z : a + suc p ≡ suc (a + p) = omega arith in
    let i = sizes_run ss sts a p (λ t g. f t (omega arith)) in
    let x : sizes (take (suc (a + p)) ss) ≡ sizes (take (a + p) ss) + size_of (get_or ss (a + p) 0) =
    ap sizes (take-suc ss (a + p) 0 h) ∙ sizes_append (take (a + p) ss) (get_or ss (a + p) 0 ∷ [])
    ∙ ap (λ (y : ℕ). sizes (take (a + p) ss) + y) (sizes_one (get_or ss (a + p) 0)) in
    let y : sizes (take (suc p) sts) ≡ sizes (take p sts) + size_of (get_or sts p 0) =
    ap sizes (take-suc sts p 0 u) ∙ sizes_append (take p sts) (get_or sts p 0 ∷ [])
    ∙ ap (λ (y : ℕ). sizes (take p sts) + y) (sizes_one (get_or sts p 0)) in
    ap (λ (q : ℕ). sizes (take q ss)) z ∙ omega (arith, i, x, y, ap size_of e)

module _ (n : ℕ) (qs : List (List ℕ)) (ss : List ℕ) (s : Sound n qs ss) where
  abbrev sts : ℕ → List ℕ
  sts k = (lv n qs ss k).statuses

  known : (k : ℕ) → length (sts k) ≡ length (lv n qs ss k).cells
  known k = closed-length (lv n qs ss k) (level_closed n qs ss s.closed k)

  pub status_most : (k c : ℕ) → Member c (numbers_of n qs ss k) → get_or ss c 0 ≤ 64
  status_most k c m =
      let p = stands n qs ss s k c m in
      let a = at_level n qs ss s k p.t p.below in
      let l = lv n qs ss k in
      let st = (closed_at l (level_closed n qs ss s.closed k) p.t p.below).1 in
      let small = asked_small (red_edges [] l.cells l.statuses) (get_or l.cells p.t no_cell) (get_or l.statuses p.t 0) st in
      let e : get_or ss c 0 ≡ get_or (sts k) p.t 0 = ap (λ (x : ℕ). get_or ss x 0) p.number ∙ a.status_is in
      rw e (pattern_most (get_or (sts k) p.t 0) small)

  -- the statuses before a cell of a level
  before : (k p : ℕ) → k < length (levels_of n qs ss) → p ≤ length (lv n qs ss k).cells
      → sizes (take (cells_below n qs ss k + p) ss) ≡ sizes (take (cells_below n qs ss k) ss) + sizes (take p (sts k))
  before k p h g =
      sizes_run ss (sts k) (cells_below n qs ss k) p (λ t u.
      let a = at_level n qs ss s k t (omega arith) in
      let e : (lv n qs ss k).first ≡ cells_below n qs ss k = below_first n qs ss k h in
      (omega (arith, known k), rw e at a.inside, rw e at a.status_is))

  -- behind the coarse cells stand the children of all cells of lower levels
  pub below_up : (k : ℕ) → k < length (levels_of n qs ss) → cells_below n qs ss (suc k) ≡ first_child (length qs) ss (cells_below n qs ss k)
  unfolding first_child levels_of
  below_up zero h =
      let z : sizes (take (cells_below n qs ss 0) ss) ≡ 0 = ap (λ (x : ℕ). sizes (take x ss)) (below_none n qs ss) ∙ none_yet ss in
      below_more n qs ss 0
      ∙ omega (arith, below_none n qs ss, ap length (cells_first 11 0 (coarse_cells n qs) ss), length-coarse n qs)
  below_up (suc k) h =
      let i = below_up k (omega arith) in
      let m : length (lv n qs ss (suc k)).cells ≡ sizes (sts k) =
      ap length (level_next n qs ss k (omega (arith, s.high)))
      ∙ length-next (lv n qs ss k).first (lv n qs ss k).cells (sts k) (sym (known k)) in
      let b = before k (length (lv n qs ss k).cells) (omega arith) (omega arith) in
      let t : take (length (lv n qs ss k).cells) (sts k) ≡ sts k =
      take_all (length (lv n qs ss k).cells) (sts k) (omega (arith, known k)) in
      let u : sizes (take (cells_below n qs ss (suc k)) ss) ≡ sizes (take (cells_below n qs ss k) ss) + sizes (sts k) =
      ap (λ (x : ℕ). sizes (take x ss)) (below_more n qs ss k) ∙ b
      ∙ ap (λ (l : List ℕ). sizes (take (cells_below n qs ss k) ss) + sizes l) t in
      omega (arith, below_more n qs ss (suc k))

  -- a child by its number
  pub record KidAt (k c i : ℕ) : Type 0 where
    pub up : Member (first_child (length qs) ss c + i) (numbers_of n qs ss (suc k))
    pub is : nth_cell n qs ss (first_child (length qs) ss c + i) ≡ child_of c (nth_cell n qs ss c) (get_or ss c 0) i

  -- the place of a child one level up
  child_number_lem : (k p i : ℕ) → p < length (lv n qs ss k).cells → k < length (levels_of n qs ss) → suc k < length (levels_of n qs ss)
      → (lv n qs ss (suc k)).first + (sizes (take p (sts k)) + i) ≡ first_child (length qs) ss ((lv n qs ss k).first + p) + i
  unfolding first_child
  child_number_lem k p i h g u =
      let e : (lv n qs ss k).first ≡ cells_below n qs ss k = below_first n qs ss k g in
      let w = before k p g (omega arith) in
      let b = below_up k g in
      rw e (omega (arith, below_first n qs ss (suc k) u))

  child_place_lem : (k p i : ℕ) → p < length (lv n qs ss k).cells → i < size_of (get_or (sts k) p 0)
      → KidAt k ((lv n qs ss k).first + p) i
  child_place_lem k p i h g =
      let l = lv n qs ss k in
      let up = lv n qs ss (suc k) in
      let z : get_or (sts k) p 0 ≢ 0 = size_some (get_or (sts k) p 0) i g in
      let f : i < length (family (pattern_of (get_or (sts k) p 0))) = omega (arith, size_refined (get_or (sts k) p 0) z) in
      let low = level_there n qs ss k p h in
      let e = level_next n qs ss k (omega (arith, s.high)) in
      let u : sizes (take p (sts k)) + i < length (lv n qs ss (suc k)).cells =
      rw e (born_below l.first l.cells (sts k) p i h (omega (arith, known k)) z f) in
      let top = level_there n qs ss (suc k) (sizes (take p (sts k)) + i) u in
      let w : get_or (lv n qs ss (suc k)).cells (sizes (take p (sts k)) + i) no_cell
      ≡ child_of ((lv n qs ss k).first + p) (get_or (lv n qs ss k).cells p no_cell) (get_or (sts k) p 0) i =
      rw e (born_at l.first l.cells (sts k) p i h (omega (arith, known k)) z f) in
      let a = at_level n qs ss s (suc k) (sizes (take p (sts k)) + i) u in
      let o = at_level n qs ss s k p h in
      let q = child_number_lem k p i h low top in
      record {
        up = subst (λ (x : ℕ). Member x (numbers_of n qs ss (suc k))) q a.here;
        is = ap (nth_cell n qs ss) (sym q) ∙ a.cell_is ∙ w
            ∙ ap₂ (λ (c : Cell Point) (x : ℕ). child_of ((lv n qs ss k).first + p) c x i) (sym o.cell_is) (sym o.status_is);
      }

  pub kid_at : (k c i : ℕ) → Member c (numbers_of n qs ss k) → i < size_of (get_or ss c 0) → KidAt k c i
  kid_at k c i m h =
      let p = stands n qs ss s k c m in
      let a = at_level n qs ss s k p.t p.below in
      let e : get_or ss c 0 ≡ get_or (sts k) p.t 0 = ap (λ (x : ℕ). get_or ss x 0) p.number ∙ a.status_is in
      let g : i < size_of (get_or (sts k) p.t 0) = rw e at h in
      subst (λ (x : ℕ). KidAt k x i) (sym p.number) (child_place_lem k p.t i p.below g)

  -- a cell one level up is a child
  record BornTo (k d : ℕ) : Type 0 where
    pub c : ℕ
    pub i : ℕ
    pub there : Member c (numbers_of n qs ss k)
    pub small : i < size_of (get_or ss c 0)
    pub number : d ≡ first_child (length qs) ss c + i
    pub parent : (nth_cell n qs ss d).parent ≡ c

  born_to_lem : (k d : ℕ) → Member d (numbers_of n qs ss (suc k)) → BornTo k d
  born_to_lem k d m =
      let l = lv n qs ss k in
      let q = stands n qs ss s (suc k) d m in
      let top = level_there n qs ss (suc k) q.t q.below in
      let e = level_next n qs ss k (omega (arith, s.high)) in
      let h : q.t < length (next l.first l.cells (sts k)) = rw e at q.below in
      let (b, x) = born l.first l.cells (sts k) q.t h in
      let o = at_level n qs ss s k b.p b.below in
      let a = at_level n qs ss s (suc k) q.t q.below in
      let f = size_refined (get_or (sts k) b.p 0) b.refined in
      let c = (lv n qs ss k).first + b.p in
      let num = child_number_lem k b.p b.i b.below (omega arith) top in
      record {
        c = (lv n qs ss k).first + b.p;
        i = b.i;
        there = o.here;
        small = subst (λ (y : ℕ). b.i < size_of y) (sym o.status_is) (omega (arith, b.child));
        number = q.number ∙ ap (λ (y : ℕ). (lv n qs ss (suc k)).first + y) x ∙ num;
        parent = ap (λ (y : ℕ). (nth_cell n qs ss y).parent) q.number
            ∙ ap (λ (c : Cell Point). c.parent) (a.cell_is ∙ ap (λ (cs : List (Cell Point)). get_or cs q.t no_cell) e ∙ b.is);
      }

  pub parent_in : (k d : ℕ) → Member d (numbers_of n qs ss (suc k)) → Member (nth_cell n qs ss d).parent (numbers_of n qs ss k)
  parent_in k d m = let b = born_to_lem k d m in rw b.parent b.there

  pub kids_inside : (k c : ℕ) → Member c (numbers_of n qs ss k) → 0 < size_of (get_or ss c 0)
      → first_child (length qs) ss c + size_of (get_or ss c 0) ≤ length ss
  kids_inside k c m h =
      let w = kid_at k c (size_of (get_or ss c 0) - 1) m (omega arith) in
      omega (arith, number_inside n qs ss s (suc k) (first_child (length qs) ss c + (size_of (get_or ss c 0) - 1)) w.up)

  module _ (k c : ℕ) (m : Member c (numbers_of n qs ss k)) where
    abbrev mineb : ℕ → Bool
    mineb d = eqb (nth_cell n qs ss d).parent c

    kid_to : (d : ℕ) → 0 ≤ d → d < 0 + length ss → first_child (length qs) ss c ≤ d → d < first_child (length qs) ss c + size_of (get_or ss c 0)
        → mineb d ≡ true
    kid_to d a b h g =
        let w = kid_at k c (d - first_child (length qs) ss c) m (omega arith) in
        let z : first_child (length qs) ss c + (d - first_child (length qs) ss c) ≡ d = omega arith in
        let e : (nth_cell n qs ss d).parent ≡ c = rw z at (ap (λ (c : Cell Point). c.parent) w.is) in
        eq-eqb (nth_cell n qs ss d).parent c e

    kid_from : (d : ℕ) → 0 ≤ d → d < 0 + length ss → mineb d ≡ true
        → (first_child (length qs) ss c ≤ d) × (d < first_child (length qs) ss c + size_of (get_or ss c 0))
    kid_from d a b t =
        let e : (nth_cell n qs ss d).parent ≡ c = eqb-true (nth_cell n qs ss d).parent c t in
        let (j, q) = level_at_lem n qs ss s d (omega arith) in
        let w = kid n qs ss s k c d m (kid_in n qs ss s j c d q e) in
        let o = born_to_lem k d w.up in
        let z : o.c ≡ c = sym o.parent ∙ e in
        let x : first_child (length qs) ss o.c ≡ first_child (length qs) ss c = ap (first_child (length qs) ss) z in
        let y : size_of (get_or ss o.c 0) ≡ size_of (get_or ss c 0) = ap (λ (v : ℕ). size_of (get_or ss v 0)) z in
        (omega (arith, o.number, o.small), omega (arith, o.number, o.small))

    pub kids_are : children_of n qs ss c ≡ range (first_child (length qs) ss c) (size_of (get_or ss c 0))
    unfolding children_of range
    kids_are =
        filter_between mineb (first_child (length qs) ss c) (size_of (get_or ss c 0)) 0 (length ss) kid_to kid_from
        ∙ go (ℕ_discrete (size_of (get_or ss c 0)) 0)
      where
        go : Dec (size_of (get_or ss c 0) ≡ 0)
            → range (max 0 (first_child (length qs) ss c))
            (min (0 + length ss) (first_child (length qs) ss c + size_of (get_or ss c 0)) - max 0 (first_child (length qs) ss c))
            ≡ range (first_child (length qs) ss c) (size_of (get_or ss c 0))
        go (yes z) =
            let y : min (0 + length ss) (first_child (length qs) ss c + size_of (get_or ss c 0)) - max 0 (first_child (length qs) ss c) ≡ 0
            = omega arith in
            rw (y, z) refl
        go (no z) =
            let w = kids_inside k c m (omega arith) in
            let x : max 0 (first_child (length qs) ss c) ≡ first_child (length qs) ss c = omega arith in
            let y : min (0 + length ss) (first_child (length qs) ss c + size_of (get_or ss c 0)) - first_child (length qs) ss c
            ≡ size_of (get_or ss c 0) = omega arith in
            rw (x, y) refl
