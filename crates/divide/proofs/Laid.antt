-- What the rows of a sound table say of each cell by its number.
--   Table n qs ss t ks    t has the rows of the sound table ss, ks the numbers of first children
-- Laws: cell_is, level_is, parent_is, number_is, regular_is, edge_is, edges_are (the rows), first_step, first_top (first
-- children), below_step (levels), kids_range, family_is, owners_are (families), upward (parents), place_is, inner_is (the rest).
use mathlib.Core.Path.{◌≡◌, refl, sym, ◌∙◌, ap, ap₂, subst}
use mathlib.Core.Logic.{◌⊎◌, inl, inr}
use mathlib.Core.Bool.{Bool, true, false, ◌&&◌, not}
use mathlib.Core.List.{List, [], ◌∷◌, ◌++◌, map, flat_map}
use Prim.Native.Nat.{ℕ, zero, suc, ◌+◌, ◌-◌, ◌*◌, ◌≤◌, ◌<◌, pred}
use native.Mathlib.Decide.{dec_lt}
use native.Mathlib.Omega.{arith}
use lib.Dec.{T, eqb, leb, ltb}
use lib.ListN.{length, get_or, take, length-append}
use lib.Seq.{get_or-take}
use borrow.Author.Tests.{eq-eqb, ne_eqb, lt-ltb, le-ltb}
use Rattle.base.specs.Bools.{one_if}
use Rattle.base.specs.Lists.{allb}
use Rattle.base.specs.Every.{All, get_d_map}
use Rattle.base.specs.Range.{range}
use Rattle.mesh.specs.Cells.{Cell, no_cell, Four, edge, edges, heldb, bits_of}
use Rattle.mesh.specs.Weights.{Point}
use Rattle.mesh.specs.Coarse.{cellsb}
use Rattle.mesh.specs.Table.{levels_of, cells_of, soundb, size_of}
use Rattle.mesh.specs.Layout.{number_in, map_cell, row_of, cell_table, child_number, edge_numbers}
use Rattle.rows.specs.Numbered.{cell_at}
use Rattle.rows.specs.Laws.{row_at}
use Rattle.numbering.specs.Tests.{numbered_cells, Placed}
use Rattle.numbering.proofs.Tables.{sound_numbers}
use Rattle.tables.specs.Cells.{strip, cell_at_lem}
use Rattle.tables.specs.Onward.{four_in, length_in}
use Rattle.tables.specs.Finish.{rows_in}
use Rattle.tables.specs.Sound.{examined_corners}
use Rattle.ancestors.specs.Climb.{level_in, parent_in}
use Rattle.ancestors.specs.Linked.{Rooted, Descends}
use Rattle.ancestors.specs.Levels.{cells_linked}
use Rattle.soundness.specs.Sound.{Sound, sound_parts}
use Rattle.base.specs.Member.{Member}
use Rattle.splitting.specs.Numbers.{numbers_of, level_at_lem, level_of_lem}
use Rattle.parts.specs.Owners.{nth_cell, children_of, family_of, first_or, ownersb}
use Rattle.store.specs.Places.{place_of, coarse_place, child_place, place_child}
use Rattle.split.specs.Columns.{numbered_cell, cell_level, cells_below, inner_bits}
use Rattle.tasks.specs.Levels.{one_at_least, below_more, below_none, below_top, below_all}
use Rattle.tasks.specs.Families.{below_up, kids_are, kids_inside}
use Rattle.lineage.specs.Olds.{first_child}
use Rattle.lineage.specs.Firsts.{first_next, first_up, first_start}
use Rattle.columns.specs.Ten.{family_by, owners_by, place_by, inner_by, outerb}

first_range : (os : List ℕ) (a b o : ℕ)
    → first_or (λ d. get_or os d 0) o (range a (b - a)) ≡ elim (ltb a b) [ true ↦ get_or os a 0 | false ↦ o ]
unfolding first_or range
first_range os a b o = elim (dec_lt a b) [ yes h ↦ some h | no h ↦ none (omega arith) ]
  where
    some : a < b → first_or (λ d. get_or os d 0) o (range a (b - a)) ≡ elim (ltb a b) [ true ↦ get_or os a 0 | false ↦ o ]
    some h = let w : b - a ≡ suc (b - a - 1) = omega arith in rw (w, lt-ltb a b h)

    none : b ≤ a → first_or (λ d. get_or os d 0) o (range a (b - a)) ≡ elim (ltb a b) [ true ↦ get_or os a 0 | false ↦ o ]
    none h = let w : b - a ≡ 0 = omega arith in rw (w, le-ltb a b h)

all_same : (f h : ℕ → Bool) (k m : ℕ) → ((c : ℕ) → k ≤ c → c < k + m → f c ≡ h c) → allb f (range k m) ≡ allb h (range k m)
unfolding allb range
all_same f h k zero e = refl
all_same f h k (suc m) e =
    ap₂ ◌&&◌ (e k (omega arith) (omega arith)) (all_same f h (suc k) m (λ c a b. e c (omega arith) (omega arith)))

child_snoc : (l : List ℕ) (i : ℕ) → 0 < length l → child_number (l ++ (i ∷ [])) ≡ i
unfolding child_number
child_snoc [] i h = absurd (omega arith)
child_snoc (a ∷ []) i h = refl
child_snoc (a ∷ b ∷ []) i h = refl
child_snoc (a ∷ b ∷ c ∷ l) i h = child_snoc (b ∷ c ∷ l) i (omega arith)

place_snoc : (l : List ℕ) (i : ℕ) → 0 < length l → place_of (l ++ (i ∷ [])) ≡ child_place (place_of l) i
place_snoc [] i h = absurd (omega arith)
place_snoc (c ∷ l) i h = place_child c l i

place_one : (c : ℕ) → place_of (c ∷ []) ≡ coarse_place c
unfolding place_of
place_one c = refl

six_same : (f h : ℕ → Bool) → ((e : ℕ) → f e ≡ h e) → bits_of (map f edge_numbers) ≡ bits_of (map h edge_numbers)
six_same f h e = rw (e 0, e 1, e 2, e 3, e 4, e 5)

pred_up : (a b : ℕ) → a ≡ b + 1 → 0 < b → pred a ≡ suc (pred b)
pred_up a b e h = omega arith

pub record Table (n : ℕ) (qs : List (List ℕ)) (ss t ks : List ℕ) : Type 0 where
  pub four : All (λ q. length q ≡ 4) qs
  pub accepted : T (cellsb n qs)
  pub sound : T (soundb n qs ss)
  pub some : 0 < length qs
  pub rows : take (8 * length (cells_of (levels_of n qs ss))) t ≡ cell_table (examined_corners n qs ss) (cells_of (levels_of n qs ss))
  pub kids : (c : ℕ) → c ≤ length ss → get_or ks c 0 ≡ first_child (length qs) ss c

module _ (n : ℕ) (qs : List (List ℕ)) (ss t ks : List ℕ) (g : Table n qs ss t ks) where
  abbrev pub s : Sound n qs ss
  s = sound_parts n qs ss g.sound

  abbrev cs : List (Cell Point)
  cs = cells_of (levels_of n qs ss)

  abbrev cell : ℕ → Cell Point
  cell c = nth_cell n qs ss c

  placed : All (Placed (examined_corners n qs ss)) cs
  placed = (sound_numbers n qs ss g.four g.accepted g.sound).placed

  all_four : All Four (numbered_cells (examined_corners n qs ss) cs)
  all_four = four_in (examined_corners n qs ss) cs placed

  rows_are : take (8 * length (numbered_cells (examined_corners n qs ss) cs)) t ≡ flat_map row_of (numbered_cells (examined_corners n qs ss) cs)
  rows_are = rw (length_in (examined_corners n qs ss) cs) (g.rows ∙ sym (rows_in (examined_corners n qs ss) cs))

  in_cells : (c : ℕ) → c < length ss → c < length (numbered_cells (examined_corners n qs ss) cs)
  in_cells c h = omega (arith, length_in (examined_corners n qs ss) cs, s.many)

  numbered_at : (c : ℕ) → c < length ss → get_or (numbered_cells (examined_corners n qs ss) cs) c no_cell ≡ numbered_cell n qs ss c
  unfolding numbered_cell nth_cell
  numbered_at c h = get_d_map (map_cell (number_in (examined_corners n qs ss))) cs c no_cell no_cell (omega (arith, s.many))

  row_number : (c r : ℕ) → c < length ss → r < 8 → get_or t (8 * c + r) 0 ≡ get_or (row_of (numbered_cell n qs ss c)) r 0
  row_number c r h k =
      let m = length (numbered_cells (examined_corners n qs ss) cs) in
      let i = in_cells c h in
      sym (get_or-take (8 * m) t (8 * c + r) 0 (omega arith)) ∙ ap (λ (l : List ℕ). get_or l (8 * c + r) 0) rows_are
      ∙ row_at (numbered_cells (examined_corners n qs ss) cs) all_four c r i k ∙ ap (λ (x : Cell ℕ). get_or (row_of x) r 0) (numbered_at c h)

  level_is : (c : ℕ) → c < length ss → level_in t c ≡ cell_level n qs ss c
  unfolding row_of numbered_cell map_cell
  level_is c h = let z : 8 * c + 0 ≡ 8 * c = omega arith in rw z at (row_number c 0 h (omega arith))

  pub parent_is : (c : ℕ) → c < length ss → parent_in t c ≡ (cell c).parent
  unfolding row_of numbered_cell map_cell
  parent_is c h = row_number c 1 h (omega arith)

  number_is : (c : ℕ) → c < length ss → get_or t (8 * c + 2) 0 ≡ child_number (cell c).path
  unfolding row_of numbered_cell map_cell
  number_is c h = row_number c 2 h (omega arith)

  pub regular_is : (c : ℕ) → c < length ss → get_or t (8 * c + 3) 0 ≡ one_if (cell c).regular
  unfolding row_of numbered_cell map_cell
  regular_is c h = row_number c 3 h (omega arith)

  cell_is : (c : ℕ) → c < length ss → cell_at t c ≡ strip (numbered_cell n qs ss c)
  cell_is c h =
      cell_at_lem t (numbered_cells (examined_corners n qs ss) cs) all_four rows_are c (in_cells c h) ∙ ap strip (numbered_at c h)

  pub edge_is : (c e : ℕ) → c < length ss → edge 0 (cell_at t c) e ≡ edge 0 (numbered_cell n qs ss c) e
  unfolding edge
  edge_is c e h = ap (λ (x : Cell ℕ). edge 0 x e) (cell_is c h)

  pub edges_are : (c : ℕ) → c < length ss → edges 0 (cell_at t c) ≡ edges 0 (numbered_cell n qs ss c)
  unfolding edges edge
  edges_are c h = ap (λ (x : Cell ℕ). edges 0 x) (cell_is c h)

  -- the level of a cell
  pub at : (c : ℕ) → c < length ss → Member c (numbers_of n qs ss (cell_level n qs ss c))
  at c h =
      let (k, m) = level_at_lem n qs ss s c h in
      subst (λ (j : ℕ). Member c (numbers_of n qs ss j)) (sym (level_of_lem n qs ss s k c m)) m

  -- first children
  first_step : (c : ℕ) → c < length ss → first_child (length qs) ss (suc c) ≡ first_child (length qs) ss c + size_of (get_or ss c 0)
  first_step = first_next (length qs) ss

  first_rises : (a b : ℕ) → a ≤ b → first_child (length qs) ss a ≤ first_child (length qs) ss b
  first_rises = first_up (length qs) ss

  first_zero : first_child (length qs) ss 0 ≡ length qs
  first_zero = first_start (length qs) ss

  one_level : 1 ≤ length (levels_of n qs ss)
  one_level = one_at_least n qs ss g.some

  pub coarse_few : length qs ≤ length ss
  coarse_few =
      omega (arith, below_up n qs ss s 0 one_level, ap (first_child (length qs) ss) (below_none n qs ss), first_zero, below_all n qs ss s 1)

  pub first_top : (c : ℕ) → c ≤ length ss → first_child (length qs) ss c ≤ length ss
  first_top zero h = omega (arith, first_zero, coarse_few)
  first_top (suc c) h =
      elim (dec_lt 0 (size_of (get_or ss c 0))) [
        | yes z ↦ omega (arith, first_step c (omega arith), kids_inside n qs ss s (cell_level n qs ss c) c (at c (omega arith)) z)
        | no z ↦ omega (arith, first_step c (omega arith), first_top c (omega arith))
      ]

  -- levels: a level begins where the children of the one below begin
  below_rises : (k d : ℕ) → cells_below n qs ss k ≤ cells_below n qs ss (k + d)
  below_rises k zero = let z : k + 0 ≡ k = omega arith in rw z (omega arith)
  below_rises k (suc d) =
      let z : k + suc d ≡ suc (k + d) = omega arith in rw z (omega (arith, below_rises k d, below_more n qs ss (k + d)))

  below_end : (k : ℕ) → length (levels_of n qs ss) ≤ k → cells_below n qs ss k ≡ length ss
  below_end k h =
      let z : length (levels_of n qs ss) + (k - length (levels_of n qs ss)) ≡ k = omega arith in
      let w : cells_below n qs ss (length (levels_of n qs ss)) ≤ cells_below n qs ss k =
      rw z at (below_rises (length (levels_of n qs ss)) (k - length (levels_of n qs ss))) in
      omega (arith, below_top n qs ss s, below_all n qs ss s k)

  first_end : first_child (length qs) ss (length ss) ≡ length ss
  first_end =
      let l = length (levels_of n qs ss) in
      let z : suc (length (levels_of n qs ss) - 1) ≡ length (levels_of n qs ss) = omega (arith, one_level) in
      let w : cells_below n qs ss (length (levels_of n qs ss))
      ≡ first_child (length qs) ss (cells_below n qs ss (length (levels_of n qs ss) - 1)) =
      rw z at (below_up n qs ss s (length (levels_of n qs ss) - 1) (omega (arith, one_level))) in
      omega (
        arith,
        below_top n qs ss s,
        first_rises (cells_below n qs ss (length (levels_of n qs ss) - 1)) (length ss) (below_all n qs ss s (length (levels_of n qs ss) -
            1)),
        first_top (length ss) (omega arith),
      )

  pub below_step : (k : ℕ) → cells_below n qs ss (suc k) ≡ first_child (length qs) ss (cells_below n qs ss k)
  below_step k =
      elim (dec_lt k (length (levels_of n qs ss))) [
        | yes h ↦ below_up n qs ss s k h
        | no h ↦
            below_end (suc k) (omega arith)
            ∙ sym (ap (first_child (length qs) ss) (below_end k (omega arith)) ∙ first_end)
      ]

  -- families
  kids_range : (c : ℕ) → c < length ss
      → children_of n qs ss c ≡ range (get_or ks c 0) (get_or ks (suc c) 0 - get_or ks c 0)
  kids_range c h =
      let e : get_or ks (suc c) 0 - get_or ks c 0 ≡ size_of (get_or ss c 0) =
      omega (arith, g.kids c (omega arith), g.kids (suc c) h, first_step c h) in
      kids_are n qs ss s (cell_level n qs ss c) c (at c h) ∙ ap₂ range (sym (g.kids c (omega arith))) (sym e)

  pub family_is : (os : List ℕ) (c : ℕ) → c < length ss → family_by ks os c ≡ family_of n qs ss os c
  unfolding family_by family_of
  family_is os c h =
      sym (ap (first_or (λ d. get_or os d 0) (get_or os c 0)) (kids_range c h) ∙ first_range os (get_or ks c 0) (get_or ks (suc c) 0) (get_or os c
      0))

  pub owners_are : (P : ℕ) (os : List ℕ) → owners_by ss ks P os ≡ ownersb n qs ss P os
  unfolding owners_by ownersb
  owners_are P os =
      ap (λ (b : Bool). (eqb (length os) (length ss) && allb (λ o. leb 1 o && leb o P) os) && b)
      (all_same (λ c. allb (λ d. eqb (get_or os d 0) (family_by ks os c)) (range (get_or ks c 0) (get_or ks (suc c) 0 - get_or ks c 0)))
      (λ c. allb (λ d. eqb (get_or os d 0) (family_of n qs ss os c)) (children_of n qs ss c)) 0 (length ss)
      (λ c a b. ap₂ (λ (x : ℕ) (l : List ℕ). allb (λ d. eqb (get_or os d 0) x) l) (family_is os c (omega arith)) (sym (kids_range c
      (omega arith)))))

  -- parents
  link : (c : ℕ) → c < length ss → Rooted cs c ⊎ Descends cs c
  unfolding nth_cell
  link c h = (cells_linked n qs ss).link c (omega (arith, s.many))

  own_path : (c : ℕ) → Rooted cs c → (cell c).path ≡ c ∷ []
  unfolding nth_cell
  own_path c r = r.path

  level_zero : (c : ℕ) → Rooted cs c → cell_level n qs ss c ≡ 0
  level_zero c r = ap (λ (l : List ℕ). pred (length l)) (own_path c r)

  down : (c : ℕ) (d : Descends cs c) → (cell c).path ≡ (cell (cell c).parent).path ++ (d.number ∷ [])
  unfolding nth_cell
  down c d = d.path

  path_some : (c : ℕ) → c < length ss → 0 < length (cell c).path
  path_some c h = go (link c h)
    where
      go : Rooted cs c ⊎ Descends cs c → 0 < length (cell c).path
      go (inl r) = omega (arith, ap length (own_path c r))
      go (inr d) = omega (arith, ap length (down c d), length-append (cell (cell c).parent).path (d.number ∷ []))

  parent_below : (c : ℕ) → Descends cs c → (cell c).parent < c
  unfolding nth_cell
  parent_below c d = d.below

  -- a cell above level 0
  record Up (c : ℕ) : Type 0 where
    pub below : (cell c).parent < c
    pub number : ℕ
    pub path : (cell c).path ≡ (cell (cell c).parent).path ++ (number ∷ [])
    pub level : cell_level n qs ss c ≡ suc (cell_level n qs ss (cell c).parent)

  up_of : (c : ℕ) → c < length ss → 0 < cell_level n qs ss c → Up c
  unfolding nth_cell
  up_of c h l = go (link c h)
    where
      go : Rooted cs c ⊎ Descends cs c → Up c
      go (inl r) = absurd (omega (arith, level_zero c r))
      go (inr d) =
          record {
            below = d.below;
            number = d.number;
            path = down c d;
            level =
                pred_up (length (cell c).path) (length (cell (cell c).parent).path)
                (ap length (down c d) ∙ length-append (cell (cell c).parent).path (d.number ∷ []))
                (path_some (cell c).parent (omega (arith, d.below)));
          }

  pub upward : (c : ℕ) → c < length ss → 0 < level_in t c → (parent_in t c < c) × (level_in t c ≡ suc (level_in t (parent_in t c)))
  upward c h l =
      let u = up_of c h (omega (arith, level_is c h)) in
      let g' : (cell c).parent < length ss = omega (arith, u.below) in
      let e = parent_is c h in
      (rw e u.below, level_is c h ∙ u.level ∙ ap suc (sym (level_is (cell c).parent g') ∙ ap (level_in t) (sym e)))

  place_at : (k c : ℕ) → c < length ss → cell_level n qs ss c ≡ k → place_by t k c ≡ place_of (cell c).path
  unfolding place_by
  place_at zero c h l = go (link c h)
    where
      go : Rooted cs c ⊎ Descends cs c → coarse_place c ≡ place_of (cell c).path
      go (inl r) = sym (ap place_of (own_path c r) ∙ place_one c)
      go (inr d) =
          absurd (omega (
            arith,
            l,
            pred_up (length (cell c).path) (length (cell (cell c).parent).path)
                (ap length (down c d) ∙ length-append (cell (cell c).parent).path (d.number ∷ []))
                (path_some (cell c).parent (omega (arith, parent_below c d))),
          ))
  place_at (suc k) c h l =
      let u = up_of c h (omega arith) in
      let g' : (cell c).parent < length ss = omega (arith, u.below) in
      let some = path_some (cell c).parent g' in
      let i : place_by t k (parent_in t c) ≡ place_of (cell (cell c).parent).path =
      ap (place_by t k) (parent_is c h) ∙ place_at k (cell c).parent g' (omega (arith, u.level)) in
      let j : get_or t (8 * c + 2) 0 ≡ u.number = number_is c h ∙ ap child_number u.path ∙ child_snoc (cell (cell c).parent).path u.number some in
      ap₂ child_place i j ∙ sym (ap place_of u.path ∙ place_snoc (cell (cell c).parent).path u.number some)

  pub place_is : (c : ℕ) → c < length ss → place_by t (level_in t c) c ≡ place_of (cell c).path
  place_is c h = ap (λ (k : ℕ). place_by t k c) (level_is c h) ∙ place_at (cell_level n qs ss c) c h refl

  outer_is : (c e : ℕ) → c < length ss → (cell c).parent < length ss
      → outerb t (parent_in t c) c e ≡ not (heldb eqb (edges 0 (numbered_cell n qs ss (cell c).parent)) (edge 0 (numbered_cell n qs ss c)
      e))
  unfolding outerb
  outer_is c e h k =
      ap (λ (x : ℕ). not (heldb eqb (edges 0 (cell_at t x)) (edge 0 (cell_at t c) e))) (parent_is c h)
      ∙ ap not (ap₂ (heldb eqb) (edges_are (cell c).parent k) (edge_is c e h))

  pub inner_is : (c : ℕ) → c < length ss → inner_by t c ≡ inner_bits n qs ss c
  unfolding inner_by inner_bits
  inner_is c h = go (cell_level n qs ss c) refl
    where
      own : ℕ → Bool
      own e = not (heldb eqb (edges 0 (numbered_cell n qs ss (cell c).parent)) (edge 0 (numbered_cell n qs ss c) e))

      go : (k : ℕ) → cell_level n qs ss c ≡ k → inner_by t c ≡ inner_bits n qs ss c
      go zero e =
          rw (eq-eqb (level_in t c) 0 (level_is c h ∙ e), eq-eqb (cell_level n qs ss c) 0 e, inner_by, inner_bits)
      go (suc k) e =
          let u = up_of c h (omega arith) in
          let g' : (cell c).parent < length ss = omega (arith, u.below) in
          rw (
            ne_eqb (level_in t c) 0 (λ z. omega (arith, level_is c h)),
            ne_eqb (cell_level n qs ss c) 0 (λ z. omega arith),
            inner_by,
            inner_bits,
          )
          (six_same (outerb t (parent_in t c) c) own (λ i. outer_is c i h g'))
