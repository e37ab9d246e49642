-- From level to level: each face of the cells of a level and the leaves below is in two of them, or in one on the coarse boundary.
--   bound qs u           1 where the triangle u lies on the coarse boundary, else 2
--   face_of c i           the corners of c's face i
--   Right n qs ss j c    the faces of c are in as many cells of the stage j
--   Meeting n qs ss j    they all are; the stage has each regular cell of the level once; and no such cell lies on one coarse face
-- Laws: bound_one, bound_two, others_are, corners_below (the corners of a face), face_digits_lem (a child's face by its digits), present_small,
-- all_first, all_second, all_both (lists), right_at, reg (the cells of the level), old_right (an old cell keeps its faces), all_corners
-- (points that use every corner), part_right (a child, or a cell that is not refined).
use Rattle.std.specs.Prelude.{◌≡◌, refl, Bool, ℕ, suc, ◌*◌, ◌<◌, T, length, get_or}
use Rattle.std.proofs.Common.{sym, ◌∙◌, ap₂, ⊎_elim, arith}
use Rattle.std.proofs.Math.Path.{ap, subst}
use Rattle.std.proofs.Math.Bool.{true, false}
use mathlib.Core.List.{List, [], ◌∷◌, ◌++◌, map}
use Rattle.base.specs.Lists.{filterb}
use Rattle.base.specs.Bools.{one_if}
use Rattle.cutting.specs.Rule.{family}
use Rattle.mesh.specs.Cells.{Cell, corner, pattern_of, no_cell}
use Rattle.mesh.specs.Weights.{Point, point}
use Rattle.base.specs.Every.{All, all_at, all_more, get_d_map, below_at}
use Rattle.lattice.specs.Regular.{Regular}
use Rattle.lattice.specs.Levels.{IfRegular}
use Rattle.families.specs.Children.{digits_of, child_four}
use Rattle.soundness.specs.Held.{regular_at}
use Rattle.soundness.specs.Sound.{Sound, lv}
use Rattle.conformity.specs.Leaves.{on_boundaryb}
use Rattle.families.specs.Digits.{corners_at, others, without, usesb, holds}
use Rattle.families.specs.FaceKinds.{Inside, OnSide, Present, face_kind, family_present, midb, inside_mid}
use Rattle.conformity.specs.Having.{withinb, count}
use Rattle.conformity.specs.Shared.{Below10, inside_count}
use Rattle.conformity.specs.Sides.{three_at, side_count}
use Rattle.conformity.specs.Old.{OldCell, reds_at, old_none, old_side}
use Rattle.conformity.specs.OldFaces.{old_count}
use Rattle.conformity.specs.Bounds.{side_bound, Wide, inside_bound}
use Rattle.conformity.specs.Stages.{below, stage, pattern_at, reads_at, carry}

-- Rule 13.2: how many leaves must have a face.
unfoldable pub bound : List (List ℕ) → List Point → ℕ
bound qs u = elim (on_boundaryb qs u) [ true ↦ 1 | false ↦ 2 ]

pub bound_one : (qs : List (List ℕ)) (u : List Point) → on_boundaryb qs u ≡ true → bound qs u ≡ 1
unfolding bound
bound_one qs u e = rw (e, bound)

pub bound_two : (qs : List (List ℕ)) (u : List Point) → on_boundaryb qs u ≡ false → bound qs u ≡ 2
unfolding bound
bound_two qs u e = rw (e, bound)

-- Rule 2.1.
abbrev pub face_of : Cell Point → ℕ → List Point
face_of c i = map (corner [] c) (corners_at i)

-- a child's face by its digits
pub others_are : (i : ℕ) → i < 4 → corners_at i ≡ others i
unfolding filterb
others_are = below_at (λ i. corners_at i ≡ others i) 4 ((((tt, refl), refl), refl), refl)

pub corners_below : (i : ℕ) → i < 4 → All (λ m. m < 4) (corners_at i)
corners_below i hi = let w = three_at i hi in rw w.is (omega (arith, w.ab, w.bc, w.c4))

map-digits : (c v : Cell Point) (d : List ℕ) → v.points ≡ map (point c) d → length d ≡ 4 → (l : List ℕ) → All (λ m. m < 4) l
    → map (corner [] v) l ≡ map (point c) (map (λ j. get_or d j 0) l)
map-digits c v d e f [] a = refl
map-digits c v d e f (m ∷ l) a = ap₂ ◌∷◌ (ap (λ (p : List Point). get_or p m []) e ∙ get_d_map (point c) d m 0 [] (omega (arith, a.0)))
    (map-digits c v d e f l a.1)

face_digits_lem : (c v : Cell Point) (d : List ℕ) → v.points ≡ map (point c) d → length d ≡ 4 → (i : ℕ) → i < 4
    → face_of v i ≡ map (point c) (without d i)
face_digits_lem c v d e f i hi = map-digits c v d e f (corners_at i) (corners_below i hi)
    ∙ ap (λ (l : List ℕ). map (point c) (map (λ j. get_or d j 0) l)) (others_are i hi)

all_without : (P : ℕ → Type 0) (d : List ℕ) → length d ≡ 4 → All P d → (i : ℕ) → i < 4 → All P (without d i)
all_without P d f a i hi = subst (λ (l : List ℕ). All P (map (λ j. get_or d j 0) l)) (others_are i hi) (go (corners_at i) (corners_below i hi))
  where
    go : (l : List ℕ) → All (λ m. m < 4) l → All P (map (λ j. get_or d j 0) l)
    go [] b = tt
    go (m ∷ l) b = (all_at P 0 d a m (omega (arith, b.0)), go l b.1)

pub present_small : (p : ℕ) (f : List ℕ) → All (Present p) f → Below10 f
present_small p f a = all_more (Present p) (λ x. x < 10) (λ x q. q.small) f a

module _ (n : ℕ) (qs : List (List ℕ)) (ss : List ℕ) (j : ℕ) where
  abbrev pub Right : Cell Point → Type 0
  Right c = (i : ℕ) → i < 4 → count (face_of c i) (stage n qs ss j) ≡ bound qs (face_of c i)

  pub record Meeting : Type 0 where
    pub faces : All Right (stage n qs ss j)
    pub whole : (u : ℕ) → u < length (lv n qs ss j).cells → T (get_or (lv n qs ss j).cells u no_cell).regular
        → count (get_or (lv n qs ss j).cells u no_cell).points (stage n qs ss j) ≡ 1
    pub wide : (u : ℕ) → u < length (lv n qs ss j).cells → T (get_or (lv n qs ss j).cells u no_cell).regular
        → Wide (get_or (lv n qs ss j).cells u no_cell)

pub all_first : {A : Type 0} (P : A → Type 0) (l m : List A) → All P (l ++ m) → All P l
all_first P [] m a = tt
all_first P (x ∷ l) m a = (a.0, all_first P l m a.1)

all_second : {A : Type 0} (P : A → Type 0) (l m : List A) → All P (l ++ m) → All P m
all_second P [] m a = a
all_second P (x ∷ l) m a = all_second P l m a.1

pub all_both : {A : Type 0} (P Q R : A → Type 0) → ((x : A) → P x → Q x → R x) → (l : List A) → All P l → All Q l → All R l
all_both P Q R f [] a b = tt
all_both P Q R f (x ∷ l) a b = (f x a.0 b.0, all_both P Q R f l a.1 b.1)

module _ (n : ℕ) (qs : List (List ℕ)) (ss : List ℕ) (s : Sound n qs ss) (regular : (i : ℕ) → All (IfRegular n i) (lv n qs ss i).cells)
    (j : ℕ) (hj : j < 10) (meet : Meeting n qs ss j) where
  pub right_at : (v : ℕ) → v < length (lv n qs ss j).cells → Right n qs ss j (get_or (lv n qs ss j).cells v no_cell)
  right_at v hv = all_at (Right n qs ss j) no_cell (lv n qs ss j).cells
      (all_second (Right n qs ss j) (below n qs ss j) (lv n qs ss j).cells meet.faces) v hv

  pub reg : (v : ℕ) → v < length (lv n qs ss j).cells → T (get_or (lv n qs ss j).cells v no_cell).regular
      → Regular n j (get_or (lv n qs ss j).cells v no_cell)
  reg v hv rv = regular_at n j (lv n qs ss j) (regular j) v hv rv

  -- an old cell keeps its faces
  pub old_right : (o : Cell Point) → OldCell n qs ss j o → Right n qs ss j o → Right n qs ss (suc j) o
  old_right o old right i hi =
      carry n qs ss s regular j hj (face_of o i) (face_of o i) 1
      (λ v hv rv. old_count n qs ss j hj (get_or (lv n qs ss j).cells v no_cell) (reg v hv rv) (pattern_of (get_or (lv n qs ss j).statuses v 0))
      (pattern_at n qs ss s regular j v hv)
      (reads_at n qs ss s regular j v hv rv) o old i hi)
      (λ x _. omega arith)
      ∙ omega (arith, right i hi)

  module _ (v : ℕ) (hv : v < length (lv n qs ss j).cells) (rv : T (get_or (lv n qs ss j).cells v no_cell).regular) where
    abbrev cell : Cell Point
    cell = get_or (lv n qs ss j).cells v no_cell

    abbrev pat : ℕ
    pat = pattern_of (get_or (lv n qs ss j).statuses v 0)

    -- points of a child that use every corner
    pub all_corners : (f : List ℕ) → All (Present pat) f → T (midb f) → ((m : ℕ) → m < 4 → T (usesb f m)) → (h : ℕ)
        → holds (family pat) f ≡ h
        → count (map (point cell) f) (stage n qs ss (suc j)) ≡ h
    all_corners f a mid uses h e =
        carry n qs ss s regular j hj (map (point cell) f) cell.points h
        (λ w hw rw'. inside_count n j cell (get_or (lv n qs ss j).cells w no_cell) hj (reg v hv rv) (reg w hw rw') (reds_at n qs ss j) pat
        (pattern_of (get_or (lv n qs ss j).statuses w 0))
        (pattern_at n qs ss s regular j v hv) (pattern_at n qs ss s regular j w hw) (reads_at n qs ss s regular j v hv rv)
        (reads_at n qs ss s regular j w hw rw') f (present_small pat f a) uses
        ∙ ap (λ (h : ℕ). h * one_if (withinb cell.points (get_or (lv n qs ss j).cells w no_cell).points)) e)
        (λ o old. old_none n qs ss j hj cell (reg v hv rv) pat (reads_at n qs ss s regular j v hv rv) o old f a mid h)
        ∙ ap (λ (m : ℕ). h * m) (meet.whole v hv rv) ∙ omega arith

    on_side : (f : List ℕ) → All (Present pat) f → (w : OnSide (family pat) f) → count (map (point cell) f) (stage n qs ss (suc j)) ≡ bound
        qs (map (point cell) f)
    unfolding bound
    on_side f a w =
        carry n qs ss s regular j hj (map (point cell) f) (face_of cell w.z) 1
        (λ x hx rx. side_count n j cell (get_or (lv n qs ss j).cells x no_cell) hj (reg v hv rv) (reg x hx rx) (reds_at n qs ss j) pat
        (pattern_of (get_or (lv n qs ss j).statuses x 0))
        (pattern_at n qs ss s regular j v hv) (pattern_at n qs ss s regular j x hx) (reads_at n qs ss s regular j v hv rv)
        (reads_at n qs ss s regular j x hx rx) f w)
        (λ o old. old_side n qs ss j hj cell (reg v hv rv) pat (reads_at n qs ss s regular j v hv rv) o old f a w)
        ∙ omega (arith, right_at v hv w.z w.face)
        ∙ ap (λ (b : Bool). elim b [ true ↦ 1 | false ↦ 2 ]) (sym (side_bound n j cell hj (reg v hv rv) qs (family pat) f w))

    -- a child, or the cell itself where it is not refined
    pub part_right : (k : ℕ) → k < length (family pat) → (x : Cell Point) → x.points ≡ map (point cell) (digits_of pat k)
        → Right n qs ss (suc j) x
    unfolding bound
    part_right k hk x e i hi =
        let d = digits_of pat k in
        let small = pattern_at n qs ss s regular j v hv in
        let four = child_four pat k small hk in
        let f = without d i in
        let a : All (Present pat) f = all_without (Present pat) d four
        (all_at (All (Present pat)) [] (family pat) (family_present pat small) k hk) i hi in
        let q : face_of x i ≡ map (point cell) f = face_digits_lem cell x d e four i hi in
        subst (λ (u : List Point). count u (stage n qs ss (suc j)) ≡ bound qs u) (sym q)
        (⊎_elim (λ (o : Inside (family pat) f). all_corners f a (inside_mid pat k i small hk hi o) o.uses 2 o.twice
        ∙ ap (λ (b : Bool). elim b [ true ↦ 1 | false ↦ 2 ])
        (sym (inside_bound n j cell hj (reg v hv rv) (meet.wide v hv rv) f (present_small pat f a) o.uses qs)))
        (λ (o : OnSide (family pat) f). on_side f a o) (face_kind pat k i small hk hi))
