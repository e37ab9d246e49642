-- In a sound table leaves meet face to face.
-- Laws: leaves_stage (the leaves are the last stage), apart_here (a cell of a table has four different corners), meeting (at each level),
-- sound_meets.
use Rattle.std.specs.Prelude.{◌≡◌, refl, Bool, true, false, ℕ, zero, suc, ◌+◌, ◌<◌, ◌≤◌, T, eqb, length, take, drop}
use Rattle.std.proofs.Common.{sym, ◌∙◌, subst, inr, arith, eq-eqb}
use Rattle.std.proofs.Math.Path.{ap}
use mathlib.Core.List.{List, [], ◌∷◌, ◌++◌, flat_map}
use Rattle.std.proofs.Math.Decide.{dec_lt}
use Rattle.std.proofs.Math.ListN.{get_or}
use Rattle.base.specs.Lists.{allb, filterb}
use Rattle.base.specs.Bools.{one_if}
use Rattle.mesh.specs.Cells.{Cell, no_cell}
use Rattle.mesh.specs.Weights.{Point, coarse_cells}
use Rattle.mesh.specs.Coarse.{cellsb, singleb}
use Rattle.mesh.specs.Table.{levels, levels_of, cells_of, next, soundb}
use Rattle.base.specs.Every.{All, all_pass}
use Rattle.lattice.specs.Edges.{corner_apart}
use Rattle.lattice.specs.Levels.{IfRegular}
use Rattle.lattice.specs.Facts.{sound_regular}
use Rattle.soundness.specs.Held.{closed-length, regular_at}
use Rattle.soundness.specs.Sound.{Sound, sound_parts, lv, level_closed, level_there}
use Rattle.soundness.specs.Whole.{spot_with}
use Rattle.conformity.specs.Leaves.{leaves_in, leaves_of, face_at, has_faceb, leaves_with, meetb}
use Rattle.conformity.specs.Kinds.{refined_low}
use Rattle.conformity.specs.Having.{withinb, count}
use Rattle.conformity.specs.Open.{leaves_each}
use Rattle.conformity.specs.Olds.{old_at_lem}
use Rattle.conformity.specs.Stages.{leaves_on, below, stage, below_next}
use Rattle.conformity.specs.Meeting.{bound, face_of, Right, Meeting, all_both}
use Rattle.conformity.specs.Onward.{meeting_next}
use Rattle.conformity.proofs.Start.{meeting_zero}
use Rattle.conformity.specs.Faces.{Apart, face_at_lem, has_within}

-- the leaves level by level
no_leaves : (cs : List (Cell Point)) → leaves_in cs [] ≡ []
unfolding leaves_in
no_leaves [] = refl
no_leaves (c ∷ cs) = refl

leaves_append : (cs ds : List (Cell Point)) (ss : List ℕ) → leaves_in (cs ++ ds) ss ≡ leaves_in cs (take (length cs) ss) ++ leaves_in ds
    (drop (length cs) ss)
unfolding leaves_in
leaves_append [] ds ss = refl
leaves_append (c ∷ cs) ds [] = sym (no_leaves ds)
leaves_append (c ∷ cs) ds (s ∷ ss) = go (eqb s 0) refl (leaves_append cs ds ss)
  where
    go : (b : Bool) → eqb s 0 ≡ b → leaves_in (cs ++ ds) ss ≡ leaves_in cs (take (length cs) ss) ++ leaves_in ds (drop (length cs) ss)
        → leaves_in (c ∷ (cs ++ ds)) (s ∷ ss) ≡ leaves_in (c ∷ cs) (s ∷ take (length cs) ss) ++ leaves_in ds (drop (length cs) ss)
    go true e i = rw (e, leaves_in) (ap (λ (l : List (Cell Point)). c ∷ l) i)
    go false e i = rw (e, leaves_in) i

leaves_levels : (h k : ℕ) (cs : List (Cell Point)) (ss : List ℕ) → leaves_in (cells_of (levels h k cs ss)) ss ≡ flat_map leaves_on
    (levels h k cs ss)
unfolding levels cells_of flat_map leaves_in
leaves_levels zero k cs ss = refl
leaves_levels (suc h) k [] ss = refl
leaves_levels (suc h) k (c ∷ cs) ss =
    let m = length (c ∷ cs) in
    let up = levels h (k + m) (next k (c ∷ cs) (take m ss)) (drop m ss) in
    leaves_append (c ∷ cs) (cells_of up) ss
    ∙ ap (λ (l : List (Cell Point)). leaves_in (c ∷ cs) (take (length (c ∷ cs)) ss) ++ l)
    (leaves_levels h (k + m) (next k (c ∷ cs) (take m ss)) (drop m ss))

take_all : {A : Type 0} (m : ℕ) (l : List A) → length l ≤ m → take m l ≡ l
take_all zero [] h = refl
take_all zero (x ∷ l) h = absurd (omega arith)
take_all (suc m) [] h = refl
take_all (suc m) (x ∷ l) h = ap (λ (l : List _). x ∷ l) (take_all m l (omega arith))

all_leaves : (cs : List (Cell Point)) (ss : List ℕ) → length ss ≡ length cs → ((i : ℕ) → i < length cs → get_or ss i 0 ≡ 0)
    → leaves_in cs ss ≡ cs
unfolding leaves_in
all_leaves [] ss e f = refl
all_leaves (c ∷ cs) [] e f = absurd (omega arith)
all_leaves (c ∷ cs) (s ∷ ss) e f = rw (eq-eqb s 0 (f 0 (omega arith)), leaves_in)
    (ap (λ (l : List (Cell Point)). c ∷ l) (all_leaves cs ss (omega arith) (λ i h. f (suc i) (omega arith))))

module _ (n : ℕ) (qs : List (List ℕ)) (ss : List ℕ) (s : Sound n qs ss) where
  leaf_top : (v : ℕ) → v < length (lv n qs ss 10).cells → get_or (lv n qs ss 10).statuses v 0 ≡ 0
  leaf_top v hv =
      let t = get_or (lv n qs ss 10).statuses v 0 in
      elim (dec_lt 0 t) [ yes h ↦ absurd (omega (arith, refined_low n qs ss s 10 v hv (λ z. omega arith))) | no h ↦ omega arith ]

  below_all : flat_map leaves_on (levels_of n qs ss) ≡ below n qs ss 11
  unfolding below
  below_all = ap (flat_map leaves_on) (sym (take_all 11 (levels_of n qs ss) s.high))

  leaves_stage : leaves_of n qs ss ≡ stage n qs ss 10
  unfolding leaves_of levels_of
  leaves_stage =
      leaves_levels 12 0 (coarse_cells n qs) ss ∙ below_all
      ∙ below_next n qs ss 10
      ∙ ap (λ (l : List (Cell Point)). below n qs ss 10 ++ l)
      (all_leaves (lv n qs ss 10).cells (lv n qs ss 10).statuses (closed-length (lv n qs ss 10) (level_closed n qs ss s.closed 10))
      leaf_top)

  module _ (regular : (i : ℕ) → All (IfRegular n i) (lv n qs ss i).cells) where
    apart_here : (j u : ℕ) → u < length (lv n qs ss j).cells → Apart (get_or (lv n qs ss j).cells u no_cell)
    apart_here j u hu = go (get_or (lv n qs ss j).cells u no_cell).regular refl
      where
        go : (b : Bool) → (get_or (lv n qs ss j).cells u no_cell).regular ≡ b → Apart (get_or (lv n qs ss j).cells u no_cell)
        go true e =
            let r = regular_at n j (lv n qs ss j) (regular j) u hu (rw e tt) in
            record { four = r.four; differ = corner_apart n j (get_or (lv n qs ss j).cells u no_cell) r }
        go false e =
            let there = level_there n qs ss j u hu in
            let o = old_at_lem n qs ss s regular j u j (omega arith) (omega (arith, s.high)) hu (inr e) in
            record { four = o.four; differ = o.differ }

    leaves_apart : All Apart (leaves_of n qs ss)
    unfolding leaves_of
    leaves_apart =
        let cs = cells_of (levels_of n qs ss) in
        leaves_each Apart cs ss (λ i h _ _.
        let o = spot_with n qs ss i h in
        let c : get_or cs i no_cell ≡ get_or (lv n qs ss o.j).cells o.p no_cell = rw o.number at o.at.cell in
        rw c (apart_here o.j o.p o.below))

-- how many cells have a face
count_faces : (o : Cell Point) → Apart o → (i : ℕ) → i < 4 → (cs : List (Cell Point)) → All Apart cs
    → length (filterb (has_faceb (face_of o i)) cs) ≡ count (face_of o i) cs
unfolding filterb one_if
count_faces o a i hi [] b = refl
count_faces o a i hi (c ∷ cs) b = go (has_faceb (face_of o i) c) refl (count_faces o a i hi cs b.1)
  where
    e : has_faceb (face_of o i) c ≡ withinb (face_of o i) c.points
    e = has_within o c a b.0 i hi

    go : (x : Bool) → has_faceb (face_of o i) c ≡ x → length (filterb (has_faceb (face_of o i)) cs) ≡ count (face_of o i) cs
        → length (filterb (has_faceb (face_of o i)) (c ∷ cs)) ≡ one_if (withinb (face_of o i) c.points) + count (face_of o i) cs
    go true f k = rw (← e, f, filterb) (omega arith)
    go false f k = rw (← e, f, filterb) (omega arith)

module _ (n : ℕ) (qs : List (List ℕ)) (ss : List ℕ) (four : All (λ q. length q ≡ 4) qs) (cells : T (cellsb n qs)) (single : T (singleb qs))
    (s : Sound n qs ss) (regular : (i : ℕ) → All (IfRegular n i) (lv n qs ss i).cells) where
  meeting : (j : ℕ) → j ≤ 10 → Meeting n qs ss j
  meeting zero h = meeting_zero n qs ss four cells single
  meeting (suc j) h = meeting_next n qs ss s regular j (omega arith) (meeting j (omega arith))

pub sound_meets : (n : ℕ) (qs : List (List ℕ)) (ss : List ℕ) → All (λ q. length q ≡ 4) qs → T (cellsb n qs) → T (singleb qs)
    → T (soundb n qs ss) → T (meetb n qs ss)
unfolding meetb leaves_with bound
sound_meets n qs ss four cells single sound =
    let s = sound_parts n qs ss sound in
    let regular = sound_regular n qs ss four cells sound in
    let m = meeting n qs ss four cells single s regular 10 (omega arith) in
    let e = leaves_stage n qs ss s in
    let right : All (Right n qs ss 10) (leaves_of n qs ss) = subst (All (Right n qs ss 10)) (sym e) m.faces in
    let apart = leaves_apart n qs ss s regular in
    all_pass Both test (λ c (a, r). one c a r) (leaves_of n qs ss)
    (all_both Apart (Right n qs ss 10) Both (λ c a r. (a, r)) (leaves_of n qs ss) apart right)
  where
    Both : Cell Point → Type 0
    Both c = Apart c × Right n qs ss 10 c

    test : Cell Point → Bool
    test c = allb (λ i. eqb (leaves_with n qs ss (face_at c i)) (bound qs (face_at c i))) (0 ∷ 1 ∷ 2 ∷ 3 ∷ [])

    one : (c : Cell Point) → Apart c → Right n qs ss 10 c → T (test c)
    one c a r =
        all_pass (λ i. i < 4) (λ i. eqb (leaves_with n qs ss (face_at c i)) (bound qs (face_at c i))) (λ i hi.
        let s = sound_parts n qs ss sound in
        let regular = sound_regular n qs ss four cells sound in
        let q : leaves_with n qs ss (face_of c i) ≡ bound qs (face_of c i) =
        count_faces c a i hi (leaves_of n qs ss) (leaves_apart n qs ss s regular) ∙ ap (count (face_of c i)) (leaves_stage n qs ss s)
        ∙ r i hi in
        rw (face_at_lem c i hi, eq-eqb (leaves_with n qs ss (face_of c i)) (bound qs (face_of c i)) q) tt)
        (0 ∷ 1 ∷ 2 ∷ 3 ∷ []) (omega arith)
