-- Corners never exceed 16,384 (Rule 5.7). A cell has at least as many children as split edges, and every cell that is not coarse is a
-- child, so new corners are no more than cells.
-- Law: corners_few.
use Rattle.std.specs.Prelude.{◌≡◌, true, false, List, [], ◌∷◌, T, leb, length, drop}
use Rattle.std.proofs.Common.{sym, ◌∙◌, leb→le, take-add, take_all, drop-drop, ltb-true, ltb-false}
use Rattle.std.proofs.Math.Logic.{⊎_elim}
use Prim.Native.Nat.{ℕ, zero, suc, ◌+◌, ◌-◌, ◌≤◌, ◌<◌}
use native.Mathlib.Omega.{arith}
use Rattle.std.proofs.Math.Dec.{ltb}
use Rattle.std.proofs.Math.ListN.{length-append}
use Rattle.std.proofs.lemmas.List.{length-map}
use Rattle.base.specs.Lists.{allb, sameb}
use Rattle.base.specs.Bools.{and_left, and_right, either, is_true}
use Rattle.base.specs.Places.{hasb}
use Rattle.base.specs.Limits.{most_coarse_corners, most_corners}
use Rattle.mesh.specs.Cells.{Cell}
use Rattle.mesh.specs.Weights.{Point, mid}
use Rattle.mesh.specs.Table.{levels_of, cells_of, soundb, size_of, sizes}
use Rattle.mesh.specs.Layout.{Corner, weights_of, coarse_corners, split_edges, add_corner, add_corners, corners_from, corners_of}
use Rattle.rows.specs.Numbered.{part}
use Rattle.mesh.specs.Laws.{sizes_append}
use Rattle.growth.specs.Places.{splits_few}
use Rattle.numbering.specs.Corners.{corners_start}
use Rattle.counting.specs.Levels.{next_end, level_number, level_end, number_more, end_more, end_none}
use Rattle.counting.specs.Sound.{sound_counted}

-- Corners added, cell by cell.
module _ (ks : List Corner) where
  one_more : (e : Point × Point) → length (add_corner ks e) ≤ length ks + 1
  unfolding add_corner
  one_more e =
      let m = mid e.0 e.1 in
      ⊎_elim (λ (t : hasb sameb (weights_of ks) m ≡ true). rw (t, add_corner) (omega arith))
      (λ (t : hasb sameb (weights_of ks) m ≡ false). rw (t, add_corner) (simp length-append (omega arith)))
      (either (hasb sameb (weights_of ks) m))

all_more : (ks : List Corner) (es : List (Point × Point)) → length (add_corners ks es) ≤ length ks + length es
unfolding add_corners
all_more ks [] = omega arith
all_more ks (e ∷ es) = omega (arith, one_more ks e, all_more (add_corner ks e) es)

split_few : (c : Cell Point) (s : ℕ) → s ≤ 64 → length (split_edges [] c s) ≤ size_of s
unfolding split_edges
split_few c s h =
    let d : Cell ℕ = record { path = []; parent = 0; regular = true; points = [] } in
    let e : length (split_edges [] c s) ≡ length (split_edges 0 d s) = simp length-map in
    omega (arith, e, splits_few d s h)

cells_more : (ks : List Corner) (cs : List (Cell Point)) (ss : List ℕ) → T (allb (λ s. leb s 64) ss)
    → length (corners_from ks cs ss) ≤ length ks + sizes ss
unfolding corners_from sizes allb
cells_more ks [] ss t = omega arith
cells_more ks (c ∷ cs) [] t = omega arith
cells_more ks (c ∷ cs) (s ∷ ss) t =
    let h : s ≤ 64 = leb→le s 64 (and_left (leb s 64) (allb (λ s. leb s 64) ss) t) in
    omega (
      arith,
      split_few c s h,
      all_more ks (split_edges [] c s),
      cells_more (add_corners ks (split_edges [] c s)) cs ss (and_right (leb s 64) (allb (λ s. leb s 64) ss) t),
    )

-- The cells above the first level are the children of all.
module _ (ss : List ℕ) where
  joined : (a b c : ℕ) → a ≤ b → b ≤ c → sizes (part ss a (c - a)) ≡ sizes (part ss a (b - a)) + sizes (part ss b (c - b))
  joined a b c h g =
      let i : c - a ≡ (b - a) + (c - b) = omega arith in
      let j : a + (b - a) ≡ b = omega arith in
      let d : drop (b - a) (drop a ss) ≡ drop b ss = rw j at (drop-drop (b - a) a ss) in
      rw (i, take-add (b - a) (c - b) (drop a ss), d) (sizes_append (part ss a (b - a)) (part ss b (c - b)))

  end_sizes : (f first last : ℕ) → first ≤ last → level_number f first last ss < f
      → level_end f first last ss ≡ last + sizes (part ss first (level_end f first last ss - first))
  unfolding sizes next_end
  end_sizes zero first last h g = absurd (omega arith)
  end_sizes (suc f) first last h g =
      ⊎_elim (λ (t : ltb first last ≡ true). more (ltb-true first last t) (end_sizes f last (next_end first last ss)))
      (λ (t : ltb first last ≡ false). none (ltb-false first last t)) (either (ltb first last))
    where
      none : last ≤ first → level_end (suc f) first last ss ≡ last + sizes (part ss first (level_end (suc f) first last ss - first))
      none l =
          let e : first ≡ last = omega arith in
          let z : last - last ≡ 0 = omega arith in
          rw (end_none (suc f) first last ss l, e, z) (omega arith)

      more : first < last → (last ≤ next_end first last ss → level_number f last (next_end first last ss) ss < f
          → level_end f last (next_end first last ss) ss
          ≡ next_end first last ss + sizes (part ss last (level_end f last (next_end first last ss) ss - last)))
          → level_end (suc f) first last ss ≡ last + sizes (part ss first (level_end (suc f) first last ss - first))
      more l hyp =
          let up = next_end first last ss in
          let n : level_number f last up ss < f = omega (arith, number_more f first last ss l) in
          let i = hyp (omega arith) n in
          let e = level_end f last up ss in
          rw (end_more f first last ss l) (omega (arith, i, joined first last e (omega arith) (omega (arith, i))))

-- Rule 5.7
pub corners_few : (n : ℕ) (qs : List (List ℕ)) (ss : List ℕ) → n ≤ most_coarse_corners → T (soundb n qs ss)
    → length (corners_of n (cells_of (levels_of n qs ss)) ss) ≤ most_corners
unfolding corners_of
corners_few n qs ss h t =
    let l = sound_counted n qs ss (is_true (soundb n qs ss) t) in
    let e = end_sizes ss 12 0 (length qs) (omega arith) (omega (arith, l.few)) in
    let w : part ss 0 (level_end 12 0 (length qs) ss - 0) ≡ ss = take_all (level_end 12 0 (length qs) ss - 0) ss (omega (arith, l.whole)) in
    let s : length ss ≡ length qs + sizes ss = sym l.whole ∙ rw w at e in
    omega (
      arith,
      s,
      l.small,
      (corners_start n).count,
      cells_more (coarse_corners n) (cells_of (levels_of n qs ss)) ss (rw l.statuses tt),
    )
