-- One level more (Meeting).
-- Laws: leaf_right (the leaves of the level), meeting_next.
use Rattle.std.specs.Prelude.{◌≡◌, refl, Bool, true, false, List, [], ◌∷◌, map, ℕ, suc, ◌<◌, T, length, get_or}
use Rattle.std.proofs.Common.{sym, ap, subst, inr, arith}
use Rattle.cutting.specs.Rule.{family}
use Rattle.mesh.specs.Cells.{Cell, pattern_of, red_edges, no_cell}
use Rattle.mesh.specs.Weights.{Point, point}
use Rattle.base.specs.Every.{All, all_append, all_from, all_at}
use Rattle.lattice.specs.Levels.{IfRegular}
use Rattle.families.specs.Children.{digits_of}
use Rattle.carriers.specs.Refined.{status_regular}
use Rattle.soundness.specs.Held.{closed_at, red_regular}
use Rattle.soundness.specs.Family.{RedChild, red_child, born_of}
use Rattle.soundness.specs.Sound.{Sound, lv, level_closed, level_next}
use Rattle.families.specs.FaceKinds.{Present, family_present, red_whole, red_mid, family_leaf}
use Rattle.families.specs.Digits.{holds}
use Rattle.conformity.specs.Having.{count, corner_points}
use Rattle.conformity.specs.Open.{leaves_each}
use Rattle.conformity.specs.Old.{OldCell}
use Rattle.conformity.specs.Olds.{old_at_lem}
use Rattle.conformity.specs.Bounds.{Wide, wide_child}
use Rattle.conformity.specs.Stages.{leaves_at, below, stage, below_next, below_old}
use Rattle.conformity.specs.Meeting.{Right, Meeting, all_first, all_both, present_small, right_at, reg, old_right, part_right}
use Rattle.conformity.specs.Meeting.{all_corners}

leaf_family : (s : ℕ) → s ≡ 0 → family (pattern_of s) ≡ (0 ∷ 4 ∷ 7 ∷ 9 ∷ []) ∷ []
unfolding pattern_of
leaf_family s e = rw e family_leaf

red_pattern : (s : ℕ) → s ≡ 64 → pattern_of s ≡ 63
unfolding pattern_of
red_pattern s e = rw e refl

module _ (n : ℕ) (qs : List (List ℕ)) (ss : List ℕ) (s : Sound n qs ss) (regular : (i : ℕ) → All (IfRegular n i) (lv n qs ss i).cells)
    (j : ℕ) (hj : j < 10) (meet : Meeting n qs ss j) where
  leaf_right : (v : ℕ) → v < length (lv n qs ss j).cells → get_or (lv n qs ss j).statuses v 0 ≡ 0
      → Right n qs ss (suc j) (get_or (lv n qs ss j).cells v no_cell)
  leaf_right v hv z = go (get_or (lv n qs ss j).cells v no_cell).regular refl
    where
      go : (b : Bool) → (get_or (lv n qs ss j).cells v no_cell).regular ≡ b → Right n qs ss (suc j) (get_or (lv n qs ss j).cells v no_cell)
      go true e =
          let c = get_or (lv n qs ss j).cells v no_cell in
          let rv : T c.regular = rw e tt in
          let f = leaf_family (get_or (lv n qs ss j).statuses v 0) z in
          part_right n qs ss s regular j hj meet v hv rv 0 (rw f (omega arith)) c
          (subst (λ (ds : List (List ℕ)). c.points ≡ map (point c) (get_or ds 0 [])) (sym f)
          (sym (corner_points c (reg n qs ss s regular j hj meet v hv rv).four)))
      go false e =
          old_right n qs ss s regular j hj meet (get_or (lv n qs ss j).cells v no_cell)
          (old_at_lem n qs ss s regular j v j (omega arith) (omega arith) hv (inr e)) (right_at n qs ss s regular j hj meet v hv)

  child_right : (u : ℕ) → u < length (lv n qs ss (suc j)).cells → Right n qs ss (suc j) (get_or (lv n qs ss (suc j)).cells u no_cell)
  child_right u hu =
      let l = lv n qs ss j in
      let b = born_of l (lv n qs ss (suc j)) (level_next n qs ss j (omega arith)) u hu in
      let c = get_or l.cells b.p no_cell in
      let rc : T c.regular = status_regular (red_edges [] l.cells l.statuses) c (get_or l.statuses b.p 0)
      (closed_at l (level_closed n qs ss s.closed j) b.p b.below).1 b.refined in
      part_right n qs ss s regular j hj meet b.p b.below rc b.i b.child (get_or (lv n qs ss (suc j)).cells u no_cell)
      (ap (λ (c : Cell Point). c.points) b.is)

  -- a regular cell of the next level
  module _ (u : ℕ) (hu : u < length (lv n qs ss (suc j)).cells) (ru : T (get_or (lv n qs ss (suc j)).cells u no_cell).regular) where
    parent : RedChild (lv n qs ss j) (get_or (lv n qs ss (suc j)).cells u no_cell)
    parent = red_child (lv n qs ss j) (lv n qs ss (suc j)) (level_next n qs ss j (omega arith)) u hu ru

    red_whole_count : (w : RedChild (lv n qs ss j) (get_or (lv n qs ss (suc j)).cells u no_cell))
        → count (get_or (lv n qs ss (suc j)).cells u no_cell).points (stage n qs ss (suc j)) ≡ 1
    red_whole_count w =
        let l = lv n qs ss j in
        let c = get_or l.cells w.p no_cell in
        let rc = red_regular l (level_closed n qs ss s.closed j) w.p w.below w.red in
        let p63 = red_pattern (get_or l.statuses w.p 0) w.red in
        let d = digits_of 63 w.i in
        let (uses, once) = red_whole w.i w.inside in
        let a : All (Present 63) d = all_at (All (Present 63)) [] (family 63) (family_present 63 (omega arith)) w.i w.inside in
        subst (λ (p : List Point). count p (stage n qs ss (suc j)) ≡ 1) (sym w.points)
        (all_corners n qs ss s regular j hj meet w.p w.below rc d
        (subst (λ (p : ℕ). All (Present p) (digits_of 63 w.i)) (sym p63) a) (red_mid w.i w.inside) uses 1
        (subst (λ (p : ℕ). holds (family p) (digits_of 63 w.i) ≡ 1) (sym p63) once))

    red_wide : (w : RedChild (lv n qs ss j) (get_or (lv n qs ss (suc j)).cells u no_cell)) → Wide (get_or (lv n qs ss (suc j)).cells u no_cell)
    red_wide w =
        let l = lv n qs ss j in
        let c = get_or l.cells w.p no_cell in
        let rc = red_regular l (level_closed n qs ss s.closed j) w.p w.below w.red in
        let d = digits_of 63 w.i in
        let (uses, _) = red_whole w.i w.inside in
        let a : All (Present 63) d = all_at (All (Present 63)) [] (family 63) (family_present 63 (omega arith)) w.i w.inside in
        wide_child n j c hj (reg n qs ss s regular j hj meet w.p w.below rc) (meet.wide w.p w.below rc) d
        (present_small 63 d a) uses (get_or (lv n qs ss (suc j)).cells u no_cell) w.points

  pub meeting_next : Meeting n qs ss (suc j)
  meeting_next =
      record {
        faces =
            all_append (Right n qs ss (suc j)) (below n qs ss (suc j)) (lv n qs ss (suc j)).cells
            (subst (All (Right n qs ss (suc j))) (sym (below_next n qs ss j))
            (all_append (Right n qs ss (suc j)) (below n qs ss j) (leaves_at n qs ss j)
            (all_both (OldCell n qs ss j) (Right n qs ss j) (Right n qs ss (suc j)) (old_right n qs ss s regular j hj meet)
            (below n qs ss j) (below_old n qs ss s regular j j (omega arith) (omega arith))
            (all_first (Right n qs ss j) (below n qs ss j) (lv n qs ss j).cells meet.faces))
            (leaves_each (Right n qs ss (suc j)) (lv n qs ss j).cells (lv n qs ss j).statuses (λ v hv _ z. leaf_right v hv z))))
            (all_from (Right n qs ss (suc j)) no_cell (lv n qs ss (suc j)).cells child_right);
        whole = λ u hu ru. red_whole_count u hu ru (parent u hu ru);
        wide = λ u hu ru. red_wide u hu ru (parent u hu ru);
      }
