-- The step's table, written level by level from what the old cells keep.
-- Laws: first_of and level_behind (levels from one on), write_step (the theorem).
use Rattle.std.proofs.Math.Path.{◌≡◌, refl, sym, ap, subst}
use Rattle.std.proofs.Common.{◌∙◌, add-zero, arith, ext_get_or, drop-drop, get_or-drop, get_or-take, length-take-le}
use mathlib.Core.List.{List, [], ◌∷◌, ◌++◌}
use Prim.Native.Nat.{ℕ, zero, suc, ◌+◌, ◌-◌, ◌<◌}
use Rattle.std.proofs.Math.Decide.{dec_lt}
use Rattle.std.specs.Prelude.{T, get_or, drop}
use Rattle.std.proofs.Math.ListN.{length, take}
use Rattle.base.specs.Every.{All}
use Rattle.mesh.specs.Cells.{Cell, no_cell}
use Rattle.mesh.specs.Weights.{Point, coarse_cells}
use Rattle.mesh.specs.Table.{Level, next, levels, levels_of, soundb, size_of}
use Rattle.mesh.specs.Laws.{length-coarse}
use Rattle.lattice.specs.Levels.{IfRegular, no_level}
use Rattle.numbering.specs.Refined.{Both, refined_red}
use Rattle.numbering.specs.Leaves.{Leaves, leaf_next}
use Rattle.lineage.specs.Olds.{flag_table, up_to, olds_next, reds_by, closed_by, statuses_by, grow_by, step_by}
use Rattle.kept.specs.Kept.{kept_table, born_by, born_next, write_by}
use Rattle.kept.specs.Families.{born_green}
use Rattle.kept.specs.KeptAt.{kept_at_lem, kept-length}
use Rattle.lineage.specs.Same.{Old, both_more, olds_next_lem}
use Rattle.lineage.specs.Paths.{coarse_at}
use Rattle.lineage.specs.Levels.{grow_levels, new_levels, here, length-statuses, length_up, first_first}
use Rattle.lineage.specs.Rest.{Rest, rest_start, rest_next, rest_up}
use Rattle.lineage.specs.Step.{Dark, olds_many, olds_start, refined_statuses, no_reds, grow_nothing, dark_empty}
use Rattle.lineage.specs.Met.{old_at, new_at, old_coarse, new_coarse}
use Rattle.soundness.specs.Sound.{Sound, sound_from, lv, level_there}
use Rattle.soundness.specs.Whole.{spot_at_lem}
use Rattle.succession.specs.Keeps.{status_kept}
use Rattle.succession.specs.Next.{next_statuses}

-- leaves have no children
born_none : (m : ℕ) (ss ks : List ℕ) (cs : List (Cell Point)) (ts os : List ℕ) → length ts ≡ length cs → Leaves cs ts
    → born_next m ss ks ts os ≡ []
unfolding born_next size_of
born_none m ss ks [] [] os e l = refl
born_none m ss ks [] (t ∷ ts) os e l = absurd (omega arith)
born_none m ss ks (c ∷ cs) [] os e l = absurd (omega arith)
born_none m ss ks (c ∷ cs) (t ∷ ts) [] e l = refl
born_none m ss ks (c ∷ cs) (t ∷ ts) (o ∷ os) e l =
    let z : born_by m ss ks t o ≡ [] = ap (λ (x : ℕ). born_by m ss ks x o) l.0 ∙ born_green m ss ks 0 o refl in
    ap (λ (x : List ℕ). x ++ born_next m ss ks ts os) z ∙ born_none m ss ks cs ts os (omega arith) l.1

write_none : (m : ℕ) (ss ks : List ℕ) (h : ℕ) (os : List ℕ) → write_by m ss ks h [] os ≡ []
unfolding write_by
write_none m ss ks zero os = refl
write_none m ss ks (suc h) os = refl

-- the statuses of the first level
first_statuses : (m : ℕ) (ss fs : List ℕ) (h k : ℕ) (cs : List (Cell Point)) (os : List ℕ)
    → (get_or (grow_levels m ss fs (suc h) k cs os) 0 no_level).statuses ≡ statuses_by fs cs os
unfolding grow_levels statuses_by closed_by
first_statuses m ss fs h k [] os = refl
first_statuses m ss fs h k (c ∷ cs) os = refl

-- one level more, and the levels behind it
module _ {A : Type 0} (d : A) (l : List A) (j : ℕ) where
  pub first_of : (r : List A) → r ≡ drop j l → get_or r 0 d ≡ get_or l j d
  first_of r e = ap (λ (x : List A). get_or x 0 d) e ∙ get_or-drop j l 0 d ∙ ap (λ (x : ℕ). get_or l x d) (add-zero j)

  pub level_behind : (r : List A) → r ≡ drop j l → drop 1 r ≡ drop (suc j) l
  level_behind r e = let w : j + 1 ≡ suc j = omega arith in ap (drop 1) e ∙ drop-drop 1 j l ∙ ap (λ (x : ℕ). drop x l) w

module _ (n : ℕ) (qs : List (List ℕ)) (ss ms : List ℕ) (s : Sound n qs ss) (regular : (i : ℕ)
    → All (IfRegular n i) (lv n qs ss i).cells) where
  abbrev sound : T (soundb n qs ss)
  sound = sound_from n qs ss s

  abbrev m : ℕ
  m = length qs

  abbrev fs : List ℕ
  fs = flag_table n qs ss ms

  abbrev ks : List ℕ
  ks = kept_table n qs ss ms

  -- the level above the highest old one
  write_top : (h : ℕ) (l : Level) → l.cells ≡ [] → (k : ℕ) (ds : List (Cell Point)) (os : List ℕ) → length os ≡ length ds
      → Both (Old l) ds os → write_by m ss ks (suc h) (statuses_by fs ds os) os ≡ grow_by m ss fs (suc h) k ds os
  unfolding write_by grow_by statuses_by closed_by reds_by
  write_top h l z k [] os e b = refl
  write_top h l z k (d ∷ ds) [] e b = absurd (omega arith)
  write_top h l z k (d ∷ ds) (o ∷ os) e b =
      let ts = statuses_by fs (d ∷ ds) (o ∷ os) in
      let leaves : Leaves (d ∷ ds) ts =
      no_reds fs (d ∷ ds) (o ∷ os) (both_more (Old l) (Dark fs) (dark_empty m ss fs ms (rest_start n qs ss ms sound).small l z) (d ∷ ds)
      (o ∷ os) b) in
      let born : born_next m ss ks ts (o ∷ os) ≡ [] = born_none m ss ks (d ∷ ds) ts (o ∷ os) (length-statuses fs (d ∷ ds) (o ∷ os) e)
      leaves in
      let up : next k (d ∷ ds) ts ≡ [] = leaf_next k (d ∷ ds) ts leaves in
      let os2 = olds_next m ss ts (o ∷ os) in
      ap (λ (x : List (List ℕ)). ts ∷ x)
      (ap (λ (x : List ℕ). write_by m ss ks h x os2) born ∙ write_none m ss ks h os2
      ∙ sym (ap (λ (x : List (Cell Point)). grow_by m ss fs h (k + length (d ∷ ds)) x os2) up
      ∙ grow_nothing m ss fs h (k + length (d ∷ ds)) os2))

  write_at : (h i : ℕ) (cs : List (Cell Point)) (rs : List ℕ) → Rest m ss fs ms h i cs rs → (k : ℕ) (ds : List (Cell Point)) (os : List ℕ)
      → length os ≡ length ds → Both (Old (here i cs rs)) ds os → (j : ℕ) → j + h ≡ 12 → levels h i cs rs ≡ drop j (levels_of n qs ss)
      → grow_levels m ss fs h k ds os ≡ drop j (new_levels n qs ss ms)
      → write_by m ss ks h (statuses_by fs ds os) os ≡ grow_by m ss fs h k ds os
  unfolding levels grow_levels write_by grow_by statuses_by closed_by reds_by
  write_at zero i cs rs r k ds os e b j q ol nl = refl
  write_at (suc h) i [] rs r k ds os e b j q ol nl = write_top h (here i [] rs) refl k ds os e b
  write_at (suc h) i (c ∷ cs) rs r k [] os e b j q ol nl = refl
  write_at (suc h) i (c ∷ cs) rs r k (d ∷ ds) [] e b j q ol nl = absurd (omega arith)
  write_at (suc zero) i (c ∷ cs) rs r k (d ∷ ds) (o ∷ os) e b j q ol nl = refl
  write_at (suc (suc h)) i (c ∷ cs) rs r k (d ∷ ds) (o ∷ os) e b j q ol nl =
      let own = take (length (c ∷ cs)) rs in
      let l = here i (c ∷ cs) rs in
      let u = here (i + length (c ∷ cs)) (next i (c ∷ cs) own) (drop (length (c ∷ cs)) rs) in
      let ts = statuses_by fs (d ∷ ds) (o ∷ os) in
      let os2 = olds_next m ss ts (o ∷ os) in
      let up = next k (d ∷ ds) ts in
      let b2 : Both (Old u) up os2 = olds_next_lem m ss l u (rest_up m ss fs ms (suc h) i c cs rs r) k (d ∷ ds) ts (o ∷ os)
      (refined_red (d ∷ ds) ts (refined_statuses fs (d ∷ ds) (o ∷ os))) b in
      let old_is : l ≡ old_at n qs ss j = first_of no_level (levels_of n qs ss) j (levels (suc (suc h)) i (c ∷ cs) rs) ol in
      let new_is : ◌≡◌ {A = Level} (record { first = k; cells = d ∷ ds; statuses = ts }) (new_at n qs ss ms j) =
      first_of no_level (new_levels n qs ss ms) j (grow_levels m ss fs (suc (suc h)) k (d ∷ ds) (o ∷ os)) nl in
      let ol' = level_behind no_level (levels_of n qs ss) j (levels (suc (suc h)) i (c ∷ cs) rs) ol in
      let nl' = level_behind no_level (new_levels n qs ss ms) j (grow_levels m ss fs (suc (suc h)) k (d ∷ ds) (o ∷ os)) nl in
      let cells_is : d ∷ ds ≡ (new_at n qs ss ms j).cells = ap (λ (x : Level). x.cells) new_is in
      let many : length (o ∷ os) ≡ length (new_at n qs ss ms j).cells = e ∙ ap length cells_is in
      let olds : Both (Old (old_at n qs ss j)) (new_at n qs ss ms j).cells (o ∷ os) =
      subst (λ (x : Level). Both (Old x) (new_at n qs ss ms j).cells (o ∷ os)) old_is
      (subst (λ (x : List (Cell Point)). Both (Old l) x (o ∷ os)) cells_is b) in
      let born : born_next m ss ks ts (o ∷ os) ≡ statuses_by fs up os2 =
      ap (λ (x : Level). born_next m ss ks x.statuses (o ∷ os)) new_is
      ∙ next_statuses n qs ss ms s regular j (omega arith) (o ∷ os) many olds
      ∙ sym (ap (λ (x : Level). x.statuses) (first_of no_level (new_levels n qs ss ms) (suc j)
      (grow_levels m ss fs (suc h) (k + length (d ∷ ds)) up os2) nl'))
      ∙ first_statuses m ss fs h (k + length (d ∷ ds)) up os2 in
      ap (λ (x : List (List ℕ)). ts ∷ x)
      (ap (λ (x : List ℕ). write_by m ss ks (suc h) x os2) born
      ∙ write_at (suc h) (i + length (c ∷ cs)) (next i (c ∷ cs) own) (drop (length (c ∷ cs)) rs)
      (rest_next m ss fs ms (suc h) i c cs rs r) (k + length (d ∷ ds)) up os2 (length_up m ss fs k (d ∷ ds) (o ∷ os) e) b2 (suc j)
      (omega arith) ol' nl')

  -- the coarse cells
  module _ (i : ℕ) (h : i < m) where
    old_cells : (old_at n qs ss 0).cells ≡ (new_at n qs ss ms 0).cells
    old_cells = old_coarse n qs ss ms ∙ sym (new_coarse n qs ss ms)

    there : i < length (old_at n qs ss 0).cells
    there = omega (arith, ap length (old_coarse n qs ss ms), length-coarse n qs)

    coarse_regular : T (get_or (old_at n qs ss 0).cells i no_cell).regular
    coarse_regular = rw (old_coarse n qs ss ms, coarse_at n qs i h) tt

    first_number : (old_at n qs ss 0).first + i ≡ i
    unfolding levels_of
    first_number = omega (arith, first_first 12 0 (coarse_cells n qs) ss (level_there n qs ss 0 i there))

    coarse_inside : i < length ks
    coarse_inside =
        let a = spot_at_lem n qs ss 0 i there in
        omega (arith, a.first, a.inside, first_number, kept-length n qs ss ms sound)

    coarse_one : get_or (new_at n qs ss ms 0).statuses i 0 ≡ get_or ks i 0
    coarse_one =
        status_kept n qs ss ms s 0 (omega arith) i (rw (← old_cells) there) i
        (record {
          below = there;
          path = ap (λ (x : List (Cell Point)). (get_or x i no_cell).path) old_cells;
          points = ap (λ (x : List (Cell Point)). (get_or x i no_cell).points) old_cells;
          regular = coarse_regular;
        })
        (rw (← old_cells) coarse_regular)
        ∙ sym (kept_at_lem n qs ss ms sound 0 i there) ∙ ap (λ (x : ℕ). get_or ks x 0) first_number

  coarse_statuses : statuses_by fs (coarse_cells n qs) (up_to m) ≡ take m ks
  coarse_statuses = ext_get_or 0 (statuses_by fs (coarse_cells n qs) (up_to m)) (take m ks) (many ∙ sym few) each
    where
      many : length (statuses_by fs (coarse_cells n qs) (up_to m)) ≡ m
      many = length-statuses fs (coarse_cells n qs) (up_to m) (olds_many n qs ss) ∙ length-coarse n qs

      few : length (take m ks) ≡ m
      few = length-take-le m ks
          (elim (dec_lt 0 m) [ yes h ↦ omega (arith, coarse_inside (m - 1) (omega arith)) | no h ↦ omega arith ])

      each : (i : ℕ) → i < length (statuses_by fs (coarse_cells n qs) (up_to m))
          → get_or (statuses_by fs (coarse_cells n qs) (up_to m)) i 0 ≡ get_or (take m ks) i 0
      each i h =
          let h' : i < m = omega (arith, many) in
          sym (ap (λ (x : List ℕ). get_or x i 0) (first_statuses m ss fs 11 0 (coarse_cells n qs) (up_to m))) ∙ coarse_one i h'
          ∙ sym (get_or-take m ks i 0 h')

  pub write_step : write_by m ss ks 12 (take m ks) (up_to m) ≡ step_by n qs ss ms
  unfolding step_by levels_of
  write_step =
      ap (λ (x : List ℕ). write_by m ss ks 12 x (up_to m)) (sym coarse_statuses)
      ∙ write_at 12 0 (coarse_cells n qs) ss (rest_start n qs ss ms sound) 0 (coarse_cells n qs) (up_to m) (olds_many n qs ss)
      (olds_start n qs ss) 0 refl refl refl
