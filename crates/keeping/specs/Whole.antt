-- A sound table is whole: its cells are the coarse ones and all children, on at most eleven levels.
-- Laws: sound_firsts (its numbers of first children), eleven_levels (eleven levels are all).
-- Assumes nothing.
use Rattle.std.specs.Prelude.{◌≡◌, refl, true, List, [], ◌∷◌, ℕ, zero, suc, ◌+◌, ◌-◌, ◌≤◌, ◌<◌, length, take, drop}
use Rattle.std.proofs.Common.{sym, ap, ⊎_elim, eq-or-lt_of_le, arith}
use Rattle.mesh.specs.Cells.{Cell}
use Rattle.mesh.specs.Weights.{Point, coarse_cells}
use Rattle.mesh.specs.Table.{Level, next, levels, levels_of, soundb}
use Rattle.counting.specs.Levels.{next_end, level_number, level_end, number_more, end_more, end_none, next_after}
use Rattle.counting.specs.Whole.{number_right}
use Rattle.counting.specs.Sound.{sound_counted}
use Rattle.lineage.specs.Olds.{first_child}
use Rattle.lineage.specs.Firsts.{first_children, first_add, first_start, first_at, Firsts}

next_first : (m : ℕ) (ss : List ℕ) (first last : ℕ) → first ≤ last → last ≡ first_child m ss first
    → next_end first last ss ≡ first_child m ss last
unfolding next_end
next_first m ss first last u e =
    let w : first + (last - first) ≡ last = omega arith in
    omega (arith, e, rw w at (first_add m ss first (last - first)))

whole_from : (m : ℕ) (ss : List ℕ) (h first last : ℕ) → first ≤ last → last ≡ first_child m ss first → level_number h first last ss < h
    → first_child m ss (level_end h first last ss) ≡ level_end h first last ss
whole_from m ss zero first last u e k = absurd (omega arith)
whole_from m ss (suc h) first last u e k =
    ⊎_elim
    (λ (z : first ≡ last). rw (end_none (suc h) first last ss (omega arith)) (omega arith))
    (λ (l : first < last).
    rw (end_more h first last ss l)
    (whole_from m ss h last (next_end first last ss) (next_after first last ss) (next_first m ss first last u e)
    (omega (arith, number_more h first last ss l))))
    (eq-or-lt_of_le u)

levels_stop : (h k : ℕ) (cs : List (Cell Point)) (rs : List ℕ) → length (levels (suc h) k cs rs) ≤ h
    → levels (suc h) k cs rs ≡ levels h k cs rs
unfolding levels
levels_stop zero k [] rs l = refl
levels_stop zero k (c ∷ cs) rs l = absurd (omega arith)
levels_stop (suc h) k [] rs l = refl
levels_stop (suc h) k (c ∷ cs) rs l =
    ap (λ (ls : List Level). record { first = k; cells = c ∷ cs; statuses = take (length (c ∷ cs)) rs } ∷ ls)
    (levels_stop h (k + length (c ∷ cs)) (next k (c ∷ cs) (take (length (c ∷ cs)) rs)) (drop (length (c ∷ cs)) rs) (omega arith))

module _ (n : ℕ) (qs : List (List ℕ)) (ss : List ℕ) (t : soundb n qs ss ≡ true) where
  count_whole : first_child (length qs) ss (length ss) ≡ length ss
  count_whole =
      let l = sound_counted n qs ss t in
      rw l.whole at (whole_from (length qs) ss 12 0 (length qs) (omega arith) (sym (first_start (length qs) ss))
      (omega (arith, l.few)))

  pub eleven_levels : levels_of n qs ss ≡ levels 11 0 (coarse_cells n qs) ss
  unfolding levels_of
  eleven_levels = levels_stop 11 0 (coarse_cells n qs) ss (omega (arith, number_right n qs ss, (sound_counted n qs ss t).few))

pub sound_firsts : (n : ℕ) (qs : List (List ℕ)) (ss ks : List ℕ) → soundb n qs ss ≡ true
    → take (suc (length ss)) ks ≡ first_children (length qs) ss → Firsts (length qs) ss ks
sound_firsts n qs ss ks t e = record { at = first_at (length qs) ss ks e; whole = count_whole n qs ss t }
