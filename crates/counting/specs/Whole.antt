-- The counts from the statuses alone are those of the table's levels: a cell has as many children one level up as its status
-- says, so that the levels have the same ends.
-- Assumes nothing.
use Rattle.std.specs.Prelude.{◌≡◌, refl, ℕ, zero, suc, ◌+◌, ◌-◌, take, drop}
use Rattle.std.proofs.Common.{sym, ◌∙◌, ap, ap₂, add-zero, length-append, drop-drop}
use mathlib.Core.List.{List, [], ◌∷◌, ◌++◌, flat_map}
use native.Mathlib.Omega.{arith}
use Rattle.std.proofs.Math.ListN.{length, length-take}
use Rattle.mesh.specs.Cells.{Cell}
use Rattle.mesh.specs.Weights.{Point, coarse_cells}
use Rattle.mesh.specs.Table.{Level, next, levels, levels_of, cells_of}
use Rattle.mesh.specs.Counts.{counts_of, count_table}
use Rattle.rows.specs.Numbered.{part}
use Rattle.rows.specs.Many.{next_size}
use Rattle.counting.specs.Levels.{next_end, counts_at, level_counts, level_number, level_end, counts_more, counts_none, number_more}
use Rattle.counting.specs.Levels.{number_none, end_more, end_none}
use Rattle.mesh.specs.Laws.{length_from}

-- a level of the cells cs, numbered from k, in the table ss
abbrev own : ℕ → List (Cell Point) → List ℕ → List ℕ
own k cs ss = take (length cs) (drop k ss)

abbrev level_at : ℕ → List (Cell Point) → List ℕ → Level
level_at k cs ss = record { first = k; cells = cs; statuses = own k cs ss }

module _ (k : ℕ) (cs : List (Cell Point)) (ss : List ℕ) where
  own_part : part ss k (k + length cs - k) ≡ own k cs ss
  own_part = let e : k + length cs - k ≡ length cs = omega arith in rw e

  up_size : k + length cs + length (next k cs (own k cs ss)) ≡ next_end k (k + length cs) ss
  unfolding next_end
  up_size =
      rw (own_part, next_size k cs (own k cs ss) (omega (arith, length-take (length cs) (drop k ss))))

  counts_level : counts_of (level_at k cs ss) ≡ counts_at k (k + length cs) ss
  unfolding counts_of counts_at
  counts_level = let e : k + length cs - k ≡ length cs = omega arith in rw e

levels_more : (f k : ℕ) (c : Cell Point) (cs : List (Cell Point)) (ss : List ℕ)
    → levels (suc f) k (c ∷ cs) (drop k ss)
    ≡ level_at k (c ∷ cs) ss ∷ levels f (k + length (c ∷ cs)) (next k (c ∷ cs) (own k (c ∷ cs) ss)) (drop (k + length (c ∷ cs)) ss)
unfolding levels
levels_more f k c cs ss = rw (drop-drop (length (c ∷ cs)) k ss)

-- What is read off the levels of a table, level after level.
counts_from : (f k : ℕ) (cs : List (Cell Point)) (ss : List ℕ) → count_table (levels f k cs (drop k ss)) ≡ level_counts f k (k + length cs) ss
unfolding count_table levels level_counts flat_map
counts_from zero k cs ss = refl
counts_from (suc f) k [] ss = sym (counts_none (suc f) k (k + 0) ss (omega arith))
counts_from (suc f) k (c ∷ cs) ss =
    let l = k + length (c ∷ cs) in
    let up = next k (c ∷ cs) (own k (c ∷ cs) ss) in
    ap count_table (levels_more f k c cs ss)
    ∙ ap₂ ◌++◌ (counts_level k (c ∷ cs) ss) (counts_from f l up ss ∙ rw (up_size k (c ∷ cs) ss))
    ∙ sym (counts_more f k l ss (omega arith))

number_from : (f k : ℕ) (cs : List (Cell Point)) (ss : List ℕ) → length (levels f k cs (drop k ss)) ≡ level_number f k (k + length cs) ss
unfolding levels level_number
number_from zero k cs ss = refl
number_from (suc f) k [] ss = sym (number_none (suc f) k (k + 0) ss (omega arith))
number_from (suc f) k (c ∷ cs) ss =
    let l = k + length (c ∷ cs) in
    let up = next k (c ∷ cs) (own k (c ∷ cs) ss) in
    ap length (levels_more f k c cs ss) ∙ ap suc (number_from f l up ss ∙ rw (up_size k (c ∷ cs) ss))
    ∙ sym (number_more f k l ss (omega arith))

end_from : (f k : ℕ) (cs : List (Cell Point)) (ss : List ℕ) → k + length (cells_of (levels f k cs (drop k ss))) ≡ level_end f k
    (k + length cs) ss
unfolding levels level_end cells_of flat_map
end_from zero k cs ss = omega arith
end_from (suc f) k [] ss = add-zero k ∙ sym (end_none (suc f) k (k + 0) ss (omega arith))
end_from (suc f) k (c ∷ cs) ss =
    let l = k + length (c ∷ cs) in
    let up = next k (c ∷ cs) (own k (c ∷ cs) ss) in
    let rest = cells_of (levels f l up (drop l ss)) in
    let i : l + length rest ≡ level_end f l (next_end k l ss) ss = end_from f l up ss ∙ rw (up_size k (c ∷ cs) ss) in
    ap (λ (ls : List Level). k + length (cells_of ls)) (levels_more f k c cs ss)
    ∙ let w : length ((c ∷ cs) ++ rest) ≡ length (c ∷ cs) + length rest = length-append (c ∷ cs) rest in
    omega (arith, i, end_more f k l ss (omega arith), w)

module _ (n : ℕ) (qs : List (List ℕ)) (ss : List ℕ) where
  whole : 0 + length (coarse_cells n qs) ≡ length qs
  unfolding coarse_cells
  whole = omega (arith, length_from n 0 qs)

  pub counts_right : count_table (levels_of n qs ss) ≡ level_counts 12 0 (length qs) ss
  unfolding levels_of
  counts_right = rw whole at (counts_from 12 0 (coarse_cells n qs) ss)

  pub number_right : length (levels_of n qs ss) ≡ level_number 12 0 (length qs) ss
  unfolding levels_of
  number_right = rw whole at (number_from 12 0 (coarse_cells n qs) ss)

  pub end_right : length (cells_of (levels_of n qs ss)) ≡ level_end 12 0 (length qs) ss
  unfolding levels_of
  end_right =
      let w = end_from 12 0 (coarse_cells n qs) ss in
      let e = rw whole at w in
      omega (arith, e)
