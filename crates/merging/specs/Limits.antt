-- The result that every part finds from the totals: 8, 9, or none, as the serial step.
--   top_of ls           the highest level of cells with the paths ls
--   end_of total high   the result, from a total that is cut at 4,097 and the highest level
-- Laws: largest_from (where a largest number comes from), capped_few (a cut total tells as well), levels_eleven (how many levels the step's
-- table has).
use Rattle.std.specs.Prelude.{◌≡◌, refl, false, not, ℕ, zero, suc, ◌≤◌, ◌<◌, pred, leb, length, get_or}
use Rattle.std.proofs.Common.{sym, ◌∙◌, ap, arith, le-leb}
use mathlib.Core.List.{List, [], ◌∷◌, Memᴰ}
use Rattle.std.proofs.Math.Decide.{dec_lt}
use Rattle.std.proofs.lemmas.Bool.{lt-leb}
use Rattle.base.specs.Limits.{most_cells, most_levels}
use Rattle.base.specs.Refuse.{refuse}
use Rattle.base.specs.Answer.{Answer}
use Rattle.base.specs.Answer.{Accepted}
use Rattle.mesh.specs.Weights.{coarse_cells}
use Rattle.mesh.specs.Table.{Level}
use Rattle.lattice.specs.Levels.{no_level}
use Rattle.lineage.specs.Olds.{flag_table, up_to, step_by}
use Rattle.lineage.specs.Levels.{new_levels}
use Rattle.lineage.specs.Deep.{grow_some}
use Rattle.soundness.specs.Grown.{grow_high}
use Rattle.rounds.specs.Rounds.{capped, largest}

unfoldable pub top_of : List (List ℕ) → ℕ
unfolding largest
top_of ls = largest (λ l. pred (length l)) ls

-- Rule 7.8.
unfoldable pub end_of : ℕ → ℕ → Answer
unfolding refuse
end_of total high = refuse 8 (not (leb most_levels high)) (refuse 9 (leb total most_cells) Accepted)

pub largest_from : {A : Type 0} (f : A → ℕ) (n : ℕ) (l : List A) → n < largest f l → (x : A) × Memᴰ x l × (n < f x)
unfolding largest
largest_from f n [] h = absurd (omega arith)
largest_from f n (x ∷ l) h =
    elim (dec_lt n (f x)) [
      | yes g ↦ (x, Memᴰ.head refl, g)
      | no g ↦ let (y, m, k) = largest_from f n l (omega arith) in (y, Memᴰ.tail m, k)
    ]

pub capped_few : (x : ℕ) → leb (capped x) most_cells ≡ leb x most_cells
capped_few x =
    elim (dec_lt most_cells x) [
      | yes h ↦ lt-leb (capped x) most_cells (omega arith) ∙ sym (lt-leb x most_cells h)
      | no h ↦ le-leb (capped x) most_cells (omega arith) ∙ sym (le-leb x most_cells (omega arith))
    ]

-- how many levels there are
beyond : (ls : List Level) (j : ℕ) → 0 < length (get_or ls j no_level).cells → j < length ls
beyond [] j h = absurd (omega arith)
beyond (l ∷ ls) zero h = omega arith
beyond (l ∷ ls) (suc j) h = omega (arith, beyond ls j h)

module _ (n : ℕ) (qs : List (List ℕ)) (ss ms : List ℕ) where
  abbrev last : Level
  last = get_or (new_levels n qs ss ms) 11 no_level

  step_high : length (new_levels n qs ss ms) ≡ length (step_by n qs ss ms)
  unfolding step_by
  step_high = grow_high (length qs) ss (flag_table n qs ss ms) 12 0 (coarse_cells n qs) (up_to (length qs))

  last_empty : length (step_by n qs ss ms) ≤ 11 → leb 1 (length last.cells) ≡ false
  last_empty h =
      elim (dec_lt 0 (length last.cells)) [
        | yes g ↦ absurd (omega (arith, beyond (new_levels n qs ss ms) 11 g, step_high))
        | no g ↦
            lt-leb 1 (length last.cells) (omega arith)
      ]

  pub levels_eleven : leb (length (step_by n qs ss ms)) 11 ≡ not (leb 1 (length last.cells))
  levels_eleven =
      elim (dec_lt 11 (length (step_by n qs ss ms))) [
        | yes h ↦
            let f = grow_some (length qs) ss (flag_table n qs ss ms) 12 0 (coarse_cells n qs) (up_to (length qs)) 11
            (omega (arith, step_high)) in
            lt-leb (length (step_by n qs ss ms)) 11 h ∙ sym (ap not (le-leb 1 (length last.cells) f))
        | no h ↦ le-leb (length (step_by n qs ss ms)) 11 (omega arith) ∙ sym (ap not (last_empty (omega arith)))
      ]
