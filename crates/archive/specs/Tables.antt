-- The steps of a job as flat tables, and back.
--   marked_of s, marks_of s   the marked cells of all steps one after the other, and their marks
--   ends_of s                for each step how many marks stand up to its end
--   steps_of cs ms es        the steps of such tables
--   pairs_back, steps_back   the pairs of the two tables are the marks; the steps of the tables of s are s
--   Counts j v t m g        the job j has v corners, t cells, m marks in all and g steps
use Rattle.std.specs.Prelude.{◌≡◌, refl, ℕ, ◌+◌, ◌*◌, ◌-◌, length, take, drop}
use Rattle.std.proofs.Common.{sym, ◌∙◌, ap, ap₂, arith, take_at, drop_at, drop-drop}
use mathlib.Core.List.{List, [], ◌∷◌, map, flatten}
use Rattle.archive.specs.Job.{Job}

-- Rule 10.1: a cell and its mark.
abbrev pub Mark : Type 0
Mark = ℕ × ℕ

-- Rule 10.1.
abbrev pub cell_of : Mark → ℕ
cell_of m = m.0

-- Rule 10.1.
abbrev pub mark_of : Mark → ℕ
mark_of m = m.1

-- Rule 9.7: the marked cells, step after step.
unfoldable pub marked_of : List (List Mark) → List ℕ
unfolding flatten
marked_of s = map cell_of (flatten s)

-- Rule 9.7: their marks.
unfoldable pub marks_of : List (List Mark) → List ℕ
unfolding flatten
marks_of s = map mark_of (flatten s)

-- Rule 9.7: the steps' ends, where p marks stand before.
unfoldable pub ends_after : ℕ → List (List Mark) → List ℕ
ends_after p [] = []
ends_after p (ms ∷ s) = (p + length ms) ∷ ends_after (p + length ms) s

-- Rule 9.7: how many marks stand up to each step's end.
unfoldable pub ends_of : List (List Mark) → List ℕ
unfolding ends_after
ends_of s = ends_after 0 s

-- Rule 9.7: each marked cell with its mark.
unfoldable pub pairs : List ℕ → List ℕ → List Mark
pairs [] ms = []
pairs (c ∷ cs) [] = []
pairs (c ∷ cs) (m ∷ ms) = (c, m) ∷ pairs cs ms

-- Rule 9.7: a step's marks reach from the last end to its own.
unfoldable pub steps_from : ℕ → List Mark → List ℕ → List (List Mark)
steps_from p ms [] = []
steps_from p ms (e ∷ es) = take (e - p) (drop p ms) ∷ steps_from e ms es

-- Rule 9.7: the steps of flat tables.
unfoldable pub steps_of : List ℕ → List ℕ → List ℕ → List (List Mark)
unfolding pairs steps_from
steps_of cs ms es = steps_from 0 (pairs cs ms) es

-- Rule 12.13: how many corners, cells, marks and steps a job has.
pub record Counts (j : Job) (corners cells marks steps : ℕ) : Type 0 where
  pub corners_are : length j.positions ≡ 3 * corners
  pub cells_are : length j.cells ≡ 4 * cells
  pub marks_are : length (flatten j.steps) ≡ marks
  pub steps_are : length j.steps ≡ steps

pub pairs_back : (l : List Mark) → pairs (map cell_of l) (map mark_of l) ≡ l
unfolding pairs
pairs_back [] = refl
pairs_back (m ∷ l) = ap (λ (t : List Mark). m ∷ t) (pairs_back l)

-- what stands behind the first p marks is s, so the steps from there are s
from_back : (p : ℕ) (all : List Mark) (s : List (List Mark)) → drop p all ≡ flatten s → steps_from p all (ends_after p s) ≡ s
unfolding steps_from ends_after flatten
from_back p all [] h = refl
from_back p all (ms ∷ s) h =
    let n : p + length ms - p ≡ length ms = omega arith in
    let f : take (p + length ms - p) (drop p all) ≡ ms = rw (n, h) (take_at ms (flatten s) (length ms) refl) in
    let r : drop (p + length ms) all ≡ flatten s = sym (drop-drop (length ms) p all) ∙ rw h (drop_at ms (flatten s) (length ms) refl) in
    ap₂ ◌∷◌ f (from_back (p + length ms) all s r)

pub steps_back : (s : List (List Mark)) → steps_of (marked_of s) (marks_of s) (ends_of s) ≡ s
unfolding steps_of marked_of marks_of ends_of
steps_back s = rw (pairs_back (flatten s)) (from_back 0 (flatten s) s refl)
