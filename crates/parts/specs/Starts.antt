-- What the parts start with: one mark for each master, in cell order, and the marks of all parts put together (section 15 of the method).
--   masters_on os p         the numbers of the masters of the part p
--   startb ss os p ms      the marks ms of the part p are accepted (else 7)
--   place_on os c           how many masters its part has before the cell c
--   put_together os given   the serial marks, where given p are those of the part p
--   marks_on os ms p        the marks of the masters of p among the serial marks ms
use Rattle.std.specs.Prelude.{Bool, List, map, ℕ, length, get_or}
use Rattle.base.specs.Lists.{filterb}
use Rattle.base.specs.Range.{range}
use Rattle.mesh.specs.Answers.{marksb}
use Rattle.parts.specs.Held.{masterb}

-- Rule 15.6.
unfoldable pub masters_on : List ℕ → ℕ → List ℕ
unfolding masterb filterb range
masters_on os p = filterb (masterb os p) (range 0 (length os))

-- Rules 7.1, 15.6.
unfoldable pub startb : List ℕ → List ℕ → ℕ → List ℕ → Bool
unfolding marksb masters_on
startb ss os p ms = marksb (map (λ c. get_or ss c 0) (masters_on os p)) ms

-- Rule 15.6.
unfoldable pub place_on : List ℕ → ℕ → ℕ
unfolding masterb filterb range
place_on os c = length (filterb (masterb os (get_or os c 0)) (range 0 c))

-- Rule 15.6.
unfoldable pub put_together : List ℕ → (ℕ → List ℕ) → List ℕ
unfolding place_on range
put_together os given = map (λ c. get_or (given (get_or os c 0)) (place_on os c) 0) (range 0 (length os))

-- Rule 15.6.
unfoldable pub marks_on : List ℕ → List ℕ → ℕ → List ℕ
unfolding masters_on
marks_on os ms p = map (λ c. get_or ms c 0) (masters_on os p)
