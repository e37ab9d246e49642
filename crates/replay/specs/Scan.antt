-- The marks of a step, one after the other.
--   mayb k b c m       the mark m may stand at the cell c of k cells, of which those below b are passed
--   marking_from k b ms   each of the marks ms may stand where it does, the first at b or behind
--   Spread k ms new ok   whether they may, and then the marks as one number a cell
--   Fitting ss ms new ok   whether they may stand at the cells of the table ss, and then the same
use Rattle.std.specs.Prelude.{◌≡◌, Bool, true, ◌&&◌, List, [], ◌∷◌, ℕ, suc, leb, ltb, length, take}
use Rattle.mesh.specs.Answers.{marksb}
use Rattle.replay.specs.Run.{spread, markingb}

-- Rule 12.12, at one mark.
unfoldable pub mayb : ℕ → ℕ → ℕ → ℕ → Bool
mayb k b c m = leb b c && (ltb c k && (leb 1 m && leb m 2))

-- Rule 12.12, mark after mark.
unfoldable pub marking_from : ℕ → ℕ → List (ℕ × ℕ) → Bool
unfolding mayb
marking_from k b [] = true
marking_from k b (m ∷ ms) = mayb k b m.0 m.1 && marking_from k (suc m.0) ms

-- Rules 10.1, 12.12: whether the marks may stand, and then one for each cell.
pub record Spread (k : ℕ) (ms : List (ℕ × ℕ)) (new : List ℕ) (ok : Bool) : Type 0 where
  pub answer : ok ≡ markingb k ms
  pub marks : ok ≡ true → take k new ≡ spread k ms

-- Rules 7.1, 12.12: so, at the cells of a table.
pub record Fitting (ss : List ℕ) (ms : List (ℕ × ℕ)) (new : List ℕ) (ok : Bool) : Type 0 where
  pub answer : ok ≡ (markingb (length ss) ms && marksb ss (spread (length ss) ms))
  pub marks : ok ≡ true → take (length ss) new ≡ spread (length ss) ms
