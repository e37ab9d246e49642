-- What a part knows of its cells after the rounds: their statuses after the step, from its store alone.
--   new_status x c       the status of the cell c, if it stays
--   lastsb x c          the cell is there after the step: it is coarse, refined, or a child of a cell that stays red
--   remadeb x c         the cell has a family here after the step that is not its old one
--   pair_hit x c a b     an edge of a child of c that joins the points with the digits a and b is one of a cell that will be red
--   fresh_bits x c i     the status of the new child i of a green cell that will be red
use Rattle.std.specs.Prelude.{Bool, true, false, ◌&&◌, ◌||◌, not, List, map, ℕ, ◌+◌, eqb, ltb}
use Rattle.base.specs.Limits.{most_cells}
use Rattle.base.specs.Lists.{anyb}
use Rattle.base.specs.Range.{range}
use Rattle.cutting.specs.Rule.{family, low, high}
use Rattle.mesh.specs.Cells.{bits_of}
use Rattle.families.specs.Children.{low_digit, high_digit}
use Rattle.mesh.specs.Layout.{edge_numbers}
use Rattle.store.specs.Fields.{field, PART, FAMILY, STATUS, REGULAR, CHILD, PARENT, HEAD, RED}
use Rattle.turns.specs.Decide.{hit_of, kid_count}

-- Rule 7.7.
unfoldable pub new_status : List ℕ → ℕ → ℕ
unfolding bits_of hit_of
new_status x c =
    elim (eqb (field x (REGULAR + c)) 1) [
      | true ↦ elim (eqb (field x (RED + c)) 1) [ true ↦ 64 | false ↦ bits_of (map (hit_of x c) edge_numbers) ]
      | false ↦ 0
    ]

-- Rule 7.7.
unfoldable pub lastsb : List ℕ → ℕ → Bool
lastsb x c =
    ltb (field x (HEAD + c)) 256 || (not (eqb (field x (STATUS + c)) 0)
    || (ltb (field x (PARENT + c)) most_cells && (eqb (field x (STATUS + field x (PARENT + c))) 64 && eqb
    (field x (RED + field x (PARENT + c))) 1)))

-- Rule 15.13.
unfoldable pub remadeb : List ℕ → ℕ → Bool
unfolding lastsb new_status
remadeb x c =
    eqb (field x (FAMILY + c)) (field x PART)
    && (lastsb x c && (not (eqb (new_status x c) 0) && not (eqb (field x (STATUS + c)) 64 && eqb (new_status x c) 64)))

-- Rule 7.7: the children stand from CHILD on; the status of a green cell is the pattern that it was cut by
unfoldable pub pair_hit : List ℕ → ℕ → ℕ → ℕ → Bool
unfolding anyb range kid_count hit_of family low high
pair_hit x c a b =
    anyb (λ j. anyb (λ y. (eqb a (low_digit (field x (STATUS + c)) j y) && eqb b (high_digit (field x (STATUS + c)) j y))
    && hit_of x (field x (CHILD + c) + j) y) edge_numbers) (range 0 (kid_count x c))

-- Rule 7.7.
unfoldable pub fresh_bits : List ℕ → ℕ → ℕ → ℕ
unfolding bits_of pair_hit
fresh_bits x c i = bits_of (map (λ y. pair_hit x c (low_digit 63 i y) (high_digit 63 i y)) edge_numbers)
