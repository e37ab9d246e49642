-- Examining a status table over a coarse mesh and laying it out, one call: what it answers, and what the lent tables hold after
-- (docs/METHOD.md, rule 12.7). A mesh is ps and ts, a table ss.
--   layout_answer ..   15 where a table is too short, then what the examination gives, 1 to 6
--   sizes_of ..        how many cells, corners and levels there are
--   LaysOut ..        its result, and what the lent tables hold after
-- Law: layout_examines (lent full tables, the answer is the examination's).
use Rattle.std.specs.Prelude.{◌≡◌, Result, IfOk, Bool, ◌&&◌, List, ℕ, ◌≤◌, leb, ℤ, length}
use Rattle.std.proofs.Common.{le-leb}
use Rattle.base.specs.Refuse.{refuse, answered, held_after}
use Rattle.base.specs.Answer.{Answer}
use Rattle.base.specs.declared.Refusal.{Refusal}
use Rattle.base.specs.Limits.{full_rows, full_ends, full_sums}
use Rattle.mesh.specs.Layout.{cell_table, end_table, sum_table}
use Rattle.mesh.specs.Answers.{levels_in, cells_in, corners_in, table_answer}
use Rattle.layout.specs.declared.Sizes.{Sizes}

-- Rules 9.2 to 9.4: the full lengths.
unfoldable pub lentb : List ℕ → List ℕ → List ℤ → Bool
lentb table ends sums = (leb full_rows (length table) && leb full_ends (length ends)) && leb full_sums (length sums)

-- Rule 12.7: 15, then 1 to 6.
unfoldable pub layout_answer : List ℤ → List ℕ → List ℕ → List ℕ → List ℕ → List ℤ → Answer
unfolding refuse lentb table_answer
layout_answer ps ts ss table ends sums = refuse 15 (lentb table ends sums) (table_answer ps ts ss)

-- Rule 12.7: lent full tables, the call answers what the examination gives.
pub layout_examines : (ps : List ℤ) (ts ss table ends : List ℕ) (sums : List ℤ) → full_rows ≤ length table → full_ends ≤ length ends
    → full_sums ≤ length sums → layout_answer ps ts ss table ends sums ≡ table_answer ps ts ss
unfolding layout_answer lentb
layout_examines ps ts ss table ends sums a b c = rw (
  le-leb full_rows (length table) a,
  le-leb full_ends (length ends) b,
  le-leb full_sums (length sums) c,
)

-- Rule 12.7: how many cells, corners and levels.
abbrev pub sizes_of : List ℤ → List ℕ → List ℕ → Sizes
sizes_of ps ts ss =
    record { cells = length (cells_in ps ts ss); corners = length (corners_in ps ts ss); levels = length (levels_in ps ts ss) }

-- Rules 9.2 to 9.4, 12.7: the result, and what the lent tables hold after.
pub record LaysOut (ps : List ℤ) (ts ss table ends : List ℕ) (sums : List ℤ) (r : Result Sizes Refusal) (table' ends' : List ℕ) (sums' : List ℤ)
    : Type 0 where
  pub answer : answered r ≡ layout_answer ps ts ss table ends sums
  pub sizes : IfOk r (λ s. s ≡ sizes_of ps ts ss)
  pub table_is : table' ≡ held_after (layout_answer ps ts ss table ends sums) (cell_table (corners_in ps ts ss) (cells_in ps ts ss)) table
  pub ends_are : ends' ≡ held_after (layout_answer ps ts ss table ends sums) (end_table (corners_in ps ts ss)) ends
  pub sums_are : sums' ≡ held_after (layout_answer ps ts ss table ends sums) (sum_table ps (corners_in ps ts ss)) sums
