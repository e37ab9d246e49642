-- Rule 12.7 on samples over mesh A (section 14): what is examined, and in which order.
--   Gives ps ts ss a    the answer is a, whatever tables of full length are lent
use Rattle.std.specs.Prelude.{◌≡◌, refl, List, [], ◌∷◌, ◌++◌, ℕ, ◌≤◌, ℤ, pos, length}
use Rattle.std.proofs.Common.{◌∙◌}
use Rattle.base.specs.Limits.{full_rows, full_ends, full_sums}
use Rattle.base.specs.Answer.{Answer}
use Rattle.base.specs.Answer.{Accepted, Refused}
use Rattle.mesh.specs.Answers.{table_answer}
use Rattle.layout.specs.Calls.{layout_answer, layout_examines}

positions : List ℤ
positions = pos 0 ∷ pos 0 ∷ pos 0 ∷ pos 16 ∷ pos 0 ∷ pos 0 ∷ pos 0 ∷ pos 16 ∷ pos 0 ∷ pos 0 ∷ pos 0 ∷ pos 16 ∷ []

cell : List ℕ
cell = 0 ∷ 1 ∷ 2 ∷ 3 ∷ []

abbrev Gives : List ℤ → List ℕ → List ℕ → Answer → Type 0
Gives ps ts ss a =
    (table ends : List ℕ) (sums : List ℤ) → full_rows ≤ length table → full_ends ≤ length ends → full_sums ≤ length sums
    → layout_answer ps ts ss table ends sums ≡ a

lent : (ps : List ℤ) (ts ss : List ℕ) (a : Answer) → table_answer ps ts ss ≡ a → Gives ps ts ss a
lent ps ts ss a e table ends sums l m n = layout_examines ps ts ss table ends sums l m n ∙ e

leaf : Gives positions cell (0 ∷ []) Accepted
unfolding positions cell table_answer
leaf = lent positions cell (0 ∷ []) Accepted refl

-- a status too many
longer : Gives positions cell (0 ∷ 0 ∷ []) (Refused 6)
unfolding positions cell table_answer
longer = lent positions cell (0 ∷ 0 ∷ []) (Refused 6) refl

-- a cell twice, and a status too few
twice : Gives positions (cell ++ cell) (0 ∷ []) (Refused 5)
unfolding positions cell table_answer
twice = lent positions (cell ++ cell) (0 ∷ []) (Refused 5) refl

-- no mesh, no table, and nothing lent
short : layout_answer [] [] [] [] [] [] ≡ Refused 15
unfolding layout_answer
short = refl
