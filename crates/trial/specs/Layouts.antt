-- A layout as a line of numbers: its answer, and the checksums of the three tables.
--   summary_of a table ends sums   zeros stand for what a refusal does not give
use Rattle.std.specs.Prelude.{List, ℕ, ℤ, Result, Ok, Err}
use Rattle.base.specs.declared.Refusal.{Refusal}
use Rattle.base.specs.Refuse.{number_of}
use Rattle.layout.specs.declared.Sizes.{Sizes}
use Rattle.trial.specs.Pattern.{check_from, above_least}
use Rattle.trial.specs.declared.layouts.Summary.{Summary}

abbrev numbers : ℕ → ℕ → ℕ → ℕ → List ℕ → List ℕ → List ℤ → Summary
numbers k cells corners levels table ends sums =
    record {
      refusal = k;
      cells = cells;
      corners = corners;
      levels = levels;
      table = check_from (λ x. x) 1 table;
      ends = check_from (λ x. x) 1 ends;
      sums = check_from above_least 1 sums;
    }

unfoldable pub summary_of : Result Sizes Refusal → List ℕ → List ℕ → List ℤ → Summary
unfolding check_from above_least
summary_of (Ok s) = numbers 0 s.cells s.corners s.levels
summary_of (Err r) = numbers (number_of r) 0 0 0
