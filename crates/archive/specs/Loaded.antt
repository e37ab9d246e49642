-- What loading an archive leaves in the lent tables.
--   in_front xs t    the table t with xs over its first places
--   LoadRoom j ..       the tables are long enough for the job j
--   Loaded j ..     the job's lists stand in front in the tables
--   steps_at bs i    the steps in the bytes from the place i on
--   StepsFit bs i ..   they are in the form, and the tables are long enough for them
use Rattle.std.specs.Prelude.{◌≡◌, ℕ, ◌≤◌, T, ℤ, length, drop}
use mathlib.Core.List.{List, [], ◌++◌, flatten}
use Rattle.archive.specs.Job.{Job}
use Rattle.archive.specs.Form.{Steps, steps_in}
use Rattle.archive.specs.Tables.{marked_of, marks_of, ends_of}

-- Rule 9.1: written in front.
abbrev pub in_front : {A : Type 0} → List A → List A → List A
in_front xs t = xs ++ drop (length xs) t

abbrev pub steps_at : List ℕ → ℕ → Steps
steps_at bs i = steps_in (length bs) [] (drop i bs)

-- Rule 9.7: the tables are long enough for the job.
pub record LoadRoom (j : Job) (positions : List ℤ) (cells marked marks ends : List ℕ) : Type 0 where
  pub positions_fit : length j.positions ≤ length positions
  pub cells_fit : length j.cells ≤ length cells
  pub marked_fit : length (flatten j.steps) ≤ length marked
  pub marks_fit : length (flatten j.steps) ≤ length marks
  pub ends_fit : length j.steps ≤ length ends

pub record StepsFit (bs : List ℕ) (from : ℕ) (marked marks ends : List ℕ) : Type 0 where
  pub inside : from ≤ length bs
  pub short : length bs ≤ 65536
  pub well : T (steps_at bs from).ok
  pub marked_fit : length (flatten (steps_at bs from).steps) ≤ length marked
  pub marks_fit : length (flatten (steps_at bs from).steps) ≤ length marks
  pub ends_fit : length (steps_at bs from).steps ≤ length ends

-- Rules 9.1, 9.7: each table after the call, from the job and the tables before it.
pub record Loaded (j : Job) (ps₀ : List ℤ) (ts₀ cs₀ ks₀ es₀ : List ℕ) (ps : List ℤ) (ts cs ks es : List ℕ) : Type 0 where
  pub positions : ps ≡ in_front j.positions ps₀
  pub cells : ts ≡ in_front j.cells ts₀
  pub marked : cs ≡ in_front (marked_of j.steps) cs₀
  pub marks : ks ≡ in_front (marks_of j.steps) ks₀
  pub ends : es ≡ in_front (ends_of j.steps) es₀
