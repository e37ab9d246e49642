-- Storing a job from flat tables.
--   job_from ps ts cs ks es    the job of the tables
--   EndsRise cs ks es         the ends do not fall, and the marks up to each of them are there
--   Storable ps ts cs ks es   positions by threes, cells by fours, and such ends
use Rattle.std.specs.Prelude.{◌≡◌, List, ℕ, ◌+◌, ◌%◌, ◌≤◌, ◌<◌, ℤ, length, get_or}
use Rattle.archive.specs.Job.{Job}
use Rattle.archive.specs.Tables.{steps_of}

-- Rules 9.7, 10.1: the job of flat tables.
abbrev pub job_from : List ℤ → List ℕ → List ℕ → List ℕ → List ℕ → Job
job_from ps ts cs ks es = record { positions = ps; cells = ts; steps = steps_of cs ks es }

-- Rule 12.14: no step ends before it begins, or behind the last mark.
pub record EndsRise (cs ks es : List ℕ) : Type 0 where
  pub rising : (k : ℕ) → k + 1 < length es → get_or es k 0 ≤ get_or es (k + 1) 0
  pub in_marked : (k : ℕ) → k < length es → get_or es k 0 ≤ length cs
  pub in_marks : (k : ℕ) → k < length es → get_or es k 0 ≤ length ks

-- Rules 1.2, 12.14: tables that hold a job.
pub record Storable (ps : List ℤ) (ts cs ks es : List ℕ) : Type 0 where
  pub threes : length ps % 3 ≡ 0
  pub fours : length ts % 4 ≡ 0
  pub ends : EndsRise cs ks es
