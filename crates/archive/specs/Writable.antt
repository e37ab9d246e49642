-- Jobs that can be written.
--   Rises least ms   the marks ms are 1 or 2, on cells below 65,536 that ascend strictly from least on
--   Writable j       positions are i32 by threes, cells u16 by fours, each step's marks rise, and the archive is at most 65,536 bytes
use Rattle.std.specs.Prelude.{◌≡◌, List, [], ◌∷◌, ℕ, suc, ◌%◌, ◌≤◌, ◌<◌, length}
use Rattle.archive.specs.Job.{Job, job_bytes}
use Rattle.archive.specs.Bytes.{Word}
use Rattle.archive.specs.Tables.{Mark}
use Rattle.base.specs.Every.{All}

-- Rules 10.2, 10.4: marks that an archive can hold.
unfoldable pub Rises : ℕ → List Mark → Type 0
Rises least [] = Unit {0}
Rises least (m ∷ ms) = (least ≤ m.0) × (m.0 < 65536) × (1 ≤ m.1) × (m.1 ≤ 2) × Rises (suc m.0) ms

-- Rule 10.2: a number that a u16 holds.
abbrev pub TwoBytes : ℕ → Type 0
TwoBytes x = x < 65536

-- Rules 10.2 to 10.5: a job that an archive can hold.
pub record Writable (j : Job) : Type 0 where
  pub threes : length j.positions % 3 ≡ 0
  pub words : All Word j.positions
  pub fours : length j.cells % 4 ≡ 0
  pub numbers : All TwoBytes j.cells
  pub rising : All (Rises 0) j.steps
  pub few : length (job_bytes j) ≤ 65536
