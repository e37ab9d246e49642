-- What examining an archive's form answers.
--   CountsOf bs r   the archive bs has so many records of each kind
use Rattle.std.specs.Prelude.{List, ℕ}
use Rattle.archive.specs.Form.{job_of}
use Rattle.archive.specs.Tables.{Counts}
use Rattle.archive.specs.declared.Form.{Form}

-- Rule 10.3: how many records of each kind.
abbrev pub CountsOf : List ℕ → Form → Type 0
CountsOf bs r = Counts (job_of bs) r.corners r.cells r.marks r.steps
