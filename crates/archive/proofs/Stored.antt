-- The whole archive of flat tables.
--   corner_places, cell_places   where the corners' and the cells' records end
--   steps_room      there is room for the steps
--   stored_all, stored-length    the three parts are the archive
-- Assumes nothing.
use mathlib.Core.Path.{◌≡◌, ◌∙◌, ap}
use mathlib.Core.List.{List, ◌++◌, append_assoc}
use Prim.Native.Nat.{ℕ, ◌+◌, ◌*◌, ◌/◌, ◌≤◌}
use native.Mathlib.Omega.{arith}
use lib.IntN.{ℤ}
use lib.ListN.{length, drop, length-append}
use lib.Seq.{sets, sets-eq}
use Rattle.archive.specs.Job.{Job, corner_bytes, cell_bytes, job_bytes}
use Rattle.archive.specs.Tables.{steps_of}
use Rattle.archive.specs.Measure.{steps_bytes, corner-length, cell-length, job-length}
use Rattle.archive.specs.Loaded.{in_front}
use Rattle.archive.specs.Stored.{job_from, Storable}
use Rattle.archive.proofs.Stores.{then_sets}

module _ {ps : List ℤ} {ts cs ks es : List ℕ} (s : Storable ps ts cs ks es) where
  abbrev job : Job
  job = job_from ps ts cs ks es

  abbrev corners_end : ℕ
  corners_end = 13 * (length ps / 3)

  abbrev cells_end : ℕ
  cells_end = corners_end + 9 * (length ts / 4)

  corner_places : corners_end ≡ length (corner_bytes ps)
  corner_places = omega (arith, s.threes, corner-length ps s.threes)

  cell_places : cells_end ≡ length (corner_bytes ps) + length (cell_bytes ts)
  cell_places = omega (arith, s.fours, cell-length ts s.fours, corner_places)

  pub stored-length : cells_end + length (steps_bytes (steps_of cs ks es)) ≡ length (job_bytes job)
  stored-length = omega (arith, job-length job, cell_places)

  module _ (l : List ℕ) (h : length (job_bytes job) ≤ length l) where
    pub steps_room : cells_end + length (steps_bytes (steps_of cs ks es)) ≤ length l
    steps_room = omega (arith, stored-length)

    pub stored_all : {t u v : List ℕ} → t ≡ sets l 0 (corner_bytes ps) → u ≡ sets t corners_end (cell_bytes ts)
        → v ≡ sets u cells_end (steps_bytes (steps_of cs ks es)) → v ≡ in_front (job_bytes job) l
    unfolding job_bytes steps_bytes
    stored_all e f g =
        let f' = f ∙ then_sets l 0 (corner_bytes ps) (cell_bytes ts) e (omega (arith, corner_places)) in
        let n : cells_end ≡ 0 + length (corner_bytes ps ++ cell_bytes ts) = omega
        (arith, cell_places, length-append (corner_bytes ps) (cell_bytes ts)) in
        let z : 0 + length (job_bytes job) ≡ length (job_bytes job) = omega arith in
        g
        ∙ then_sets l 0 (corner_bytes ps ++ cell_bytes ts) (steps_bytes (steps_of cs ks es)) f' n
        ∙ ap (λ (b : List ℕ). sets l 0 b) (append_assoc (corner_bytes ps) (cell_bytes ts) (steps_bytes (steps_of cs ks es)))
        ∙ sets-eq (job_bytes job) l 0 (omega arith)
        ∙ ap (λ (k : ℕ). job_bytes job ++ drop k l) z
