-- How many bytes an archive has.
--   steps_bytes s     the records of the steps s, and the end
--   corner-length, cell-length, steps-length   the bytes of each kind
--   measure          13 bytes a corner, 9 a cell, 4 a mark, one a step, and the end
use Rattle.std.specs.Prelude.{◌≡◌, refl, ℕ, ◌+◌, ◌*◌, ◌%◌, ℤ, length}
use Rattle.std.proofs.Common.{◌∙◌, arith, length-append}
use mathlib.Core.List.{List, [], ◌∷◌, ◌++◌, flat_map, flatten}
use Rattle.archive.specs.Job.{Job, bytes, corner_bytes, cell_bytes, mark_bytes, step_bytes, job_bytes}
use Rattle.archive.specs.Tables.{Mark, Counts}

-- Rules 10.2, 10.3: the records of the steps, and the end.
unfoldable pub steps_bytes : List (List Mark) → List ℕ
unfolding step_bytes flat_map
steps_bytes s = flat_map step_bytes s ++ (69 ∷ [])

pub corner-length : (ps : List ℤ) → length ps % 3 ≡ 0 → 3 * length (corner_bytes ps) ≡ 13 * length ps
unfolding corner_bytes bytes
corner-length [] m = refl
corner-length (x ∷ []) m = absurd (omega arith)
corner-length (x ∷ y ∷ []) m = absurd (omega arith)
corner-length (x ∷ y ∷ z ∷ ps) m = omega (arith, corner-length ps (omega arith))

pub cell-length : (ts : List ℕ) → length ts % 4 ≡ 0 → 4 * length (cell_bytes ts) ≡ 9 * length ts
unfolding cell_bytes bytes
cell-length [] m = refl
cell-length (a ∷ []) m = absurd (omega arith)
cell-length (a ∷ b ∷ []) m = absurd (omega arith)
cell-length (a ∷ b ∷ c ∷ []) m = absurd (omega arith)
cell-length (a ∷ b ∷ c ∷ d ∷ ts) m = omega (arith, cell-length ts (omega arith))

pub marks-length : (ms : List Mark) → length (flat_map mark_bytes ms) ≡ 4 * length ms
unfolding flat_map mark_bytes bytes
marks-length [] = refl
marks-length (m ∷ ms) = omega (arith, marks-length ms)

pub steps-length : (s : List (List Mark)) → length (steps_bytes s) ≡ 4 * length (flatten s) + length s + 1
unfolding steps_bytes step_bytes flat_map flatten
steps-length [] = refl
steps-length (ms ∷ s) =
    omega (
      arith,
      length-append (step_bytes ms ++ flat_map step_bytes s) (69 ∷ []),
      length-append (step_bytes ms) (flat_map step_bytes s),
      length-append (flat_map mark_bytes ms) (71 ∷ []),
      marks-length ms,
      length-append (flat_map step_bytes s) (69 ∷ []),
      steps-length s,
      length-append ms (flatten s),
    )

pub job-length : (j : Job) → length (job_bytes j) ≡ length (corner_bytes j.positions)
    + (length (cell_bytes j.cells) + length (steps_bytes j.steps))
unfolding job_bytes steps_bytes
job-length j =
    length-append (corner_bytes j.positions) (cell_bytes j.cells ++ steps_bytes j.steps)
    ∙ rw (length-append (cell_bytes j.cells) (steps_bytes j.steps))

pub measure : {j : Job} {v t m g : ℕ} → Counts j v t m g → length (job_bytes j) ≡ 13 * v + 9 * t + 4 * m + g + 1
measure {j} c =
    omega (
      arith,
      job-length j,
      corner-length j.positions (omega (arith, c.corners_are)),
      cell-length j.cells (omega (arith, c.cells_are)),
      steps-length j.steps,
      c.corners_are,
      c.cells_are,
      c.marks_are,
      c.steps_are,
    )
