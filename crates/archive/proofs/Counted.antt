-- The parts of an archive in the form, by the counts of its records.
--   counted        the counts are those that the bytes have in front
--   cells_are, steps_are   the job's cells and steps, read from their places
--   positions_many, cells_many_are   how many numbers there are
--   steps_fit      the job's steps can be loaded
-- Assumes nothing.
use mathlib.Core.Path.{◌≡◌, refl, sym, ◌∙◌, ap}
use mathlib.Core.List.{List, []}
use Prim.Native.Nat.{ℕ, ◌+◌, ◌*◌, ◌≤◌}
use native.Mathlib.Omega.{arith}
use lib.Dec.{T, leb, leb→le}
use lib.IntN.{ℤ}
use lib.ListN.{length, drop}
use Rattle.base.specs.Bools.{and_left}
use Rattle.archive.specs.Form.{corner_records, cell_records, steps_in, behind_corners, behind_cells, formb, job_of}
use Rattle.archive.specs.Records.{records_in, corners_many, cells_many}
use Rattle.archive.specs.Tables.{Counts}
use Rattle.archive.specs.Loaded.{steps_at, LoadRoom, StepsFit}
use Rattle.archive.proofs.Whole.{Found, corners_fit, found_fits, found_corners, found_cells, form_is}

form_short : (bs : List ℕ) → T (formb bs) → length bs ≤ 65536
unfolding formb
form_short bs w = leb→le (length bs) 65536 (and_left (leb (length bs) 65536) (steps_in (length bs) [] (behind_cells bs)).ok w)

module _ (bs : List ℕ) {v t m g : ℕ} (c : Counts (job_of bs) v t m g) where
  corners_counted : v ≡ records_in 86 13 (length bs) bs
  unfolding job_of
  corners_counted = omega (arith, c.corners_are, corners_many (length bs) bs)

  pub corners_inside : 13 * v ≤ length bs
  corners_inside = corners_fit bs v corners_counted

  behind : behind_corners bs ≡ drop (13 * v) bs
  behind = found_corners (record { corners = corners_counted; cells = refl })

  pub cells_are : (job_of bs).cells ≡ (cell_records (length bs) (drop (13 * v) bs)).0
  unfolding job_of
  cells_are = ap (λ (b : List ℕ). (cell_records (length bs) b).0) behind

  pub counted : Found bs v t
  counted =
      record {
        corners = corners_counted;
        cells = omega (arith, c.cells_are, ap (λ (l : List ℕ). length l) cells_are, cells_many (length bs) (drop (13 * v) bs));
      }

  pub steps_are : (job_of bs).steps ≡ (steps_at bs (13 * v + 9 * t)).steps
  unfolding job_of
  steps_are = rw (found_cells counted)

  pub positions_many : 3 * v ≡ length (corner_records (length bs) bs).0
  unfolding job_of
  positions_many = sym c.corners_are

  pub cells_many_are : 4 * t ≡ length (cell_records (length bs) (drop (13 * v) bs)).0
  cells_many_are = sym c.cells_are ∙ ap (λ (l : List ℕ). length l) cells_are

  pub steps_fit : T (formb bs) → {ps : List ℤ} {cs ms ks es : List ℕ} → LoadRoom (job_of bs) ps cs ms ks es
      → StepsFit bs (13 * v + 9 * t) ms ks es
  steps_fit w r =
      let n : length bs ≤ 65536 = form_short bs w in
      record {
        inside = found_fits counted;
        short = n;
        well = rw (form_is counted n) at w;
        marked_fit = rw (← steps_are) r.marked_fit;
        marks_fit = rw (← steps_are) r.marks_fit;
        ends_fit = rw (← steps_are) r.ends_fit;
      }
