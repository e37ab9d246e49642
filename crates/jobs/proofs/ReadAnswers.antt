-- The answers of the call `read`.
-- Assumes nothing.
use mathlib.Core.Path.{◌≡◌, sym}
use mathlib.Core.Bool.{true, false}
use mathlib.Core.List.{List}
use Prim.Native.Nat.{ℕ, ◌/◌, ◌≤◌}
use native.Mathlib.Omega.{arith}
use lib.Dec.{T, leb→le}
use lib.IntN.{ℤ}
use lib.ListN.{length}
use Rattle.base.specs.Bools.{and_left, and_right, is_true}
use Rattle.base.specs.Limits.{full_coarse, full_positions, most_marks}
use Rattle.base.specs.Refuse.{refuse}
use Rattle.base.specs.Answer.{Answer, Accepted, Refused}
use Rattle.archive.specs.Job.{Job}
use Rattle.archive.specs.Form.{formb, job_of}
use Rattle.archive.specs.Bytes.{Octets}
use Rattle.archive.specs.Tables.{Counts}
use Rattle.archive.specs.Loaded.{LoadRoom}
use Rattle.jobs.specs.Calls.{archive_answer, roomb, read_answer, lengths_of}
use Rattle.jobs.specs.Sound.{job_mesh, archive_parts, archive_job}
use Rattle.jobs.specs.declared.Lengths.{Lengths}
use Rattle.jobs.proofs.Jobs.{job_room}

-- the lent tables have their full lengths
record Lent (ps : List ℤ) (ts cs ms es : List ℕ) : Type 0 where
  long_positions : full_positions ≤ length ps
  long_cells : full_coarse ≤ length ts
  long_marked : most_marks ≤ length cs
  long_marks : most_marks ≤ length ms
  long_ends : 65536 ≤ length es

lent_long : (ps : List ℤ) (ts cs ms es : List ℕ) → T (roomb ps ts cs ms es) → Lent ps ts cs ms es
unfolding roomb
lent_long ps ts cs ms es t = search (and_left, and_right, leb→le)

module _ (bs : List ℕ) where
  abbrev j : Job
  j = job_of bs

  module _ (ps : List ℤ) (ts cs ms es : List ℕ) where
    abbrev answer : Answer
    answer = read_answer bs ps ts cs ms es

    pub read_short : roomb ps ts cs ms es ≡ false → Refused 15 ≡ answer
    unfolding read_answer refuse
    read_short e = rw e

    module _ (l : roomb ps ts cs ms es ≡ true) where
      pub long : answer ≡ archive_answer bs
      unfolding read_answer refuse
      long = rw l

      module _ (accepted : Accepted ≡ archive_answer bs) where
        pub read_form : T (formb bs)
        read_form = (archive_parts bs (sym accepted)).0

        module _ (v t m g : ℕ) (n : Counts j v t m g) where
          pub read_room : Octets bs → LoadRoom j ps ts cs ms es
          read_room o =
              let f = job_mesh j (archive_job bs (sym accepted)) in
              let w = lent_long ps ts cs ms es (rw l tt) in
              job_room bs (is_true (formb bs) read_form) v t m g n o (omega (arith, n.corners_are, f.corners))
              (omega (arith, n.cells_are, f.few)) ps ts cs ms es w.long_positions w.long_cells w.long_marked w.long_marks
              w.long_ends

          pub read_lengths : ◌≡◌ {A = Lengths} (record { corners = v; cells = t; marks = m; steps = g }) (lengths_of j)
          read_lengths =
              let dv : length j.positions / 3 ≡ v = omega (arith, n.corners_are) in
              let dt : length j.cells / 4 ≡ t = omega (arith, n.cells_are) in
              rw (dv, dt, n.marks_are, n.steps_are)
