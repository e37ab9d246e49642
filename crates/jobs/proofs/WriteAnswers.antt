-- The answers of the call `write`.
-- Assumes nothing.
use mathlib.Core.Path.{◌≡◌, sym, ◌∙◌}
use mathlib.Core.Bool.{true, false}
use mathlib.Core.List.{List}
use Prim.Native.Nat.{ℕ, ◌+◌, ◌*◌, ◌≤◌, ◌<◌}
use native.Mathlib.Omega.{arith}
use lib.Dec.{leb}
use lib.IntN.{ℤ}
use lib.ListN.{length}
use borrow.Author.Tests.{le-leb, lt-leb, leb-true}
use Rattle.base.specs.Refuse.{refuse, and_then}
use Rattle.base.specs.Answer.{Answer, Accepted, Refused}
use Rattle.mesh.specs.Coarse.{coarse_corner_count, cell_count}
use Rattle.archive.specs.Job.{job_bytes}
use Rattle.archive.specs.Stored.{job_from}
use Rattle.archive.specs.Ends.{stored_measure}
use Rattle.replay.specs.Run.{tables_answer}
use Rattle.jobs.specs.Calls.{write_answer}
use Rattle.jobs.specs.Taken.{Taken, tables_taken}

module _ (ps : List ℤ) (ts cs ms es out : List ℕ) where
  abbrev archive : List ℕ
  archive = job_bytes (job_from ps ts cs ms es)

  abbrev answer : Answer
  answer = write_answer ps ts cs ms es out

  pub write_short : length out < 65536 → Refused 15 ≡ answer
  unfolding write_answer refuse
  write_short h = rw (lt-leb 65536 (length out) h)

  module _ (g : 65536 ≤ length out) where
    long : answer ≡ and_then (tables_answer ps ts cs ms es) (refuse 17 (leb (length archive) 65536) Accepted)
    unfolding write_answer refuse
    long = rw (le-leb 65536 (length out) g)

    pub write_refused : (k : ℕ) → Refused k ≡ tables_answer ps ts cs ms es → Refused k ≡ answer
    unfolding and_then
    write_refused k e = sym (long ∙ rw (← e))

    module _ (accepted : Accepted ≡ tables_answer ps ts cs ms es) where
      pub write_taken : Taken ps ts cs ms es
      write_taken = tables_taken ps ts cs ms es (sym accepted)

      abbrev size : ℕ
      size = 13 * coarse_corner_count ps + 9 * cell_count ts + 4 * length cs + length es + 1

      measured : length archive ≡ size
      measured =
          let t : Taken ps ts cs ms es = write_taken in
          omega (arith, stored_measure t.storable, t.written.last, t.marks)

      last : answer ≡ refuse 17 (leb size 65536) Accepted
      unfolding and_then
      last = long ∙ rw (← accepted, measured)

      pub write_many : leb size 65536 ≡ false → Refused 17 ≡ answer
      unfolding refuse
      write_many e = sym (last ∙ rw e)

      pub write_few : leb size 65536 ≡ true → length archive ≤ length out
      write_few e = omega (arith, measured, leb-true size 65536 e)

      pub write_done : leb size 65536 ≡ true → Accepted ≡ answer
      unfolding refuse
      write_done e = sym (last ∙ rw e)
