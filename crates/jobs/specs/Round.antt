-- Round trips (rule 10.7): a job that is written is read again, and an archive that is read is written again.
--   ReadAgain ps ts cs ms es   the archive of the tables is accepted and holds their job, whose tables they are
--   write_read                 so it is where writing is accepted
--   WrittenAgain bs out        writing the tables of the archive bs is accepted and gives bs
--   read_write                 so it is where the archive is accepted and the lent bytes are long enough
use Rattle.std.specs.Prelude.{◌≡◌, ℕ, ◌≤◌, T, leb, ℤ, length}
use Rattle.std.proofs.Common.{sym, ◌∙◌}
use Rattle.std.proofs.Math.Path.{ap}
use mathlib.Core.List.{List, map, flatten}
use Rattle.std.proofs.Math.Dec.{leb→le}
use borrow.Author.Tests.{le-leb}
use Rattle.base.specs.Refuse.{refuse, and_then, passed, both}
use Rattle.base.specs.Answer.{Accepted}
use Rattle.archive.specs.Job.{Job, job_bytes}
use Rattle.archive.specs.Form.{formb, job_of}
use Rattle.archive.specs.Bytes.{Octets}
use Rattle.archive.specs.Tables.{cell_of, mark_of, marked_of, marks_of, ends_of, pairs, steps_of}
use Rattle.archive.specs.Stored.{job_from}
use Rattle.archive.specs.Ends.{cells_back, marks_back, flat_back, ends_back, job_back}
use Rattle.archive.specs.Writable.{Writable}
use Rattle.archive.specs.Reading.{read_written}
use Rattle.archive.specs.Written.{written_read}
use Rattle.replay.specs.Run.{job_answer, tables_answer}
use Rattle.replay.specs.Flat.{tables_answer_lem}
use Rattle.jobs.specs.Calls.{archive_answer, write_answer}
use Rattle.jobs.specs.Sound.{archive_parts}
use Rattle.jobs.specs.Taken.{Taken, tables_taken}

-- Rule 10.7: what is written is read again.
pub record ReadAgain (ps : List ℤ) (ts cs ms es : List ℕ) : Type 0 where
  pub accepted : archive_answer (job_bytes (job_from ps ts cs ms es)) ≡ Accepted
  pub job : job_of (job_bytes (job_from ps ts cs ms es)) ≡ job_from ps ts cs ms es
  pub marked : marked_of (job_from ps ts cs ms es).steps ≡ cs
  pub marks : marks_of (job_from ps ts cs ms es).steps ≡ ms
  pub ends : ends_of (job_from ps ts cs ms es).steps ≡ es

module _ (ps : List ℤ) (ts cs ms es out : List ℕ) (e : write_answer ps ts cs ms es out ≡ Accepted) where
  abbrev j : Job
  j = job_from ps ts cs ms es

  parts : (tables_answer ps ts cs ms es ≡ Accepted) × (length (job_bytes j) ≤ 65536)
  unfolding write_answer
  parts =
      let last = refuse 17 (leb (length (job_bytes j)) 65536) Accepted in
      let (_, a) = passed 15 (leb 65536 (length out)) (and_then (tables_answer ps ts cs ms es) last) e in
      let (b, c) = both (tables_answer ps ts cs ms es) last a in
      (b, leb→le (length (job_bytes j)) 65536 (passed 17 (leb (length (job_bytes j)) 65536) Accepted c).0)

  taken : Taken ps ts cs ms es
  taken = tables_taken ps ts cs ms es parts.0

  writable : Writable j
  unfolding steps_of
  writable =
      record {
        threes = taken.storable.threes;
        words = taken.words;
        fours = taken.storable.fours;
        numbers = taken.numbers;
        rising = taken.written.rising;
        few = parts.1;
      }

  flat : flatten j.steps ≡ pairs cs ms
  unfolding steps_of
  flat = flat_back 0 (pairs cs ms) es taken.written.climbs taken.written.last

  marked : marked_of j.steps ≡ cs
  unfolding marked_of
  marked = ap (map cell_of) flat ∙ cells_back cs ms taken.same

  marks : marks_of j.steps ≡ ms
  unfolding marks_of
  marks = ap (map mark_of) flat ∙ marks_back cs ms taken.same

  ends : ends_of j.steps ≡ es
  unfolding ends_of steps_of
  ends = ends_back 0 (pairs cs ms) es taken.written.climbs

  answer : job_answer j ≡ Accepted
  answer = sym (tables_answer_lem j) ∙ rw (marked, marks, ends) parts.0

  pub write_read : ReadAgain ps ts cs ms es
  unfolding archive_answer refuse
  write_read =
      let (f, b) = read_written writable in
      record { accepted = rw f (ap job_answer b ∙ answer); job = b; marked = marked; marks = marks; ends = ends }

-- Rule 10.7: what is read is written again.
pub record WrittenAgain (bs out : List ℕ) : Type 0 where
  pub accepted : write_answer (job_of bs).positions (job_of bs).cells (marked_of (job_of bs).steps) (marks_of (job_of bs).steps)
      (ends_of (job_of bs).steps) out ≡ Accepted
  pub bytes : job_bytes (job_from (job_of bs).positions (job_of bs).cells (marked_of (job_of bs).steps) (marks_of (job_of bs).steps)
      (ends_of (job_of bs).steps)) ≡ bs

module _ (bs : List ℕ) (o : Octets bs) (e : archive_answer bs ≡ Accepted) where
  form : T (formb bs) × (job_answer (job_of bs) ≡ Accepted)
  form = archive_parts bs e

  few : length bs ≤ 65536
  few = let (b, w) = written_read bs o form.0 in rw b at w.few

  bytes : job_bytes (job_from (job_of bs).positions (job_of bs).cells (marked_of (job_of bs).steps) (marks_of (job_of bs).steps)
      (ends_of (job_of bs).steps)) ≡ bs
  bytes = ap job_bytes (job_back (job_of bs)) ∙ (written_read bs o form.0).0

  pub read_write : (out : List ℕ) → 65536 ≤ length out → WrittenAgain bs out
  unfolding write_answer refuse and_then
  read_write out h =
      record {
        accepted = rw (le-leb 65536 (length out) h, tables_answer_lem (job_of bs), form.1, bytes, le-leb (length bs) 65536 few);
        bytes = bytes;
      }
