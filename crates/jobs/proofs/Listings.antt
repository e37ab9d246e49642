-- What replaying an archive says of its listing: of an accepted one (done_few, done_listing), of a refused one (refused_listing).
-- written_as: what is written, by another name.
-- Assumes nothing.
use mathlib.Core.Path.{◌≡◌, refl, sym, ◌∙◌, ap}
use mathlib.Core.List.{List, ◌++◌}
use Prim.Native.Nat.{ℕ, ◌*◌, ◌≤◌}
use native.Mathlib.Omega.{arith}
use lib.ListN.{length, take, drop}
use lib.Seq.{take_at}
use Rattle.base.specs.Limits.{full_counts, most_cells, most_levels}
use Rattle.base.specs.Answer.{Answer}
use Rattle.base.specs.Answer.{Accepted, Refused}
use Rattle.base.specs.Refuse.{held_after}
use Rattle.archive.specs.Job.{Job}
use Rattle.archive.specs.Form.{job_of}
use Rattle.jobs.specs.Calls.{archive_answer, job_levels, job_counts, replay_answer, replay_size}
use Rattle.jobs.specs.Sound.{job_counts_lem, job_high, archive_job}
use Rattle.jobs.specs.declared.Size.{Size}
use Rattle.jobs.proofs.Answers.{long}
use Rattle.listing.specs.Lines.{listing, refusal}
use Rattle.jobs.specs.Listing.{listed_bytes, listing_of}

module _ (bs table counts : List ℕ) (g : most_cells ≤ length table) (h : full_counts ≤ length counts) where
  abbrev j : Job
  j = job_of bs

  abbrev answer : Answer
  answer = replay_answer bs table counts

  pub refused_listing : (k : ℕ) → Refused k ≡ answer → refusal k ≡ listing_of bs
  unfolding listing_of listed_bytes
  refused_listing k e = rw (sym (long bs table counts g h) ∙ sym e)

  module _ (s : Size) (accepted : Accepted ≡ answer) (e : s ≡ replay_size j) where
    archive : archive_answer bs ≡ Accepted
    archive = sym (long bs table counts g h) ∙ sym accepted

    levels : s.levels ≡ length (job_levels j)
    levels = ap (λ (x : Size). x.levels) e

    pub done_few : s.levels ≤ most_levels
    done_few = omega (arith, levels, job_high j (archive_job bs archive))

    pub done_listing : (counts' : List ℕ) → counts' ≡ held_after answer (job_counts j) counts
        → listing (take (4 * s.levels) counts') ≡ listing_of bs
    unfolding listing_of listed_bytes held_after
    done_listing counts' f =
        let l : length (job_counts j) ≡ 4 * s.levels = omega (arith, levels, job_counts_lem j) in
        let t : take (4 * s.levels) counts' ≡ job_counts j =
        rw (f, ← accepted) (take_at (job_counts j) (drop (length (job_counts j)) counts) (4 * s.levels) l) in
        rw (archive, t)

-- what is written, by another name
pub written_as : (out : List ℕ) {xs ys out' : List ℕ} {r : ℕ} → xs ≡ ys → (out' ≡ xs ++ drop (length xs) out) × (r ≡ length xs)
    → (out' ≡ ys ++ drop (length ys) out) × (r ≡ length ys)
written_as out e p = rw e at p
