-- The listing of an archive (docs/METHOD.md, section 11).
--   listed_bytes a cs     what is printed of an archive with the answer a and the counts cs
--   listing_of bs    the bytes of the listing of the archive bs
-- Laws: archive_fits (a listing has at most 512 bytes), listing_inside (a table that the listing was written into holds it).
use Rattle.std.specs.Prelude.{◌≡◌, refl, List, ◌++◌, ℕ, ◌≤◌, length, drop}
use Rattle.std.proofs.Common.{arith, length-append}
use Rattle.base.specs.Answer.{Answer}
use Rattle.base.specs.Answer.{Accepted, Refused}
use Rattle.archive.specs.Form.{job_of}
use Rattle.jobs.specs.Calls.{archive_answer, job_counts}
use Rattle.jobs.specs.Sound.{counts_few, archive_job}
use Rattle.listing.specs.Lines.{listing, refusal}
use Rattle.listing.specs.Sizes.{listing_fits, refusal_fits}

-- Rules 11.1, 11.3: the lines of the counts, or the line of the refusal.
unfoldable pub listed_bytes : Answer → List ℕ → List ℕ
unfolding listing refusal
listed_bytes Accepted cs = listing cs
listed_bytes (Refused k) cs = refusal k

-- Rules 11.1, 12.16: what is printed of these bytes.
unfoldable pub listing_of : List ℕ → List ℕ
unfolding listed_bytes archive_answer job_of
listing_of bs = listed_bytes (archive_answer bs) (job_counts (job_of bs))

pub archive_fits : (bs : List ℕ) → length (listing_of bs) ≤ 512
unfolding listing_of listed_bytes
archive_fits bs = go (archive_answer bs) refl
  where
    go : (a : Answer) → archive_answer bs ≡ a → length (listed_bytes a (job_counts (job_of bs))) ≤ 512
    go Accepted e = listing_fits (job_counts (job_of bs)) (counts_few (job_of bs) (archive_job bs e))
    go (Refused k) e = omega (arith, refusal_fits k)

pub listing_inside : (bs old new : List ℕ) (m : ℕ) → new ≡ listing_of bs ++ drop (length (listing_of bs)) old → m ≡ length (listing_of bs)
    → m ≤ length new
listing_inside bs old new m e f = rw (e, length-append (listing_of bs) (drop (length (listing_of bs)) old)) (omega (arith, f))
