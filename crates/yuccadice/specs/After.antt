-- What the functions of the library answer, and what they leave where a result is handed back.
--   cut_answer p digits     the cutting call: 15 where the table is too short, then 6 above 63
--   fetched_code f, fetched_length old f    fetching: the number; the message's length, 0 where there is none to send
--   progress_code p                        a part's stage: the number
--   progress_stage old p                   1 where it is running, 2 where it is done
--   progress_round old p                   its round, 0 where it is done
--   progress_result old p                  the number that its step ended with, 0 where it runs or went well
-- Where a call is refused, the lent numbers are as they were (old).
-- The number that a function answers is `code_of` of the call's answer (`base` `Refuse`): 0 where it is accepted, else the refusal's.
use Rattle.std.specs.Prelude.{ℕ, List, leb, length}
use Rattle.base.specs.Refuse.{refuse}
use Rattle.base.specs.Answer.{Answer}
use Rattle.cutting.specs.Answer.{cut_of}
use Rattle.store.specs.Fetched.{Fetched}
use Rattle.store.specs.Fetched as fetched
use Rattle.held.specs.Progress.{Progress}
use Rattle.held.specs.Progress as progress

-- Rule 12.4: 15 first, since a family has at most eight children of four digits.
unfoldable pub cut_answer : ℕ → List ℕ → Answer
unfolding refuse cut_of
cut_answer p digits = refuse 15 (leb 32 (length digits)) (cut_of p).answer

-- Rules 12.17, 15.8: 0 for a message and for none.
unfoldable pub fetched_code : Fetched → ℕ
fetched_code (fetched.Message n) = 0
fetched_code fetched.Nothing = 0
fetched_code (fetched.Refused k) = k

-- Rules 12.17, 15.8: no bytes where there is none.
unfoldable pub fetched_length : ℕ → Fetched → ℕ
fetched_length old (fetched.Message n) = n
fetched_length old fetched.Nothing = 0
fetched_length old (fetched.Refused k) = old

-- Rules 12.17, 15.10: an end with 8 or 9 is no refusal.
unfoldable pub progress_code : Progress → ℕ
progress_code (progress.Running r) = 0
progress_code progress.Done = 0
progress_code (progress.Ended k) = 0
progress_code (progress.Refused k) = k

-- Rules 12.17, 15.11: 1 running, 2 done.
unfoldable pub progress_stage : ℕ → Progress → ℕ
progress_stage old (progress.Running r) = 1
progress_stage old progress.Done = 2
progress_stage old (progress.Ended k) = 2
progress_stage old (progress.Refused k) = old

-- Rule 12.17: the round of a running store.
unfoldable pub progress_round : ℕ → Progress → ℕ
progress_round old (progress.Running r) = r
progress_round old progress.Done = 0
progress_round old (progress.Ended k) = 0
progress_round old (progress.Refused k) = old

-- Rules 12.17, 15.10: what a done store ended with.
unfoldable pub progress_result : ℕ → Progress → ℕ
progress_result old (progress.Running r) = 0
progress_result old progress.Done = 0
progress_result old (progress.Ended k) = k
progress_result old (progress.Refused k) = old
