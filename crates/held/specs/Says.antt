-- What a part says of itself. That a part which says that it is done can be read: proofs/Says.
--   says_of x      what the call `stage` answers for the store x
--   doneb d       the answer d says that the part is done
use Rattle.std.specs.Prelude.{Bool, true, false, List, ℕ}
use Rattle.held.specs.Held.{stage_answer, stage_of, progress_of}
use Rattle.held.specs.Progress.{Progress}
use Rattle.held.specs.Progress as progress

-- Rule 15.11.
unfoldable pub says_of : List ℕ → Progress
unfolding progress_of stage_answer stage_of
says_of x = progress_of (stage_answer x) (stage_of x)

-- Rules 15.10, 15.11: done, or done with 8 or 9
unfoldable pub doneb : Progress → Bool
doneb (progress.Running r) = false
doneb progress.Done = true
doneb (progress.Ended k) = true
doneb (progress.Refused k) = false
