-- How far a part's step is (rules 15.10, 15.11): in a round, done, or ended with 8 or 9; or a refusal's number.
--   progressed r   what the result of `stage` says
use Rattle.std.specs.Prelude.{Result, Ok, Err, ℕ}
use Rattle.base.specs.declared.Refusal.{Refusal}
use Rattle.base.specs.Refuse.{number_of}
use Rattle.held.specs.declared.Progress as declared
use Rattle.held.specs.declared.Progress.TheVariants as told

pub data Progress : Type 0 where
  Running : ℕ → Progress
  Done : Progress
  Ended : ℕ → Progress
  Refused : ℕ → Progress

-- Rules 15.10, 15.11, 15.16.
abbrev pub progressed : Result declared.Progress Refusal → Progress
progressed (Ok (told.Running r)) = Running r
progressed (Ok told.Done) = Done
progressed (Ok (told.Ended k)) = Ended (number_of k)
progressed (Err k) = Refused (number_of k)
