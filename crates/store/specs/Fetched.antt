-- What a fetch answers (rules 15.8, 15.16): a message of so many bytes, nothing, or a refusal's number.
--   fetched r   what the result of `mail::fetch` says
use Rattle.std.specs.Prelude.{Result, Ok, Err, Option, Some, None, ℕ}
use Rattle.base.specs.declared.Refusal.{Refusal}
use Rattle.base.specs.Refuse.{number_of}

pub data Fetched : Type 0 where
  Message : ℕ → Fetched
  Nothing : Fetched
  Refused : ℕ → Fetched

-- Rules 15.8, 15.16.
abbrev pub fetched : Result (Option ℕ) Refusal → Fetched
fetched (Ok (Some n)) = Message n
fetched (Ok None) = Nothing
fetched (Err r) = Refused (number_of r)
