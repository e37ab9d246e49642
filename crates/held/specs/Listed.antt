-- What `held` answers (rules 15.11, 15.16): how many rows, or a refusal's number.
--   listed r   what its result says
use Rattle.std.specs.Prelude.{Result, Ok, Err, ℕ}
use Rattle.base.specs.declared.Refusal.{Refusal}
use Rattle.base.specs.Refuse.{number_of}

pub data Listed : Type 0 where
  Rows : ℕ → Listed
  Refused : ℕ → Listed

-- Rules 15.11, 15.16.
abbrev pub listed : Result ℕ Refusal → Listed
listed (Ok n) = Rows n
listed (Err k) = Refused (number_of k)
