-- What a call answers: it is accepted, or refused with a number (rule 12.1).
use Rattle.std.specs.Prelude.{ℕ}

pub data Answer : Type 0 where
  Accepted : Answer
  Refused : ℕ → Answer
