-- The kinds of messages (rule 15.4).
--   kind_number k   the first byte of a message of the kind k
--   KindNone n      n is the first byte of none
use Rattle.std.specs.Prelude.{ℕ, ◌≡◌}
use Rattle.mail.specs.declared.Kind.{Kind}
use Rattle.mail.specs.declared.Kind.TheVariants.{Mark, Count, Totals, End}

-- Rule 15.4.
abbrev pub kind_number : Kind → ℕ
kind_number Mark = 1
kind_number Count = 2
kind_number Totals = 3
kind_number End = 4

pub record KindNone (n : ℕ) : Type 0 where
  pub mark : n ≡ 1 → ⊥
  pub count : n ≡ 2 → ⊥
  pub totals : n ≡ 3 → ⊥
  pub end : n ≡ 4 → ⊥
