-- The answers, case by case.
-- Laws: counts_short, counts_long, ancestor_refused, ancestor_beyond, ancestor_there.
use mathlib.Core.Path.{◌≡◌}
use mathlib.Core.List.{List}
use Prim.Native.Nat.{ℕ, ◌≤◌, ◌<◌}
use lib.IntN.{ℤ}
use lib.ListN.{length}
use borrow.Author.Tests.{lt-ltb, le-ltb, le-leb, lt-leb}
use Rattle.base.specs.Limits.{full_counts}
use Rattle.base.specs.Answer.{Accepted, Refused}
use Rattle.base.specs.Refuse.{and_then, refuse}
use Rattle.mesh.specs.Answers.{cells_in, table_answer}
use Rattle.queries.specs.Calls.{ancestor_answer, counts_answer}

module _ (ps : List ℤ) (ts ss : List ℕ) where
  pub counts_short : (l : List ℕ) → length l < full_counts → Refused 15 ≡ counts_answer ps ts ss l
  unfolding counts_answer refuse
  counts_short l h = rw (lt-leb full_counts (length l) h)

  pub counts_long : (l : List ℕ) → full_counts ≤ length l → table_answer ps ts ss ≡ counts_answer ps ts ss l
  unfolding counts_answer refuse
  counts_long l h = rw (le-leb full_counts (length l) h)

  -- a cell
  module _ (c : ℕ) where
    pub ancestor_refused : {k : ℕ} → Refused k ≡ table_answer ps ts ss → Refused k ≡ ancestor_answer ps ts ss c
    unfolding ancestor_answer and_then
    ancestor_refused t = rw (← t)

    pub ancestor_beyond : Accepted ≡ table_answer ps ts ss → length (cells_in ps ts ss) ≤ c → Refused 7 ≡ ancestor_answer ps ts ss c
    unfolding ancestor_answer and_then refuse
    ancestor_beyond t h = rw (← t, le-ltb c (length (cells_in ps ts ss)) h)

    pub ancestor_there : Accepted ≡ table_answer ps ts ss → c < length (cells_in ps ts ss) → Accepted ≡ ancestor_answer ps ts ss c
    unfolding ancestor_answer and_then refuse
    ancestor_there t h = rw (← t, lt-ltb c (length (cells_in ps ts ss)) h)
