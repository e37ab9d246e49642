-- What has room in a store, of the places that an exchange leads to.
--   Fitted P J p l     what the part p stands at has room in its store: counts, sums, totals and what it takes
--   of_marksb f, of_countsb f  the phase exchanges marks, counts
use Rattle.std.specs.Prelude.{◌≡◌, Bool, true, false}
use Prim.Native.Nat.{ℕ, ◌-◌, ◌≤◌, ◌<◌, Fin}
use Rattle.base.specs.Limits.{most_cells, most_levels, too_many}
use Rattle.exchange.specs.Finite.{parts}
use Rattle.base.specs.Member.{Member}
use Rattle.rounds.specs.Task.{Task}
use Rattle.rounds.specs.Rounds.{Phase, marks, counts, totals, over, phase, holdsb, told, added}
use Rattle.standing.specs.Busy.{L, Good}

unfoldable pub of_marksb : Phase → Bool
of_marksb (marks i) = true
of_marksb (counts i) = false
of_marksb totals = false
of_marksb over = false

unfoldable pub of_countsb : Phase → Bool
of_countsb (marks i) = false
of_countsb (counts i) = true
of_countsb totals = false
of_countsb over = false

module _ (P : ℕ) (J : Task (Fin P)) (p : Fin P) where
  pub record Fitted (l : L P J) : Type 0 where
    pub good : Good P J p l
    pub sent : (q : Fin P) → l.sent q < 65536
    -- in a round of counts all that is known of a slot are the own masters
    pub own : (i s : ℕ) → phase J.top l.round ≡ counts i → Member s (J.slots (J.top - i))
        → holdsb (parts P) J p (J.top - i) s ≡ true → l.state.own s ≡ l.state.sum s
    pub count : (s : ℕ) → l.state.own s ≤ most_cells
    pub total : phase J.top l.round ≡ totals → l.state.total ≤ too_many
    pub high : phase J.top l.round ≡ totals → l.state.high ≤ most_levels
    -- marks are told in rounds of marks only, counts in rounds of counts
    pub no_marks : of_marksb (phase J.top l.round) ≡ false → (c : ℕ) → told (parts P) l.got c ≡ false
    pub no_counts : of_countsb (phase J.top l.round) ≡ false → (s : ℕ) → added (parts P) l.got s ≡ 0
