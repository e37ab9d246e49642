-- The masters of all parts are as many as the cells of the step's table, and a part has a master on level 11 exactly where that level has
-- cells: 8 and 9 follow from the totals.
--   grown_of            what a part tells of its masters: how many they are, and their highest level
--   masters_of X p      how many masters the part p has after the step
--   high_in X           the highest level of all masters
-- Laws: grown_plain (what a part tells does not depend on totals); and in proofs/Totals totals_are (as many masters as cells), deep_from and
-- deep_by (masters on level 11), ends (the result that every part finds is the serial step's answer).
use Rattle.std.specs.Prelude.{ℕ}
use Rattle.std.proofs.Math.Path.{refl}
use Rattle.std.proofs.Math.ListN.{length}
use Rattle.exchange.specs.Finite.{Finite}
use Rattle.rounds.specs.Task.{Task}
use Rattle.rounds.specs.Rounds.{State, largest, sized}
use Rattle.rounds.specs.Totals.{Plain}
use Rattle.shares.specs.Grow.{status_new, pair_held, fresh_status, staysb, master_entry, ghost_entry, anewb, child_status, child_entries}
use Rattle.shares.specs.Grow.{fresh_entries, entries}
use Rattle.shares.specs.Settled.{Settled, entries_in}
use Rattle.merging.specs.Complete.{master_paths}
use Rattle.merging.specs.Limits.{top_of}

-- Rule 15.4: what a part tells of its masters: how many they are, and their highest level
unfoldable pub grown_of : {Part : Type 0} → Finite Part → Task Part → Part → State → ℕ × ℕ
unfolding entries master_paths top_of
grown_of F J p st = (length (master_paths (entries F J p st)), top_of (master_paths (entries F J p st)))

pub grown_plain : {Part : Type 0} (F : Finite Part) (J : Task Part) → Plain (grown_of F J)
unfolding grown_of entries master_entry ghost_entry fresh_entries anewb staysb child_entries child_status status_new fresh_status pair_held sized
grown_plain F J p s g = refl

module _ {Part : Type 0} {F : Finite Part} (X : Settled F) where
  abbrev pub masters_of : Part → ℕ
  masters_of p = length (master_paths (entries_in X p))

  -- the highest level of all masters
  abbrev pub high_in : ℕ
  high_in = largest (λ p. top_of (master_paths (entries_in X p))) F.list
