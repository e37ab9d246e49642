-- The entries that have been passed have no receiver left.
use Rattle.std.proofs.Common.{◌≡◌, ◌-◌, ◌<◌}
use Rattle.store.specs.Fetch.{seek_from, next_to_give}
use Rattle.mail.proofs.next.Given as goal

abbrev pub invariant-loop-entry : goal.invariant-loop-entry
invariant-loop-entry l = (l.from < 65536) × (seek_from l.store (l.entry-end - l.entry) l.entry l.from ≡ next_to_give l.store)
