-- The places passed hold the pattern's numbers, and x is the next.
use Rattle.std.proofs.Common.{◌≡◌, ◌<◌}
use Rattle.trial.specs.Pattern.{fill_at}
use Rattle.trial.proofs.Tables.{Tabbed}
use Rattle.trial.proofs.pattern.fill.Given as goal

abbrev pub invariant-loop-place : goal.invariant-loop-place
invariant-loop-place g l =
    (l.x < 2147483647) × (l.x ≡ fill_at l.place-index) × Tabbed (λ k. g.T.Entry.made (fill_at k)) l.initial.list l.list l.place-index
