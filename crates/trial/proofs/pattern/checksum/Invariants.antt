-- The rest, from the sum so far, has the checksum of the whole.
use Rattle.std.proofs.Common.{drop, ◌≡◌, ◌<◌}
use Rattle.trial.specs.Pattern.{check_from}
use Rattle.trial.proofs.pattern.checksum.Given as goal

abbrev pub invariant-loop-entry : goal.invariant-loop-entry
invariant-loop-entry g l =
    (l.sum < 2147483647) × (check_from g.T.Entry.taken l.sum (drop l.entry-index l.list) ≡ check_from g.T.Entry.taken 1 l.list)
