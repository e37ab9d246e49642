-- What has been passed is not set.
use Rattle.std.proofs.Common.{◌≡◌, ◌-◌}
use Rattle.store.specs.Fetch.{bit_from}
use Rattle.mail.proofs.bit_from.Given as goal

abbrev pub invariant-loop-b : goal.invariant-loop-b
invariant-loop-b l = bit_from (16 - l.b) l.mask l.b ≡ bit_from (16 - l.from) l.mask l.from
