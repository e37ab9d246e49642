-- An i32 and 2 ^ 31 make a number below 2 ^ 32.
use mir.Syntax.{w32}
use mir.ValLaws.{to_z-of_z}
use Rattle.trial.proofs.Signed.{raised, raised_above, sum_is}
use Rattle.trial.proofs.pattern.I32Entry.take.Goals as goal

pub returns : goal.returns
returns c =
    rw (c.from.ensures, to_z-of_z w32 c.args.self c.ranges.self, sum_is c.args.self c.ranges.self)
    (raised_above c.args.self c.ranges.self, (raised c.args.self c.ranges.self).low)
