-- By the contracts of the checksums.
use Rattle.trial.specs.Layouts.{summary_of}
use Rattle.trial.proofs.layouts.sum_up.Goals as goal

pub returns-in-Ok : goal.returns-in-Ok
unfolding summary_of
returns-in-Ok c = rw (c.in-Ok.is, c.checksum-t.ensures, c.checksum-e.ensures, c.checksum-s.ensures)

pub returns-in-Err : goal.returns-in-Err
unfolding summary_of
returns-in-Err c = rw (c.in-Err.is, c.from.ensures, c.number.ensures, c.checksum-t.ensures, c.checksum-e.ensures, c.checksum-s.ensures)
