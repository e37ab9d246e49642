-- The number of an answer, case by case.
use Rattle.std.proofs.Common.{rules}
use Rattle.base.specs.Refuse.{code_of}
use Rattle.base.proofs.code.Goals as goal

pub returns-in-Ok : goal.returns-in-Ok
unfolding code_of
returns-in-Ok c = search rules

pub returns-in-Err : goal.returns-in-Err
unfolding code_of
returns-in-Err c = search rules
