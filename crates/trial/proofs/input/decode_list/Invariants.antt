-- The places passed hold the numbers of the bytes.
use Rattle.std.proofs.Common.{◌≤◌}
use Rattle.trial.proofs.Tables.{Tabbed}
use Rattle.trial.proofs.input.decode_list.Given as goal

abbrev pub invariant-loop-i : goal.invariant-loop-i
invariant-loop-i g l = (l.i ≤ l.n) × Tabbed (g.T.Coded.coded l.bytes) l.initial.list l.list l.i
