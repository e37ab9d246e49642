-- `columns::inner_of` meets its contract: a turn puts the next lower bit in front.
use mathlib.Core.Path.{◌≡◌}
use lib.ListN.{drop}
use Rattle.columns.proofs.Placing.{tests}
use Rattle.mesh.specs.Cells.{bits_of}
use Rattle.columns.proofs.inner_of.Given as goal

abbrev pub invariant-loop-e : goal.invariant-loop-e
invariant-loop-e l = l.bits ≡ bits_of (drop l.e (tests l.rows l.g l.c))
