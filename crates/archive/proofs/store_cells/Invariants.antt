-- The records of the cells passed stand behind the place.
use mathlib.Core.List.{[]}
use Rattle.archive.specs.Job.{cell_bytes}
use Rattle.archive.proofs.Stores.{RecordsTo}
use Rattle.archive.proofs.store_cells.Given as goal

abbrev pub invariant-loop-i : goal.invariant-loop-i
invariant-loop-i l = RecordsTo cell_bytes 9 [] l.cells l.from l.initial.out l.out l.i
