use Rattle.held.proofs.Rows.{RowsLeft}
use Rattle.store.specs.Fields.{field, ENTRIES}
use lib.ListN.{length}
use mathlib.Core.Path.{◌≡◌}
use Rattle.held.proofs.write_rows.Given as goal

abbrev pub invariant-loop-j : goal.invariant-loop-j
invariant-loop-j l = (l.count ≡ field l.store ENTRIES) × (length l.rows ≡ length l.initial.rows) × RowsLeft l.store (field l.store ENTRIES)
    l.j l.rows l.initial.rows
