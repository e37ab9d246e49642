-- Where no edge is listed, or none of the cell's, it is 0.
use Rattle.std.proofs.Common.{sym}
use Rattle.edges.specs.Table.{entries}
use Rattle.rows.specs.Numbered.{cell_at}
use Rattle.closure.specs.Closed.{pattern_unlisted}
use Rattle.closure.specs.Near.{unlisted_pattern}
use Rattle.closure.proofs.pattern_of.Goals as goal
use Rattle.closure.proofs.pattern_of.Goals.{then-table-via-then-table, then-table-via-else-table+then-not-is_near}

pub returns-then-table : goal.returns-then-table
returns-then-table g c =
    let t = c.args.table.now in
    let d = cell_at c.args.cells.now c.args.c in
    elim c.then-table.branch [
      | then-table-via-then-table w ↦ sym (pattern_unlisted t.xs t.ys t.from t.n d w.if-table.true)
      | then-table-via-else-table+then-not-is_near w ↦ sym (unlisted_pattern (entries t) d (w.is_near.ensures w.if-not-is_near.true))
    ]
