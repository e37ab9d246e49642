-- A cell is touched where it is not apart.
use Rattle.std.proofs.Common.{sym, ◌∙◌, ap, not}
use Rattle.mesh.specs.Cells.{edges}
use Rattle.edges.specs.Table.{entries}
use Rattle.rows.specs.Numbered.{cell_at}
use Rattle.closure.specs.Near.{unlisted_free}
use Rattle.separation.specs.Scan.{free_apart}
use Rattle.flagging.proofs.Cases.{touched_is, untouched}
use Rattle.flagging.proofs.OldTable.is_touched.Goals as goal
use Rattle.flagging.proofs.OldTable.is_touched.Goals.{then-table-via-then-table, then-table-via-else-table+then-not-is_near}

pub returns-then-table : goal.returns-then-table
returns-then-table g c =
    let t = c.args.self.now.rows.now in
    let table = c.args.table.now in
    elim c.then-table.branch [
      | then-table-via-then-table w ↦ sym (untouched t table c.args.g c.args.j w.if-table.true)
      | then-table-via-else-table+then-not-is_near w ↦
          sym (sym (touched_is t table c.args.g c.args.j)
          ∙ ap not (free_apart (entries table) t c.args.g (edges 0 (cell_at t c.args.j))
          (unlisted_free (entries table) (cell_at t c.args.j) (w.is_near.ensures w.if-not-is_near.true))))
    ]

pub returns : goal.returns
returns g c = ap not c.apart_child.ensures ∙ touched_is c.args.self.now.rows.now c.args.table.now c.args.g c.args.j
