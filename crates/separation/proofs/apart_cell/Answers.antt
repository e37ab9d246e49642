-- Where the cell is regular, where no edge of it is listed, and else.
use Rattle.std.proofs.Common.{sym, ◌∙◌}
use Rattle.mesh.specs.Cells.{edges}
use Rattle.edges.specs.Table.{entries}
use Rattle.rows.specs.Numbered.{cell_at}
use Rattle.closure.specs.Near.{unlisted_free}
use Rattle.separation.specs.Scan.{free_apart, regular_apart, irregular_apart}
use Rattle.separation.proofs.apart_cell.Goals as goal
use Rattle.separation.proofs.apart_cell.Goals.{then-is_regular-via-then-is_regular, then-is_regular-via-else-is_regular+then-not-is_near}

pub returns-then-is_regular : goal.returns-then-is_regular
returns-then-is_regular g c =
    let es = entries c.args.table.now in
    let t = c.args.cells.now in
    let d = cell_at t c.args.c in
    elim c.then-is_regular.branch [
      | then-is_regular-via-then-is_regular w ↦ sym (regular_apart es t c.args.c (sym c.is_regular.ensures ∙ w.if-is_regular.true))
      | then-is_regular-via-else-is_regular+then-not-is_near w ↦
          sym (sym (irregular_apart es t c.args.c (sym c.is_regular.ensures ∙ w.if-is_regular.false))
          ∙ free_apart es t _ (edges 0 d) (unlisted_free es d (w.is_near.ensures w.if-not-is_near.true)))
    ]

pub returns : goal.returns
returns g c =
    c.apart_child.ensures
    ∙ irregular_apart (entries c.args.table.now) c.args.cells.now c.args.c (sym c.is_regular.ensures ∙ c.if-is_regular.false)
