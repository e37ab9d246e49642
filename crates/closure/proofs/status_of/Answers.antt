-- The three cases of a status.
use Rattle.std.proofs.Common.{sym, ◌∙◌}
use Rattle.edges.specs.Table.{entries}
use Rattle.rows.specs.Numbered.{cell_at}
use Rattle.closure.specs.Closed.{status_irregular, listed_red, status_pattern}
use Rattle.closure.proofs.status_of.Goals as goal

pub returns-then-not-is_regular : goal.returns-then-not-is_regular
returns-then-not-is_regular g c =
    sym (status_irregular (entries c.args.table.now) c.args.red (cell_at c.args.cells.now c.args.c)
    (sym c.is_regular.ensures ∙ c.if-not-is_regular.true))

pub returns-then-red : goal.returns-then-red
returns-then-red g c =
    sym (listed_red (entries c.args.table.now) c.args.red (cell_at c.args.cells.now c.args.c)
    (sym c.is_regular.ensures ∙ c.if-not-is_regular.false) c.if-red.true)

pub returns : goal.returns
returns g c =
    c.pattern_of.ensures
    ∙ sym (status_pattern (entries c.args.table.now) c.args.red (cell_at c.args.cells.now c.args.c)
    (sym c.is_regular.ensures ∙ c.if-not-is_regular.false) c.if-red.false)
