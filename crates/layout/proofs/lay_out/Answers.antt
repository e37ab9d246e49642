-- Short tables are refused, and else the number of statuses decides on the tables for the work.
use Rattle.std.proofs.Common.{◌∙◌, sym}
use Rattle.base.specs.Refuse.{held_after}
use Rattle.layout.proofs.Results.{layout_short}
use Rattle.layout.proofs.lay_out.Goals as goal

pub returns-then-not-lent : goal.returns-then-not-lent
unfolding held_after
returns-then-not-lent c =
    let e = layout_short c.args.positions.now c.args.cells.now c.args.status.now c.args.table.now c.args.ends.now c.args.sums.now
    (sym c.lent.ensures ∙ c.if-not-lent.true) in
    record { answer = sym e; sizes = tt; table_is = rw e; ends_are = rw e; sums_are = rw e }
