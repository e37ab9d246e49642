-- The rest of the range decides as the whole does.
use Rattle.std.proofs.Common.{rules, ◌≡◌, sym, ◌∙◌}
use Rattle.edges.specs.Table.{entries}
use Rattle.closure.specs.Closed.{closed_next, closed_not, closed_end}
use Rattle.closure.proofs.closed_level.Goals as goal

pub returns-then-status-c : goal.returns-then-status-c
returns-then-status-c g c =
    sym (sym c.loop-c.invariant ∙ closed_not (entries c.args.table.now) c.args.cells.now c.args.status.now c.loop-c.c c.args.last
    c.loop-c-test.true c.requires.range.inside (λ e. c.if-status-c.true (e ∙ sym c.status_of.ensures)))

pub loop-c-preserved : goal.loop-c-preserved
loop-c-preserved g c =
    sym (closed_next (entries c.args.table.now) c.args.cells.now c.args.status.now c.loop-c.c c.args.last c.loop-c-test.true
    c.requires.range.inside (c.if-status-c.false ∙ c.status_of.ensures)) ∙ c.loop-c.invariant

pub returns : goal.returns
returns g c =
    let k : c.loop-c.c ≡ c.args.last = search rules in
    sym (sym (rw k at c.loop-c.invariant) ∙ closed_end (entries c.args.table.now) c.args.cells.now c.args.status.now c.args.last)
