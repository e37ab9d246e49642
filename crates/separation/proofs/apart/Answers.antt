-- The cells that are left decide as all do.
use Rattle.std.proofs.Common.{rules, arith, ◌≡◌, ◌-◌, sym, ◌∙◌}
use Rattle.edges.specs.Table.{entries}
use Rattle.closure.specs.Listed.{listed_apart}
use Rattle.separation.specs.Parents.{apart_all}
use Rattle.separation.specs.Scan.{cells_miss, cells_next, cells_end_lem}
use Rattle.separation.proofs.apart.Goals as goal

pub loop-c-init : goal.loop-c-init
unfolding apart_all
loop-c-init g c = let k : c.args.last - 0 ≡ c.args.last = omega arith in rw k

pub returns-then-not-apart_cell : goal.returns-then-not-apart_cell
returns-then-not-apart_cell g c =
    sym (sym c.loop-c.invariant ∙ cells_miss (listed_apart (entries c.args.table.now) c.args.cells.now) c.args.cells.now c.args.last
    c.loop-c.c c.loop-c-test.true (sym c.apart_cell.ensures ∙ c.if-not-apart_cell.true))

pub loop-c-preserved : goal.loop-c-preserved
loop-c-preserved g c =
    sym (cells_next (listed_apart (entries c.args.table.now) c.args.cells.now) c.args.cells.now c.args.last c.loop-c.c
    c.loop-c-test.true (sym c.apart_cell.ensures ∙ c.if-not-apart_cell.false)) ∙ c.loop-c.invariant

pub returns : goal.returns
returns g c =
    let k : c.loop-c.c ≡ c.args.last = search rules in
    sym (sym (rw k at c.loop-c.invariant) ∙ cells_end_lem (listed_apart (entries c.args.table.now) c.args.cells.now) c.args.cells.now
    c.args.last)
