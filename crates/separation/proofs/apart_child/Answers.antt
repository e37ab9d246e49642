-- Where no edge is listed it holds, and else the edges that are left decide as all six do.
use Rattle.std.proofs.Common.{rules, ◌≡◌, sym, ◌∙◌}
use Rattle.mesh.specs.Cells.{edges}
use Rattle.edges.specs.Table.{entries}
use Rattle.rows.specs.Numbered.{cell_at}
use Rattle.separation.specs.Scan.{all_miss, all_next, all_end, apart_test, free_apart}
use Rattle.separation.proofs.apart_child.Goals as goal

pub returns-then-is_free : goal.returns-then-is_free
returns-then-is_free g c =
    sym (free_apart (entries c.args.table.now) c.args.cells.now c.args.g (edges 0 (cell_at c.args.cells.now c.args.c))
    (c.is_free.ensures c.if-is_free.true))

pub returns-then-not-apart_edge : goal.returns-then-not-apart_edge
returns-then-not-apart_edge g c =
    sym (sym c.loop-e.invariant ∙ all_miss (apart_test (entries c.args.table.now) c.args.cells.now c.args.g)
    (cell_at c.args.cells.now c.args.c) c.loop-e.e c.loop-e-test.true (sym c.apart_edge.ensures ∙ c.if-not-apart_edge.true))

pub loop-e-preserved : goal.loop-e-preserved
loop-e-preserved g c =
    sym (all_next (apart_test (entries c.args.table.now) c.args.cells.now c.args.g) (cell_at c.args.cells.now c.args.c) c.loop-e.e
    c.loop-e-test.true (sym c.apart_edge.ensures ∙ c.if-not-apart_edge.false)) ∙ c.loop-e.invariant

pub returns : goal.returns
returns g c =
    let k : c.loop-e.e ≡ 6 = search rules in
    sym (sym (rw k at c.loop-e.invariant) ∙ all_end (apart_test (entries c.args.table.now) c.args.cells.now c.args.g)
    (cell_at c.args.cells.now c.args.c))
