-- The edges that are left decide as all six do.
use Rattle.std.proofs.Common.{rules, ◌≡◌, refl, sym, ◌∙◌, ap, true, false, eqb}
use Rattle.mesh.specs.Cells.{edge, joinsb, heldb}
use Rattle.edges.specs.Pairs.{Pair}
use Rattle.rows.specs.Numbered.{cell_at}
use Rattle.separation.specs.Scan.{any_hit, any_next, any_none}
use Rattle.separation.proofs.has_edge.Goals as goal

pub loop-e-init : goal.loop-e-init
unfolding heldb
loop-e-init c = refl

pub returns-then-joins : goal.returns-then-joins
returns-then-joins c =
    let t : joinsb eqb (c.args.a, c.args.b) (edge 0 (cell_at c.args.cells.now c.args.g) c.loop-e.e) ≡ true =
    ap (λ (p : Pair). joinsb eqb (c.args.a, c.args.b) p) (sym c.edge_of-own.ensures) ∙ sym c.joins.ensures ∙ c.if-joins.true in
    sym (sym c.loop-e.invariant ∙ any_hit (joinsb eqb (c.args.a, c.args.b)) (cell_at c.args.cells.now c.args.g) c.loop-e.e
    c.loop-e-test.true t)

pub loop-e-preserved : goal.loop-e-preserved
loop-e-preserved c =
    let t : joinsb eqb (c.args.a, c.args.b) (edge 0 (cell_at c.args.cells.now c.args.g) c.loop-e.e) ≡ false =
    ap (λ (p : Pair). joinsb eqb (c.args.a, c.args.b) p) (sym c.edge_of-own.ensures) ∙ sym c.joins.ensures ∙ c.if-joins.false in
    sym (any_next (joinsb eqb (c.args.a, c.args.b)) (cell_at c.args.cells.now c.args.g) c.loop-e.e c.loop-e-test.true t)
    ∙ c.loop-e.invariant

pub returns : goal.returns
returns c =
    let k : c.loop-e.e ≡ 6 = search rules in
    sym (sym (rw k at c.loop-e.invariant) ∙ any_none (joinsb eqb (c.args.a, c.args.b)) (cell_at c.args.cells.now c.args.g))
