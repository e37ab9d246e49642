-- The rest of the range decides as the whole does.
use Rattle.std.proofs.Common.{arith, sym, ◌∙◌}
use Rattle.base.specs.Range.{any_range_hit, any_range_next, any_range_end}
use Rattle.flagging.specs.Flags.{listedb, pulledb}
use Rattle.flagging.proofs.OldTable.one_pulled.Goals as goal

pub returns-then-is_pulled : goal.returns-then-is_pulled
returns-then-is_pulled g c =
    let o = c.args.self.now in
    sym (sym c.loop-j.invariant ∙ any_range_hit (pulledb o.rows.now o.marks.now (listedb c.args.table.now) c.args.g) c.loop-j.j
    c.args.last c.loop-j-test.true (sym c.is_pulled.ensures ∙ c.if-is_pulled.true))

pub loop-j-preserved : goal.loop-j-preserved
loop-j-preserved g c =
    let o = c.args.self.now in
    sym (any_range_next (pulledb o.rows.now o.marks.now (listedb c.args.table.now) c.args.g) c.loop-j.j c.args.last
    c.loop-j-test.true (sym c.is_pulled.ensures ∙ c.if-is_pulled.false)) ∙ c.loop-j.invariant

pub returns : goal.returns
returns g c =
    let o = c.args.self.now in
    sym (sym c.loop-j.invariant ∙ any_range_end (pulledb o.rows.now o.marks.now (listedb c.args.table.now) c.args.g) c.loop-j.j
    c.args.last (omega (arith, c.loop-j-test.false)))
