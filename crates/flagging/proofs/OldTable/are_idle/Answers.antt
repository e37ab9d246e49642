-- The rest of the range decides as the whole does.
use Rattle.std.proofs.Common.{arith, sym, ◌∙◌}
use Rattle.base.specs.Range.{all_range_miss, all_range_next, all_range_end}
use Rattle.flagging.specs.Flags.{listedb, idleb}
use Rattle.flagging.proofs.OldTable.are_idle.Goals as goal

pub returns-then-not-is_idle : goal.returns-then-not-is_idle
returns-then-not-is_idle g c =
    let o = c.args.self.now in
    sym (sym c.loop-j.invariant ∙ all_range_miss (idleb o.rows.now o.status.now o.marks.now (listedb c.args.table.now)) c.loop-j.j
    c.args.last c.loop-j-test.true (sym c.is_idle.ensures ∙ c.if-not-is_idle.true))

pub loop-j-preserved : goal.loop-j-preserved
loop-j-preserved g c =
    let o = c.args.self.now in
    sym (all_range_next (idleb o.rows.now o.status.now o.marks.now (listedb c.args.table.now)) c.loop-j.j c.args.last
    c.loop-j-test.true (sym c.is_idle.ensures ∙ c.if-not-is_idle.false)) ∙ c.loop-j.invariant

pub returns : goal.returns
returns g c =
    let o = c.args.self.now in
    sym (sym c.loop-j.invariant ∙ all_range_end (idleb o.rows.now o.status.now o.marks.now (listedb c.args.table.now)) c.loop-j.j
    c.args.last (omega (arith, c.loop-j-test.false)))
