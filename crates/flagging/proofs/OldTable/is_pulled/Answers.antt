-- A mark, or an edge that is held, pulls.
use Rattle.std.proofs.Common.{sym, ◌∙◌, eq-eqb}
use Rattle.flagging.specs.Flags.{listedb}
use Rattle.flagging.proofs.Cases.{pulled_mark, pulled_touch}
use Rattle.flagging.proofs.OldTable.is_pulled.Goals as goal

pub returns-then-self-j-eq1 : goal.returns-then-self-j-eq1
returns-then-self-j-eq1 g c =
    let o = c.args.self.now in
    eq-eqb _ 1 c.if-self-j-eq1.true
    ∙ sym (pulled_mark o.rows.now o.marks.now (listedb c.args.table.now) c.args.g c.args.j c.if-self-j-eq1.true)

pub returns-else-self-j-eq1 : goal.returns-else-self-j-eq1
returns-else-self-j-eq1 g c =
    let o = c.args.self.now in
    c.is_touched.ensures
    ∙ sym (pulled_touch o.rows.now o.marks.now (listedb c.args.table.now) c.args.g c.args.j c.if-self-j-eq1.false)
