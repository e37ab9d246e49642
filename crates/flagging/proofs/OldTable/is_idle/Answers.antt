-- A status, a mark, or the pattern tells.
use Rattle.std.proofs.Common.{sym, ◌∙◌, eqb-true}
use Rattle.std.proofs.lemmas.Bool.{eqb-false}
use Rattle.edges.specs.Table.{entries}
use Rattle.flagging.specs.Flags.{listedb}
use Rattle.flagging.proofs.Cases.{idle_status, idle_mark, idle_pattern}
use Rattle.flagging.proofs.OldTable.is_idle.Goals as goal
use Rattle.flagging.proofs.OldTable.is_idle.Goals.{then-self-j-eq0, else-self-j-eq0}

pub returns-then-self-j-eq2 : goal.returns-then-self-j-eq2
returns-then-self-j-eq2 g c =
    let o = c.args.self.now in
    rw c.pattern_of.ensures
    (elim c.if-self-j-eq0.branch [
      | then-self-j-eq0 w ↦
          idle_pattern o.rows.now o.status.now o.marks.now (entries c.args.table.now) c.args.j w.if-self-j-eq0.true
          (eqb-true _ 2 (sym w.value-is ∙ c.if-self-j-eq2.true))
      | else-self-j-eq0 w ↦
          absurd (w.if-self-j-eq0.false (eqb-true _ 0 (sym w.value-is ∙ c.if-self-j-eq2.true)))
    ])

pub returns-else-self-j-eq2 : goal.returns-else-self-j-eq2
returns-else-self-j-eq2 g c =
    let o = c.args.self.now in
    c.if-self-j-eq2.false
    ∙ sym (elim c.if-self-j-eq0.branch [
      | then-self-j-eq0 w ↦
          idle_mark o.rows.now o.status.now o.marks.now (listedb c.args.table.now) c.args.j
          (eqb-false _ 2 (sym w.value-is ∙ c.if-self-j-eq2.false))
      | else-self-j-eq0 w ↦
          idle_status o.rows.now o.status.now o.marks.now (listedb c.args.table.now) c.args.j w.if-self-j-eq0.false
    ])
