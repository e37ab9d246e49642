-- The cases of a status.
use Rattle.std.proofs.Common.{arith, sym, ◌∙◌}
use Rattle.flagging.specs.Flags.{listedb}
use Rattle.flagging.proofs.Cases.{red_old, red_green, red_irregular, red_leaf}
use Rattle.flagging.proofs.OldTable.is_new_red.Goals as goal

pub returns-then-is_regular : goal.returns-then-is_regular
returns-then-is_regular g c =
    let o = c.args.self.now in
    sym (red_leaf o.rows.now o.status.now o.marks.now o.kids.now (listedb c.args.table.now) c.args.c c.in-0.is
    (sym c.is_regular.ensures ∙ c.if-is_regular.true))

pub returns-else-is_regular : goal.returns-else-is_regular
returns-else-is_regular g c =
    let o = c.args.self.now in
    c.if-is_regular.false
    ∙ sym (red_irregular o.rows.now o.status.now o.marks.now o.kids.now (listedb c.args.table.now) c.args.c c.in-0.is
    (sym c.is_regular.ensures ∙ c.if-is_regular.false))

pub returns-in-64 : goal.returns-in-64
returns-in-64 g c =
    let o = c.args.self.now in
    red_old o.rows.now o.status.now o.marks.now o.kids.now (listedb c.args.table.now) c.args.c c.in-64.is c.are_idle.result
    c.are_idle.ensures

pub returns-in_default : goal.returns-in_default
returns-in_default g c =
    let o = c.args.self.now in
    red_green o.rows.now o.status.now o.marks.now o.kids.now (listedb c.args.table.now) c.args.c (λ e. omega (arith, e)) (λ e. omega (arith, e)) c.one_pulled.result
    c.one_pulled.ensures
