-- `filling::Share::holds` meets its contract: the three cases.
use Rattle.std.proofs.Common.{◌∙◌, eq-eqb, le-ltb}
use Rattle.filling.proofs.Passing.{hold_beyond, hold_own, hold_family}
use Rattle.filling.proofs.Share.holds.Goals as goal

pub returns-then-self-c : goal.returns-then-self-c
returns-then-self-c c =
    let s = c.args.self.now in
    eq-eqb _ _ c.if-self-c.true ∙ hold_own s.cols.now s.cells s.part c.args.c c.if-c-self.true c.if-self-c.true

pub returns-else-self-c : goal.returns-else-self-c
returns-else-self-c c =
    let s = c.args.self.now in hold_family s.cols.now s.cells s.part c.args.c c.if-c-self.true c.if-self-c.false

pub returns-else-c-self : goal.returns-else-c-self
returns-else-c-self c =
    let s = c.args.self.now in
    le-ltb _ _ c.if-c-self.false ∙ hold_beyond s.cols.now s.cells s.part c.args.c c.if-c-self.false
