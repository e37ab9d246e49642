use Rattle.std.proofs.Common.{arith, sym, ◌∙◌}
use Rattle.turns.proofs.Starting.{usable_of, begun_by}
use Rattle.turns.proofs.start.Goals as goal

pub enter_marks-requires : goal.enter_marks-requires
enter_marks-requires c =
    let u = usable_of c.args.store.now (omega arith) (sym c.header_fits.ensures ∙ c.if-not-header_fits.false) in
    (begun_by c.args.store.now c.args.marks.now _ _ u c.set_marks.ensures, omega (arith, u.levels_most))
