-- Where no entry has the corner, no edge that is listed has it.
use mathlib.Core.Path.{sym, ◌∙◌}
use Rattle.spots.specs.Noted.{have_none}
use Rattle.probing.proofs.Meets.{none_meets}
use Rattle.probing.proofs.may_meet.Goals as goal

pub returns : goal.returns
returns g c =
    let t = c.args.table.now in
    λ h.
    none_meets t c.args.a
    (have_none t.heads t.from c.args.a t.xs t.ys t.n t.in_order.spots t.in_order.small (rw c.from.ensures at (sym c.may_have.ensures ∙ h)))
