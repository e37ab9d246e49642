-- `growth::Parent::write_children` meets its contract: the invariant says that the rows of the children passed are written.
use Rattle.std.proofs.Common.{◌≡◌, ◌*◌, get_or, take}
use Rattle.cutting.specs.Rule.{family}
use Rattle.rows.specs.Numbered.{child_rows}
use Rattle.growth.specs.Written.{written}
use Rattle.growth.proofs.Parent.write_children.Given as goal

abbrev pub invariant-loop-i : goal.invariant-loop-i
invariant-loop-i l = l.cells ≡ written l.initial.cells (8 * l.at)
    (child_rows l.self.level l.self.number l.self.regular (λ d. get_or l.self.points d 0) 0 (take l.i (family l.pattern)))
