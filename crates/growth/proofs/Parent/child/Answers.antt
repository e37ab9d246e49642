-- `growth::Parent::child` meets its contract: the four points are those of the child's digits.
use Rattle.std.proofs.Common.{◌∙◌, ap, ℕ, List, [], ◌∷◌, ◌*◌, get_or}
use Rattle.base.specs.Bools.{one_if}
use Rattle.growth.proofs.Family.{four_numbers}
use Rattle.growth.proofs.Parent.child.Goals as goal

pub returns : goal.returns
unfolding one_if
returns c =
    let p = c.args.self.now in
    ap (λ (k : ℕ). p.level ∷ p.number ∷ c.args.i ∷ k ∷ c.point.result ∷ c.point-2.result ∷ c.point-3.result ∷ c.point-4.result ∷ [])
    c.from.ensures
    ∙ ap (λ (l : List ℕ). p.level ∷ p.number ∷ c.args.i ∷ one_if p.regular ∷ l)
    (four_numbers (λ d. get_or p.points d 0) c.args.digits.now (4 * c.args.i) c.point.result c.point-2.result c.point-3.result
    c.point-4.result c.point.ensures c.point-2.ensures c.point-3.ensures c.point-4.ensures)
