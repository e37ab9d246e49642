-- `cutting::count` meets its contract: the constant is `counts`.
use mathlib.Core.Path.{sym, ◌∙◌, ap}
use native.Mathlib.Omega.{arith}
use Rattle.cutting.specs.Answer.{Cut}
use Rattle.cutting.specs.Answer.{cut_into, no_cut, cut_of_accepted, cut_of_refused}
use Rattle.cutting.proofs.Table.{counts, counts_right}
use Rattle.cutting.proofs.count.Goals as goal

pub returns-then-pattern-ge64 : goal.returns-then-pattern-ge64
unfolding no_cut
returns-then-pattern-ge64 c =
    sym (ap (λ (f : Cut). f.count) (cut_of_refused c.args.pattern c.if-pattern-ge64.true))

pub returns : goal.returns
unfolding cut_into counts
returns c =
    counts_right c.args.pattern (omega arith)
    ∙ sym (ap (λ (f : Cut). f.count) (cut_of_accepted c.args.pattern (omega arith)))
