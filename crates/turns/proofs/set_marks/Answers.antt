use Rattle.std.proofs.Common.{add-one, arith, sym, ◌∙◌}
use Rattle.turns.proofs.Starting.{marked_again, marked_out}
use Rattle.turns.proofs.set_marks.Goals as goal

pub loop-c-preserved : goal.loop-c-preserved
loop-c-preserved c =
    rw add-one (marked_again _ _ _ _ _ _ _ _ _ c.loop-c.invariant (omega arith) c.set_mark.ensures c.next_mark-next.ensures)

pub returns : goal.returns
returns c = sym (marked_out _ _ _ _ _ (omega arith)) ∙ c.loop-c.invariant.2
