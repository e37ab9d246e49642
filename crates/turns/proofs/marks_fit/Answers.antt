use Rattle.std.proofs.Common.{add-one, arith, sym, ◌∙◌}
use Rattle.turns.proofs.Starting.{next_few, fit_stop, fit_on, fit_out}
use Rattle.turns.proofs.marks_fit.Goals as goal

pub returns-then-not-is_marked : goal.returns-then-not-is_marked
returns-then-not-is_marked c =
    sym (fit_stop _ _ _ _ _ (omega arith) (sym c.is_marked.ensures ∙ c.if-not-is_marked.true)) ∙ c.loop-c.invariant.1

pub loop-c-preserved : goal.loop-c-preserved
loop-c-preserved c = (
  omega (arith, c.next_mark-j.ensures, next_few c.args.store.now c.args.marks.now c.loop-c.c c.loop-c.j),
  simp add-one (rw c.next_mark-j.ensures (sym (fit_on _ _ _ _ _ (omega arith) (sym c.is_marked.ensures ∙ c.if-not-is_marked.false))
      ∙ c.loop-c.invariant.1)),
)

pub returns : goal.returns
returns c = sym (fit_out _ _ _ _ _ (omega arith)) ∙ c.loop-c.invariant.1
