use Rattle.std.proofs.Common.{add-one, arith, sym, ◌∙◌}
use Rattle.turns.proofs.Tallying.{edge_head, tally_here}
use Rattle.turns.specs.Tally.{add_edge}
use Rattle.turns.specs.Loops.{each_again, each_out}
use Rattle.turns.proofs.tally_one.Goals as goal

pub loop-e-preserved : goal.loop-e-preserved
loop-e-preserved c = rw add-one (each_again (add_edge _) (edge_head _) _ _ _ _ _ _ c.loop-e.invariant (omega arith) c.add_edge.ensures)

pub returns-after-loop-e : goal.returns-after-loop-e
returns-after-loop-e c =
    tally_here _ _ _ c.if-store-c.true c.if-store-c-eq1.true (sym (each_out (add_edge _) 6 _ _ (omega arith)) ∙ c.loop-e.invariant.1)
