-- `writing::note_child` meets its contract: the invariant says that the edges before are noted.
use Rattle.writing.proofs.Noting.{edges_none, edges_start, edges_next}
use Rattle.writing.proofs.note_child.Goals as goal

pub returns-then-pattern-eq0 : goal.returns-then-pattern-eq0
returns-then-pattern-eq0 c =
    edges_none c.args.digits.now c.args.j c.args.pattern c.args.held.now c.if-pattern-eq0.true

pub loop-y-init : goal.loop-y-init
loop-y-init c =
    edges_start c.args.digits.now c.args.j c.args.pattern c.args.held.now

pub loop-y-preserved : goal.loop-y-preserved
loop-y-preserved c =
    edges_next c.args.digits.now c.args.j c.args.pattern c.args.held.now c.loop-y.y c.loop-y.held _ c.loop-y.invariant c.loop-y-test.true c.note_edge.ensures
