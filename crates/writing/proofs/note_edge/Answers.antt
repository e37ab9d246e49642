-- `writing::note_edge` meets its contract: the shift divides by a power of two.
use Rattle.writing.proofs.Noting.{edge_not, edge_noted}
use Rattle.writing.proofs.note_edge.Goals as goal

pub returns-then-pattern-y-eq1 : goal.returns-then-pattern-y-eq1
returns-then-pattern-y-eq1 c =
    edge_noted c.args.digits.now c.args.j c.args.pattern c.args.y c.args.held.now c.pair_of.result c.if-pattern-y-eq1.true c.pair_of.ensures.0

pub returns-else-pattern-y-eq1 : goal.returns-else-pattern-y-eq1
returns-else-pattern-y-eq1 c =
    edge_not c.args.digits.now c.args.j c.args.pattern c.args.y c.args.held.now c.if-pattern-y-eq1.false
