-- Straight, or crossed.
use Rattle.std.proofs.Common.{sym, ◌∙◌}
use Rattle.mesh.specs.Cells.{joinsb}
use Rattle.separation.proofs.joins.Goals as goal

pub returns-then-eq : goal.returns-then-eq
unfolding joinsb
returns-then-eq c = rw (c.if-eq.true, sym c.eq.ensures ∙ c.if-eq.true)

pub returns-else-eq : goal.returns-else-eq
unfolding joinsb
returns-else-eq c = rw (sym c.eq.ensures ∙ c.if-eq.false) c.eq-else-eq.ensures
