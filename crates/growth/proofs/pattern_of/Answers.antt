-- `growth::pattern_of` meets its contract: 64 is red, and any other status is its own pattern.
use borrow.Author.Tests.{eq-eqb, ne_eqb}
use Rattle.mesh.specs.Cells.{pattern_of}
use Rattle.growth.proofs.pattern_of.Goals as goal

pub returns-then-status-eq64 : goal.returns-then-status-eq64
unfolding pattern_of
returns-then-status-eq64 c =
    rw (eq-eqb c.args.status 64 c.if-status-eq64.true, pattern_of)

pub returns-else-status-eq64 : goal.returns-else-status-eq64
unfolding pattern_of
returns-else-status-eq64 c =
    rw (ne_eqb c.args.status 64 c.if-status-eq64.false, pattern_of)
