-- The two comparisons are those of the definition.
use borrow.Author.Tests.{eq-eqb, ne_eqb}
use Rattle.pairs.specs.Keys.{hereb}
use Rattle.pairs.proofs.PairTable.stands.Goals as goal

pub returns-then-self-e : goal.returns-then-self-e
unfolding hereb
returns-then-self-e g c = simp (eq-eqb _ _ c.if-self-e.true)

pub returns-else-self-e : goal.returns-else-self-e
unfolding hereb
returns-else-self-e g c = simp (ne_eqb _ _ c.if-self-e.false)
