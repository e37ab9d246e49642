use Rattle.places.proofs.Knowing.{Filled}
use Rattle.places.proofs.fresh_all.Given as goal

abbrev pub invariant-loop-i : goal.invariant-loop-i
invariant-loop-i l = Filled l.store l.old l.red l.first l.n l.fresh l.i
