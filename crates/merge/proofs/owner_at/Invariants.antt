-- `merge::owner_at` meets its contract: the stores that are left decide as all do.
use Rattle.merge.specs.Stores.{Owning}
use Rattle.merge.proofs.owner_at.Given as goal

abbrev pub invariant-loop-j : goal.invariant-loop-j
invariant-loop-j l = Owning l.stores l.parts l.i l.j
