-- `merge::masters::Masters::load_stores` meets its contract: a turn takes the store before.
use Rattle.merge.proofs.Loading.{After, stores_from}
use Rattle.merge.proofs.masters.Masters.load_stores.Given as goal

abbrev pub invariant-loop-i : goal.invariant-loop-i
invariant-loop-i l = After l.fn.self (stores_from l.stores l.i l.parts) l.self
