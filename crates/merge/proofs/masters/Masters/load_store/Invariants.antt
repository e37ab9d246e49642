-- `merge::masters::Masters::load_store` meets its contract: a turn takes the entry before.
use Rattle.store.specs.Fields.{field, ENTRIES}
use Rattle.merge.proofs.Loading.{After, entries_from}
use Rattle.merge.proofs.masters.Masters.load_store.Given as goal

abbrev pub invariant-loop-j : goal.invariant-loop-j
invariant-loop-j l = After l.fn.self (entries_from l.store l.j (field l.store ENTRIES)) l.self
