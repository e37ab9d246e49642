-- The invariant: each key's count is how many of the cells passed have it, 1 at most.
use Rattle.coarse.specs.Tally.{lead, low_cell}
use Rattle.coarse.proofs.Meets.{Sofar}
use Rattle.coarse.proofs.cells_differ.Given as goal

abbrev pub invariant-loop-q : goal.invariant-loop-q
invariant-loop-q g l = Sofar lead low_cell 1 l.cells l.tally l.q-index
